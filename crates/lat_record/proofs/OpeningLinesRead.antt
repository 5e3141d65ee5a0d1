-- The lines in front of the events are read as what they were written of.
use Rattle.std.proofs.Common.{◌≡◌, ℕ, zero, suc, ◌+◌, ◌*◌, ◌^◌, ◌<◌, ◌≤◌, Bool, true, false, List, [], ◌∷◌, ◌++◌, length, take, drop, refl, sym, ap, subst, ◌∙◌, append_assoc, arith, lit<}
use Rattle.std.specs.Prelude.{Option, Some, None, Ok, bytes_eq, codes, decimal, nat_lt, position, option_map, option_and_then, ◌==◌}
use Rattle.std.specs.List.{position_from, list_all}
use Rattle.std.proofs.Math.Seq.{take-append_seam, drop-append_seam}
use Rattle.std.proofs.lemmas.Bool.Decides.{nat_tests}
use Rattle.std.proofs.lemmas.Iterator.Adapters.{position_from-zero}
use Rattle.std.proofs.lemmas.List.{append-nil, length-append}
use Rattle.hex.specs.Hex.{IsBytes}
use Rattle.lat_base.specs.Names.{IsName}
use Rattle.lat_base.specs.declared.addr.Addr.{Addr}
use Rattle.lat_frames.specs.declared.timing.Timing.{Timing}
use Rattle.lat_text.specs.AddressText.{address_text}
use Rattle.lat_text.specs.HexText.{hex_text}
use Rattle.lat_text.specs.NameText.{name_text}
use Rattle.lat_text.specs.Numbers.{number_within}
use Rattle.lat_text.specs.Words.{space, first_word, behind_word, if_word}
use Rattle.lat_text.proofs.HexWritten.{hex_some}
use Rattle.lat_schedule.specs.SetupLines.{span_of}
use Rattle.lat_schedule.proofs.Words.{IsWord, IsOneLine, visible, word_in_line, lines_join, spaced, word_first, same_bytes}
use Rattle.lat_schedule.proofs.FieldsRead.{decimal_word, within_read, hex_word, name_word, sized_read, named_read}
use Rattle.lat_record.specs.declared.opening.Rate.{Rate}
use Rattle.lat_record.specs.declared.opening.Rate.TheVariants.{Free, Each, WhileFree}
use Rattle.lat_record.specs.declared.role_line.RoleLine.TheVariants as roles
use Rattle.lat_record.specs.EntryRead.{hex_of}
use Rattle.lat_record.specs.OpeningRead.{station_of, before_prompt, if_prompt, start_of, core_of, node_of, role_of, timing_of, circuit_of, server_groups_of, node_groups_of, behind, rule_of, each_or, while_free_of, rate_of, mask_of, if_short}
use Rattle.lat_record.specs.OpeningText.{start_words, span_word, rate_words}
use Rattle.lat_record.specs.Openings.{IsTimed, IsRate}
use Rattle.lat_record.specs.Values.{IsAddress}
use Rattle.lat_record.proofs.AnswerLines.{number_line}
use Rattle.lat_record.proofs.EntriesRead.{address_word, address_read, hex_read}

small : (n : ℕ) → n ≤ 65535 → n < 2 ^ 64
small n h = omega arith

no_space : (k : ℕ) (word : List ℕ) → IsWord word → position_from (λ b. b == space) k word ≡ None
no_space k [] w = refl
no_space k (b ∷ word) w =
    let other : (b == space) ≡ false = let high = w.0 in grind (arith, nat_tests) in
    rw other (no_space (k + 1) word w.1)

-- a word alone has no first word
pub word_alone : (word : List ℕ) → IsWord word → first_word word ≡ None
word_alone word w =
    let none : position (λ b. b == space) word ≡ None = position_from-zero (λ b. b == space) word ∙ no_space 0 word w in
    rw none refl

-- what stands behind a word that is known
pub behind_known : (word text : List ℕ) → IsWord word → behind_word word (word ++ space ∷ text) ≡ Some text
behind_known word text w = rw (word_first word text w, same_bytes word) refl

-- how a core begins

start_chain : (text words : List ℕ) (before : List ℕ × Bool) (first : ℕ) → behind_word (codes "first") text ≡ Some words → before_prompt words ≡ before →
    number_within 1 65535 before.0 ≡ Some first → start_of text ≡ Some (record { first = first; prompt = before.1 })
start_chain text words before first behind is number = rw (behind, is, number) refl

prompt_chain : (words : List ℕ) (found : Option (List ℕ × List ℕ)) → first_word words ≡ found → before_prompt words ≡ if_prompt words found
prompt_chain words found is = rw is refl

start_read : (first : ℕ) (prompt : Bool) → 1 ≤ first → first ≤ 65535 → start_of (start_words first prompt) ≡ Some (record { first = first; prompt = prompt })
start_read first true some few =
    let w : IsWord (codes "first") = visible (codes "first") refl in
    let n = small first few in
    start_chain (start_words first true) (decimal first ++ space ∷ codes "prompt") (decimal first, true) first
    (behind_known (codes "first") (decimal first ++ space ∷ codes "prompt") w)
    (prompt_chain (decimal first ++ space ∷ codes "prompt") (Some (decimal first, codes "prompt")) (word_first (decimal first) (codes "prompt") (decimal_word first n)))
    (within_read 1 65535 first some few n)
start_read first false some few =
    let w : IsWord (codes "first") = visible (codes "first") refl in
    let n = small first few in
    ap (λ text. start_of (codes "first " ++ text)) (append-nil (decimal first))
    ∙ start_chain (codes "first" ++ space ∷ decimal first) (decimal first) (decimal first, false) first
    (behind_known (codes "first") (decimal first) w)
    (prompt_chain (decimal first) None (word_alone (decimal first) (decimal_word first n)))
    (within_read 1 65535 first some few n)

start_line : (first : ℕ) (prompt : Bool) → first ≤ 65535 → IsOneLine (start_words first prompt)
start_line first true few =
    spaced (codes "first") (decimal first ++ codes " prompt") (visible (codes "first") refl)
    (spaced (decimal first) (codes "prompt") (decimal_word first (small first few)) (word_in_line (codes "prompt") (visible (codes "prompt") refl)))
start_line first false few =
    subst (λ (text : List ℕ). IsOneLine (codes "first " ++ text)) (sym (append-nil (decimal first)))
    (spaced (codes "first") (decimal first) (visible (codes "first") refl) (number_line first (small first few)))

-- `ADDR NAME LINES`, and what stands behind
abbrev pub station_then : Addr → List ℕ → ℕ → List ℕ → List ℕ
station_then own name lines behind = address_text own ++ space ∷ (name_text name ++ space ∷ (decimal lines ++ space ∷ behind))

station_line : (own : Addr) (name : List ℕ) (lines : ℕ) (behind : List ℕ) → IsAddress own → IsName name → lines ≤ 255 → IsOneLine behind →
    IsOneLine (station_then own name lines behind)
station_line own name lines behind address named few one =
    spaced (address_text own) _ (address_word own address)
    (spaced (name_text name) _ (name_word name named.each) (spaced (decimal lines) behind (decimal_word lines (small lines (omega (arith, few)))) one))

pub core_read : (most : ℕ) (own : Addr) (name : List ℕ) (lines first : ℕ) (prompt : Bool) → IsAddress own → IsName name → most ≤ 255 →
    1 ≤ lines → lines ≤ most → 1 ≤ first → first ≤ 65535 →
    core_of most (station_then own name lines (start_words first prompt))
    ≡ Some (record { station = record { own = own; name = name; lines = lines }; start = record { first = first; prompt = prompt } })
core_read most own name lines first prompt address named bound some few begins ends =
    let n = small lines (omega (arith, few, bound)) in
    rw (
      word_first (address_text own) (name_text name ++ space ∷ (decimal lines ++ space ∷ start_words first prompt)) (address_word own address),
      word_first (name_text name) (decimal lines ++ space ∷ start_words first prompt) (name_word name named.each),
      word_first (decimal lines) (start_words first prompt) (decimal_word lines n),
      address_read own address,
      named_read name named,
      within_read 1 most lines some few n,
      start_read first prompt begins ends,
    ) refl

pub core_line : (own : Addr) (name : List ℕ) (lines first : ℕ) (prompt : Bool) → IsAddress own → IsName name → lines ≤ 255 → first ≤ 65535 →
    IsOneLine (station_then own name lines (start_words first prompt))
core_line own name lines first prompt address named few ends =
    station_line own name lines (start_words first prompt) address named few (start_line first prompt ends)

-- what stands behind the lines of a node
abbrev pub node_then : ℕ → ℕ → ℕ → Bool → List ℕ
node_then incarnation timer first prompt = decimal incarnation ++ space ∷ (decimal timer ++ space ∷ start_words first prompt)

pub node_read : (own : Addr) (name : List ℕ) (lines incarnation timer first : ℕ) (prompt : Bool) → IsAddress own → IsName name →
    1 ≤ lines → lines ≤ 64 → incarnation ≤ 65535 → 1 ≤ timer → timer ≤ 255 → 1 ≤ first → first ≤ 65535 →
    node_of (station_then own name lines (node_then incarnation timer first prompt))
    ≡ Some (record {
      core = record { station = record { own = own; name = name; lines = lines }; start = record { first = first; prompt = prompt } };
      incarnation = incarnation;
      timer = timer;
    })
node_read own name lines incarnation timer first prompt address named some few run soon late begins ends =
    let n = small lines (omega (arith, few)) in
    let i = small incarnation run in
    let t = small timer (omega (arith, late)) in
    rw (
      word_first (address_text own) (name_text name ++ space ∷ (decimal lines ++ space ∷ node_then incarnation timer first prompt)) (address_word own address),
      word_first (name_text name) (decimal lines ++ space ∷ node_then incarnation timer first prompt) (name_word name named.each),
      word_first (decimal lines) (node_then incarnation timer first prompt) (decimal_word lines n),
      word_first (decimal incarnation) (decimal timer ++ space ∷ start_words first prompt) (decimal_word incarnation i),
      word_first (decimal timer) (start_words first prompt) (decimal_word timer t),
      address_read own address,
      named_read name named,
      within_read 1 64 lines some few n,
      within_read 0 65535 incarnation (omega arith) run i,
      within_read 1 255 timer soon late t,
      start_read first prompt begins ends,
    ) refl

pub node_line : (own : Addr) (name : List ℕ) (lines incarnation timer first : ℕ) (prompt : Bool) → IsAddress own → IsName name → lines ≤ 255 →
    incarnation ≤ 65535 → timer ≤ 255 → first ≤ 65535 → IsOneLine (station_then own name lines (node_then incarnation timer first prompt))
node_line own name lines incarnation timer first prompt address named few run late ends =
    station_line own name lines (node_then incarnation timer first prompt) address named few
    (spaced (decimal incarnation) _ (decimal_word incarnation (small incarnation run))
    (spaced (decimal timer) (start_words first prompt) (decimal_word timer (small timer (omega (arith, late)))) (start_line first prompt ends)))

-- the line of the circuits

abbrev pub timing_then : Timing → List ℕ
timing_then t =
    decimal t.timer ++ space ∷ (decimal t.keepalive ++ space ∷ (decimal t.sessions ++ space ∷ (decimal t.extra ++ space ∷ (decimal t.ceiling ++ space ∷ span_word t.wide))))

span_read : (wide : Bool) → span_of (span_word wide) ≡ Some wide
span_read true = refl
span_read false = refl

span_line : (wide : Bool) → IsOneLine (span_word wide)
span_line true = word_in_line (codes "word") (visible (codes "word") refl)
span_line false = word_in_line (codes "byte") (visible (codes "byte") refl)

byte_number : (n : ℕ) → n ≤ 255 → n < 2 ^ 64
byte_number n h = omega arith

timing_read : (t : Timing) → IsTimed t → timing_of (timing_then t) ≡ Some t
timing_read t is =
    let a = byte_number t.timer (omega (arith, is.timing.timer.1)) in
    let b = byte_number t.keepalive is.keepalive in
    let c = byte_number t.sessions (omega (arith, is.timing.sessions.1)) in
    let d = byte_number t.extra is.extra in
    let e = byte_number t.ceiling (omega (arith, is.timing.ceiling.1)) in
    rw (
      word_first (decimal t.timer) (decimal t.keepalive ++ space ∷ (decimal t.sessions ++ space ∷ (decimal t.extra ++ space ∷ (decimal t.ceiling ++ space ∷ span_word t.wide)))) (decimal_word t.timer a),
      word_first (decimal t.keepalive) (decimal t.sessions ++ space ∷ (decimal t.extra ++ space ∷ (decimal t.ceiling ++ space ∷ span_word t.wide))) (decimal_word t.keepalive b),
      word_first (decimal t.sessions) (decimal t.extra ++ space ∷ (decimal t.ceiling ++ space ∷ span_word t.wide)) (decimal_word t.sessions c),
      word_first (decimal t.extra) (decimal t.ceiling ++ space ∷ span_word t.wide) (decimal_word t.extra d),
      word_first (decimal t.ceiling) (span_word t.wide) (decimal_word t.ceiling e),
      within_read 1 100 t.timer is.timing.timer.0 is.timing.timer.1 a,
      within_read 1 255 t.keepalive is.timing.keepalive is.keepalive b,
      within_read 1 64 t.sessions is.timing.sessions.0 is.timing.sessions.1 c,
      within_read 0 255 t.extra (omega arith) is.extra d,
      within_read 1 15 t.ceiling is.timing.ceiling.0 is.timing.ceiling.1 e,
      span_read t.wide,
    ) refl

pub circuit_read : (t : Timing) → IsTimed t → circuit_of (codes "circuit" ++ space ∷ timing_then t) ≡ Some t
circuit_read t is = ap (option_and_then timing_of) (behind_known (codes "circuit") (timing_then t) (visible (codes "circuit") refl)) ∙ timing_read t is

pub circuit_line : (t : Timing) → IsTimed t → IsOneLine (codes "circuit" ++ space ∷ timing_then t)
circuit_line t is =
    spaced (codes "circuit") (timing_then t) (visible (codes "circuit") refl)
    (spaced (decimal t.timer) _ (decimal_word t.timer (byte_number t.timer (omega (arith, is.timing.timer.1))))
    (spaced (decimal t.keepalive) _ (decimal_word t.keepalive (byte_number t.keepalive is.keepalive))
    (spaced (decimal t.sessions) _ (decimal_word t.sessions (byte_number t.sessions (omega (arith, is.timing.sessions.1))))
    (spaced (decimal t.extra) _ (decimal_word t.extra (byte_number t.extra is.extra))
    (spaced (decimal t.ceiling) _ (decimal_word t.ceiling (byte_number t.ceiling (omega (arith, is.timing.ceiling.1)))) (span_line t.wide))))))

-- the groups

mask_read : (groups : List ℕ) → length groups ≡ 32 → IsBytes groups → mask_of (hex_text groups) ≡ Some groups
mask_read groups long are = rw (hex_some groups (omega (arith, long)), sized_read 32 groups are long) refl

pub server_groups_read : (groups : List ℕ) → length groups ≡ 32 → IsBytes groups → server_groups_of (codes "server-groups" ++ space ∷ hex_text groups) ≡ Some groups
server_groups_read groups long are =
    ap (option_and_then mask_of) (behind_known (codes "server-groups") (hex_text groups) (visible (codes "server-groups") refl)) ∙ mask_read groups long are

groups_chain : (line digits groups : List ℕ) → behind_word (codes "node-groups") line ≡ Some digits → hex_of digits ≡ Some groups → if_short groups ≡ Some groups →
    node_groups_of line ≡ Some groups
groups_chain line digits groups behind is short = rw (behind, is, short) refl

short_read : (groups : List ℕ) → length groups ≤ 32 → if_short groups ≡ Some groups
short_read groups short =
    let few : nat_lt 32 (length groups) ≡ false = grind (arith, nat_tests, short) in
    rw few refl

pub node_groups_read : (groups : List ℕ) → length groups ≤ 32 → IsBytes groups → node_groups_of (codes "node-groups" ++ space ∷ hex_text groups) ≡ Some groups
node_groups_read groups short are =
    groups_chain (codes "node-groups" ++ space ∷ hex_text groups) (hex_text groups) groups
    (behind_known (codes "node-groups") (hex_text groups) (visible (codes "node-groups") refl)) (hex_read groups are) (short_read groups short)

pub server_groups_line : (groups : List ℕ) → IsBytes groups → IsOneLine (codes "server-groups" ++ space ∷ hex_text groups)
server_groups_line groups are = spaced (codes "server-groups") (hex_text groups) (visible (codes "server-groups") refl) (word_in_line (hex_text groups) (hex_word groups are))

pub node_groups_line : (groups : List ℕ) → IsBytes groups → IsOneLine (codes "node-groups" ++ space ∷ hex_text groups)
node_groups_line groups are = spaced (codes "node-groups") (hex_text groups) (visible (codes "node-groups") refl) (word_in_line (hex_text groups) (hex_word groups are))

-- rates

longer : (front text : List ℕ) → nat_lt (length (front ++ text)) (length front) ≡ false
longer front text =
    let long : length (front ++ text) ≡ length front + length text = length-append front text in
    grind (arith, nat_tests, long)

behind_front : (front text : List ℕ) → behind front (front ++ text) ≡ Some text
behind_front front text =
    rw (longer front text, take-append_seam front text, same_bytes front, drop-append_seam front text) refl

-- what begins with `w` doesn't begin with `each:`
no_each : (number : List ℕ) → behind (codes "each:") (codes "while-free:" ++ number) ≡ None
no_each number = by (nat_lt (length (codes "while-free:" ++ number)) (length (codes "each:"))) refl
  where
    by : (test : Bool) → nat_lt (length (codes "while-free:" ++ number)) (length (codes "each:")) ≡ test → behind (codes "each:") (codes "while-free:" ++ number) ≡ None
    by true e = rw e refl
    by false e = rw e refl

rule_chain : (text : List ℕ) (number : Option (List ℕ)) → bytes_eq text (codes "free") ≡ false → behind (codes "each:") text ≡ number → rule_of text ≡ each_or text number
rule_chain text number other is = rw (other, is) refl

while_free_read : (text number : List ℕ) (rating : ℕ) → behind (codes "while-free:") text ≡ Some number → number_within 1 255 number ≡ Some rating → while_free_of text ≡ Some (WhileFree rating)
while_free_read text number rating front is = rw (front, is) refl

rule_read : (rate : Rate) → IsRate rate → rule_of (rate_words rate) ≡ Some rate
rule_read Free is = refl
rule_read (Each rating) is =
    rule_chain (codes "each:" ++ decimal rating) (Some (decimal rating)) refl (behind_front (codes "each:") (decimal rating))
    ∙ ap (option_map Each) (within_read 1 255 rating is.0 is.1 (byte_number rating is.1))
rule_read (WhileFree rating) is =
    rule_chain (codes "while-free:" ++ decimal rating) None refl (no_each (decimal rating))
    ∙ while_free_read (codes "while-free:" ++ decimal rating) (decimal rating) rating (behind_front (codes "while-free:") (decimal rating))
    (within_read 1 255 rating is.0 is.1 (byte_number rating is.1))

pub rate_read : (rate : Rate) → IsRate rate → rate_of (codes "rate" ++ space ∷ rate_words rate) ≡ Some rate
rate_read rate is = ap (option_and_then rule_of) (behind_known (codes "rate") (rate_words rate) (visible (codes "rate") refl)) ∙ rule_read rate is

rule_line : (rate : Rate) → IsRate rate → IsOneLine (rate_words rate)
rule_line Free is = word_in_line (codes "free") (visible (codes "free") refl)
rule_line (Each rating) is =
    lines_join (codes "each:") (decimal rating) (word_in_line (codes "each:") (visible (codes "each:") refl)) (number_line rating (byte_number rating is.1))
rule_line (WhileFree rating) is =
    lines_join (codes "while-free:") (decimal rating) (word_in_line (codes "while-free:") (visible (codes "while-free:") refl)) (number_line rating (byte_number rating is.1))

pub rate_line : (rate : Rate) → IsRate rate → IsOneLine (codes "rate" ++ space ∷ rate_words rate)
rate_line rate is = spaced (codes "rate") (rate_words rate) (visible (codes "rate") refl) (rule_line rate is)
