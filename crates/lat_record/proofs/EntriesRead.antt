-- The line of an event is read as the event and the words of its answer.
use Rattle.std.proofs.Common.{◌≡◌, ℕ, ◌+◌, ◌*◌, ◌-◌, ◌^◌, ◌<◌, ◌≤◌, Bool, true, false, List, [], ◌∷◌, ◌++◌, length, refl, ap, ◌∙◌, append_assoc, arith, lit<}
use Rattle.std.specs.Prelude.{Some, Ok, bytes_eq, codes, decimal, option_and_then, ◌==◌}
use Rattle.std.proofs.lemmas.Bool.Decides.{nat_tests}
use Rattle.hex.specs.Hex.{IsBytes, encode_lower, decode_of}
use Rattle.lat_base.specs.declared.addr.Addr.{Addr}
use Rattle.lat_base.specs.declared.answer.Answer.{Answer}
use Rattle.lat_base.specs.declared.event.Event.{Event}
use Rattle.lat_base.specs.declared.event.Event.TheVariants as events
use Rattle.lat_past.specs.declared.past.Past.{Past}
use Rattle.lat_past.specs.Counts.{past}
use Rattle.lat_print.specs.AnswerWords.{answer_words}
use Rattle.lat_text.specs.AddressText.{address_text}
use Rattle.lat_text.specs.Digits.{address_of}
use Rattle.lat_text.specs.FlagText.{flag_text}
use Rattle.lat_text.specs.HexText.{byte_text, hex_text}
use Rattle.lat_text.specs.Lines.{lines_of, line_feed}
use Rattle.lat_text.specs.NameText.{name_text}
use Rattle.lat_text.specs.Numbers.{number_within}
use Rattle.lat_text.specs.Words.{space, first_word, behind_word, if_word}
use Rattle.lat_text.proofs.HexWritten.{hex_some, byte_written}
use Rattle.lat_schedule.proofs.Words.{IsWord, IsOneLine, visible, word_in_line, spaced, line_ends, word_first}
use Rattle.lat_schedule.proofs.FieldsRead.{decimal_word, within_read, hex_word, byte_word, name_word, sized_read, byte_read, named_read, digits_of}
use Rattle.lat_record.specs.declared.verb.Verb.{Verb}
use Rattle.lat_record.specs.declared.verb.Verb.TheVariants as verbs
use Rattle.lat_record.specs.EntryRead.{hex_of, verb_of, told_of, entry_of, bit_of, setting_of, flag_of}
use Rattle.lat_record.specs.EventWords.{event_words}
use Rattle.lat_record.specs.ReadBack.{read_as, EntryReadsBack}
use Rattle.lat_record.specs.RecordText.{entry_text}
use Rattle.lat_record.specs.Values.{IsAddress, IsTold, IsPast}
use Rattle.lat_record.proofs.AnswerLines.{answer_line}

-- digits of so many bytes are no `-`
no_dash : (cs : List ℕ) (n : ℕ) → length cs ≡ 2 * n → bytes_eq cs (codes "-") ≡ false
no_dash [] n long = refl
no_dash (a ∷ []) n long = absurd (omega (arith, long))
no_dash (a ∷ b ∷ cs) n long = by (a == 45) refl
  where
    by : (test : Bool) → (a == 45) ≡ test → bytes_eq (a ∷ b ∷ cs) (codes "-") ≡ false
    by true e = rw e refl
    by false e = rw e refl

some_digits : (cs bytes : List ℕ) (n : ℕ) → length cs ≡ 2 * n → 1 ≤ n → decode_of cs ≡ Ok bytes → hex_of cs ≡ Some bytes
some_digits cs bytes n long some is =
    let filled : (length cs == 0) ≡ false = grind (arith, nat_tests, long, some) in
    rw (no_dash cs n long, filled, is) refl

-- bytes are read as they are written
pub hex_read : (bytes : List ℕ) → IsBytes bytes → hex_of (hex_text bytes) ≡ Some bytes
hex_read [] are = refl
hex_read (b ∷ bytes) are =
    let d = digits_of (b ∷ bytes) are in
    some_digits (encode_lower (b ∷ bytes)) (b ∷ bytes) (length (b ∷ bytes)) d.long (omega arith) d.decoded

pub address_word : (a : Addr) → IsAddress a → IsWord (address_text a)
address_word a is = (digits_of a.0 is.bytes).word

pub address_read : (a : Addr) → IsAddress a → address_of (address_text a) ≡ Some a
address_read a is = rw (sized_read 6 a.0 is.bytes is.six) refl

entry_chain : (line verb rest words answer : List ℕ) (v : Verb) (e : Event) → first_word line ≡ Some (verb, rest) → verb_of verb ≡ Some v →
    told_of v rest ≡ Some (e, words) → behind_word (codes "->") words ≡ Some answer → entry_of line ≡ Some (record { event = e; answer = answer })
entry_chain line verb rest words answer v e first read told behind = rw (first, read, told, behind) refl

arrow_read : (answer : List ℕ) → behind_word (codes "->") (codes "->" ++ space ∷ answer) ≡ Some answer
arrow_read answer = ap (option_and_then (if_word (codes "->"))) (word_first (codes "->") answer (visible (codes "->") refl))

verb_read_so : (verb rest answer : List ℕ) (v : Verb) (e : Event) → IsWord verb → verb_of verb ≡ Some v →
    told_of v rest ≡ Some (e, codes "->" ++ space ∷ answer) → entry_of (verb ++ space ∷ rest) ≡ Some (record { event = e; answer = answer })
verb_read_so verb rest answer v e w read is =
    entry_chain (verb ++ space ∷ rest) verb rest (codes "->" ++ space ∷ answer) answer v e (word_first verb rest w) read is (arrow_read answer)

-- what stands behind the words of an event
abbrev behind : List ℕ → List ℕ
behind answer = codes "->" ++ space ∷ answer

behind_line : (answer : List ℕ) → IsOneLine answer → IsOneLine (behind answer)
behind_line answer one = spaced (codes "->") answer (visible (codes "->") refl) one

entry_back : (p : Past) (verb rest : List ℕ) (v : Verb) → event_words p.event ++ (codes " -> " ++ answer_words p.answer) ≡ verb ++ space ∷ rest →
    IsWord verb → IsOneLine rest → verb_of verb ≡ Some v → told_of v rest ≡ Some (p.event, behind (answer_words p.answer)) → EntryReadsBack p
entry_back p verb rest v text w one read is = record {
  line = verb ++ space ∷ rest;
  ends = λ more.
      ap lines_of (joined (event_words p.event) (answer_words p.answer) more)
      ∙ ap (λ t. lines_of (t ++ line_feed ∷ more)) text
      ∙ line_ends (verb ++ space ∷ rest) more (spaced verb rest w one);
  is = verb_read_so verb rest (answer_words p.answer) v p.event w read is;
}
  where
    joined : (words answer more : List ℕ) → (words ++ (codes " -> " ++ (answer ++ codes "\n"))) ++ more ≡ (words ++ (codes " -> " ++ answer)) ++ line_feed ∷ more
    joined words answer more = simp append_assoc

-- words, and what stands behind them

no_word : (verb answer : List ℕ) → verb ++ (codes " -> " ++ answer) ≡ verb ++ space ∷ behind answer
no_word verb answer = refl

one_word : (verb first answer : List ℕ) → (verb ++ codes " " ++ first) ++ (codes " -> " ++ answer) ≡ verb ++ space ∷ (first ++ space ∷ behind answer)
one_word verb first answer = simp append_assoc

two_words : (verb first second answer : List ℕ) →
    ((verb ++ codes " " ++ first) ++ codes " " ++ second) ++ (codes " -> " ++ answer) ≡ verb ++ space ∷ (first ++ space ∷ (second ++ space ∷ behind answer))
two_words verb first second answer = simp append_assoc

three_words : (verb first second third answer : List ℕ) →
    ((verb ++ codes " ") ++ (first ++ (codes " " ++ (second ++ (codes " " ++ third))))) ++ (codes " -> " ++ answer)
    ≡ verb ++ space ∷ (first ++ space ∷ (second ++ space ∷ (third ++ space ∷ behind answer)))
three_words verb first second third answer = simp append_assoc

one_line : (first answer : List ℕ) → IsWord first → IsOneLine answer → IsOneLine (first ++ space ∷ behind answer)
one_line first answer w one = spaced first (behind answer) w (behind_line answer one)

two_line : (first second answer : List ℕ) → IsWord first → IsWord second → IsOneLine answer → IsOneLine (first ++ space ∷ (second ++ space ∷ behind answer))
two_line first second answer v w one = spaced first (second ++ space ∷ behind answer) v (one_line second answer w one)

three_line : (first second third answer : List ℕ) → IsWord first → IsWord second → IsWord third → IsOneLine answer →
    IsOneLine (first ++ space ∷ (second ++ space ∷ (third ++ space ∷ behind answer)))
three_line first second third answer u v w one = spaced first (second ++ space ∷ (third ++ space ∷ behind answer)) u (two_line second third answer v w one)

small : (n : ℕ) → n ≤ 65535 → n < 2 ^ 64
small n h = omega arith

bit_word : (flag : Bool) → IsWord (flag_text flag)
bit_word true = (lit< tt, tt)
bit_word false = (lit< tt, tt)

bit_read : (flag : Bool) → bit_of (flag_text flag) ≡ Some flag
bit_read true = refl
bit_read false = refl

setting_read : (setting : List ℕ) → IsBytes setting → length setting ≡ 5 → setting_of (hex_text setting) ≡ Some setting
setting_read setting are five = rw (hex_some setting (omega (arith, five)), sized_read 5 setting are five) refl

flag_read : (flag : ℕ) → flag < 256 → flag_of (byte_text flag) ≡ Some flag
flag_read flag fits = rw (byte_written flag, byte_read flag fits) refl

moment_read : (n : ℕ) → n < 2 ^ 64 → number_within 0 (2 ^ 64 - 1) (decimal n) ≡ Some n
moment_read n h = within_read 0 (2 ^ 64 - 1) n (omega arith) (omega (arith, h)) h

back : (e : Event) (answer : Answer) → IsTold e → IsOneLine (answer_words answer) → EntryReadsBack (past e answer)
back (events.Heard from payload now) answer is one =
    entry_back (past (events.Heard from payload now) answer) (codes "heard") (decimal now ++ space ∷ (address_text from ++ space ∷ (hex_text payload ++ space ∷ behind (answer_words answer)))) verbs.Heard
    (three_words (codes "heard") (decimal now) (address_text from) (hex_text payload) (answer_words answer)) (visible (codes "heard") refl)
    (three_line (decimal now) (address_text from) (hex_text payload) (answer_words answer) (decimal_word now is.2) (address_word from is.0) (hex_word payload is.1) one) refl
    (rw (
      word_first (decimal now) (address_text from ++ space ∷ (hex_text payload ++ space ∷ behind (answer_words answer))) (decimal_word now is.2),
      word_first (address_text from) (hex_text payload ++ space ∷ behind (answer_words answer)) (address_word from is.0),
      word_first (hex_text payload) (behind (answer_words answer)) (hex_word payload is.1),
      moment_read now is.2,
      address_read from is.0,
      hex_read payload is.1,
    ) refl)
back (events.Time now) answer is one =
    entry_back (past (events.Time now) answer) (codes "time") (decimal now ++ space ∷ behind (answer_words answer)) verbs.Time
    (one_word (codes "time") (decimal now) (answer_words answer)) (visible (codes "time") refl)
    (one_line (decimal now) (answer_words answer) (decimal_word now is) one) refl
    (rw (word_first (decimal now) (behind (answer_words answer)) (decimal_word now is), moment_read now is) refl)
back (events.Connect place service) answer is one =
    entry_back (past (events.Connect place service) answer) (codes "connect") (decimal place ++ space ∷ (name_text service ++ space ∷ behind (answer_words answer))) verbs.Connect
    (two_words (codes "connect") (decimal place) (name_text service) (answer_words answer)) (visible (codes "connect") refl)
    (two_line (decimal place) (name_text service) (answer_words answer) (decimal_word place (small place (omega (arith, is.0)))) (name_word service is.1.each) one) refl
    (rw (
      word_first (decimal place) (name_text service ++ space ∷ behind (answer_words answer)) (decimal_word place (small place (omega (arith, is.0)))),
      word_first (name_text service) (behind (answer_words answer)) (name_word service is.1.each),
      within_read 0 255 place (omega arith) is.0 (small place (omega (arith, is.0))),
      named_read service is.1,
    ) refl)
back (events.Put place payload) answer is one =
    entry_back (past (events.Put place payload) answer) (codes "put") (decimal place ++ space ∷ (hex_text payload ++ space ∷ behind (answer_words answer))) verbs.Put
    (two_words (codes "put") (decimal place) (hex_text payload) (answer_words answer)) (visible (codes "put") refl)
    (two_line (decimal place) (hex_text payload) (answer_words answer) (decimal_word place (small place (omega (arith, is.0)))) (hex_word payload is.1) one) refl
    (rw (
      word_first (decimal place) (hex_text payload ++ space ∷ behind (answer_words answer)) (decimal_word place (small place (omega (arith, is.0)))),
      word_first (hex_text payload) (behind (answer_words answer)) (hex_word payload is.1),
      within_read 0 255 place (omega arith) is.0 (small place (omega (arith, is.0))),
      hex_read payload is.1,
    ) refl)
back (events.Set place setting) answer is one =
    entry_back (past (events.Set place setting) answer) (codes "set") (decimal place ++ space ∷ (hex_text setting ++ space ∷ behind (answer_words answer))) verbs.Set
    (two_words (codes "set") (decimal place) (hex_text setting) (answer_words answer)) (visible (codes "set") refl)
    (two_line (decimal place) (hex_text setting) (answer_words answer) (decimal_word place (small place (omega (arith, is.0)))) (hex_word setting is.1) one) refl
    (rw (
      word_first (decimal place) (hex_text setting ++ space ∷ behind (answer_words answer)) (decimal_word place (small place (omega (arith, is.0)))),
      word_first (hex_text setting) (behind (answer_words answer)) (hex_word setting is.1),
      within_read 0 255 place (omega arith) is.0 (small place (omega (arith, is.0))),
      setting_read setting is.1 is.2,
    ) refl)
back (events.Take place count) answer is one =
    entry_back (past (events.Take place count) answer) (codes "take") (decimal place ++ space ∷ (decimal count ++ space ∷ behind (answer_words answer))) verbs.Take
    (two_words (codes "take") (decimal place) (decimal count) (answer_words answer)) (visible (codes "take") refl)
    (two_line (decimal place) (decimal count) (answer_words answer) (decimal_word place (small place (omega (arith, is.0)))) (decimal_word count (small count (omega (arith, is.1)))) one) refl
    (rw (
      word_first (decimal place) (decimal count ++ space ∷ behind (answer_words answer)) (decimal_word place (small place (omega (arith, is.0)))),
      word_first (decimal count) (behind (answer_words answer)) (decimal_word count (small count (omega (arith, is.1)))),
      within_read 0 255 place (omega arith) is.0 (small place (omega (arith, is.0))),
      within_read 0 65535 count (omega arith) is.1 (small count (omega (arith, is.1))),
    ) refl)
back (events.Attend place flag) answer is one =
    entry_back (past (events.Attend place flag) answer) (codes "attend") (decimal place ++ space ∷ (byte_text flag ++ space ∷ behind (answer_words answer))) verbs.Attend
    (two_words (codes "attend") (decimal place) (byte_text flag) (answer_words answer)) (visible (codes "attend") refl)
    (two_line (decimal place) (byte_text flag) (answer_words answer) (decimal_word place (small place (omega (arith, is.0)))) (byte_word flag (omega (arith, is.1))) one) refl
    (rw (
      word_first (decimal place) (byte_text flag ++ space ∷ behind (answer_words answer)) (decimal_word place (small place (omega (arith, is.0)))),
      word_first (byte_text flag) (behind (answer_words answer)) (byte_word flag (omega (arith, is.1))),
      within_read 0 255 place (omega arith) is.0 (small place (omega (arith, is.0))),
      flag_read flag (omega (arith, is.1)),
    ) refl)
back (events.Close place) answer is one =
    entry_back (past (events.Close place) answer) (codes "close") (decimal place ++ space ∷ behind (answer_words answer)) verbs.Close
    (one_word (codes "close") (decimal place) (answer_words answer)) (visible (codes "close") refl)
    (one_line (decimal place) (answer_words answer) (decimal_word place (small place (omega (arith, is)))) one) refl
    (rw (word_first (decimal place) (behind (answer_words answer)) (decimal_word place (small place (omega (arith, is)))), within_read 0 255 place (omega arith) is (small place (omega (arith, is)))) refl)
back (events.Request to id service) answer is one =
    entry_back (past (events.Request to id service) answer) (codes "request") (decimal id ++ space ∷ (name_text service ++ space ∷ (address_text to ++ space ∷ behind (answer_words answer)))) verbs.Request
    (three_words (codes "request") (decimal id) (name_text service) (address_text to) (answer_words answer)) (visible (codes "request") refl)
    (three_line (decimal id) (name_text service) (address_text to) (answer_words answer) (decimal_word id (small id (omega (arith, is.1)))) (name_word service is.2.each) (address_word to is.0) one) refl
    (rw (
      word_first (decimal id) (name_text service ++ space ∷ (address_text to ++ space ∷ behind (answer_words answer))) (decimal_word id (small id (omega (arith, is.1)))),
      word_first (name_text service) (address_text to ++ space ∷ behind (answer_words answer)) (name_word service is.2.each),
      word_first (address_text to) (behind (answer_words answer)) (address_word to is.0),
      within_read 0 65535 id (omega arith) is.1 (small id (omega (arith, is.1))),
      named_read service is.2,
      address_read to is.0,
    ) refl)
back (events.Cancel id) answer is one =
    entry_back (past (events.Cancel id) answer) (codes "cancel") (decimal id ++ space ∷ behind (answer_words answer)) verbs.Cancel
    (one_word (codes "cancel") (decimal id) (answer_words answer)) (visible (codes "cancel") refl)
    (one_line (decimal id) (answer_words answer) (decimal_word id (small id (omega (arith, is)))) one) refl
    (rw (word_first (decimal id) (behind (answer_words answer)) (decimal_word id (small id (omega (arith, is)))), within_read 0 65535 id (omega arith) is (small id (omega (arith, is)))) refl)
back events.Announce answer is one =
    entry_back (past events.Announce answer) (codes "announce") (behind (answer_words answer)) verbs.Announce (no_word (codes "announce") (answer_words answer))
    (visible (codes "announce") refl) (behind_line (answer_words answer) one) refl refl
back events.Halt answer is one =
    entry_back (past events.Halt answer) (codes "halt") (behind (answer_words answer)) verbs.Halt (no_word (codes "halt") (answer_words answer))
    (visible (codes "halt") refl) (behind_line (answer_words answer) one) refl refl
back (events.Avoid place) answer is one =
    entry_back (past (events.Avoid place) answer) (codes "avoid") (decimal place ++ space ∷ behind (answer_words answer)) verbs.Avoid
    (one_word (codes "avoid") (decimal place) (answer_words answer)) (visible (codes "avoid") refl)
    (one_line (decimal place) (answer_words answer) (decimal_word place (small place (omega (arith, is)))) one) refl
    (rw (word_first (decimal place) (behind (answer_words answer)) (decimal_word place (small place (omega (arith, is)))), within_read 0 255 place (omega arith) is (small place (omega (arith, is)))) refl)
back (events.Ready place ready) answer is one =
    entry_back (past (events.Ready place ready) answer) (codes "ready") (decimal place ++ space ∷ (flag_text ready ++ space ∷ behind (answer_words answer))) verbs.Ready
    (two_words (codes "ready") (decimal place) (flag_text ready) (answer_words answer)) (visible (codes "ready") refl)
    (two_line (decimal place) (flag_text ready) (answer_words answer) (decimal_word place (small place (omega (arith, is)))) (bit_word ready) one) refl
    (rw (
      word_first (decimal place) (flag_text ready ++ space ∷ behind (answer_words answer)) (decimal_word place (small place (omega (arith, is)))),
      word_first (flag_text ready) (behind (answer_words answer)) (bit_word ready),
      within_read 0 255 place (omega arith) is (small place (omega (arith, is))),
      bit_read ready,
    ) refl)

pub entries_back : (p : Past) → IsPast p → EntryReadsBack p
entries_back p is = back p.event p.answer is.event (answer_line p.answer is.answer)
