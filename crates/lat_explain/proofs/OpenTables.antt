-- The tables of each place of an input have forms that keep the laws.
use Rattle.std.proofs.Common.{◌≡◌, ℕ, zero, suc, ◌+◌, ◌^◌, ◌<◌, ◌≤◌, min, Bool, true, false, not, List, [], ◌∷◌, ◌++◌, length, append_assoc, refl, sym, ap, ◌∙◌, subst, arith, inl, inr}
use Rattle.std.specs.Prelude.{nat_lt, bytes_eq, codes, decimal, ◌==◌, ◌&&◌, if◌then◌else◌}
use Rattle.std.specs.List.{list_all}
use Rattle.std.specs.Str.Parse.{AllDigits}
use Rattle.std.specs.Fmt.{digits}
use Rattle.std.proofs.lemmas.Fmt.{decimal_is_IsNumeral}
use Rattle.std.proofs.lemmas.Str.Parse.{digit_from_value}
use Rattle.std.proofs.lemmas.List.Folds.{list_all-append}
use Rattle.std.proofs.lemmas.Bool.Decides.{nat_tests}
use Rattle.lat_text.specs.Lines.{Lines, End, Cut, Line, lines_of, byte_before, line_feed}
use Rattle.lat_explain.specs.declared.form.Kind.{Kind}
use Rattle.lat_explain.specs.declared.form.Kind.TheVariants as kinds
use Rattle.lat_explain.specs.Awaited.{Said, table_of, payload_forms, title_forms, entry_forms, capture_forms, choice_entry_forms, choice_forms, last_moment, count_lines, service_forms, offer_form, offer_forms, offers_on, services_on, server_lines, server_forms, node_forms, circuit_forms, node_groups, both_groups, common_events, third_events, event_forms, version_forms, behind_circuit, behind_listed, behind_line, schedule_forms}
use Rattle.lat_explain.specs.Columns.{AllFit, HasSome, forms_in}
use Rattle.lat_explain.specs.Forms.{Taken, kind_of, bounds_of, fits}
use Rattle.lat_explain.specs.LineExplained.{taken_of}
use Rattle.lat_explain.specs.Walks.{front_word, has_line}
use Rattle.lat_explain.proofs.Tests.{both, and_so, false_true, not_zero}
use Rattle.lat_explain.proofs.WordKinds.{WordLaws, is_visible}
use Rattle.lat_explain.proofs.OpenForms.{opens, opens_lawful, of_kind, fits_is, number_laws, number_ordered, bounds_small, decimal_seen}
use Rattle.lat_explain.proofs.Reached.{AllIn}

-- each word of some lines is of such a form, and each form is ended
abbrev pub is_table : Taken → (within : Bool) → Lines → Bool
is_table taken within End = not within
is_table taken within Cut = false
is_table taken within (Line [] more) = is_table taken false more
is_table taken within (Line (b ∷ f) more) = opens taken (kind_of (b ∷ f)) (b ∷ f) && is_table taken true more

all_checked : (taken : Taken) (within : Bool) (lines : Lines) → is_table taken within lines ≡ true → AllIn (WordLaws taken) within lines
all_checked taken true End h = false_true h
all_checked taken false End h = tt
all_checked taken within Cut h = false_true h
all_checked taken within (Line [] more) h = all_checked taken false more h
all_checked taken within (Line (b ∷ f) more) h =
    let parts = both (opens taken (kind_of (b ∷ f)) (b ∷ f)) (is_table taken true more) h in
    (opens_lawful taken (b ∷ f) parts.0, all_checked taken true more parts.1)

-- a table all of whose forms keep the laws
abbrev pub Lawful : Taken → (table : List ℕ) → Type 0
Lawful taken table = AllIn (WordLaws taken) false (lines_of table)

pub checked : (taken : Taken) (table : List ℕ) → is_table taken false (lines_of table) ≡ true → Lawful taken table
checked taken table h = all_checked taken false (lines_of table) h

-- one table behind another

abbrev NoCut : Lines → Type 0
NoCut End = Unit {0}
NoCut Cut = ⊥
NoCut (Line line more) = NoCut more

abbrev lines_then : Lines → Lines → Lines
lines_then End more = more
lines_then Cut more = Cut
lines_then (Line line rest) more = Line line (lines_then rest more)

not_cut : (P : List ℕ → Type 0) (within : Bool) (lines : Lines) → AllIn P within lines → NoCut lines
not_cut P within End h = tt
not_cut P within Cut h = h
not_cut P within (Line [] more) h = not_cut P false more h
not_cut P within (Line (b ∷ f) more) h = not_cut P true more h.1

all_then : (P : List ℕ → Type 0) (within : Bool) (lines more : Lines) → AllIn P within lines → AllIn P false more → AllIn P within (lines_then lines more)
all_then P true End more h k = absurd h
all_then P false End more h k = k
all_then P within Cut more h k = absurd h
all_then P within (Line [] rest) more h k = all_then P false rest more h k
all_then P within (Line (b ∷ f) rest) more h k = (h.0, all_then P true rest more h.1 k)

before_then : (x : ℕ) (lines more all : Lines) → NoCut (byte_before x lines) → (NoCut lines → all ≡ lines_then lines more) → byte_before x all ≡ lines_then (byte_before x lines) more
before_then x End more all h ih = absurd h
before_then x Cut more all h ih = absurd h
before_then x (Line line rest) more all h ih = ap (byte_before x) (ih h)

lines_append : (a b : List ℕ) → NoCut (lines_of a) → lines_of (a ++ b) ≡ lines_then (lines_of a) (lines_of b)
lines_append [] b h = refl
lines_append (x ∷ a) b h = by (x == line_feed) refl h (lines_append a b)
  where
    by : (t : Bool) → (x == line_feed) ≡ t → NoCut (if t then Line [] (lines_of a) else byte_before x (lines_of a)) → (NoCut (lines_of a) → lines_of (a ++ b) ≡ lines_then (lines_of a) (lines_of b))
        → (if x == line_feed then Line [] (lines_of (a ++ b)) else byte_before x (lines_of (a ++ b))) ≡ lines_then (if x == line_feed then Line [] (lines_of a) else byte_before x (lines_of a)) (lines_of b)
    by true e h ih = rw e (ap (Line []) (ih h))
    by false e h ih = rw e (before_then x (lines_of a) (lines_of b) (lines_of (a ++ b)) h ih)

pub one_more : (taken : Taken) (a b : List ℕ) → Lawful taken a → Lawful taken b → Lawful taken (a ++ b)
one_more taken a b h k =
    subst (λ (lines : Lines). AllIn (WordLaws taken) false lines) (sym (lines_append a b (not_cut (WordLaws taken) false (lines_of a) h)))
    (all_then (WordLaws taken) false (lines_of a) (lines_of b) h k)

pub either : (taken : Taken) (t : Bool) (a b : List ℕ) → Lawful taken a → Lawful taken b → Lawful taken (if t then a else b)
either taken true a b h k = h
either taken false a b h k = k

-- a byte that ends no line
abbrev pub isnt_feed : ℕ → Bool
isnt_feed b = not (b == 10)

isnt_so : (t : Bool) → not t ≡ true → t ≡ false
isnt_so true h = false_true h
isnt_so false h = refl

visible_feedless : (b : ℕ) → is_visible b ≡ true → isnt_feed b ≡ true
visible_feedless b h = grind (arith, nat_tests)

pub seen_feedless : (text : List ℕ) → list_all is_visible text ≡ true → list_all isnt_feed text ≡ true
seen_feedless [] h = refl
seen_feedless (b ∷ text) h =
    let parts = both (is_visible b) (list_all is_visible text) h in
    and_so (isnt_feed b) (list_all isnt_feed text) (visible_feedless b parts.0) (seen_feedless text parts.1)

-- a line in front of others
pub line_before : (line rest : List ℕ) → list_all isnt_feed line ≡ true → lines_of (line ++ 10 ∷ rest) ≡ Line line (lines_of rest)
line_before [] rest h = refl
line_before (b ∷ line) rest h =
    let parts = both (isnt_feed b) (list_all isnt_feed line) h in
    let other = isnt_so (b == line_feed) parts.0 in
    rw other (ap (byte_before b) (line_before line rest parts.1))

-- tables that are written out

payloads_lawful : (taken : Taken) → Lawful taken payload_forms
unfolding kind_of digits
payloads_lawful taken = checked taken payload_forms refl

titles_lawful : (taken : Taken) → Lawful taken title_forms
unfolding kind_of digits title_forms
titles_lawful taken = checked taken title_forms refl

entries_lawful : (taken : Taken) → Lawful taken entry_forms
unfolding kind_of digits entry_forms
entries_lawful taken = checked taken entry_forms refl

groups_lawful : (taken : Taken) → Lawful taken (table_of (codes "groups H2-64" ∷ []))
unfolding kind_of digits
groups_lawful taken = checked taken (table_of (codes "groups H2-64" ∷ [])) refl

server_lawful : (taken : Taken) (third : Bool) → Lawful taken (server_forms third)
unfolding kind_of digits server_forms
server_lawful taken true = checked taken (server_forms true) refl
server_lawful taken false = checked taken (server_forms false) refl

node_lawful : (taken : Taken) (third : Bool) → Lawful taken (node_forms third)
unfolding kind_of digits node_forms
node_lawful taken true = checked taken (node_forms true) refl
node_lawful taken false = checked taken (node_forms false) refl

circuit_lawful : (taken : Taken) (first : Bool) → Lawful taken (circuit_forms first)
unfolding kind_of digits circuit_forms
circuit_lawful taken true = checked taken (circuit_forms true) refl
circuit_lawful taken false = checked taken (circuit_forms false) refl

node_groups_lawful : (taken : Taken) → Lawful taken node_groups
unfolding kind_of digits node_groups
node_groups_lawful taken = checked taken node_groups refl

both_groups_lawful : (taken : Taken) (first : Bool) → Lawful taken (both_groups first)
unfolding kind_of digits both_groups
both_groups_lawful taken true = checked taken (both_groups true) refl
both_groups_lawful taken false = checked taken (both_groups false) refl

common_lawful : (taken : Taken) → Lawful taken common_events
unfolding kind_of digits common_events
common_lawful taken = checked taken common_events refl

third_lawful : (taken : Taken) → Lawful taken third_events
unfolding kind_of digits third_events
third_lawful taken = checked taken third_events refl

end_lawful : (taken : Taken) → Lawful taken (table_of (codes "end" ∷ []))
unfolding kind_of digits
end_lawful taken = checked taken (table_of (codes "end" ∷ [])) refl

go_lawful : (taken : Taken) → Lawful taken (table_of (codes "go" ∷ []))
unfolding kind_of digits
go_lawful taken = checked taken (table_of (codes "go" ∷ [])) refl

version_lawful : (taken : Taken) (silent : Bool) → Lawful taken (version_forms silent)
unfolding kind_of digits version_forms
version_lawful taken true = checked taken (version_forms true) refl
version_lawful taken false = checked taken (version_forms false) refl

events_lawful : (taken : Taken) (third : Bool) → Lawful taken (event_forms third)
events_lawful taken third =
    one_more taken common_events ((if third then third_events else []) ++ table_of (codes "end" ∷ [])) (common_lawful taken)
    (one_more taken (if third then third_events else []) (table_of (codes "end" ∷ [])) (either taken third third_events [] (third_lawful taken) tt) (end_lawful taken))

-- services and offers

service_lawful : (taken : Taken) → Lawful taken (service_forms taken.services)
unfolding kind_of digits
service_lawful taken = by (nat_lt (count_lines (lines_of taken.services)) 32) refl
  where
    by : (t : Bool) → nat_lt (count_lines (lines_of taken.services)) 32 ≡ t → Lawful taken (if t then table_of (codes "service S" ∷ []) else [])
    by false e = tt
    by true e = checked taken (table_of (codes "service S" ∷ [])) (rw e refl)

digit_kind : (b : ℕ) (f : List ℕ) → 48 ≤ b → b ≤ 57 → kind_of (b ∷ f) ≡ kinds.Word
unfolding kind_of
digit_kind b f low high =
    let one : (b == 35) ≡ false = grind (arith, nat_tests) in
    let two : (b == 72) ≡ false = grind (arith, nat_tests) in
    let three : (b == 65) ≡ false = grind (arith, nat_tests) in
    let four : (b == 78) ≡ false = grind (arith, nat_tests) in
    let five : (b == 83) ≡ false = grind (arith, nat_tests) in
    rw (one, two, three, four, five) refl

-- a number that is written out
numeral_lawful : (taken : Taken) (text : List ℕ) → 0 < length text → AllDigits 10 text → list_all is_visible text ≡ true → AllIn (WordLaws taken) true (Line text (lines_of (codes "N\n\n")))
unfolding kind_of digits
numeral_lawful taken [] some digits seen = absurd (omega (arith, some))
numeral_lawful taken (b ∷ f) some digits seen =
    let range = digit_from_value b digits.0 in
    let kind = digit_kind b f (omega (arith, range)) (omega (arith, range)) in
    let opened : opens taken (kind_of (b ∷ f)) (b ∷ f) ≡ true = ap (λ (k : Kind). opens taken k (b ∷ f)) kind ∙ seen in
    (opens_lawful taken (b ∷ f) opened, all_checked taken true (lines_of (codes "N\n\n")) refl)

offer_word : (taken : Taken) → WordLaws taken (codes "offer")
unfolding kind_of digits
offer_word taken = opens_lawful taken (codes "offer") refl

offer_lawful : (taken : Taken) (offers : List ℕ) (line : ℕ) → line < 2 ^ 64 → Lawful taken (offer_form offers line)
offer_lawful taken offers line small =
    either taken (has_line (decimal line) (lines_of offers)) [] (codes "offer\n" ++ (decimal line ++ codes "\nN\n\n")) tt offered
  where
    numeral : AllIn (WordLaws taken) true (lines_of (decimal line ++ codes "\nN\n\n"))
    numeral =
        let seen = decimal_seen line small in
        let is = (decimal_is_IsNumeral line small).0 in
        subst (λ (lines : Lines). AllIn (WordLaws taken) true lines) (sym (line_before (decimal line) (codes "N\n\n") (seen_feedless (decimal line) seen))) (numeral_lawful taken (decimal line) is.0 is.1 seen)

    offered : Lawful taken (codes "offer\n" ++ (decimal line ++ codes "\nN\n\n"))
    offered = (offer_word taken, numeral)

offers_lawful : (taken : Taken) (offers : List ℕ) (left line : ℕ) → line + left < 2 ^ 64 → Lawful taken (offer_forms offers left line)
unfolding offer_forms
offers_lawful taken offers zero line small = tt
offers_lawful taken offers (suc left) line small =
    one_more taken (offer_form offers line) (offer_forms offers left (line + 1)) (offer_lawful taken offers line (omega (arith, small)))
    (offers_lawful taken offers left (line + 1) (omega (arith, small)))

few_lines : (n : ℕ) → 1 + min 32 n < 2 ^ 64
few_lines n = omega arith

-- a schedule's tables

offers_on_lawful : (s : Said) → Lawful (taken_of s) (offers_on s)
offers_on_lawful s =
    one_more (taken_of s) (offer_forms s.offers (server_lines s.server) 1) (table_of (codes "go" ∷ [])) (offers_lawful (taken_of s) s.offers (server_lines s.server) 1 (few_lines _))
    (go_lawful (taken_of s))

services_on_lawful : (s : Said) → Lawful (taken_of s) (services_on s)
services_on_lawful s = one_more (taken_of s) (service_forms s.services) (offers_on s) (service_lawful (taken_of s)) (offers_on_lawful s)

behind_circuit_lawful : (s : Said) → Lawful (taken_of s) (behind_circuit s)
behind_circuit_lawful s =
    one_more (taken_of s) (both_groups (bytes_eq s.version (codes "1"))) (services_on s) (both_groups_lawful (taken_of s) (bytes_eq s.version (codes "1"))) (services_on_lawful s)

-- where an `end` stands, no line may follow
listed_lawful : (word : List ℕ) (s : Said) → Lawful (taken_of s) (behind_listed word s)
listed_lawful word s =
    let t = taken_of s in
    let events = event_forms (bytes_eq s.version (codes "3")) in
    let six = if bytes_eq word (codes "end") then [] else events in
    let five = if bytes_eq word (codes "offer") then offers_on s else six in
    let four = if bytes_eq word (codes "service") then services_on s else five in
    let three = if bytes_eq word (codes "node-groups") then services_on s else four in
    let two = if bytes_eq word (codes "server-groups") then node_groups ++ services_on s else three in
    either t (bytes_eq word (codes "circuit")) (behind_circuit s) two (behind_circuit_lawful s)
    (either t (bytes_eq word (codes "server-groups")) (node_groups ++ services_on s) three (one_more t node_groups (services_on s) (node_groups_lawful t) (services_on_lawful s))
    (either t (bytes_eq word (codes "node-groups")) (services_on s) four (services_on_lawful s)
    (either t (bytes_eq word (codes "service")) (services_on s) five (services_on_lawful s)
    (either t (bytes_eq word (codes "offer")) (offers_on s) six (offers_on_lawful s)
    (either t (bytes_eq word (codes "end")) [] events tt (events_lawful t (bytes_eq s.version (codes "3"))))))))

behind_lawful : (word : List ℕ) (s : Said) → Lawful (taken_of s) (behind_line word s)
behind_lawful word s =
    let t = taken_of s in
    let third = bytes_eq s.version (codes "3") in
    let three = behind_listed word s in
    let two = if bytes_eq word (codes "node") then circuit_forms (bytes_eq s.version (codes "1")) else three in
    let one = if bytes_eq word (codes "server") then node_forms third else two in
    either t (bytes_eq word (codes "lat")) (server_forms third) one (server_lawful t third)
    (either t (bytes_eq word (codes "server")) (node_forms third) two (node_lawful t third)
    (either t (bytes_eq word (codes "node")) (circuit_forms (bytes_eq s.version (codes "1"))) three (circuit_lawful t (bytes_eq s.version (codes "1"))) (listed_lawful word s)))

pub schedule_lawful : (silent : Bool) (line : List ℕ) (s : Said) → Lawful (taken_of s) (schedule_forms silent line s)
schedule_lawful silent [] s = version_lawful (taken_of s) silent
schedule_lawful silent (b ∷ line) s = behind_lawful (front_word (b ∷ line)) s

pub payload_lawful : (taken : Taken) → Lawful taken payload_forms
payload_lawful taken = payloads_lawful taken

pub capture_lawful : (taken : Taken) (before : ℕ) → Lawful taken (capture_forms before)
capture_lawful taken before = either taken (before == 0) title_forms entry_forms (titles_lawful taken) (entries_lawful taken)

-- choices

-- the form of a moment from this one on
abbrev pub moment_word : (last : List ℕ) → List ℕ
moment_word last = 35 ∷ (last ++ codes "-999999999999999")

feedless_nines : list_all isnt_feed (codes "-999999999999999") ≡ true
feedless_nines = refl

moment_lines : (last tail : List ℕ) → list_all isnt_feed last ≡ true → lines_of (35 ∷ (last ++ (codes "-999999999999999\n" ++ tail))) ≡ Line (moment_word last) (lines_of tail)
moment_lines last tail h =
    let all : list_all isnt_feed (moment_word last) ≡ true =
    list_all-append isnt_feed last (codes "-999999999999999") ∙ and_so (list_all isnt_feed last) (list_all isnt_feed (codes "-999999999999999")) h feedless_nines in
    let text : 35 ∷ (last ++ (codes "-999999999999999\n" ++ tail)) ≡ moment_word last ++ 10 ∷ tail =
    ap (λ (l : List ℕ). 35 ∷ l) (sym (append_assoc last (codes "-999999999999999") (10 ∷ tail))) in
    ap lines_of text ∙ line_before (moment_word last) tail all

abbrev best_text : (last : List ℕ) → List ℕ
best_text last = codes "best\n#" ++ (last ++ codes "-999999999999999\nN\n\n")

abbrev asked_text : (last : List ℕ) → List ℕ
asked_text last = codes "hear\n#" ++ (last ++ (codes "-999999999999999\nH12-12\n-\n\n" ++ best_text last))

abbrev heard_text : (last : List ℕ) → List ℕ
heard_text last = codes "hear\n#" ++ (last ++ (codes "-999999999999999\nH12-12\nH2-8192\n\n" ++ asked_text last))

entries_text : (last : List ℕ) → choice_entry_forms last ≡ heard_text last
unfolding choice_entry_forms
entries_text last =
    let one = codes "-999999999999999\nH12-12\nH2-8192\n\n" in
    let two = codes "-999999999999999\nH12-12\n-\n\n" in
    ap (λ (l : List ℕ). codes "hear\n#" ++ l) (append_assoc last one ((codes "hear\n#" ++ (last ++ two)) ++ best_text last))
    ∙ ap (λ (l : List ℕ). codes "hear\n#" ++ (last ++ (one ++ (codes "hear\n#" ++ l)))) (append_assoc last two (best_text last))

abbrev best_lines : (last : List ℕ) → Lines
best_lines last = Line (codes "best") (Line (moment_word last) (Line (codes "N") (Line [] End)))

abbrev asked_lines : (last : List ℕ) → Lines
asked_lines last = Line (codes "hear") (Line (moment_word last) (Line (codes "H12-12") (Line (codes "-") (Line [] (best_lines last)))))

abbrev heard_lines : (last : List ℕ) → Lines
heard_lines last = Line (codes "hear") (Line (moment_word last) (Line (codes "H12-12") (Line (codes "H2-8192") (Line [] (asked_lines last)))))

best_are : (last : List ℕ) → list_all isnt_feed last ≡ true → lines_of (best_text last) ≡ best_lines last
best_are last h = ap (Line (codes "best")) (moment_lines last (codes "N\n\n") h)

asked_are : (last : List ℕ) → list_all isnt_feed last ≡ true → lines_of (asked_text last) ≡ asked_lines last
asked_are last h =
    ap (Line (codes "hear")) (moment_lines last (codes "H12-12\n-\n\n" ++ best_text last) h)
    ∙ ap (λ (m : Lines). Line (codes "hear") (Line (moment_word last) (Line (codes "H12-12") (Line (codes "-") (Line [] m))))) (best_are last h)

pub entries_are : (last : List ℕ) → list_all isnt_feed last ≡ true → lines_of (choice_entry_forms last) ≡ heard_lines last
entries_are last h =
    ap lines_of (entries_text last) ∙ ap (Line (codes "hear")) (moment_lines last (codes "H12-12\nH2-8192\n\n" ++ asked_text last) h)
    ∙ ap (λ (m : Lines). Line (codes "hear") (Line (moment_word last) (Line (codes "H12-12") (Line (codes "H2-8192") (Line [] m))))) (asked_are last h)

-- the moment's number, within bounds that aren't empty
moment_kind : (last : List ℕ) → kind_of (moment_word last) ≡ kinds.Number (bounds_of (last ++ codes "-999999999999999")).0 (bounds_of (last ++ codes "-999999999999999")).1
unfolding kind_of
moment_kind last = refl

abbrev bounds_ordered : (last : List ℕ) → Type 0
bounds_ordered last = (bounds_of (last ++ codes "-999999999999999")).0 ≤ (bounds_of (last ++ codes "-999999999999999")).1

moment_lawful : (taken : Taken) (last : List ℕ) → bounds_ordered last → WordLaws taken (moment_word last)
moment_lawful taken last ordered =
    let bounds = bounds_of (last ++ codes "-999999999999999") in
    of_kind taken (moment_word last) (kinds.Number bounds.0 bounds.1) (moment_kind last)
    (number_laws taken (moment_word last) bounds.0 bounds.1 ordered (bounds_small (last ++ codes "-999999999999999")))

pub moment_ordered : (taken : Taken) (last word : List ℕ) → fits taken (moment_word last) word ≡ true → bounds_ordered last
moment_ordered taken last word h =
    let bounds = bounds_of (last ++ codes "-999999999999999") in
    number_ordered bounds.0 bounds.1 word (sym (fits_is taken (moment_word last) word (kinds.Number bounds.0 bounds.1) (moment_kind last)) ∙ h)

written_words : (taken : Taken) → WordLaws taken (codes "hear") × WordLaws taken (codes "best") × WordLaws taken (codes "H12-12") × WordLaws taken (codes "H2-8192") × WordLaws taken (codes "-") × WordLaws taken (codes "N")
unfolding kind_of digits
written_words taken =
    (opens_lawful taken (codes "hear") refl, opens_lawful taken (codes "best") refl, opens_lawful taken (codes "H12-12") refl, opens_lawful taken (codes "H2-8192") refl, opens_lawful taken (codes "-") refl, opens_lawful taken (codes "N") refl)

heard_lawful : (taken : Taken) (last : List ℕ) → bounds_ordered last → AllIn (WordLaws taken) false (heard_lines last)
heard_lawful taken last ordered =
    let m = moment_lawful taken last ordered in
    let w = written_words taken in
    (w.0, (m, (w.2, (w.3, (w.0, (m, (w.2, (w.4, (w.1, (m, (w.5, tt)))))))))))

-- of a line of some of them
entry_ordered : (taken : Taken) (last valid : List ℕ) → HasSome taken (forms_in (heard_lines last)) valid → bounds_ordered last
entry_ordered taken last valid (inl has) = by has.words has.fit
  where
    by : (words : List (List ℕ)) → AllFit taken (codes "hear" ∷ moment_word last ∷ codes "H12-12" ∷ codes "H2-8192" ∷ []) words → bounds_ordered last
    by [] fit = absurd fit
    by (a ∷ []) fit = absurd fit.1
    by (a ∷ b ∷ words) fit = moment_ordered taken last b fit.1.0
entry_ordered taken last valid (inr (inl has)) = by has.words has.fit
  where
    by : (words : List (List ℕ)) → AllFit taken (codes "hear" ∷ moment_word last ∷ codes "H12-12" ∷ codes "-" ∷ []) words → bounds_ordered last
    by [] fit = absurd fit
    by (a ∷ []) fit = absurd fit.1
    by (a ∷ b ∷ words) fit = moment_ordered taken last b fit.1.0
entry_ordered taken last valid (inr (inr (inl has))) = by has.words has.fit
  where
    by : (words : List (List ℕ)) → AllFit taken (codes "best" ∷ moment_word last ∷ codes "N" ∷ []) words → bounds_ordered last
    by [] fit = absurd fit
    by (a ∷ []) fit = absurd fit.1
    by (a ∷ b ∷ words) fit = moment_ordered taken last b fit.1.0
entry_ordered taken last valid (inr (inr (inr h))) = absurd h

first_choices : (taken : Taken) → Lawful taken (choice_forms 0 [])
unfolding kind_of digits choice_entry_forms
first_choices taken = checked taken (choice_forms 0 []) refl

later_choices : (n : ℕ) (line : List ℕ) → choice_forms (suc n) line ≡ choice_entry_forms (last_moment line)
later_choices n line =
    ap (λ (t : Bool). (if t then table_of (codes "groups H2-64" ∷ []) else []) ++ choice_entry_forms (last_moment line)) (not_zero (suc n) (omega arith))

-- the moments of choices go on from a word without a line feed
later_lawful : (taken : Taken) (last valid : List ℕ) → list_all isnt_feed last ≡ true → HasSome taken (forms_in (lines_of (choice_entry_forms last))) valid → Lawful taken (choice_entry_forms last)
later_lawful taken last valid h has =
    let is = entries_are last h in
    let ordered = entry_ordered taken last valid (subst (λ (lines : Lines). HasSome taken (forms_in lines) valid) is has) in
    subst (λ (lines : Lines). AllIn (WordLaws taken) false lines) (sym is) (heard_lawful taken last ordered)

pub choices_lawful : (taken : Taken) (n : ℕ) (line valid : List ℕ) → list_all isnt_feed (last_moment line) ≡ true → HasSome taken (forms_in (lines_of (choice_forms (suc n) line))) valid
    → Lawful taken (choice_forms (suc n) line)
choices_lawful taken n line valid h has =
    let is = later_choices n line in
    subst (λ (table : List ℕ). Lawful taken table) (sym is)
    (later_lawful taken (last_moment line) valid h (subst (λ (table : List ℕ). HasSome taken (forms_in (lines_of table)) valid) is has))

pub choices_first : (taken : Taken) → Lawful taken (choice_forms 0 [])
choices_first taken = first_choices taken
