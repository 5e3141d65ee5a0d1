-- The column that is told is that of the first byte that no valid text has there.
use Rattle.std.proofs.Common.{◌≡◌, ℕ, zero, suc, ◌+◌, ◌<◌, ◌≤◌, Bool, true, false, not, List, [], ◌∷◌, ◌++◌, length, take, drop, append_assoc, append-nil, refl, sym, ap, ◌∙◌, subst, arith, length-append, length-take-le, take-append-drop, take_all, inl, inr, IfOk, Ok, Err, Result}
use Rattle.std.specs.Prelude.{Option, Some, None, is_some, nat_le, nat_lt, bytes_eq, codes, position, unwrap_or, ◌==◌, ◌&&◌, if◌then◌else◌}
use Rattle.std.specs.List.{list_all, prefix_len}
use Rattle.std.proofs.Math.Seq.{take-append_seam}
use Rattle.std.proofs.lemmas.List.{take-append-le}
use Rattle.std.proofs.lemmas.List.Folds.{list_all-append}
use Rattle.lat_text.specs.Lines.{Lines, End, Cut, Line, lines_of, byte_before, line_feed}
use Rattle.lat_explain.specs.declared.awaited.Input.{Input}
use Rattle.lat_explain.specs.declared.awaited.Input.TheVariants.{Payloads, Choice, Capture, Schedule}
use Rattle.lat_explain.specs.declared.walk.Way.TheVariants.{Open}
use Rattle.lat_explain.specs.Awaited.{said_before, last_moment, behind_space, behind_end}
use Rattle.lat_explain.specs.Before.{is_silent, last_line, unless_silent}
use Rattle.lat_explain.specs.Columns.{AllFit, Begins, HasSome, IsRightTo, IsSilentThere, IsValid, MayStand, TellsColumn, fed_line, forms_in, joined}
use Rattle.lat_explain.specs.Forms.{Taken}
use Rattle.lat_explain.specs.LineExplained.{before_line, begins_comment, feed_in, front_line, is_ended, is_open_comment, line_explained, line_told, may_comment, passed, table_at, taken_of, text_behind, walk_at, walk_explained}
use Rattle.lat_explain.specs.Walks.{Walk, beginning, front_word, walked}
use Rattle.lat_explain.specs.Laws.{ColumnsAreRight}
use Rattle.lat_explain.proofs.WalksWithin.{walk_within}
use Rattle.lat_explain.proofs.Tests.{both, and_so, false_lt, false_true, lt_false, true_le, false_le}
use Rattle.lat_explain.proofs.WordKinds.{WordLaws}
use Rattle.lat_explain.proofs.FormLaws.{AllForms, AllLaws, forms_lawful, total_far, total_most}
use Rattle.lat_explain.proofs.OpenTables.{Lawful, capture_lawful, choices_first, choices_lawful, isnt_feed, payload_lawful, schedule_lawful, seen_feedless}
use Rattle.lat_explain.proofs.Reached.{total, walk_is}

-- lines without a line feed

abbrev feedless : List ℕ → Bool
feedless text = list_all isnt_feed text

prefix_feedless : (text : List ℕ) → feedless (take (prefix_len isnt_feed text) text) ≡ true
prefix_feedless [] = refl
prefix_feedless (b ∷ text) = by (isnt_feed b) refl (prefix_feedless text)
  where
    by : (t : Bool) → isnt_feed b ≡ t → feedless (take (prefix_len isnt_feed text) text) ≡ true → feedless (take (if isnt_feed b then 1 + prefix_len isnt_feed text else 0) (b ∷ text)) ≡ true
    by true e ih =
        let sum : 1 + prefix_len isnt_feed text ≡ suc (prefix_len isnt_feed text) = omega arith in
        ap (λ (t : Bool). feedless (take (if t then 1 + prefix_len isnt_feed text else 0) (b ∷ text))) e
        ∙ ap (λ (k : ℕ). feedless (take k (b ∷ text))) sum ∙ and_so (isnt_feed b) (feedless (take (prefix_len isnt_feed text) text)) e ih
    by false e ih = ap (λ (t : Bool). feedless (take (if t then 1 + prefix_len isnt_feed text else 0) (b ∷ text))) e

prefix_whole : (text : List ℕ) → feedless text ≡ true → prefix_len isnt_feed text ≡ length text
prefix_whole [] h = refl
prefix_whole (b ∷ text) h =
    let parts = both (isnt_feed b) (feedless text) h in
    let rest = prefix_whole text parts.1 in
    ap (λ (t : Bool). if t then 1 + prefix_len isnt_feed text else 0) parts.0 ∙ omega (arith, rest)

none_whole : (text : List ℕ) → length text ≤ prefix_len isnt_feed text → feedless text ≡ true
none_whole text le = ap feedless (sym (take_all (prefix_len isnt_feed text) text le)) ∙ prefix_feedless text

-- where the first line feed stands
feed_is : (text : List ℕ) → feed_in text ≡ (if nat_lt (prefix_len isnt_feed text) (length text) then Some (prefix_len isnt_feed text) else None)
feed_is text = refl

pub no_feed : (text : List ℕ) → feedless text ≡ true → feed_in text ≡ None
no_feed text h =
    let whole = prefix_whole text h in
    ap (λ (t : Bool). if t then Some (prefix_len isnt_feed text) else None) (lt_false (prefix_len isnt_feed text) (length text) (omega (arith, whole)))

pub feed_none : (text : List ℕ) → feed_in text ≡ None → feedless text ≡ true
feed_none text h = by (nat_lt (prefix_len isnt_feed text) (length text)) refl h
  where
    by : (t : Bool) → nat_lt (prefix_len isnt_feed text) (length text) ≡ t → (if t then Some (prefix_len isnt_feed text) else None) ≡ None → feedless text ≡ true
    by true e k = absurd (let differ : Some (prefix_len isnt_feed text) ≡ None = k in cc)
    by false e k = none_whole text (false_lt (prefix_len isnt_feed text) (length text) e)

-- the first line of a text has none, and the text begins with it
front_feedless : (rest : List ℕ) → feedless (front_line rest) ≡ true
front_feedless rest = by (nat_lt (prefix_len isnt_feed rest) (length rest)) refl
  where
    by : (t : Bool) → nat_lt (prefix_len isnt_feed rest) (length rest) ≡ t
        → feedless (take (unwrap_or (if nat_lt (prefix_len isnt_feed rest) (length rest) then Some (prefix_len isnt_feed rest) else None) (length rest)) rest) ≡ true
    by true e = ap (λ (t : Bool). feedless (take (unwrap_or (if t then Some (prefix_len isnt_feed rest) else None) (length rest)) rest)) e ∙ prefix_feedless rest
    by false e =
        ap (λ (t : Bool). feedless (take (unwrap_or (if t then Some (prefix_len isnt_feed rest) else None) (length rest)) rest)) e
        ∙ ap feedless (take_all (length rest) rest (omega arith)) ∙ none_whole rest (false_lt (prefix_len isnt_feed rest) (length rest) e)

-- the first byte of its first line is that of a text
first_byte_is : (rest line : List ℕ) (x : ℕ) → front_line rest ≡ x ∷ line → begins_comment rest ≡ (x == 35)
first_byte_is rest line x h =
    let k = unwrap_or (feed_in rest) (length rest) in
    let all : x ∷ (line ++ drop k rest) ≡ rest = ap (λ (l : List ℕ). l ++ drop k rest) (sym h) ∙ take-append-drop k rest in
    ap begins_comment (sym all)

comment_line : (rest : List ℕ) → is_ended rest ≡ false → front_line rest ≡ rest
comment_line rest h = by (feed_in rest) refl h
  where
    by : (o : Option ℕ) → feed_in rest ≡ o → is_some o ≡ false → front_line rest ≡ rest
    by None e k = ap (λ (o : Option ℕ). take (unwrap_or o (length rest)) rest) e ∙ take_all (length rest) rest (omega arith)
    by (Some at) e k = false_true (sym k)

comment_silent : (rest : List ℕ) → begins_comment rest ≡ true → is_silent rest ≡ true
comment_silent [] h = false_true h
comment_silent (b ∷ rest) h = h

-- lines that are read have none

abbrev AllFeedless : Lines → Type 0
AllFeedless End = Unit {0}
AllFeedless Cut = Unit {0}
AllFeedless (Line line more) = (feedless line ≡ true) × AllFeedless more

before_feedless : (b : ℕ) (lines : Lines) → isnt_feed b ≡ true → AllFeedless lines → AllFeedless (byte_before b lines)
before_feedless b End h k = tt
before_feedless b Cut h k = tt
before_feedless b (Line line more) h k = (and_so (isnt_feed b) (feedless line) h k.0, k.1)

lines_feedless : (text : List ℕ) → AllFeedless (lines_of text)
lines_feedless [] = tt
lines_feedless (b ∷ text) = by (b == line_feed) refl (lines_feedless text)
  where
    by : (t : Bool) → (b == line_feed) ≡ t → AllFeedless (lines_of text) → AllFeedless (if b == line_feed then Line [] (lines_of text) else byte_before b (lines_of text))
    by true e ih = rw e (refl, ih)
    by false e ih = rw e (before_feedless b (lines_of text) (ap not e) ih)

last_feedless : (n : ℕ) (lines : Lines) (found : List ℕ) → AllFeedless lines → feedless found ≡ true → feedless (last_line n lines found) ≡ true
unfolding last_line
last_feedless zero lines found h k = k
last_feedless (suc n) End found h k = k
last_feedless (suc n) Cut found h k = k
last_feedless (suc n) (Line line more) found h k = last_feedless n more (unless_silent line found) h.1 (by (is_silent line))
  where
    by : (t : Bool) → feedless (if t then found else line) ≡ true
    by true = k
    by false = h.0

take_feedless : (n : ℕ) (text : List ℕ) → feedless text ≡ true → feedless (take n text) ≡ true
take_feedless n text h = (both (feedless (take n text)) (feedless (drop n text)) (sym (list_all-append isnt_feed (take n text) (drop n text)) ∙ ap feedless (take-append-drop n text) ∙ h)).0

drop_feedless : (n : ℕ) (text : List ℕ) → feedless text ≡ true → feedless (drop n text) ≡ true
drop_feedless n text h = (both (feedless (take n text)) (feedless (drop n text)) (sym (list_all-append isnt_feed (take n text) (drop n text)) ∙ ap feedless (take-append-drop n text) ∙ h)).1

behind_feedless : (text : List ℕ) → feedless text ≡ true → feedless (behind_space text) ≡ true
behind_feedless text h = by (position (λ b. b == 32) text)
  where
    by : (o : Option ℕ) → feedless (behind_end text o) ≡ true
    by None = refl
    by (Some end) = drop_feedless (end + 1) text h

moment_feedless : (line : List ℕ) → feedless line ≡ true → feedless (last_moment line) ≡ true
moment_feedless line h =
    let moment = take_feedless (unwrap_or (position (λ b. b == 32) (behind_space line)) (length (behind_space line))) (behind_space line) (behind_feedless line h) in
    by (bytes_eq (front_word line) (codes "hear")) (bytes_eq (front_word line) (codes "best")) moment
  where
    by : (a b : Bool) → feedless (front_word (behind_space line)) ≡ true → feedless (if a then front_word (behind_space line) else if b then front_word (behind_space line) else codes "0") ≡ true
    by true b moment = moment
    by false true moment = moment
    by false false moment = refl

-- where some line may stand, the table's forms keep their laws

first_choice_line : (text : List ℕ) → before_line 0 text ≡ []
unfolding last_line
first_choice_line text = refl

table_lawful : (input : Input) (before : ℕ) (silent : Bool) (text some : List ℕ) → MayStand input before silent text some → Lawful (taken_of (said_before before (lines_of text))) (table_at input before silent text)
unfolding last_line
table_lawful Payloads before silent text some may = payload_lawful (taken_of (said_before before (lines_of text)))
table_lawful Capture before silent text some may = capture_lawful (taken_of (said_before before (lines_of text))) before
table_lawful Schedule before silent text some may = schedule_lawful silent (before_line before text) (said_before before (lines_of text))
table_lawful Choice before silent text some (inr there) = false_true there.there
table_lawful Choice zero silent text some (inl has) = choices_first (taken_of (said_before 0 (lines_of text)))
table_lawful Choice (suc n) silent text some (inl has) =
    choices_lawful (taken_of (said_before (suc n) (lines_of text))) n (before_line (suc n) text) some
    (moment_feedless (before_line (suc n) text) (last_feedless (suc n) (lines_of text) [] (lines_feedless text) refl)) has

-- lines of forms have no line feed

joined_feedless : (taken : Taken) (form words : List (List ℕ)) → AllLaws taken form → AllFit taken form words → feedless (joined words) ≡ true
joined_feedless taken [] [] laws fit = refl
joined_feedless taken [] (w ∷ words) laws fit = absurd fit
joined_feedless taken (f ∷ form) [] laws fit = absurd fit
joined_feedless taken (f ∷ form) (w ∷ []) laws fit = seen_feedless w (laws.0.visible w fit.0)
joined_feedless taken (f ∷ form) (w ∷ v ∷ words) laws fit =
    list_all-append isnt_feed w (32 ∷ joined (v ∷ words))
    ∙ and_so (feedless w) (feedless (32 ∷ joined (v ∷ words))) (seen_feedless w (laws.0.visible w fit.0)) (joined_feedless taken form (v ∷ words) laws.1 fit.1)

some_feedless : (taken : Taken) (forms : List (List (List ℕ))) (line : List ℕ) → AllForms taken forms → HasSome taken forms line → feedless line ≡ true
some_feedless taken [] line laws has = absurd has
some_feedless taken (form ∷ forms) line laws (inl has) = ap feedless has.is ∙ joined_feedless taken form has.words laws.0 has.fit
some_feedless taken (form ∷ forms) line laws (inr has) = some_feedless taken forms line laws.1 has

-- texts with one line feed

head_is : (x y : ℕ) (xs ys : List ℕ) → x ∷ xs ≡ y ∷ ys → x ≡ y
head_is x y xs ys h = cc

tail_is : (x y : ℕ) (xs ys : List ℕ) → x ∷ xs ≡ y ∷ ys → xs ≡ ys
tail_is x y xs ys h = cc

no_ten : {P : Type 0} (b : ℕ) (text : List ℕ) → feedless (b ∷ text) ≡ true → b ≡ 10 → P
no_ten b text h is =
    let parts = both (isnt_feed b) (feedless text) h in
    let ten : isnt_feed b ≡ false = ap isnt_feed is in
    false_true (sym ten ∙ parts.0)

-- what such a text begins with, and has no line feed, its line begins with
within_line : (line front rest : List ℕ) → feedless front ≡ true → line ++ 10 ∷ [] ≡ front ++ rest → (a : List ℕ) × (line ≡ front ++ a)
within_line line [] rest h is = (line, refl)
within_line [] (x ∷ front) rest h is = no_ten x front h (sym (head_is 10 x [] (front ++ rest) is))
within_line (y ∷ line) (x ∷ front) rest h is =
    let one = head_is y x (line ++ 10 ∷ []) (front ++ rest) is in
    let more = within_line line front rest (both (isnt_feed x) (feedless front) h).1 (tail_is y x (line ++ 10 ∷ []) (front ++ rest) is) in
    (more.0, ap (λ (b : ℕ). b ∷ line) one ∙ ap (λ (l : List ℕ). x ∷ l) more.1)

-- one that begins with another line and a line feed is that line
same_line : (line other rest : List ℕ) → feedless line ≡ true → feedless other ≡ true → line ++ 10 ∷ [] ≡ other ++ 10 ∷ rest → line ≡ other
same_line [] [] rest h k is = refl
same_line [] (x ∷ other) rest h k is = no_ten x other k (sym (head_is 10 x [] (other ++ 10 ∷ rest) is))
same_line (y ∷ line) [] rest h k is = no_ten y line h (head_is y 10 (line ++ 10 ∷ []) rest is)
same_line (y ∷ line) (x ∷ other) rest h k is =
    let one = head_is y x (line ++ 10 ∷ []) (other ++ 10 ∷ rest) is in
    let more = same_line line other rest (both (isnt_feed y) (feedless line) h).1 (both (isnt_feed x) (feedless other) k).1 (tail_is y x (line ++ 10 ∷ []) (other ++ 10 ∷ rest) is) in
    ap (λ (b : ℕ). b ∷ line) one ∙ ap (λ (l : List ℕ). x ∷ l) more

-- a comment that no line feed ends

open_parts : (input : Input) (before : ℕ) (text rest : List ℕ) → is_open_comment input before text rest ≡ true
    → (is_ended rest ≡ false) × (begins_comment rest ≡ true) × (may_comment input before text ≡ true)
open_parts input before text rest h =
    let one = both (not (is_ended rest) && begins_comment rest) (may_comment input before text) h in
    let two = both (not (is_ended rest)) (begins_comment rest) one.0 in
    (isnt (is_ended rest) two.0, two.1, one.1)
  where
    isnt : (t : Bool) → not t ≡ true → t ≡ false
    isnt true h = false_true h
    isnt false h = refl

unended : (rest : List ℕ) → is_ended rest ≡ false → fed_line rest ≡ front_line rest
unended rest h = ap (λ (t : Bool). front_line rest ++ (if t then 10 ∷ [] else [])) h ∙ append-nil (front_line rest)

ended : (rest : List ℕ) → is_ended rest ≡ true → fed_line rest ≡ front_line rest ++ 10 ∷ []
ended rest h = ap (λ (t : Bool). front_line rest ++ (if t then 10 ∷ [] else [])) h

-- a text that ends without a line feed isn't valid
unfed : (line valid : List ℕ) → feedless line ≡ true → line ≡ valid ++ 10 ∷ [] → ⊥
unfed line valid h is = false_true (both (feedless valid) (feedless (10 ∷ [])) (sym (list_all-append isnt_feed valid (10 ∷ [])) ∙ ap feedless (sym is) ∙ h)).1

short_invalid : (input : Input) (before : ℕ) (silent : Bool) (text rest : List ℕ) (at : ℕ) → at ≤ length (front_line rest) → at ≡ length (fed_line rest) → ¬ (IsValid input before silent text (fed_line rest))
short_invalid input before silent text rest at le same valid = by (is_ended rest) refl
  where
    by : (t : Bool) → is_ended rest ≡ t → ⊥
    by true e = let all = ap length (ended rest e) in omega (arith, all, le, same, length-append (front_line rest) (10 ∷ []))
    by false e = unfed (front_line rest) valid.line (front_feedless rest) (sym (unended rest e) ∙ valid.is)

comment_right : (input : Input) (before : ℕ) (silent : Bool) (text rest : List ℕ) → is_open_comment input before text rest ≡ true
    → IsRightTo (IsValid input before silent text) (fed_line rest) (length (front_line rest))
comment_right input before silent text rest h =
    let parts = open_parts input before text rest h in
    let line = front_line rest in
    let fed = unended rest parts.0 in
    let same = comment_line rest parts.0 in
    let long = ap length fed in
    let silent_line : is_silent line ≡ true = ap is_silent same ∙ comment_silent rest parts.1 in
    record {
      within = omega (arith, long);
      front = λ some valid. (
        line ++ 10 ∷ [],
        record { line = line; may = inr (record { there = parts.2; silent = silent_line; one = no_feed line (front_feedless rest) }); is = refl },
        record { rest = 10 ∷ []; is = ap (λ (l : List ℕ). l ++ 10 ∷ []) (sym (ap (take (length line)) fed ∙ take_all (length line) line (omega arith))) },
      );
      first = λ lt not_valid valid is begins. omega (arith, lt, long);
      short = short_invalid input before silent text rest (length line) (omega arith);
    }

-- how far the line goes with the table's forms

walk_total : (taken : Taken) (line table : List ℕ) → Lawful taken table → (walked taken line table).best ≡ total taken line (Open 0) (forms_in (lines_of table))
walk_total taken line table laws =
    let is = walk_is (WordLaws taken) taken line false (lines_of table) beginning laws in
    omega (arith, is)

-- some valid text begins with what stands in front of the column
some_front : (input : Input) (before : ℕ) (silent : Bool) (text rest some : List ℕ) (at : ℕ) (forms : List (List (List ℕ)))
    → forms_in (lines_of (table_at input before silent text)) ≡ forms → AllForms (taken_of (said_before before (lines_of text))) forms
    → at ≡ total (taken_of (said_before before (lines_of text))) (front_line rest) (Open 0) forms → IsValid input before silent text some
    → (valid : List ℕ) × IsValid input before silent text valid × Begins valid (take at (fed_line rest))
some_front input before silent text rest some at [] is laws far valid =
    (some, valid, record { rest = some; is = ap (λ (k : ℕ). take k (fed_line rest) ++ some) (sym far) })
some_front input before silent text rest some at (form ∷ forms) is laws far valid =
    let taken = taken_of (said_before before (lines_of text)) in
    let f = total_far taken (front_line rest) form forms laws in
    let feed : List ℕ = if is_ended rest then 10 ∷ [] else [] in
    let has : HasSome taken (forms_in (lines_of (table_at input before silent text))) f.valid =
    subst (λ (fs : List (List (List ℕ))). HasSome taken fs f.valid) (sym is) f.has in
    let fed : fed_line rest ≡ f.c ++ (f.b ++ feed) = ap (λ (l : List ℕ). l ++ feed) f.et ∙ append_assoc f.c f.b feed in
    let front : take at (fed_line rest) ≡ f.c = ap (λ (k : ℕ). take k (fed_line rest)) (far ∙ f.far) ∙ ap (take (length f.c)) fed ∙ take-append_seam f.c (f.b ++ feed) in (
      f.valid ++ 10 ∷ [],
      record { line = f.valid; may = inl has; is = refl },
      record {
        rest = f.a ++ 10 ∷ [];
        is = ap (λ (l : List ℕ). l ++ 10 ∷ []) f.ev ∙ append_assoc f.c f.a (10 ∷ []) ∙ ap (λ (l : List ℕ). l ++ (f.a ++ 10 ∷ [])) (sym front);
      },
    )

may_feedless : (input : Input) (before : ℕ) (silent : Bool) (text line : List ℕ) → AllForms (taken_of (said_before before (lines_of text))) (forms_in (lines_of (table_at input before silent text)))
    → MayStand input before silent text line → feedless line ≡ true
may_feedless input before silent text line laws (inl has) =
    some_feedless (taken_of (said_before before (lines_of text))) (forms_in (lines_of (table_at input before silent text))) line laws has
may_feedless input before silent text line laws (inr there) = feed_none line there.one

-- a line that begins as a comment or a line without a byte does, is one
silent_begun : (input : Input) (before : ℕ) (silent : Bool) (text rest front a b : List ℕ) (line : List ℕ) → IsSilentThere input before text line → is_open_comment input before text rest ≡ false
    → ¬ (IsValid input before silent text (fed_line rest)) → 0 < length front → line ≡ front ++ a → front_line rest ≡ front ++ b → ⊥
silent_begun input before silent text rest [] a b line there opened not_valid some ev et = omega (arith, some)
silent_begun input before silent text rest (x ∷ front) a b line there opened not_valid some ev et =
    let first = first_byte_is rest (front ++ b) x et in
    let sign : (x == 35) ≡ true = sym (ap is_silent ev) ∙ there.silent in
    by (is_ended rest) refl (first ∙ sign)
  where
    by : (t : Bool) → is_ended rest ≡ t → begins_comment rest ≡ true → ⊥
    by true e comment =
        let sign : is_silent (front_line rest) ≡ true = ap is_silent et ∙ sym (ap is_silent ev) ∙ there.silent in
        not_valid (record { line = front_line rest; may = inr (record { there = there.there; silent = sign; one = no_feed (front_line rest) (front_feedless rest) }); is = ended rest e })
    by false e comment =
        let all : is_open_comment input before text rest ≡ true =
        and_so (not (is_ended rest) && begins_comment rest) (may_comment input before text) (and_so (not (is_ended rest)) (begins_comment rest) (ap not e) comment) there.there in
        false_true (sym opened ∙ all)

-- none begins with the byte at the column too
none_further : (input : Input) (before : ℕ) (silent : Bool) (text rest : List ℕ) (at : ℕ) → is_open_comment input before text rest ≡ false
    → AllForms (taken_of (said_before before (lines_of text))) (forms_in (lines_of (table_at input before silent text)))
    → at ≡ total (taken_of (said_before before (lines_of text))) (front_line rest) (Open 0) (forms_in (lines_of (table_at input before silent text)))
    → at < length (fed_line rest) → ¬ (IsValid input before silent text (fed_line rest)) → (valid : List ℕ) → IsValid input before silent text valid → Begins valid (take (at + 1) (fed_line rest)) → ⊥
none_further input before silent text rest at opened laws far lt not_valid valid is begins = by (nat_le (at + 1) (length (front_line rest))) refl
  where
    -- within the line
    here : at + 1 ≤ length (front_line rest) → MayStand input before silent text is.line → ⊥
    here le may =
        let feed : List ℕ = if is_ended rest then 10 ∷ [] else [] in
        let front : take (at + 1) (fed_line rest) ≡ take (at + 1) (front_line rest) = take-append-le (at + 1) (front_line rest) feed le in
        let c = take (at + 1) (front_line rest) in
        let whole : is.line ++ 10 ∷ [] ≡ c ++ begins.rest = sym is.is ∙ begins.is ∙ ap (λ (l : List ℕ). l ++ begins.rest) front in
        let more = within_line is.line c begins.rest (take_feedless (at + 1) (front_line rest) (front_feedless rest)) whole in
        let long : length c ≡ at + 1 = length-take-le (at + 1) (front_line rest) le in
        let et : front_line rest ≡ c ++ drop (at + 1) (front_line rest) = sym (take-append-drop (at + 1) (front_line rest)) in
        which may more.0 more.1 long et
      where
        which : MayStand input before silent text is.line → (a : List ℕ) → is.line ≡ take (at + 1) (front_line rest) ++ a → length (take (at + 1) (front_line rest)) ≡ at + 1
            → front_line rest ≡ take (at + 1) (front_line rest) ++ drop (at + 1) (front_line rest) → ⊥
        which (inl has) a ev long et =
            let most = total_most (taken_of (said_before before (lines_of text))) (front_line rest) (forms_in (lines_of (table_at input before silent text))) is.line (take (at + 1) (front_line rest)) a
            (drop (at + 1) (front_line rest)) laws has ev et in
            omega (arith, most, long, far)
        which (inr there) a ev long et =
            silent_begun input before silent text rest (take (at + 1) (front_line rest)) a (drop (at + 1) (front_line rest)) is.line there opened not_valid (omega (arith, long)) ev et

    -- at its line feed
    behind : length (front_line rest) < at + 1 → (t : Bool) → is_ended rest ≡ t → ⊥
    behind past false e = let all = ap length (unended rest e) in omega (arith, past, all, lt)
    behind past true e =
        let fed = ended rest e in
        let all = ap length fed in
        let long : length (fed_line rest) ≤ at + 1 = omega (arith, past, all, length-append (front_line rest) (10 ∷ [])) in
        let whole : is.line ++ 10 ∷ [] ≡ front_line rest ++ 10 ∷ begins.rest =
        sym is.is ∙ begins.is ∙ ap (λ (l : List ℕ). l ++ begins.rest) (take_all (at + 1) (fed_line rest) long ∙ fed) ∙ append_assoc (front_line rest) (10 ∷ []) begins.rest in
        let same = same_line is.line (front_line rest) begins.rest (may_feedless input before silent text is.line laws is.may) (front_feedless rest) whole in
        not_valid (record { line = front_line rest; may = subst (λ (l : List ℕ). MayStand input before silent text l) same is.may; is = fed })

    by : (t : Bool) → nat_le (at + 1) (length (front_line rest)) ≡ t → ⊥
    by true e = here (true_le (at + 1) (length (front_line rest)) e) is.may
    by false e = behind (false_le (at + 1) (length (front_line rest)) e) (is_ended rest) refl

-- so many bytes are right, and no more
walk_right : (input : Input) (before : ℕ) (silent : Bool) (text rest : List ℕ) → (walk_at input before silent text rest).best ≤ length (front_line rest)
    → IsRightTo (IsValid input before silent text) (fed_line rest) (walk_at input before silent text rest).best
walk_right input before silent text rest within = by (is_open_comment input before text rest) refl within
  where
    taken : Taken
    taken = taken_of (said_before before (lines_of text))

    table : List ℕ
    table = table_at input before silent text

    lawful : (valid : List ℕ) → IsValid input before silent text valid → Lawful taken table
    lawful valid is = table_lawful input before silent text is.line is.may

    forms : (valid : List ℕ) → IsValid input before silent text valid → AllForms taken (forms_in (lines_of table))
    forms valid is = forms_lawful taken false (lines_of table) (lawful valid is)

    opened : is_open_comment input before text rest ≡ true → IsRightTo (IsValid input before silent text) (fed_line rest) (walk_at input before silent text rest).best
    opened e = rw e (comment_right input before silent text rest e)

    closed : is_open_comment input before text rest ≡ false → (walked taken (front_line rest) table).best ≤ length (front_line rest)
        → IsRightTo (IsValid input before silent text) (fed_line rest) (walked taken (front_line rest) table).best
    closed e le = record {
      within = let long = length-append (front_line rest) (if is_ended rest then 10 ∷ [] else []) in omega (arith, le, long);
      front = λ some valid.
          some_front input before silent text rest some (walked taken (front_line rest) table).best (forms_in (lines_of table)) refl (forms some valid) (walk_total taken (front_line rest) table (lawful some valid)) valid;
      first = λ lt not_valid valid is begins.
          none_further input before silent text rest (walked taken (front_line rest) table).best e (forms valid is) (walk_total taken (front_line rest) table (lawful valid is)) lt not_valid valid is begins;
      short = short_invalid input before silent text rest (walked taken (front_line rest) table).best le;
    }

    by : (t : Bool) → is_open_comment input before text rest ≡ t → (walk_at input before silent text rest).best ≤ length (front_line rest)
        → IsRightTo (IsValid input before silent text) (fed_line rest) (walk_at input before silent text rest).best
    by true e le = opened e
    by false e le = rw e (closed e (rw e at le))

-- what is told of a line tells it
told_right : (input : Input) (before : ℕ) (text told : List ℕ) → told ≡ line_explained input before text
    → (walk_at input before (nat_lt 0 (passed input before text)) text (text_behind (before + passed input before text) text)).best ≤ length (front_line (text_behind (before + passed input before text) text))
    → TellsColumn input before text told
unfolding line_explained walk_explained
told_right input before text told is within =
    let rest = text_behind (before + passed input before text) text in
    let silent = nat_lt 0 (passed input before text) in
    let w = walk_at input before silent text rest in
    record {
      at = w.best;
      behind = line_told (is_ended rest) (front_line rest) w.best w.wanted ++ codes "\n";
      is = is;
      right = walk_right input before silent text rest within;
    }

-- by what the code knows: the silent lines that are passed over, the text behind them, and how far that goes
told_plain : (input : Input) (before : ℕ) (text told : List ℕ) (p : ℕ) (rest : List ℕ) (w : Walk) → p ≡ passed input before text → rest ≡ text_behind (before + p) text
    → w ≡ walk_at input before (nat_lt 0 p) text rest → w.best ≤ length (front_line rest) → told ≡ walk_explained (before + p + 1) rest w → TellsColumn input before text told
unfolding line_explained
told_plain input before text told p rest w ep er ew within is =
    let q = passed input before text in
    let there = text_behind (before + q) text in
    let rest_is : rest ≡ there = er ∙ ap (λ (k : ℕ). text_behind (before + k) text) ep in
    let walk_same : w ≡ walk_at input before (nat_lt 0 q) text there =
    ew ∙ ap (λ (k : ℕ). walk_at input before (nat_lt 0 k) text rest) ep ∙ ap (walk_at input before (nat_lt 0 q) text) rest_is in
    told_right input before text told
    (is ∙ ap (λ (k : ℕ). walk_explained (before + k + 1) rest w) ep ∙ ap (λ (r : List ℕ). walk_explained (before + q + 1) r w) rest_is ∙ ap (walk_explained (before + q + 1) there) walk_same)
    (subst (λ (u : Walk). u.best ≤ length (front_line there)) walk_same (subst (λ (r : List ℕ). w.best ≤ length (front_line r)) rest_is within))

pub told_column : {T E : Type 0} (bytes_of : T → List ℕ) (result : Result T E) (input : Input) (before : ℕ) (text : List ℕ) (p : ℕ) (rest : List ℕ) (w : Walk) → p ≡ passed input before text
    → rest ≡ text_behind (before + p) text → w ≡ walk_at input before (nat_lt 0 p) text rest → w.best ≤ length (front_line rest)
    → IfOk result (λ told. bytes_of told ≡ walk_explained (before + p + 1) rest w) → IfOk result (λ told. TellsColumn input before text (bytes_of told))
told_column bytes_of (Ok told) input before text p rest w ep er ew within is = told_plain input before text (bytes_of told) p rest w ep er ew within is
told_column bytes_of (Err e) input before text p rest w ep er ew within is = is

-- how far a line goes lies within it
walk_least : (input : Input) (before : ℕ) (silent : Bool) (text rest : List ℕ) → (walk_at input before silent text rest).best ≤ length (front_line rest)
walk_least input before silent text rest = by (is_open_comment input before text rest) refl
  where
    by : (t : Bool) → is_open_comment input before text rest ≡ t → (walk_at input before silent text rest).best ≤ length (front_line rest)
    by true e = rw e (omega arith)
    by false e =
        let table = table_at input before silent text in
        rw e (walk_within (taken_of (said_before before (lines_of text))) (front_line rest) (lines_of table) beginning refl refl)

pub columns_right : ColumnsAreRight
columns_right input before text =
    told_right input before text (line_explained input before text) refl
    (walk_least input before (nat_lt 0 (passed input before text)) text (text_behind (before + passed input before text) text))
