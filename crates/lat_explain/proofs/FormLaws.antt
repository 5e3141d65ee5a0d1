-- What a line has in common with the lines of a form.
use Rattle.std.proofs.Common.{◌≡◌, ℕ, zero, suc, ◌+◌, ◌-◌, ◌<◌, ◌≤◌, Bool, true, false, List, [], ◌∷◌, ◌++◌, length, take, drop, append_assoc, append-nil, refl, sym, ap, ◌∙◌, subst, arith, length-append, take-append-drop, length-drop, drop-drop, length-take-le, inl, inr}
use Rattle.std.specs.Prelude.{nat_lt, nat_le, if◌then◌else◌}
use Rattle.std.proofs.Math.Seq.{drop-append-add}
use Rattle.std.proofs.lemmas.List.{take-append-le}
use Rattle.lat_text.specs.Lines.{Lines, End, Cut, Line}
use Rattle.lat_explain.specs.declared.walk.Way.TheVariants.{Open, Over}
use Rattle.lat_explain.specs.Columns.{forms_in, in_front, joined, AllFit, HasSome}
use Rattle.lat_explain.specs.Forms.{Taken, begins, fits, begun, begun_from}
use Rattle.lat_explain.specs.Walks.{front_word, way_behind}
use Rattle.lat_explain.proofs.Tests.{true_lt, lt_true, lt_false, false_true, true_le, false_le}
use Rattle.lat_explain.proofs.WordKinds.{WordLaws}
use Rattle.lat_explain.proofs.FirstWords.{Behind, Nothing, Space, Split, split, front_is, tail_of, joined_is, behind_tail, Common, Within, Past, tail_same, not_nil, common, all_plain}
use Rattle.lat_explain.proofs.Reached.{reach, total, over_all, AllIn}

-- how far a word goes

begun_least : (taken : Taken) (f word : List ℕ) (left count n : ℕ) → n ≤ count + left → ((k : ℕ) → k ≤ n → begins taken f (take k word) ≡ true) → n ≤ begun_from taken f word left count
unfolding begun_from
begun_least taken f word zero count n le all = omega (arith, le)
begun_least taken f word (suc left) count n le all =
    by (begins taken f (take (count + 1) word)) refl (begun_least taken f word left (count + 1) n (omega (arith, le)) all)
  where
    by : (t : Bool) → begins taken f (take (count + 1) word) ≡ t → n ≤ begun_from taken f word left (count + 1)
        → n ≤ (if begins taken f (take (count + 1) word) then begun_from taken f word left (count + 1) else count)
    by true e more = rw e more
    by false e more = rw e (here (nat_le n count) refl)
      where
        here : (t : Bool) → nat_le n count ≡ t → n ≤ count
        here true so = true_le n count so
        here false so = let less = false_le n count so in false_true (sym e ∙ all (count + 1) (omega (arith, less)))

begun_good : (taken : Taken) (f word : List ℕ) (left count : ℕ) → begins taken f (take count word) ≡ true → begins taken f (take (begun_from taken f word left count) word) ≡ true
unfolding begun_from
begun_good taken f word zero count h = h
begun_good taken f word (suc left) count h = by (begins taken f (take (count + 1) word)) refl (begun_good taken f word left (count + 1))
  where
    by : (t : Bool) → begins taken f (take (count + 1) word) ≡ t
        → (begins taken f (take (count + 1) word) ≡ true → begins taken f (take (begun_from taken f word left (count + 1)) word) ≡ true)
        → begins taken f (take (if begins taken f (take (count + 1) word) then begun_from taken f word left (count + 1) else count) word) ≡ true
    by true e more = let all = more e in rw e all
    by false e more = rw e h

pub begun_upto : (taken : Taken) (f word : List ℕ) (left count : ℕ) → begun_from taken f word left count ≤ count + left
unfolding begun_from
begun_upto taken f word zero count = omega arith
begun_upto taken f word (suc left) count = by (begins taken f (take (count + 1) word)) refl (begun_upto taken f word left (count + 1))
  where
    by : (t : Bool) → begins taken f (take (count + 1) word) ≡ t → begun_from taken f word left (count + 1) ≤ (count + 1) + left
        → (if begins taken f (take (count + 1) word) then begun_from taken f word left (count + 1) else count) ≤ count + suc left
    by true e more = rw e (omega (arith, more))
    by false e more = rw e (omega arith)

-- what a line's word and a word of the form both begin with
within_word : (taken : Taken) (f w word c d e : List ℕ) → WordLaws taken f → fits taken f w ≡ true → w ≡ c ++ d → word ≡ c ++ e → length c ≤ begun taken f word
within_word taken f w word c d e laws fit ew eword =
    let long = ap length eword in
    begun_least taken f word (length word) 0 (length c) (omega (arith, long, length-append c e))
    (λ k le.
    let front : take k word ≡ take k c = ap (take k) eword ∙ take-append-le k c e le in
    let all : w ≡ take k c ++ (drop k c ++ d) = ew ∙ ap (λ (l : List ℕ). l ++ d) (sym (take-append-drop k c)) ∙ append_assoc (take k c) (drop k c) d in
    ap (begins taken f) front ∙ laws.begun_so (take k c) (drop k c ++ d) (subst (λ (l : List ℕ). fits taken f l ≡ true) all fit))

-- how far a line goes behind a word that ends here
reach_least : (taken : Taken) (line : List ℕ) (form : List (List ℕ)) (end : ℕ) → end ≤ length line → end ≤ reach taken line form (way_behind line end)
reach_least taken line [] end le = by (nat_lt end (length line)) refl
  where
    by : (t : Bool) → nat_lt end (length line) ≡ t → end ≤ reach taken line [] (way_behind line end)
    by true e = rw e (omega arith)
    by false e = rw e le
reach_least taken line (f ∷ form) end le = by (nat_lt end (length line)) refl (reach_least taken line form (end + 1 + length (front_word (drop (end + 1) line))))
  where
    inner : (t : Bool) → fits taken f (front_word (drop (end + 1) line)) ≡ t → end < length line
        → (end + 1 + length (front_word (drop (end + 1) line)) ≤ length line
        → end + 1 + length (front_word (drop (end + 1) line)) ≤ reach taken line form (way_behind line (end + 1 + length (front_word (drop (end + 1) line)))))
        → end ≤ reach taken line (f ∷ form) (Open (end + 1))
    inner true e less more =
        let s = split (drop (end + 1) line) in
        let word : length (front_word (drop (end + 1) line)) ≡ length s.word = ap length (front_is (drop (end + 1) line) s) in
        let all = ap length s.is in
        let long = length-append s.word s.rest in
        let left : length (drop (end + 1) line) ≡ length line - (end + 1) = length-drop (end + 1) line in
        let far = more (omega (arith, word, all, long, left, less)) in
        rw e (omega (arith, far))
    inner false e less more = rw e (omega arith)

    by : (t : Bool) → nat_lt end (length line) ≡ t
        → (end + 1 + length (front_word (drop (end + 1) line)) ≤ length line
        → end + 1 + length (front_word (drop (end + 1) line)) ≤ reach taken line form (way_behind line (end + 1 + length (front_word (drop (end + 1) line)))))
        → end ≤ reach taken line (f ∷ form) (way_behind line end)
    by true e more = rw e (inner (fits taken f (front_word (drop (end + 1) line))) refl (true_lt end (length line) e) more)
    by false e more = rw e le

-- how far a line goes with a form whose first word this one fits or not
reach_word : (taken : Taken) (line : List ℕ) (f word : List ℕ) (form : List (List ℕ)) (at : ℕ) (t : Bool) → front_word (drop at line) ≡ word → fits taken f word ≡ t
    → reach taken line (f ∷ form) (Open at) ≡ (if t then reach taken line form (way_behind line (at + length word)) else at + begun taken f word)
reach_word taken line f word form at t here e =
    ap (λ (w : List ℕ). if fits taken f w then reach taken line form (way_behind line (at + length w)) else at + begun taken f w) here
    ∙ ap (λ (b : Bool). if b then reach taken line form (way_behind line (at + length word)) else at + begun taken f word) e

-- the line goes on behind a space
way_on : (line : List ℕ) (end : ℕ) → end < length line → way_behind line end ≡ Open (end + 1)
way_on line end less = rw (lt_true end (length line) less) refl

way_over : (line : List ℕ) (end : ℕ) → length line ≤ end → way_behind line end ≡ Over
way_over line end past = rw (lt_false end (length line) past) refl

-- all forms of words keep their laws
abbrev pub AllLaws : Taken → List (List ℕ) → Type 0
AllLaws taken [] = Unit {0}
AllLaws taken (f ∷ form) = WordLaws taken f × AllLaws taken form

-- what the line has in common with a line of this form is no longer than how far it goes
abbrev Most : Taken → (line : List ℕ) → (form : List (List ℕ)) → Type 0
Most taken line form =
    (words : List (List ℕ)) (at : ℕ) (text c a b : List ℕ) → AllFit taken form words → drop at line ≡ text → at + length text ≡ length line → joined words ≡ c ++ a → text ≡ c ++ b
    → at + length c ≤ reach taken line form (Open at)

-- of further words, if there are any
abbrev NextMost : Taken → (line : List ℕ) → (form : List (List ℕ)) → Type 0
NextMost taken line [] = Unit {0}
NextMost taken line (f ∷ form) = Most taken line (f ∷ form)

past_word : (taken : Taken) (line : List ℕ) (form words : List (List ℕ)) (at : ℕ) (one text c a b : List ℕ) → NextMost taken line form → AllFit taken form words → tail_of words ≡ 32 ∷ one
    → drop at line ≡ text → at + length text ≡ length line → one ≡ c ++ a → text ≡ c ++ b → at + length c ≤ reach taken line form (Open at)
past_word taken line [] [] at one text c a b next fit tail d n ea eb = not_nil 32 one tail
past_word taken line [] (word ∷ words) at one text c a b next fit tail d n ea eb = absurd fit
past_word taken line (f ∷ form) [] at one text c a b next fit tail d n ea eb = absurd fit
past_word taken line (f ∷ form) (word ∷ words) at one text c a b next fit tail d n ea eb =
    next (word ∷ words) at text c a b fit d n (tail_same 32 32 (joined (word ∷ words)) one tail ∙ ea) eb

-- the rest of a line behind a word and a space
drop_word : (line text word rest : List ℕ) (at : ℕ) → drop at line ≡ text → text ≡ word ++ 32 ∷ rest → drop (at + length word + 1) line ≡ rest
drop_word line text word rest at d is =
    let sum : at + length word + 1 ≡ at + (length word + 1) = omega arith in
    ap (λ (k : ℕ). drop k line) sum ∙ sym (drop-drop (length word + 1) at line) ∙ ap (drop (length word + 1)) (d ∙ is) ∙ drop-append-add word (32 ∷ rest) 1

most_by : (taken : Taken) (line : List ℕ) (f : List ℕ) (form : List (List ℕ)) (w : List ℕ) (words : List (List ℕ)) (at : ℕ) (text c a b : List ℕ) → WordLaws taken f → NextMost taken line form
    → fits taken f w ≡ true → AllFit taken form words → drop at line ≡ text → at + length text ≡ length line → (s : Split text) → front_word (drop at line) ≡ s.word
    → Common w s.word (tail_of words) s.rest c a b → at + length c ≤ reach taken line (f ∷ form) (Open at)
most_by taken line f form w words at text c a b laws next fit fitting d n s here (Within y ew e eword) = by (fits taken f s.word) refl
  where
    by : (t : Bool) → fits taken f s.word ≡ t → at + length c ≤ reach taken line (f ∷ form) (Open at)
    by true et =
        let all = ap length s.is in
        let long = length-append s.word s.rest in
        let word = ap length eword in
        let parts = length-append c e in
        let least = reach_least taken line form (at + length s.word) (omega (arith, n, all, long)) in
        let is = reach_word taken line f s.word form at true here et in
        omega (arith, least, is, word, parts)
    by false et =
        let most = within_word taken f w s.word c y e laws fit ew eword in
        let is = reach_word taken line f s.word form at false here et in
        omega (arith, most, is)
most_by taken line f form w words at text c a b laws next fit fitting d n s here (Past on one two ew etail erest ec ea eb) =
    let et : fits taken f s.word ≡ true = ap (fits taken f) (sym ew) ∙ fit in
    let is = s.is ∙ ap (λ (r : List ℕ). s.word ++ r) erest in
    let all = ap length is in
    let long = length-append s.word (32 ∷ two) in
    let far = ap length ec in
    let parts = length-append s.word (32 ∷ on) in
    let way = way_on line (at + length s.word) (omega (arith, n, all, long)) in
    let goes = reach_word taken line f s.word form at true here et ∙ ap (reach taken line form) way in
    let more =
    past_word taken line form words (at + length s.word + 1) one two on a b next fitting etail (drop_word line text s.word two at d is) (omega (arith, n, all, long)) ea eb in
    omega (arith, goes, more, far, parts)

most_step : (taken : Taken) (line : List ℕ) (f : List ℕ) (form : List (List ℕ)) → WordLaws taken f → NextMost taken line form → Most taken line (f ∷ form)
most_step taken line f form laws next [] at text c a b fit d n ev et = absurd fit
most_step taken line f form laws next (w ∷ words) at text c a b fit d n ev et =
    let s = split text in
    let here = ap front_word d ∙ front_is text s in
    let shared =
    common w s.word (tail_of words) s.rest c a b (all_plain w (laws.visible w fit.0)) s.plain (behind_tail words) s.behind (sym (joined_is w words) ∙ ev) (sym s.is ∙ et) in
    most_by taken line f form w words at text c a b laws next fit.0 fit.1 d n s here shared

most_all : (taken : Taken) (line : List ℕ) (form : List (List ℕ)) → AllLaws taken form → NextMost taken line form
most_all taken line [] laws = tt
most_all taken line (f ∷ form) laws = most_step taken line f form laws.0 (most_all taken line form laws.1)

-- words of these forms
record SomeWords (taken : Taken) (form : List (List ℕ)) : Type 0 where
  pub words : List (List ℕ)
  pub fit : AllFit taken form words

some_words : (taken : Taken) (form : List (List ℕ)) → AllLaws taken form → SomeWords taken form
some_words taken [] laws = record { words = []; fit = tt }
some_words taken (f ∷ form) laws =
    let word = laws.0.goes_on [] laws.0.nothing in
    let more = some_words taken form laws.1 in
    record { words = word.0 ∷ more.words; fit = (word.1, more.fit) }

-- a line of this form that has all in common with the line, up to where that goes
record Gone (taken : Taken) (line : List ℕ) (form : List (List ℕ)) (at : ℕ) (text : List ℕ) : Type 0 where
  pub words : List (List ℕ)
  pub fit : AllFit taken form words
  pub c : List ℕ
  pub a : List ℕ
  pub b : List ℕ
  pub ev : joined words ≡ c ++ a
  pub et : text ≡ c ++ b
  pub far : reach taken line form (Open at) ≡ at + length c

abbrev Goes : Taken → (line : List ℕ) → (form : List (List ℕ)) → Type 0
Goes taken line form = (at : ℕ) (text : List ℕ) → drop at line ≡ text → at + length text ≡ length line → Gone taken line form at text

abbrev NextGoes : Taken → (line : List ℕ) → (form : List (List ℕ)) → Type 0
NextGoes taken line [] = Unit {0}
NextGoes taken line (f ∷ form) = Goes taken line (f ∷ form)

-- behind a word of the line that fits, and a space
gone_past : (taken : Taken) (line : List ℕ) (f word : List ℕ) (form : List (List ℕ)) (at : ℕ) (text rest : List ℕ) → NextGoes taken line form → fits taken f word ≡ true
    → reach taken line (f ∷ form) (Open at) ≡ reach taken line form (Open (at + length word + 1)) → drop at line ≡ text → at + length text ≡ length line → text ≡ word ++ 32 ∷ rest
    → Gone taken line (f ∷ form) at text
gone_past taken line f word [] at text rest next fit goes d n is =
    record {
      words = word ∷ [];
      fit = (fit, tt);
      c = word;
      a = [];
      b = 32 ∷ rest;
      ev = sym (append-nil word);
      et = is;
      far = goes ∙ omega arith;
    }
gone_past taken line f word (g ∷ form) at text rest next fit goes d n is =
    let all = ap length is in
    let long = length-append word (32 ∷ rest) in
    let more = next (at + length word + 1) rest (drop_word line text word rest at d is) (omega (arith, n, all, long)) in
    on more.words more.fit more.c more.a more.b more.ev more.et (goes ∙ more.far)
  where
    on : (words : List (List ℕ)) → AllFit taken (g ∷ form) words → (c a b : List ℕ) → joined words ≡ c ++ a → rest ≡ c ++ b
        → reach taken line (f ∷ g ∷ form) (Open at) ≡ (at + length word + 1) + length c → Gone taken line (f ∷ g ∷ form) at text
    on [] fitting c a b ev et far = absurd fitting
    on (x ∷ words) fitting c a b ev et far =
        let parts = length-append word (32 ∷ c) in
        record {
          words = word ∷ x ∷ words;
          fit = (fit, fitting);
          c = word ++ 32 ∷ c;
          a = a;
          b = b;
          ev = ap (λ (l : List ℕ). word ++ 32 ∷ l) ev ∙ sym (append_assoc word (32 ∷ c) a);
          et = is ∙ ap (λ (l : List ℕ). word ++ 32 ∷ l) et ∙ sym (append_assoc word (32 ∷ c) b);
          far = omega (arith, far, parts);
        }

gone_step : (taken : Taken) (line : List ℕ) (f : List ℕ) (form : List (List ℕ)) → WordLaws taken f → AllLaws taken form → NextGoes taken line form → Goes taken line (f ∷ form)
gone_step taken line f form laws others next at text d n =
    let s = split text in
    by s (ap front_word d ∙ front_is text s) s.behind (fits taken f s.word) refl (some_words taken form others)
  where
    by : (s : Split text) → front_word (drop at line) ≡ s.word → Behind s.rest → (t : Bool) → fits taken f s.word ≡ t → SomeWords taken form → Gone taken line (f ∷ form) at text
    by s here behind false et more =
        let k = begun taken f s.word in
        let good = begun_good taken f s.word (length s.word) 0 laws.nothing in
        let upto = begun_upto taken f s.word (length s.word) 0 in
        let on = laws.goes_on (take k s.word) good in
        let long = length-take-le k s.word (omega (arith, upto)) in
        record {
          words = (take k s.word ++ on.0) ∷ more.words;
          fit = (on.1, more.fit);
          c = take k s.word;
          a = on.0 ++ tail_of more.words;
          b = drop k s.word ++ s.rest;
          ev = joined_is (take k s.word ++ on.0) more.words ∙ append_assoc (take k s.word) on.0 (tail_of more.words);
          et = s.is ∙ ap (λ (l : List ℕ). l ++ s.rest) (sym (take-append-drop k s.word)) ∙ append_assoc (take k s.word) (drop k s.word) s.rest;
          far = reach_word taken line f s.word form at false here et ∙ ap (λ (m : ℕ). at + m) (sym long);
        }
    by s here (Nothing e) true et more =
        let is = s.is ∙ ap (λ (r : List ℕ). s.word ++ r) e ∙ append-nil s.word in
        let all = ap length is in
        let way = way_over line (at + length s.word) (omega (arith, n, all)) in
        let far = reach_word taken line f s.word form at true here et ∙ ap (reach taken line form) way ∙ over_all taken line form in
        record {
          words = s.word ∷ more.words;
          fit = (et, more.fit);
          c = s.word;
          a = tail_of more.words;
          b = [];
          ev = joined_is s.word more.words;
          et = is ∙ sym (append-nil s.word);
          far = omega (arith, far, n, all);
        }
    by s here (Space rest e) true et more =
        let is = s.is ∙ ap (λ (r : List ℕ). s.word ++ r) e in
        let all = ap length is in
        let long = length-append s.word (32 ∷ rest) in
        let way = way_on line (at + length s.word) (omega (arith, n, all, long)) in
        gone_past taken line f s.word form at text rest next et (reach_word taken line f s.word form at true here et ∙ ap (reach taken line form) way) d n is

gone_all : (taken : Taken) (line : List ℕ) (form : List (List ℕ)) → AllLaws taken form → NextGoes taken line form
gone_all taken line [] laws = tt
gone_all taken line (f ∷ form) laws = gone_step taken line f form laws.0 laws.1 (gone_all taken line form laws.1)

-- of all forms of a table

abbrev pub AllForms : Taken → List (List (List ℕ)) → Type 0
AllForms taken [] = Unit {0}
AllForms taken (form ∷ forms) = AllLaws taken form × AllForms taken forms

-- the words that are left of a form, and the forms behind it
word_before : (taken : Taken) (f : List ℕ) (forms : List (List (List ℕ))) → WordLaws taken f → AllForms taken forms → AllForms taken (in_front f forms)
word_before taken f [] law laws = tt
word_before taken f (form ∷ forms) law laws = ((law, laws.0), laws.1)

pub forms_lawful : (taken : Taken) (within : Bool) (lines : Lines) → AllIn (WordLaws taken) within lines → AllForms taken (forms_in lines)
forms_lawful taken within End h = tt
forms_lawful taken within Cut h = tt
forms_lawful taken within (Line [] more) h = (tt, forms_lawful taken false more h)
forms_lawful taken within (Line (b ∷ f) more) h = word_before taken (b ∷ f) (forms_in more) h.0 (forms_lawful taken true more h.1)

nothing_common : (c a : List ℕ) → [] ≡ c ++ a → length c ≡ 0
nothing_common [] a h = refl
nothing_common (x ∷ c) a h = not_nil x (c ++ a) h

-- what a line has in common with a line of some form is no longer than how far it goes with some
pub total_most : (taken : Taken) (line : List ℕ) (forms : List (List (List ℕ))) (valid c a b : List ℕ) → AllForms taken forms → HasSome taken forms valid → valid ≡ c ++ a → line ≡ c ++ b
    → length c ≤ total taken line (Open 0) forms
total_most taken line [] valid c a b laws has ev et = absurd has
total_most taken line (form ∷ forms) valid c a b laws (inr more) ev et =
    let least = total_most taken line forms valid c a b laws.1 more ev et in
    omega (arith, least)
total_most taken line (form ∷ forms) valid c a b laws (inl has) ev et =
    let least = by form has.words has.fit (sym has.is ∙ ev) laws.0 in
    omega (arith, least)
  where
    by : (form : List (List ℕ)) (words : List (List ℕ)) → AllFit taken form words → joined words ≡ c ++ a → AllLaws taken form → length c ≤ reach taken line form (Open 0)
    by [] [] fit is law = let none = nothing_common c a is in omega (arith, none)
    by [] (w ∷ words) fit is law = absurd fit
    by (f ∷ form) words fit is law =
        let most = most_all taken line (f ∷ form) law words 0 line c a b fit refl (omega arith) is et in
        omega (arith, most)

-- a line of some form that has as much in common with a line as that goes
pub record Farthest (taken : Taken) (line : List ℕ) (forms : List (List (List ℕ))) : Type 0 where
  pub valid : List ℕ
  pub has : HasSome taken forms valid
  pub c : List ℕ
  pub a : List ℕ
  pub b : List ℕ
  pub ev : valid ≡ c ++ a
  pub et : line ≡ c ++ b
  pub far : total taken line (Open 0) forms ≡ length c

-- with the first of some forms
first_far : (taken : Taken) (line : List ℕ) (form : List (List ℕ)) (forms : List (List (List ℕ))) → AllLaws taken form → total taken line (Open 0) forms ≤ reach taken line form (Open 0)
    → Farthest taken line (form ∷ forms)
first_far taken line [] forms laws less =
    record {
      valid = [];
      has = inl (record { words = []; fit = tt; is = refl });
      c = [];
      a = [];
      b = line;
      ev = refl;
      et = refl;
      far = omega (arith, less);
    }
first_far taken line (f ∷ form) forms laws less =
    let gone = gone_all taken line (f ∷ form) laws 0 line refl (omega arith) in
    let far = gone.far in
    record {
      valid = joined gone.words;
      has = inl (record { words = gone.words; fit = gone.fit; is = refl });
      c = gone.c;
      a = gone.a;
      b = gone.b;
      ev = gone.ev;
      et = gone.et;
      far = omega (arith, less, far);
    }

pub total_far : (taken : Taken) (line : List ℕ) (form : List (List ℕ)) (forms : List (List (List ℕ))) → AllForms taken (form ∷ forms) → Farthest taken line (form ∷ forms)
total_far taken line form [] laws = first_far taken line form [] laws.0 (omega arith)
total_far taken line form (next ∷ forms) laws =
    by (nat_le (total taken line (Open 0) (next ∷ forms)) (reach taken line form (Open 0))) refl (total_far taken line next forms laws.1)
  where
    by : (t : Bool) → nat_le (total taken line (Open 0) (next ∷ forms)) (reach taken line form (Open 0)) ≡ t → Farthest taken line (next ∷ forms) → Farthest taken line (form ∷ next ∷ forms)
    by true e more = first_far taken line form (next ∷ forms) laws.0 (true_le (total taken line (Open 0) (next ∷ forms)) (reach taken line form (Open 0)) e)
    by false e more =
        let less = false_le (total taken line (Open 0) (next ∷ forms)) (reach taken line form (Open 0)) e in
        let far = more.far in
        record { valid = more.valid; has = inr more.has; c = more.c; a = more.a; b = more.b; ev = more.ev; et = more.et; far = omega (arith, less, far) }
