-- How far a line goes with each form of a table, and that the walk finds how far it goes with some.
use Rattle.std.proofs.Common.{◌≡◌, ℕ, ◌+◌, ◌-◌, max, Bool, true, false, List, [], ◌∷◌, length, drop, refl, sym, ap, ◌∙◌, arith}
use Rattle.std.specs.Prelude.{nat_lt, if◌then◌else◌}
use Rattle.lat_text.specs.Lines.{Lines, End, Cut, Line}
use Rattle.lat_explain.specs.declared.walk.Way.{Way}
use Rattle.lat_explain.specs.declared.walk.Way.TheVariants.{Open, Over, Stuck}
use Rattle.lat_explain.specs.Columns.{forms_in, in_front}
use Rattle.lat_explain.specs.Forms.{Taken, fits, begun}
use Rattle.lat_explain.specs.Walks.{Walk, walk, meets, ends, stops, again, front_word, way_behind}
use Rattle.lat_explain.proofs.Tests.{true_lt, false_lt}

-- how far a line goes with the words of a form that are left, from where the next word is read
abbrev pub reach : Taken → (line : List ℕ) → (form : List (List ℕ)) → Way → ℕ
reach taken line [] (Open at) = at - 1
reach taken line [] Over = length line
reach taken line [] Stuck = 0
reach taken line (f ∷ form) (Open at) =
    if fits taken f (front_word (drop at line)) then reach taken line form (way_behind line (at + length (front_word (drop at line))))
    else at + begun taken f (front_word (drop at line))
reach taken line (f ∷ form) Over = length line
reach taken line (f ∷ form) Stuck = 0

-- how far with some of these forms, the first of them read from here
abbrev pub total : Taken → (line : List ℕ) → Way → List (List (List ℕ)) → ℕ
total taken line way [] = 0
total taken line way (form ∷ forms) = max (reach taken line form way) (total taken line (Open 0) forms)

-- each word of a table is of such a form, and each form is ended by a line without a byte; within a form or behind one
abbrev pub AllIn : (List ℕ → Type 0) → (within : Bool) → Lines → Type 0
AllIn P true End = ⊥
AllIn P false End = Unit {0}
AllIn P within Cut = ⊥
AllIn P within (Line [] more) = AllIn P false more
AllIn P within (Line (b ∷ f) more) = P (b ∷ f) × AllIn P true more

-- a form that is ended, and those behind it
pub record SomeForm (forms : List (List (List ℕ))) : Type 0 where
  pub first : List (List ℕ)
  pub others : List (List (List ℕ))
  pub is : forms ≡ first ∷ others

pub some_form : (P : List ℕ → Type 0) (lines : Lines) → AllIn P true lines → SomeForm (forms_in lines)
some_form P End h = absurd h
some_form P Cut h = absurd h
some_form P (Line [] more) h = record { first = []; others = forms_in more; is = refl }
some_form P (Line (b ∷ f) more) h =
    let s = some_form P more h.1 in
    record { first = (b ∷ f) ∷ s.first; others = s.others; is = ap (in_front (b ∷ f)) s.is }

stuck_none : (taken : Taken) (line : List ℕ) (form : List (List ℕ)) → reach taken line form Stuck ≡ 0
stuck_none taken line [] = refl
stuck_none taken line (f ∷ form) = refl

pub over_all : (taken : Taken) (line : List ℕ) (form : List (List ℕ)) → reach taken line form Over ≡ length line
over_all taken line [] = refl
over_all taken line (f ∷ form) = refl

pub stops_best : (w : Walk) (at : ℕ) (form : List ℕ) → (stops w at form).best ≡ max w.best at
stops_best w at form = by (nat_lt at w.best) refl (nat_lt w.best at) refl
  where
    by : (a : Bool) → nat_lt at w.best ≡ a → (b : Bool) → nat_lt w.best at ≡ b → (stops w at form).best ≡ max w.best at
    by true ea b eb = let less = true_lt at w.best ea in rw ea (omega (arith, less))
    by false ea true eb = let less = true_lt w.best at eb in rw (ea, eb) (omega (arith, less))
    by false ea false eb =
        let one = false_lt at w.best ea in
        let two = false_lt w.best at eb in
        rw (ea, eb) (omega (arith, one, two))

pub stops_way : (w : Walk) (at : ℕ) (form : List ℕ) → (stops w at form).way ≡ Stuck
stops_way w at form = by (nat_lt at w.best) refl (nat_lt w.best at) refl
  where
    by : (a : Bool) → nat_lt at w.best ≡ a → (b : Bool) → nat_lt w.best at ≡ b → (stops w at form).way ≡ Stuck
    by true ea b eb = rw ea refl
    by false ea true eb = rw (ea, eb) refl
    by false ea false eb = rw (ea, eb) refl

-- a walk that stops here, before further words of a form
stops_on : (taken : Taken) (line : List ℕ) (w : Walk) (at : ℕ) (f : List ℕ) (form : List (List ℕ)) (rest : ℕ)
    → max (stops w at f).best (max (reach taken line form (stops w at f).way) rest) ≡ max w.best (max at rest)
stops_on taken line w at f form rest =
    let none : reach taken line form (stops w at f).way ≡ 0 = ap (reach taken line form) (stops_way w at f) ∙ stuck_none taken line form in
    let best = stops_best w at f in
    omega (arith, none, best)

-- one more word of a form
word_on : (taken : Taken) (line f : List ℕ) (form : List (List ℕ)) (w : Walk) (way : Way) (rest : ℕ) → w.way ≡ way
    → max (meets taken line f w way).best (max (reach taken line form (meets taken line f w way).way) rest) ≡ max w.best (max (reach taken line (f ∷ form) way) rest)
word_on taken line f form w (Open at) rest is = by (fits taken f (front_word (drop at line))) refl
  where
    by : (b : Bool) → fits taken f (front_word (drop at line)) ≡ b
        → max (meets taken line f w (Open at)).best (max (reach taken line form (meets taken line f w (Open at)).way) rest) ≡ max w.best (max (reach taken line (f ∷ form) (Open at)) rest)
    by true e = rw e refl
    by false e = rw e (stops_on taken line w (at + begun taken f (front_word (drop at line))) f form rest)
word_on taken line f form w Over rest is = stops_on taken line w (length line) f form rest
word_on taken line f form w Stuck rest is =
    let none : reach taken line form w.way ≡ 0 = ap (reach taken line form) is ∙ stuck_none taken line form in
    omega (arith, none)

-- nothing behind the last word of a form
end_on : (taken : Taken) (line : List ℕ) (w : Walk) (way : Way) (rest : ℕ) → max (ends line w way).best rest ≡ max w.best (max (reach taken line [] way) rest)
end_on taken line w (Open at) rest = let best = stops_best w (at - 1) [] in omega (arith, best)
end_on taken line w Over rest = let best = stops_best w (length line) [] in omega (arith, best)
end_on taken line w Stuck rest = omega arith

-- the walk over a table goes as far as some form
pub walk_is : (P : List ℕ → Type 0) (taken : Taken) (line : List ℕ) (within : Bool) (lines : Lines) (w : Walk) → AllIn P within lines
    → (walk taken line w lines).best ≡ max w.best (total taken line w.way (forms_in lines))
unfolding walk
walk_is P taken line true End w h = absurd h
walk_is P taken line false End w h = omega arith
walk_is P taken line within Cut w h = absurd h
walk_is P taken line within (Line [] more) w h =
    walk_is P taken line false more (again (ends line w w.way)) h ∙ end_on taken line w w.way (total taken line (Open 0) (forms_in more))
walk_is P taken line within (Line (b ∷ f) more) w h =
    let s = some_form P more h.1 in
    let next = meets taken line (b ∷ f) w w.way in
    let ih = walk_is P taken line true more next h.1 in
    ih ∙ ap (λ (forms : List (List (List ℕ))). max next.best (total taken line next.way forms)) s.is
    ∙ word_on taken line (b ∷ f) s.first w w.way (total taken line (Open 0) s.others) refl
    ∙ ap (λ (forms : List (List (List ℕ))). max w.best (total taken line w.way (in_front (b ∷ f) forms))) (sym s.is)
