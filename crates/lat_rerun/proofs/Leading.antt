-- A core that is told entries, one after another.
use Rattle.std.proofs.Common.{◌≡◌, ℕ, ◌+◌, Bool, true, false, List, [], ◌∷◌, refl, sym, ap, ◌∙◌, subst}
use Rattle.std.specs.Prelude.{Option, Some, None, bytes_eq}
use Rattle.lat_base.specs.declared.answer.Answer.{Answer}
use Rattle.lat_base.specs.declared.event.Event.{Event}
use Rattle.lat_print.specs.AnswerWords.{answer_words}
use Rattle.lat_record.specs.declared.entry.Entry.{Entry}
use Rattle.lat_rerun.specs.Reruns.{Led, differs_from, first_of, run_to, told_by}
use Rattle.lat_rerun.specs.RowText.{agrees_text, differs_text}

-- an event whose answer is the one that stands there
agrees : {S : Type 0} (next : S → Event → S) (answer : S → Event → Answer) (place : ℕ) (s : S) (e : Entry) (es : List Entry) →
    bytes_eq e.answer (answer_words (answer s e.event)) ≡ true → differs_from next answer place s (e ∷ es) ≡ differs_from next answer (place + 1) (next s e.event) es
unfolding differs_from
agrees next answer place s e es same = rw same refl

-- or another one
differs : {S : Type 0} (next : S → Event → S) (answer : S → Event → Answer) (place : ℕ) (s : S) (e : Entry) (es : List Entry) →
    bytes_eq e.answer (answer_words (answer s e.event)) ≡ false → differs_from next answer place s (e ∷ es) ≡ Some place
unfolding differs_from
differs next answer place s e es other = rw other refl

runs_on : {S : Type 0} (next : S → Event → S) (s : S) (e : Entry) (es : List Entry) → run_to next s (e ∷ es) ≡ run_to next (next s e.event) es
unfolding run_to
runs_on next s e es = refl

none_behind : {S : Type 0} (next : S → Event → S) (answer : S → Event → Answer) (place : ℕ) (s : S) → differs_from next answer place s [] ≡ None
unfolding differs_from
none_behind next answer place s = refl

run_over : {S : Type 0} (next : S → Event → S) (s : S) → run_to next s [] ≡ s
unfolding run_to
run_over next s = refl

pub first_is : (rest : List Entry) (e : Entry) (es : List Entry) → Some (e, es) ≡ first_of rest → rest ≡ e ∷ es
first_is [] e es is = absurd (cc)
first_is (f ∷ fs) e es is =
    let same : (e, es) ≡ (f, fs) = cc in
    ap (λ (p : Entry × List Entry). p.0 ∷ p.1) (sym same)

pub first_none : (rest : List Entry) → None ≡ first_of rest → rest ≡ []
first_none [] is = refl
first_none (f ∷ fs) is = absurd (cc)

pub led_start : {C S : Type 0} (next : S → Event → S) (answer : S → Event → Answer) (stands : C → S → Type 0) (core : C) (s : S) (all : List Entry) →
    stands core s → Led next answer stands core s all 0 all
led_start next answer stands core s all here = record { state = s; now = here; differs = refl; run = refl }

pub led_step : {C S : Type 0} (next : S → Event → S) (answer : S → Event → Answer) (stands : C → S → Type 0) (core core' : C) (s : S) (all : List Entry)
    (place : ℕ) (rest : List Entry) (e : Entry) (es : List Entry) → rest ≡ e ∷ es → Led next answer stands core s all place rest →
    ((t : S) → stands core t → true ≡ bytes_eq e.answer (answer_words (answer t e.event))) → ((t : S) → stands core t → stands core' (next t e.event)) →
    Led next answer stands core' s all (place + 1) es
led_step next answer stands core core' s all place rest e es is led same moves = record {
  state = next led.state e.event;
  now = moves led.state led.now;
  differs =
      led.differs ∙ ap (differs_from next answer place led.state) is ∙ agrees next answer place led.state e es (sym (same led.state led.now));
  run = led.run ∙ ap (run_to next led.state) is ∙ runs_on next led.state e es;
}

pub led_differs : {C S : Type 0} (next : S → Event → S) (answer : S → Event → Answer) (stands : C → S → Type 0) (core : C) (s : S) (all : List Entry)
    (place : ℕ) (rest : List Entry) (e : Entry) (es : List Entry) → rest ≡ e ∷ es → Led next answer stands core s all place rest →
    ((t : S) → stands core t → false ≡ bytes_eq e.answer (answer_words (answer t e.event))) → Some place ≡ differs_from next answer 0 s all
led_differs next answer stands core s all place rest e es is led other =
    sym (led.differs ∙ ap (differs_from next answer place led.state) is ∙ differs next answer place led.state e es (sym (other led.state led.now)))

pub led_none : {C S : Type 0} (next : S → Event → S) (answer : S → Event → Answer) (stands : C → S → Type 0) (core : C) (s : S) (all : List Entry)
    (place : ℕ) (rest : List Entry) → rest ≡ [] → Led next answer stands core s all place rest → None ≡ differs_from next answer 0 s all
led_none next answer stands core s all place rest is led =
    sym (led.differs ∙ ap (differs_from next answer place led.state) is ∙ none_behind next answer place led.state)

pub led_end : {C S : Type 0} (next : S → Event → S) (answer : S → Event → Answer) (stands : C → S → Type 0) (core : C) (s : S) (all : List Entry)
    (place : ℕ) (rest : List Entry) → rest ≡ [] → Led next answer stands core s all place rest → stands core (run_to next s all)
led_end next answer stands core s all place rest is led =
    subst (stands core) (sym (led.run ∙ ap (run_to next led.state) is ∙ run_over next led.state)) led.now

-- what is told of a rerun
pub tells_place : (first count place : ℕ) (rows text : List ℕ) (found : Option ℕ) → Some place ≡ found → text ≡ differs_text (first + place) →
    (3, text) ≡ told_by first count rows found
tells_place first count place rows text found is same = ap (λ (t : List ℕ). (3, t)) same ∙ ap (told_by first count rows) is

pub tells_rows : (first count : ℕ) (rows text : List ℕ) (found : Option ℕ) → None ≡ found → text ≡ agrees_text count rows → (0, text) ≡ told_by first count rows found
tells_rows first count rows text found is same = ap (λ (t : List ℕ). (0, t)) same ∙ ap (told_by first count rows) is
