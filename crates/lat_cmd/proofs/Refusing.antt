-- The last refusal among notes, and what is told of it.
use Rattle.std.proofs.Common.{◌≡◌, ℕ, suc, ◌+◌, ◌-◌, ◌<◌, ◌≤◌, true, List, [], ◌∷◌, ◌++◌, length, map, drop, get_or, drop-cons, Option, Some, None, Result}
use Rattle.std.proofs.Common.{refl, sym, ap, ◌∙◌, subst, arith}
use Rattle.std.specs.Prelude.{OnOk, option_map, codes, decimal, if◌then◌else◌}
use Rattle.std.proofs.Math.ListN.{drop_of_length-le}
use Rattle.lat_lines.specs.AnswerValues.{answer_shown}
use Rattle.lat_machines.specs.world.Machines.{Machines}
use Rattle.lat_text.specs.Line.{line}
use Rattle.lat_wire.specs.Notes.{NoteInfo, note_shown, noted_info}
use Rattle.lat_wire.specs.declared.notes.Note.{Note}
use Rattle.lat_wire.specs.declared.report.noted.Refusal.{Refusal}
use Rattle.lat_wire.specs.declared.report.noted.Refusal.TheVariants as refusals
use Rattle.lat_wire.specs.declared.report.refused.Refused.{Refused as Why}
use Rattle.lat_wire.specs.declared.report.refused.Refused.TheVariants as lines
use Rattle.lat_wire.specs.report.NoteText.{refusal_word}
use Rattle.lat_wire.specs.report.Noted.{refusal_answer}
use Rattle.lat_cmd.specs.declared.before.Before as declared
use Rattle.lat_cmd.specs.Befores.{shown, is_refusal, refusal_info, last_refusal, on_line, before_why, before_told}

-- each refusal is one
pub is_refused : (r : Refusal) → is_refusal (refusal_answer r) ≡ true
is_refused refusals.NoLine = refl
is_refused refusals.Busy = refl
is_refused refusals.NoService = refl
is_refused refusals.SessionsFull = refl
is_refused refusals.CircuitsFull = refl
is_refused refusals.IdsOut = refl
is_refused refusals.Closed = refl
is_refused refusals.Full = refl
is_refused refusals.IdUsed = refl
is_refused refusals.Halted = refl
is_refused refusals.DirectoryFull = refl
is_refused refusals.StartRefused = refl
is_refused refusals.RecordsFull = refl

-- so far: what is found is the last among the notes, where no later one is
pub one_more :
    (ns : List Note) (i : ℕ) (n d : Note) (found new : Option NoteInfo) → i < length ns → n ≡ get_or ns i d →
    new ≡ (if is_refusal (note_shown n).answer then Some (note_shown n) else found) →
    last_refusal (map note_shown ns) None ≡ last_refusal (map note_shown (drop i ns)) found →
    last_refusal (map note_shown ns) None ≡ last_refusal (map note_shown (drop (i + 1) ns)) new
unfolding last_refusal
one_more ns i n d found new lt is newer so_far =
    let one : suc i ≡ i + 1 = omega arith in
    let next : drop i ns ≡ n ∷ drop (suc i) ns = drop-cons ns i d lt ∙ ap (λ z. z ∷ drop (suc i) ns) (sym is) in
    so_far ∙ ap (λ z. last_refusal (map note_shown z) found) next ∙ ap (λ f. last_refusal (map note_shown (drop (suc i) ns)) f) (sym newer)
    ∙ ap (λ k. last_refusal (map note_shown (drop k ns)) new) one

pub all_seen :
    (ns : List Note) (i : ℕ) (found : Option NoteInfo) → length ns ≤ i →
    last_refusal (map note_shown ns) None ≡ last_refusal (map note_shown (drop i ns)) found → found ≡ last_refusal (map note_shown ns) None
unfolding last_refusal
all_seen ns i found past so_far = sym (so_far ∙ ap (λ z. last_refusal (map note_shown z) found) (drop_of_length-le ns past))

-- what is told before an event that names a frame which isn't there
pub before_found :
    (numbers : List ℕ) (m : Machines) (why : Why) (index sent : ℕ) (notes : List NoteInfo) (event : ℕ) (refusal : Refusal) (n : ℕ) →
    why ≡ lines.NoFrame index sent → notes ≡ map noted_info m.noted → Some (refusal_info (event, refusal)) ≡ last_refusal notes None →
    n ≡ get_or numbers (event - 1) 0 →
    Some (record { line = n; word = refusal_word (answer_shown (refusal_answer refusal)) }) ≡ before_why numbers m why
before_found numbers m why index sent notes event refusal n is same found at =
    ap (λ x. Some (record { line = x; word = refusal_word (answer_shown (refusal_answer refusal)) })) at
    ∙ ap (option_map (on_line numbers)) (found ∙ ap (λ xs. last_refusal xs None) same) ∙ sym (ap (before_why numbers m) is)

-- the line that is told of it
pub told_onto :
    {A E : Type 0} (r : Result A E) (b : Option declared.Before) (d : declared.Before) (old new word : List ℕ) → b ≡ Some d →
    word ≡ refusal_word (answer_shown (refusal_answer d.refusal)) →
    OnOk r (new ≡ old ++ line (codes "lat: line " ∷ decimal d.line ∷ codes ": refused before it: " ∷ word ∷ [])) →
    OnOk r (new ≡ old ++ before_told (shown b))
told_onto r b d old new word is same told =
    subst (λ (x : Option declared.Before). OnOk r (new ≡ old ++ before_told (shown x))) (sym is)
    (subst (λ z. OnOk r (new ≡ old ++ line (codes "lat: line " ∷ decimal d.line ∷ codes ": refused before it: " ∷ z ∷ []))) same told)
