-- What the checker answers to a RUN, as the audit has it.
use Rattle.std.proofs.Common.{◌≡◌, ℕ, ◌+◌, ◌<◌, Bool, List, length, map, ap, subst, refl, arith}
use Rattle.std.specs.List.{AllByRecursion}
use Rattle.std.specs.Prelude.{Option, Some, None, Result, Ok, Err, IfOk}
use Rattle.lat_base.specs.declared.memory.Memory.{Memory}
use Rattle.lat_model.specs.sessions.Slots.{Slot}
use Rattle.lat_slots.specs.declared.slot.Slot.{Slot as ReadSlot}
use Rattle.lat_slots.specs.Layout.{IsWritable as SlotIsWritable}
use Rattle.lat_frames.specs.Written.{slots_text}
use Rattle.lat_stream.specs.Wire.{slot_heard}
use Rattle.lat_machines.specs.values.Messages.{Head}
use Rattle.lat_machines.specs.values.Frames.{Reading}
use Rattle.lat_captures.specs.Entries.{Entry}
use Rattle.lat_captures.specs.Seen.{Both, Texts}
use Rattle.lat_captures.specs.Audit.{Place, passed, frame_of}
use Rattle.lat_captures.specs.declared.head.Title.{Title}
use Rattle.lat_captures.specs.declared.head.RunHead.{RunHead}
use Rattle.lat_captures.specs.declared.slot.SlotFacts.{SlotFacts}
use Rattle.lat_captures.specs.declared.rule.Rule.{Rule}
use Rattle.lat_captures.specs.declared.checker.Checker.{Checker}
use Rattle.lat_captures.specs.Rules.{title_shown, head_shown}
use Rattle.lat_captures.specs.Stands.{Stands}
use Rattle.lat_captures.specs.Answers.{runs_of, title_of, IsRun, AnswersRun}
use Rattle.lat_audit.specs.TextSlots.{tell, facts_in}
use Rattle.lat_audit.specs.Steps.{after_test, run_outcome, KnowsPlace, OutcomeIs, ChecksRun}
use Rattle.lat_audit.proofs.Telling.{is_run}

pub answer_outcome : (c d : Checker) (t : Title) (p : Place) (e : Entry) (wide : Bool) (h : Head) (xs : List Slot) (broken : Option Rule)
    → KnowsPlace c p → AnswersRun tell t p.seen p.texts e wide h xs d broken → (broken ≡ None → runs_of d ≡ runs_of c + 1)
    → OutcomeIs (run_outcome (title_shown t) p e wide h xs) d broken
answer_outcome c d t p e wide h xs None knows takes runs = (
  passed p (frame_of e xs takes.number takes.ack),
  ap (after_test p e xs) takes.test,
  record { stands = takes.stands; runs = omega (arith, runs refl, knows.runs) },
)
answer_outcome c d t p e wide h xs (Some rule) knows fails runs = ap (after_test p e xs) fails

-- of whatever the call answered
pub run_answers : (result : Result (Option Rule) Memory) (c d : Checker) (t : Title) (p : Place) (e : Entry) (wide : Bool) (h : Head) (xs : List Slot)
    → KnowsPlace c p → IfOk result (λ broken. AnswersRun tell t p.seen p.texts e wide h xs d broken) → IfOk result (λ broken. broken ≡ None → runs_of d ≡ runs_of c + 1)
    → IfOk result (λ broken. OutcomeIs (run_outcome (title_shown t) p e wide h xs) d broken)
run_answers (Ok broken) c d t p e wide h xs knows answer runs = answer_outcome c d t p e wide h xs broken knows answer runs
run_answers (Err memory) c d t p e wide h xs knows answer runs = tt

-- of a RUN whose slots are read, and whose text is written of them
pub run_checks : (result : Result (Option Rule) Memory) (c d : Checker) (by_master : Bool) (head : RunHead) (ss : List ReadSlot) (facts : List SlotFacts) (text : List ℕ)
    → AllByRecursion SlotIsWritable ss → length ss < 256 → facts ≡ facts_in ss → text ≡ slots_text ss
    → ((tells : List ℕ → List Slot) (asks : Bool) (b : Both) (x : Texts) (xs : List Slot) (reading : Reading) → Stands tells c b x → IsRun tells xs facts text
    → IfOk result (λ broken. AnswersRun tells (title_of c) b x (record { by_master = by_master; reading = reading; text = text }) head.wide (head_shown asks head) xs d broken))
    → IfOk result (λ broken. broken ≡ None → runs_of d ≡ runs_of c + 1)
    → ChecksRun c by_master head ss d result
run_checks result c d by_master head ss facts text ok few same is answer runs p ask r knows =
    let entry : List ℕ → Entry = λ (words : List ℕ). record { by_master = by_master; reading = r; text = words } in
    let P : List ℕ → Type 0 = λ (words : List ℕ). IfOk result (λ broken. OutcomeIs (run_outcome (title_shown (title_of c)) p (entry words) head.wide (head_shown ask head) (map slot_heard ss)) d broken) in
    subst P is
    (run_answers result c d (title_of c) p (entry text) head.wide (head_shown ask head) (map slot_heard ss) knows
    (answer tell ask p.seen p.texts (map slot_heard ss) r knows.stands (is_run ss facts text ok few same is)) runs)
