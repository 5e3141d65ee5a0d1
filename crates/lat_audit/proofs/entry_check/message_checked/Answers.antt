use Rattle.std.proofs.Common.{subst, sym, length, ◌<◌, ◌≤◌}
use Rattle.std.specs.List.{AllByRecursion}
use Rattle.lat_slots.specs.declared.slot.Slot.{Slot}
use Rattle.std.specs.Prelude.{List}
use Rattle.lat_slots.specs.Layout.{IsWritable as SlotIsWritable}
use Rattle.lat_frames.specs.Written.{slots_text}
use Rattle.lat_audit.proofs.Entries.{run_message_checks, other_checks, slots_few, slots_ok, slots_room}
use Rattle.lat_audit.proofs.entry_check.message_checked.Goals as goal

pub run_checked-requires-clause-few : goal.run_checked-requires-clause-few
run_checked-requires-clause-few c =
    let P : List Slot → Type 0 = λ ss. length ss < 256 in subst P (sym c.slots_of.ensures) (slots_few c.args.message.now c.requires.ok)

pub run_checked-requires-clause-ok : goal.run_checked-requires-clause-ok
run_checked-requires-clause-ok c = subst (AllByRecursion SlotIsWritable) (sym c.slots_of.ensures) (slots_ok c.args.message.now c.requires.ok)

pub run_checked-requires-clause-room : goal.run_checked-requires-clause-room
run_checked-requires-clause-room c =
    let P : List Slot → Type 0 = λ ss. length (slots_text ss) ≤ 1500 in subst P (sym c.slots_of.ensures) (slots_room c.args.message.now c.requires.ok)

pub returns-in-Some-clause-answer : goal.returns-in-Some-clause-answer
returns-in-Some-clause-answer c =
    run_message_checks c.run_checked.result c.args.checker.now c.run_checked.new.checker c.args.by_master c.args.message.now _ c.slots_of.result.now
    c.in-Some.ensures c.slots_of.ensures c.run_checked.ensures.answer

pub returns-in-None-clause-answer : goal.returns-in-None-clause-answer
returns-in-None-clause-answer c = other_checks c.args.checker.now c.args.by_master c.args.message.now c.in-None.ensures
