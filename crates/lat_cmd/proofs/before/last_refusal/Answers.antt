use Rattle.std.proofs.Common.{arith, refl}
use Rattle.lat_base.specs.declared.field.Field.TheVariants.{Size}
use Rattle.lat_wire.specs.declared.report.noted.Noted.TheVariants as noteds
use Rattle.lat_cmd.proofs.Refusing.{one_more, all_seen}
use Rattle.lat_cmd.proofs.before.last_refusal.Goals as goal

pub loop-note-preserved : goal.loop-note-preserved
loop-note-preserved c =
    one_more c.args.notes.now c.loop-note.note-index _ (record { event = 0; noted = noteds.Bad (record { field = Size; at = 0 }) }) _ _
    c.loop-note-test.true refl c.newer-found.ensures c.loop-note.invariant

pub returns : goal.returns
returns c = all_seen c.args.notes.now c.loop-note.note-index _ (omega (arith, c.loop-note-test.false)) c.loop-note.invariant
