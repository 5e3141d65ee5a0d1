use Rattle.std.proofs.Common.{sym, ap, subst, ◌∙◌}
use Rattle.std.specs.Prelude.{IsSome}
use Rattle.lat_mind.specs.Kinds.{is_calling}
use Rattle.lat_turns.specs.Doors.{DoorView}
use Rattle.lat_turns.proofs.Going.{went_further}
use Rattle.lat_turns.proofs.Rising.{rose_further}
use Rattle.lat_turns.proofs.worker.LineWorker.work.Goals as goal

pub loop-preserved : goal.loop-preserved
loop-preserved g c =
    let first = c.args.self.now in
    let old = c.loop.self in
    let new = c.turn.new.self in
    let so_far = c.loop.invariant in
    let turn = c.turn.ensures in
    let P : DoorView → Type 0 = λ d. IsSome d.service in
    record {
      can = tt;
      ends = tt;
      seat = turn.seat.0 ∙ so_far.seat;
      parts = turn.seat.1 ∙ so_far.parts;
      door = turn.door ∙ so_far.door;
      stays = λ stays. turn.stays (so_far.stays stays);
      calls = λ calls. subst P (sym turn.door) (so_far.calls (ap is_calling (sym turn.went.kind) ∙ calls));
      went = went_further first.desk old.desk new.desk first.share.bytes old.share.bytes new.share.bytes so_far.went turn.went;
      rose = rose_further first.desk old.desk new.desk first.share.events old.share.events new.share.events so_far.rose turn.rose;
      tied = λ tied. turn.tied (so_far.tied tied);
    }
