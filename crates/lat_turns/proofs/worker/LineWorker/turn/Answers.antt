use Rattle.lat_turns.proofs.Going.{went_further}
use Rattle.lat_turns.proofs.Rising.{rose_further, rose_held}
use Rattle.lat_turns.proofs.worker.LineWorker.turn.Goals as goal

pub returns-clause-went : goal.returns-clause-went
returns-clause-went g c =
    let bytes = c.hold-held.new.share.bytes in
    went_further c.args.self.now.desk c.hold-held.new.desk c.settle-done.new.desk c.args.self.now.share.bytes bytes bytes c.hold-held.ensures.went (c.settle-done.ensures.went bytes)

pub returns-clause-rose : goal.returns-clause-rose
returns-clause-rose g c =
    let first = c.args.self.now in
    let events = c.hold-held.new.share.events in
    rose_further first.desk c.hold-held.new.desk c.settle-done.new.desk first.share.events events events
    (rose_held c.hold-held.result first.desk c.hold-held.new.desk first.share.events events c.hold-held.ensures.turns) (c.settle-done.ensures.rose events)

pub returns-clause-turned : goal.returns-clause-turned
returns-clause-turned g c = record {
  held = c.hold-held.result;
  desk = c.hold-held.new.desk;
  turns = c.hold-held.ensures.turns;
  may = c.hold-held.ensures.act;
  settled = c.settle-done.ensures.acted;
  ended = c.settle-done.ensures.ended;
}
