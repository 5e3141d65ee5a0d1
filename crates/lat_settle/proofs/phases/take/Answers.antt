use Rattle.std.proofs.Common.{sym, ◌∙◌}
use Rattle.lat_replay.specs.Kept.{setups_of}
use Rattle.lat_settle.proofs.Turns.{takes_none, takes_one}
use Rattle.lat_settle.proofs.phases.take.Goals as goal

pub returns-then-not-held-clause-tells : goal.returns-then-not-held-clause-tells
returns-then-not-held-clause-tells g c = λ s h. takes_none (setups_of c.args.world.now) s c.args.server c.args.line c.args.world.now (sym (c.held.ensures s.machines h.machines) ∙ c.if-not-held.true) h

pub returns-clause-tells : goal.returns-clause-tells
returns-clause-tells g c = λ s h. takes_one (setups_of c.args.world.now) s c.args.server c.args.line c.tell.result c.tell.new.world (sym (c.held.ensures s.machines h.machines) ∙ c.if-not-held.false) (c.tell.ensures.tells s h)
