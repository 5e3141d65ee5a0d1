use Rattle.std.proofs.Common.{ap, sym}
use Rattle.lat_schedule.specs.declared.event.WorldEvent.TheVariants.{Local, Deliver, Inject}
use Rattle.lat_replay.proofs.Stepping.{goes_as, refused_as}
use Rattle.lat_replay.proofs.world.World.step.Goals as goal

pub returns-in-Local-clause-stands : goal.returns-in-Local-clause-stands
returns-in-Local-clause-stands g c = goes_as c.args.self.now c.local.new.self c.local.result c.args.event.now (Local c.in-Local.server c.in-Local.event) c.in-Local.is c.local.ensures.stands

pub returns-in-Local-clause-refused : goal.returns-in-Local-clause-refused
returns-in-Local-clause-refused g c = refused_as c.args.self.now c.local.result c.args.event.now (Local c.in-Local.server c.in-Local.event) c.in-Local.is c.local.ensures.refused

pub returns-in-Deliver-clause-stands : goal.returns-in-Deliver-clause-stands
returns-in-Deliver-clause-stands g c = goes_as c.args.self.now c.deliver.new.self c.deliver.result c.args.event.now (Deliver c.in-Deliver.index) c.in-Deliver.is c.deliver.ensures.stands

pub returns-in-Deliver-clause-refused : goal.returns-in-Deliver-clause-refused
returns-in-Deliver-clause-refused g c = refused_as c.args.self.now c.deliver.result c.args.event.now (Deliver c.in-Deliver.index) c.in-Deliver.is c.deliver.ensures.refused

pub returns-in-Inject-clause-stands : goal.returns-in-Inject-clause-stands
returns-in-Inject-clause-stands g c =
    goes_as c.args.self.now c.inject.new.self c.inject.result c.args.event.now (Inject c.in-Inject.server c.in-Inject.from c.in-Inject.payload) c.in-Inject.is
    (goes_as c.args.self.now c.inject.new.self c.inject.result (Inject c.in-Inject.server c.in-Inject.from c.in-Inject.payload) (Inject c.in-Inject.server c.in-Inject.from c.as_slice.result.now)
    (ap (λ z. Inject c.in-Inject.server c.in-Inject.from z) (sym c.as_slice.ensures)) c.inject.ensures.stands)

pub returns-in-Inject-clause-refused : goal.returns-in-Inject-clause-refused
returns-in-Inject-clause-refused g c = refused_as c.args.self.now c.inject.result c.args.event.now (Inject c.in-Inject.server c.in-Inject.from c.in-Inject.payload) c.in-Inject.is c.inject.ensures.refused
