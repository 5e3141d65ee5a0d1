use Rattle.std.proofs.Common.{ap, subst, sym, arith}
use Rattle.std.proofs.lemmas.Grind.{common_steps}
use Rattle.lat_machines.specs.world.Machines.{Does, happens}
use Rattle.lat_lines.specs.Events.{event_shown}
use Rattle.lat_wire.specs.Kept.{Kept, setups_of}
use Rattle.lat_wire.specs.Rates.{rates}
use Rattle.lat_wire.specs.Refusals.{backward, full}
use Rattle.lat_wire.specs.Stands.{Stands}
use Rattle.lat_wire.proofs.Refusing.{none_of}
use Rattle.lat_wire.proofs.Standing.{local_stands}
use Rattle.lat_wire.proofs.wire.Wire.local.Goals as goal

pub returns-clause-stands : goal.returns-clause-stands
returns-clause-stands g c = λ w s.
    subst (λ z. Stands z (happens (setups_of c.args.self.now) w (Does c.args.server (event_shown c.args.event.now) (rates (setups_of c.args.self.now) w))))
    (sym (ap (λ (z : Kept g.row.H.Denot). record z { moment = c.in_ok-moment.moment }) c.self.view_is))
    (local_stands c.args.self.now c.tell.new.self c.in_ok-moment.moment w c.args.server (event_shown c.args.event.now) c.requires c.in_ok-answer.ensures.setups (c.in_ok-answer.ensures.mirrors w) s)

pub returns-clause-refused : goal.returns-clause-refused
returns-clause-refused g c = λ w s. none_of (full w) (backward c.args.self.now.moment (event_shown c.args.event.now)) (c.in_ok-may_step.ensures.refused w s.parts) c.in_ok-moment.ensures.refused

pub returns-clause-answer : goal.returns-clause-answer
returns-clause-answer c = grind (arith, common_steps)
