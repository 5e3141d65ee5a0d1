use Rattle.std.proofs.Common.{◌∙◌, subst, sym}
use Rattle.lat_machines.specs.values.Addresses.{address}
use Rattle.lat_machines.specs.world.Machines.{tell}
use Rattle.lat_payload.specs.Reads.{reading_of}
use Rattle.lat_lines.specs.Events.{event_shown}
use Rattle.lat_wire.specs.Kept.{setups_of}
use Rattle.lat_wire.specs.Rates.{rates}
use Rattle.lat_wire.specs.Stands.{Mirrors}
use Rattle.lat_wire.proofs.Standing.{foreign_stands}
use Rattle.lat_wire.proofs.wire.Wire.inject.Goals as goal

pub returns-clause-stands : goal.returns-clause-stands
returns-clause-stands g c = λ w s.
    foreign_stands c.args.self.now c.tell.new.self w c.args.server (address c.args.from.0) c.args.self.now.moment (reading_of c.args.payload.now) (sym c.is_own.ensures ∙ c.if-is_own.false) c.in_ok-tell.ensures.setups
    (λ m r. subst (λ e. Mirrors c.tell.new.self (tell (setups_of c.args.self.now) w c.args.server (event_shown e) (rates (setups_of c.args.self.now) w))) c.in_ok-event.ensures (c.in_ok-tell.ensures.mirrors w m r))
    s
