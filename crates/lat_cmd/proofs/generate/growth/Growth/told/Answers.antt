use Rattle.std.proofs.Common.{Ok, Err, ap, refl, add-one}
use Rattle.lat_cmd.specs.generate.Grown.{setups}
use Rattle.lat_replay.proofs.Playing.{refused_so, goes_on, stays_so}
use Rattle.lat_cmd.specs.generate.Growths.{StandsFor}
use Rattle.lat_cmd.proofs.generate.Growing.{made, unmade, refused_for}
use Rattle.lat_cmd.proofs.generate.growth.Growth.told.Goals as goal

pub returns-in_ok-line_onto-in-Ok-clause-shows : goal.returns-in_ok-line_onto-in-Ok-clause-shows
unfolding StandsFor
returns-in_ok-line_onto-in-Ok-clause-shows g c = λ h s.
    made c.args.self.now _ c.args.event.now h
    (record { setups = c.in-Ok.ensures.setups; service = refl; writes = refl; generator = refl })
    (add-one c.args.self.now.events)
    c.in_ok-line_onto-in-Ok.ensures
    (refused_so {A = Unit {0}} c.args.self.now.world setups c.args.event.now (Ok tt) s.setups c.in-Ok.ensures.refused h.state s.world)
    (goes_on c.args.self.now.world c.step.new.self setups c.args.event.now s.setups c.in-Ok.ensures.stands c.in-Ok.ensures.moment h.state s.world)
    s

pub returns-in_default-clause-shows : goal.returns-in_default-clause-shows
unfolding StandsFor
returns-in_default-clause-shows g c = λ h s.
    unmade c.args.self.now _ c.args.event.now h c.in-Err.fault
    (record { setups = c.in-Err.ensures.setups; service = refl; writes = refl; generator = refl })
    refl refl
    (refused_for (Unit {0}) c.in-Err.fault _ c.in_default.not-Memory
    (refused_so {A = Unit {0}} c.args.self.now.world setups c.args.event.now (Err c.in-Err.fault) s.setups c.in-Err.ensures.refused h.state s.world))
    (stays_so c.args.self.now.world c.step.new.self c.in-Err.ensures.err_stands (ap (λ z. z.moment) c.in-Err.ensures.err) h.state s.world)
    s
