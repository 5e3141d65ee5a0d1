use Rattle.std.proofs.Common.{ap, ◌∙◌, refl}
use Rattle.lat_cmd.specs.generate.Turns.{turn}
use Rattle.lat_cmd.specs.generate.Growths.{StandsFor}
use Rattle.lat_cmd.proofs.generate.Growing.{turned_so, on_ok}
use Rattle.lat_cmd.proofs.generate.Playing.{turn_plays}
use Rattle.lat_cmd.proofs.generate.growth.Growth.turn.Goals as goal

pub told-requires-clause-playable : goal.told-requires-clause-playable
told-requires-clause-playable g c = turn_plays c.args.self.now.service c.frames-frames.result c.args.self.now.generator c.turn.new.self c.in_ok-event.event c.in_ok-event.ensures.value

pub returns-clause-shows : goal.returns-clause-shows
unfolding StandsFor
returns-clause-shows g c = on_ok c.told.result c.told.ensures.shows (λ tells h s.
    turned_so c.args.self.now _ c.told.new.self h c.frames-frames.result c.in_ok-event.event refl
    (c.in_ok-event.ensures.value ∙ ap (λ v. turn v c.frames-frames.result c.args.self.now.generator) c.requires.service)
    (c.frames-frames.ensures h.state.machines s.world.machines)
    tells s)
