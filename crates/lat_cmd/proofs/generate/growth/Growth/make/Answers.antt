use Rattle.std.proofs.Common.{◌∙◌, refl}
use Rattle.lat_cmd.specs.generate.Growths.{StandsFor}
use Rattle.lat_cmd.proofs.generate.Growing.{setup_shown, opened_so}
use Rattle.lat_cmd.proofs.generate.growth.Growth.make.Goals as goal

pub returns-clause-shows : goal.returns-clause-shows
unfolding StandsFor
returns-clause-shows g c =
    opened_so _ c.args.seed
    (c.in_ok-world.ensures.setups ∙ setup_shown c.in_ok-made.made c.in_ok-made.ensures.value)
    c.in_ok-world.ensures.stands
    c.in_ok-world.ensures.moment
    c.service_of.ensures
    c.in_ok-text.ensures
    refl
    c.new.ensures
