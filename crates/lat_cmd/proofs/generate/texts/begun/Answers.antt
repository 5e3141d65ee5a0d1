use Rattle.lat_cmd.proofs.generate.Growing.{begun_so}
use Rattle.lat_cmd.proofs.generate.texts.begun.Goals as goal

pub returns-clause-shows : goal.returns-clause-shows
returns-clause-shows g c = begun_so c.in_ok-growth.growth c.told.new.self c.told-2.new.self c.args.seed c.in_ok-growth.ensures.shows c.in_ok-told.ensures.shows c.in_ok-told-2.ensures.shows
