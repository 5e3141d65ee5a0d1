use Rattle.lat_laws.specs.tales.Keeping.{with_items}
use Rattle.lat_replay.proofs.roster.Rows.{shows_changed}
use Rattle.lat_replay.proofs.roster.changes.add_at.Goals as goal

pub returns-then-place-gt0 : goal.returns-then-place-gt0
returns-then-place-gt0 c = λ rs ps ts p q h. shows_changed c.args.list.now rs c.args.place c.index-list-place.result c.adds.new.self (with_items c.args.server ps ts) c.if-place-gt0.true c.requires.place h (λ r. c.adds.ensures r ps ts p q)
