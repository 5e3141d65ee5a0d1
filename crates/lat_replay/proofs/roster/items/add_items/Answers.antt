use Rattle.std.proofs.Common.{◌≡◌, [], arith}
use Rattle.std.proofs.lemmas.Grind.{common_steps}
use Rattle.lat_lines.specs.Events.{event_shown}
use Rattle.lat_laws.specs.tales.Items.{line_of, put_by, taken_by}
use Rattle.lat_replay.proofs.roster.Adding.{shows_same}
use Rattle.lat_replay.proofs.roster.items.add_items.Goals as goal

pub returns-in_default-clause-shows : goal.returns-in_default-clause-shows
returns-in_default-clause-shows c = λ a k q h.
    let put : put_by (event_shown c.args.event.now) a ≡ [] = grind (arith, common_steps) in
    let taken : taken_by (event_shown c.args.event.now) a ≡ [] = grind (arith, common_steps) in
    shows_same c.args.roster.now c.args.server (line_of (event_shown c.args.event.now)) (put_by (event_shown c.args.event.now) a) (taken_by (event_shown c.args.event.now) a) k put taken h
