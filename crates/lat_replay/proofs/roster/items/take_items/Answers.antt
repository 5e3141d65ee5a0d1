use Rattle.std.proofs.Common.{◌≡◌, [], refl, arith}
use Rattle.std.proofs.lemmas.Grind.{common_steps}
use Rattle.lat_laws.specs.tales.Items.{taken_items}
use Rattle.lat_replay.proofs.roster.Adding.{shows_same}
use Rattle.lat_replay.proofs.roster.items.take_items.Goals as goal

pub returns-in_default-clause-shows : goal.returns-in_default-clause-shows
returns-in_default-clause-shows c = λ a k q h.
    let none : taken_items a ≡ [] = grind (arith, common_steps) in
    shows_same c.args.roster.now c.args.server c.args.line [] (taken_items a) k refl none h
