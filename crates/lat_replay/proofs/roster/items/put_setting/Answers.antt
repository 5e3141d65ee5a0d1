use Rattle.std.proofs.Common.{◌≡◌, [], refl, arith}
use Rattle.std.proofs.lemmas.Grind.{common_steps}
use Rattle.lat_laws.specs.tales.Items.{accepted_setting}
use Rattle.lat_replay.proofs.roster.Adding.{shows_same}
use Rattle.lat_replay.proofs.roster.items.put_setting.Goals as goal

pub returns-else-matches-clause-shows : goal.returns-else-matches-clause-shows
returns-else-matches-clause-shows c = λ a k q h.
    let none : accepted_setting c.args.setting.now a ≡ [] = grind (arith, common_steps) in
    shows_same c.args.roster.now c.args.server c.args.line (accepted_setting c.args.setting.now a) [] k none refl h
