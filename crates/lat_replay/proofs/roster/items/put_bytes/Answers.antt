use Rattle.std.proofs.Common.{◌≡◌, [], refl, arith}
use Rattle.std.proofs.lemmas.Grind.{common_steps}
use Rattle.lat_laws.specs.tales.Items.{accepted_bytes}
use Rattle.lat_replay.proofs.roster.Adding.{shows_same}
use Rattle.lat_replay.proofs.roster.items.put_bytes.Goals as goal

pub returns-in_default-clause-shows : goal.returns-in_default-clause-shows
returns-in_default-clause-shows c = λ a k q h.
    let none : accepted_bytes c.args.bytes.now a ≡ [] = grind (arith, common_steps) in
    shows_same c.args.roster.now c.args.server c.args.line (accepted_bytes c.args.bytes.now a) [] k none refl h
