use Rattle.std.proofs.Common.{rules, ◌∙◌}
use Rattle.std.proofs.lemmas.Iterator.{YieldsList-from_slice}
use Rattle.std.proofs.lemmas.Iterator.Search.{find_from_yields_List}
use Rattle.lat_turns.specs.Doors.{serves}
use Rattle.lat_turns.proofs.door.device_of.Goals as goal

pub returns : goal.returns
returns c = c.copied.ensures ∙ find_from_yields_List (serves c.args.service.now) _ _ _ c.find.ensures.ran (YieldsList-from_slice c.args.devices.now cc) (λ x b q k. search rules)
