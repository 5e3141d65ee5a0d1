use Rattle.std.proofs.Common.{rules}
use Rattle.lat_script.proofs.fault.refused_onto.Goals as goal

pub returns-in_ok-number_onto-in-Err-Number : goal.returns-in_ok-number_onto-in-Err-Number
returns-in_ok-number_onto-in-Err-Number c = search rules
