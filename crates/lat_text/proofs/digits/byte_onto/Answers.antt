use Rattle.std.proofs.Common.{arith}
use Rattle.std.proofs.lemmas.Grind.{common_steps}
use Rattle.lat_text.proofs.HexWritten.{byte_written}
use Rattle.lat_text.proofs.digits.byte_onto.Goals as goal

pub returns : goal.returns
returns c = grind (arith, common_steps, byte_written)
