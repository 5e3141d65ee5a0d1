use Rattle.std.proofs.Common.{arith}
use Rattle.std.proofs.lemmas.Grind.{common_steps}
use Rattle.lat_text.proofs.HexWritten.{encode_with-++, encode_none, hex_some}
use Rattle.lat_text.proofs.digits.hex_onto.Goals as goal

pub loop-piece-preserved : goal.loop-piece-preserved
loop-piece-preserved c = grind (arith, common_steps, encode_with-++)

pub returns : goal.returns
returns c = grind (arith, common_steps, encode_none, hex_some)
