use Rattle.std.proofs.Common.{arith}
use Rattle.std.proofs.lemmas.Grind.{common_steps}
use Rattle.lat_text.proofs.HexWritten.{encode_with-++, encode_none, byte_encoded}
use Rattle.lat_text.proofs.address.address_onto.Goals as goal

pub loop-byte-init : goal.loop-byte-init
loop-byte-init c = grind (arith, common_steps, encode_none)

pub loop-byte-preserved : goal.loop-byte-preserved
loop-byte-preserved c = grind (arith, common_steps, encode_with-++, byte_encoded)
