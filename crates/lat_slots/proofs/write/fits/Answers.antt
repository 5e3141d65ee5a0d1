use Rattle.std.proofs.Common.{arith}
use Rattle.std.proofs.lemmas.Grind.{common_steps}
use Rattle.lat_slots.proofs.write.fits.Goals as goal

pub returns-in-Start : goal.returns-in-Start
returns-in-Start c = grind (arith, common_steps)
