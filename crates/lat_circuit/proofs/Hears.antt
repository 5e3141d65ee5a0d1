-- What is answered to a message comes back from the machines as it was.
use Rattle.std.proofs.Common.{◌≡◌, refl}
use Rattle.lat_base.specs.declared.heard.Heard.{Heard}
use Rattle.lat_base.specs.declared.heard.Heard.TheVariants as answers
use Rattle.lat_circuit.specs.Hears.{heard_shown, heard_of}

pub heard_back : (h : Heard) → heard_of (heard_shown h) ≡ h
heard_back answers.Running = refl
heard_back (answers.Taken slots) = refl
heard_back answers.Again = refl
heard_back answers.AckOnly = refl
heard_back answers.Foreign = refl
heard_back (answers.Broke reason) = refl
heard_back (answers.Ended reason) = refl
