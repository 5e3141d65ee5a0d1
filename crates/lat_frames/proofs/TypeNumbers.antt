-- The types of circuit messages, and their numbers.
use Rattle.std.proofs.Common.{◌≡◌, ℕ, Some, refl, arith}
use Rattle.std.proofs.lemmas.Bool.Decides.{nat_tests}
use Rattle.lat_frames.specs.declared.kind.MessageKind.{MessageKind}
use Rattle.lat_frames.specs.declared.kind.MessageKind.TheVariants.{Run, Start, Stop, WideRun}
use Rattle.lat_frames.specs.Kinds.{bits_of, kind_of}

-- the number of a type stands for that type
pub kind_back : (k : MessageKind) → kind_of (bits_of k) ≡ Some k
kind_back Run = refl
kind_back Start = refl
kind_back Stop = refl
kind_back WideRun = refl

-- and no other number does
pub kind_bits : (bits : ℕ) (k : MessageKind) → kind_of bits ≡ Some k → bits ≡ bits_of k
kind_bits bits k is = grind (arith, nat_tests)
