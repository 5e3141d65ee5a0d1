-- The types of slots, and their numbers.
use Rattle.std.proofs.Common.{◌≡◌, ℕ, Some, refl, arith}
use Rattle.std.proofs.lemmas.Bool.Decides.{nat_tests}
use Rattle.lat_slots.specs.declared.kind.SlotKind.{SlotKind}
use Rattle.lat_slots.specs.declared.kind.SlotKind.TheVariants.{DataA, Start, DataB, Attention, Reject, Stop}
use Rattle.lat_slots.specs.Kinds.{bits_of, kind_of}

-- the number of a type stands for that type
pub kind_back : (k : SlotKind) → kind_of (bits_of k) ≡ Some k
kind_back DataA = refl
kind_back Start = refl
kind_back DataB = refl
kind_back Attention = refl
kind_back Reject = refl
kind_back Stop = refl

-- and no other number does
pub kind_bits : (bits : ℕ) (k : SlotKind) → kind_of bits ≡ Some k → bits_of k ≡ bits
kind_bits bits k is = grind (arith, nat_tests)
