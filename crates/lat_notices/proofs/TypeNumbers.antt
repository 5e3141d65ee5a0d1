-- The types of notices, and their numbers.
use Rattle.std.proofs.Common.{◌≡◌, ℕ, Some, refl, arith}
use Rattle.std.proofs.lemmas.Bool.Decides.{nat_tests}
use Rattle.lat_notices.specs.declared.kind.NoticeKind.{NoticeKind}
use Rattle.lat_notices.specs.declared.kind.NoticeKind.TheVariants.{Announcement, Command, Status, Solicit, Response}
use Rattle.lat_notices.specs.Kinds.{bits_of, kind_of}

-- the number of a type stands for that type
pub kind_back : (k : NoticeKind) → kind_of (bits_of k) ≡ Some k
kind_back Announcement = refl
kind_back Command = refl
kind_back Status = refl
kind_back Solicit = refl
kind_back Response = refl

-- and no other number does
pub kind_bits : (bits : ℕ) (k : NoticeKind) → kind_of bits ≡ Some k → bits ≡ bits_of k
kind_bits bits k is = grind (arith, nat_tests)
