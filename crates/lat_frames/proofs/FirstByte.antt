-- The first byte gives back what it is made of.
use Rattle.std.proofs.Common.{◌≡◌, ℕ, ◌+◌, ◌*◌, ◌/◌, ◌%◌, ◌<◌, Bool, true, false, eqb, Some, refl, ap, ◌∙◌, arith}
use Rattle.std.proofs.lemmas.Bool.Decides.{nat_tests}
use Rattle.lat_frames.specs.declared.kind.MessageKind.{MessageKind}
use Rattle.lat_frames.specs.Kinds.{bits_of, kind_of}
use Rattle.lat_frames.specs.Heads.{bit, first_byte, is_master, asks}
use Rattle.lat_frames.proofs.TypeNumbers.{kind_back}

pub type_is : (kind : MessageKind) (master ask : Bool) → first_byte kind master ask / 4 ≡ bits_of kind
type_is kind true true = omega arith
type_is kind true false = omega arith
type_is kind false true = omega arith
type_is kind false false = omega arith

-- so it stands for its type
pub kind_is : (kind : MessageKind) (master ask : Bool) → kind_of (first_byte kind master ask / 4) ≡ Some kind
kind_is kind master ask = ap kind_of (type_is kind master ask) ∙ kind_back kind

pub master_is : (kind : MessageKind) (master ask : Bool) → is_master (first_byte kind master ask) ≡ master
master_is kind true true = let e : ((bits_of kind * 4 + 1 * 2 + 1) / 2) % 2 ≡ 1 = omega arith in rw e refl
master_is kind true false = let e : ((bits_of kind * 4 + 1 * 2 + 0) / 2) % 2 ≡ 1 = omega arith in rw e refl
master_is kind false true = let e : ((bits_of kind * 4 + 0 * 2 + 1) / 2) % 2 ≡ 0 = omega arith in rw e refl
master_is kind false false = let e : ((bits_of kind * 4 + 0 * 2 + 0) / 2) % 2 ≡ 0 = omega arith in rw e refl

pub ask_is : (kind : MessageKind) (master ask : Bool) → asks (first_byte kind master ask) ≡ ask
ask_is kind true true = let e : (bits_of kind * 4 + 1 * 2 + 1) % 2 ≡ 1 = omega arith in rw e refl
ask_is kind true false = let e : (bits_of kind * 4 + 1 * 2 + 0) % 2 ≡ 0 = omega arith in rw e refl
ask_is kind false true = let e : (bits_of kind * 4 + 0 * 2 + 1) % 2 ≡ 1 = omega arith in rw e refl
ask_is kind false false = let e : (bits_of kind * 4 + 0 * 2 + 0) % 2 ≡ 0 = omega arith in rw e refl

one_bit : (n : ℕ) (b : Bool) → n < 2 → eqb n 1 ≡ b → bit b ≡ n
one_bit n true small h = grind (arith, nat_tests)
one_bit n false small h = grind (arith, nat_tests)

-- a first byte of this type is made of its bits
pub first_is : (kind : MessageKind) (first : ℕ) → first / 4 ≡ bits_of kind → first ≡ first_byte kind (is_master first) (asks first)
first_is kind first h =
    let m : bit (is_master first) ≡ (first / 2) % 2 = one_bit ((first / 2) % 2) (is_master first) (omega arith) refl in
    let a : bit (asks first) ≡ first % 2 = one_bit (first % 2) (asks first) (omega arith) refl in
    omega (arith, m, a, h)
