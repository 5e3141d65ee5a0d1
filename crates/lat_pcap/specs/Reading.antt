-- Reading from left to right. What is read is the value with the place behind it and the bytes from there on, or the
-- first thing that is wrong.
use Rattle.std.specs.Prelude.{◌≡◌, ℕ, ◌+◌, Bool, List, length, take, drop, Result, Ok, Err, Option, Some, None, nat_lt, nat_le, ◌==◌, if◌then◌else◌}
use Rattle.std.specs.Int.{Width, w16, w32, byte_len, from_le_bytes, from_be_bytes}
use Rattle.lat_pcap.specs.declared.fault.Part.{Part}
use Rattle.lat_pcap.specs.declared.fault.Part.TheVariants.{Header, Magic, Version, LinkType, RecordHeader, Fraction, IncludedLength, Data}
use Rattle.lat_pcap.specs.declared.fault.Wrong.{Wrong}
use Rattle.lat_pcap.specs.declared.head.Order.{Order}
use Rattle.lat_pcap.specs.declared.head.Order.TheVariants.{Little, Big}
use Rattle.lat_pcap.specs.declared.head.Precision.TheVariants.{Micro, Nano}
use Rattle.lat_pcap.specs.declared.head.Head.{Head}
use Rattle.lat_pcap.specs.Texts.{Raw, raw, unit}

-- the next field is read where this one is right
infixl 10 ◌>>=◌
abbrev pub ◌>>=◌ : {A B : Type 0} → Result A Wrong → (A → Result B Wrong) → Result B Wrong
(Ok x) >>= f = f x
(Err e) >>= f = Err e

-- what a call answered, seen by view, is what reading gives
abbrev pub Gives : {X Y : Type 0} → (X → Y) → Result X Wrong → Result Y Wrong → Type 0
Gives view (Ok x) read = read ≡ Ok (view x)
Gives view (Err e) read = read ≡ Err e

abbrev pub wrong : {A : Type 0} → Part → ℕ → Result A Wrong
wrong part at = Err (record { part = part; at = at })

abbrev pub wanted : Bool → Part → ℕ → Result (Unit {0}) Wrong
wanted holds part at = if holds then Ok tt else wrong part at

abbrev pub known : {A : Type 0} → Option A → Part → ℕ → Result A Wrong
known (Some x) part at = Ok x
known None part at = wrong part at

abbrev pub value : Width → Order → List ℕ → ℕ
value w Little bytes = from_le_bytes w bytes
value w Big bytes = from_be_bytes w bytes

-- a number; `at` is the place that is told where the bytes end before
abbrev pub number_at : Width → Order → Part → ℕ → ℕ → List ℕ → Result (ℕ × ℕ × List ℕ) Wrong
number_at w order part at place bytes =
    if nat_lt (length bytes) (byte_len w) then wrong part at else Ok (value w order (take (byte_len w) bytes), place + byte_len w, drop (byte_len w) bytes)

-- what the first four bytes stand for, high byte first: d4c3b2a1, 4d3cb2a1, a1b2c3d4, a1b23c4d
abbrev pub magic_of : ℕ → Option Head
magic_of n =
    if n == 3569595041 then Some (record { order = Little; precision = Micro })
    else if n == 1295823521 then Some (record { order = Little; precision = Nano })
    else if n == 2712847316 then Some (record { order = Big; precision = Micro })
    else if n == 2712812621 then Some (record { order = Big; precision = Nano })
    else None

unfoldable pub head_at : List ℕ → Result (Head × ℕ × List ℕ) Wrong
head_at bytes = do
  number ← number_at w32 Big Header 0 0 bytes
  h ← known (magic_of number.0) Magic 0
  major ← number_at w16 h.order Header 0 number.1 number.2
  minor ← number_at w16 h.order Header 0 major.1 major.2
  zone ← number_at w32 h.order Header 0 minor.1 minor.2
  accuracy ← number_at w32 h.order Header 0 zone.1 zone.2
  snap ← number_at w32 h.order Header 0 accuracy.1 accuracy.2
  link ← number_at w32 h.order Header 0 snap.1 snap.2
  u ← wanted (major.0 == 2) Version 4
  v ← wanted (minor.0 == 4) Version 6
  w ← wanted (link.0 == 1) LinkType 20
  Ok (h, link.1, link.2)

unfoldable pub record_at : Head → ℕ → List ℕ → Result (Raw × ℕ × List ℕ) Wrong
record_at h place bytes = do
  seconds ← number_at w32 h.order RecordHeader place place bytes
  fraction ← number_at w32 h.order RecordHeader place seconds.1 seconds.2
  count ← number_at w32 h.order RecordHeader place fraction.1 fraction.2
  whole ← number_at w32 h.order RecordHeader place count.1 count.2
  u ← wanted (nat_lt fraction.0 (unit h.precision)) Fraction seconds.1
  v ← wanted (nat_le count.0 262144) IncludedLength fraction.1
  w ← wanted (nat_le count.0 (length whole.2)) Data whole.1
  Ok (raw seconds.0 fraction.0 whole.0 (take count.0 whole.2), whole.1 + count.0, drop count.0 whole.2)
