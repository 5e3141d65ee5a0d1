-- The texts of a file, and what a record holds.
use Rattle.std.specs.Prelude.{ℕ, ◌*◌, ◌^◌, ◌<◌, ◌≤◌, Bool, ◌&&◌, ◌==◌, nat_le, List, ◌∷◌, ◌++◌, length, take, drop, get_or, Option, Some, None, if◌then◌else◌}
use Rattle.std.specs.Int.{Width, w16, w32, to_le_bytes, to_be_bytes}
use Rattle.lat_pcap.specs.declared.frame.Frame.{Frame}
use Rattle.lat_pcap.specs.declared.head.Order.{Order}
use Rattle.lat_pcap.specs.declared.head.Order.TheVariants.{Little, Big}
use Rattle.lat_pcap.specs.declared.head.Precision.{Precision}
use Rattle.lat_pcap.specs.declared.head.Precision.TheVariants.{Micro, Nano}
use Rattle.lat_pcap.specs.declared.head.Head.{Head}

-- a number, low byte first or high byte first
abbrev pub number : Width → Order → ℕ → List ℕ
number w Little n = to_le_bytes w n
number w Big n = to_be_bytes w n

abbrev pub two : Order → ℕ → List ℕ
two order n = number w16 order n

abbrev pub four : Order → ℕ → List ℕ
four order n = number w32 order n

-- the number that tells what fractions are counted in: a1b2c3d4, a1b23c4d
abbrev pub magic : Precision → ℕ
magic Micro = 2712847316
magic Nano = 2712812621

-- how many fractions a second has
abbrev pub unit : Precision → ℕ
unit Micro = 1000000
unit Nano = 1000000000

abbrev pub nanos : Precision → ℕ → ℕ
nanos Micro n = n * 1000
nanos Nano n = n

-- what stands in the header and says nothing about the records
pub record Rest : Type 0 where
  pub zone : ℕ
  pub accuracy : ℕ
  pub snap : ℕ

pub record IsRest (r : Rest) : Type 0 where
  pub zone : r.zone < 2 ^ 32
  pub accuracy : r.accuracy < 2 ^ 32
  pub snap : r.snap < 2 ^ 32

-- the header: magic, version 2.4, zone, accuracy, snap length, link type Ethernet
abbrev pub head_text : Head → Rest → List ℕ
head_text h r =
    four h.order (magic h.precision) ++ (two h.order 2 ++ (two h.order 4
    ++ (four h.order r.zone ++ (four h.order r.accuracy ++ (four h.order r.snap ++ four h.order 1)))))

-- a record: when it was captured, how many bytes the frame had, and those that are included
pub record Raw : Type 0 where
  pub seconds : ℕ
  pub fraction : ℕ
  pub whole : ℕ
  pub held : List ℕ

abbrev pub raw : ℕ → ℕ → ℕ → List ℕ → Raw
raw seconds fraction whole held = record { seconds = seconds; fraction = fraction; whole = whole; held = held }

pub record IsRaw (p : Precision) (r : Raw) : Type 0 where
  pub seconds : r.seconds < 2 ^ 32
  pub fraction : r.fraction < unit p
  pub whole : r.whole < 2 ^ 32
  pub included : length r.held ≤ 262144

abbrev pub record_text : Order → Raw → List ℕ
record_text order r =
    four order r.seconds ++ (four order r.fraction ++ (four order (length r.held) ++ (four order r.whole ++ r.held)))

-- a frame of the type 60-04: destination, source, type, payload
abbrev pub frame_text : Frame → List ℕ
frame_text f = f.to.0 ++ (f.from.0 ++ (96 ∷ 4 ∷ f.payload))

abbrev pub is_ours : List ℕ → Bool
is_ours held = nat_le 14 (length held) && (get_or held 12 0 == 96 && get_or held 13 0 == 4)

-- the frame of the type 60-04 that a record holds, if it holds one
abbrev pub frame_in : Precision → Raw → Option Frame
frame_in p r =
    if is_ours r.held
    then Some (record { seconds = r.seconds; nanos = nanos p r.fraction; to = record { 0 = take 6 r.held }; from = record { 0 = take 6 (drop 6 r.held) }; payload = drop 14 r.held })
    else None
