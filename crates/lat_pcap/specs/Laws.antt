-- What holds of reading and writing together.
use Rattle.std.specs.Prelude.{◌≡◌, ℕ, ◌+◌, ◌*◌, ◌/◌, ◌%◌, ◌<◌, ◌≤◌, ◌↔◌, List, ◌++◌, length, map, get_or, Some, None, Ok}
use Rattle.std.specs.List.{flat_map, AllByRecursion}
use Rattle.lat_pcap.specs.declared.frame.Frame.{Frame}
use Rattle.lat_pcap.specs.declared.head.Order.TheVariants.{Little}
use Rattle.lat_pcap.specs.declared.head.Precision.{Precision}
use Rattle.lat_pcap.specs.declared.head.Head.{Head}
use Rattle.lat_pcap.specs.Texts.{Rest, IsRest, Raw, IsRaw, head_text, record_text, frame_text, frame_in, nanos}
use Rattle.lat_pcap.specs.Reading.{head_at, record_at}
use Rattle.lat_pcap.specs.Held.{contents, contents_of}
use Rattle.lat_pcap.specs.Written.{written_head, written_raw}

-- each is a byte
abbrev pub AreBytes : List ℕ → Type 0
AreBytes bytes = (i : ℕ) → get_or bytes i 0 < 256

abbrev pub HeadsAreRead : Type 0
HeadsAreRead = (h : Head) (r : Rest) (behind : List ℕ) → IsRest r → head_at (head_text h r ++ behind) ≡ Ok (h, 24, behind)

-- the bytes are the header's text, and what stands behind it
pub record IsHeadOf (h : Head) (next : ℕ) (bytes behind : List ℕ) : Type 0 where
  pub rest : Rest
  pub fits : IsRest rest
  pub is : bytes ≡ head_text h rest ++ behind
  pub next_is : next ≡ 24

abbrev pub HeadsAreTexts : Type 0
HeadsAreTexts = (h : Head) (next : ℕ) (bytes behind : List ℕ) → AreBytes bytes → head_at bytes ≡ Ok (h, next, behind) → IsHeadOf h next bytes behind

abbrev pub RecordsAreRead : Type 0
RecordsAreRead =
    (h : Head) (r : Raw) (place : ℕ) (behind : List ℕ) → IsRaw h.precision r
    → record_at h place (record_text h.order r ++ behind) ≡ Ok (r, place + 16 + length r.held, behind)

-- the bytes are the record's text, and what stands behind it
pub record IsRecordOf (h : Head) (r : Raw) (place next : ℕ) (bytes behind : List ℕ) : Type 0 where
  pub fits : IsRaw h.precision r
  pub is : bytes ≡ record_text h.order r ++ behind
  pub next_is : next ≡ place + 16 + length r.held

abbrev pub RecordsAreTexts : Type 0
RecordsAreTexts =
    (h : Head) (place next : ℕ) (r : Raw) (bytes behind : List ℕ) → AreBytes bytes → record_at h place bytes ≡ Ok (r, next, behind)
    → IsRecordOf h r place next bytes behind

-- the record was captured at the frame's moment, and what is included is the frame's text
pub record IsFrameOf (p : Precision) (r : Raw) (f : Frame) : Type 0 where
  pub seconds : f.seconds ≡ r.seconds
  pub nanos_are : f.nanos ≡ nanos p r.fraction
  pub to : length f.to.0 ≡ 6
  pub from : length f.from.0 ≡ 6
  pub is : r.held ≡ frame_text f

abbrev pub FramesAreTexts : Type 0
FramesAreTexts = (p : Precision) (r : Raw) (f : Frame) → (frame_in p r ≡ Some f) ↔ IsFrameOf p r f

-- a frame to be written: its moment in microseconds, destination, source and payload
pub record Shot : Type 0 where
  pub moment : ℕ
  pub to : List ℕ
  pub from : List ℕ
  pub payload : List ℕ

-- what can be written
pub record IsShot (s : Shot) : Type 0 where
  pub moment : s.moment < 4294967296000000
  pub to : length s.to ≡ 6
  pub from : length s.from ≡ 6
  pub payload : length s.payload ≤ 65521

abbrev pub shot_raw : Shot → Raw
shot_raw s = written_raw s.moment s.to s.from s.payload

abbrev pub shot_text : Shot → List ℕ
shot_text s = record_text Little (shot_raw s)

abbrev pub shot_frame : Shot → Frame
shot_frame s = record { seconds = s.moment / 1000000; nanos = (s.moment % 1000000) * 1000; to = record { 0 = s.to }; from = record { 0 = s.from }; payload = s.payload }

abbrev pub WrittenIsRead : Type 0
WrittenIsRead = (ss : List Shot) → AllByRecursion IsShot ss → contents_of (written_head ++ flat_map shot_text ss) ≡ contents (map shot_frame ss) 0 None
