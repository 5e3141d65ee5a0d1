-- What a file is, and what is read of it.
use Rattle.std.specs.Prelude.{◌≡◌, ℕ, ◌+◌, ◌<◌, ◌⊎◌, List, [], ◌∷◌, ◌++◌, length, Option, Some, None, Err}
use Rattle.std.specs.List.{flat_map, AllByRecursion}
use Rattle.lat_pcap.specs.declared.fault.Wrong.{Wrong}
use Rattle.lat_pcap.specs.declared.contents.Contents.{Contents}
use Rattle.lat_pcap.specs.declared.head.Precision.{Precision}
use Rattle.lat_pcap.specs.declared.head.Head.{Head}
use Rattle.lat_pcap.specs.Texts.{Rest, IsRest, Raw, IsRaw, head_text, record_text, frame_in}
use Rattle.lat_pcap.specs.Reading.{head_at, record_at}
use Rattle.lat_pcap.specs.Held.{empty, in_front}

-- what these records hold, in front of what is wrong behind them, if anything is
abbrev pub held : Precision → List Raw → Option Wrong → Contents
held p [] wrong = empty wrong
held p (r ∷ rs) wrong = in_front (frame_in p r) (held p rs wrong)

abbrev pub records_text : Head → List Raw → List ℕ
records_text h rs = flat_map (record_text h.order) rs

-- The bytes are a file: a header and records, and nothing else; and this is what they hold.
pub record IsFile (bytes : List ℕ) (c : Contents) : Type 0 where
  pub head : Head
  pub rest : Rest
  pub rest_fits : IsRest rest
  pub records : List Raw
  pub records_fit : AllByRecursion (IsRaw head.precision) records
  pub is : bytes ≡ head_text head rest ++ records_text head records
  pub holds : c ≡ held head.precision records None

-- The bytes begin as a file: a header, records, and behind them something that is no record, in which this is the
-- first thing that is wrong; and this is what stands before it.
pub record IsBegun (bytes : List ℕ) (c : Contents) : Type 0 where
  pub head : Head
  pub rest : Rest
  pub rest_fits : IsRest rest
  pub records : List Raw
  pub records_fit : AllByRecursion (IsRaw head.precision) records
  pub tail : List ℕ
  pub is : bytes ≡ head_text head rest ++ (records_text head records ++ tail)
  pub some : 0 < length tail
  pub wrong : Wrong
  pub refused : record_at head (24 + length (records_text head records)) tail ≡ Err wrong
  pub holds : c ≡ held head.precision records (Some wrong)

-- The bytes have no header, in which this is the first thing that is wrong; nothing is read.
pub record IsHeadless (bytes : List ℕ) (c : Contents) : Type 0 where
  pub wrong : Wrong
  pub refused : head_at bytes ≡ Err wrong
  pub holds : c ≡ empty (Some wrong)

abbrev pub IsRead : List ℕ → Contents → Type 0
IsRead bytes c = IsFile bytes c ⊎ (IsBegun bytes c ⊎ IsHeadless bytes c)
