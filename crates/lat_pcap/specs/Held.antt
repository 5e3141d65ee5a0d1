-- What a whole file holds.
use Rattle.std.specs.Prelude.{ℕ, zero, suc, ◌+◌, List, [], ◌∷◌, ◌++◌, length, Result, Ok, Err, Option, Some, None, ◌==◌, if◌then◌else◌}
use Rattle.lat_pcap.specs.declared.fault.Wrong.{Wrong}
use Rattle.lat_pcap.specs.declared.frame.Frame.{Frame}
use Rattle.lat_pcap.specs.declared.contents.Contents.{Contents}
use Rattle.lat_pcap.specs.declared.head.Head.{Head}
use Rattle.lat_pcap.specs.Texts.{frame_in}
use Rattle.lat_pcap.specs.Reading.{head_at, record_at}

-- frames of the type 60-04, how many others, and what is wrong
abbrev pub contents : List Frame → ℕ → Option Wrong → Contents
contents frames others wrong = record { frames = frames; others = others; wrong = wrong }

-- nothing was read
abbrev pub empty : Option Wrong → Contents
empty wrong = contents [] 0 wrong

-- what one more record holds, behind and in front of what was read
abbrev pub added : Contents → Option Frame → Contents
added c (Some f) = contents (c.frames ++ f ∷ []) c.others c.wrong
added c None = contents c.frames (c.others + 1) c.wrong

abbrev pub in_front : Option Frame → Contents → Contents
in_front (Some f) c = contents (f ∷ c.frames) c.others c.wrong
in_front None c = contents c.frames (c.others + 1) c.wrong

-- reading ends at what is wrong, and goes on behind what is right
abbrev pub goes_on : {A : Type 0} → Result A Wrong → (A → Contents) → Contents
goes_on (Ok x) more = more x
goes_on (Err w) more = empty (Some w)

-- at most so many records; the reader allows more than there are bytes
unfoldable pub records_at : ℕ → Head → ℕ → List ℕ → Contents
records_at zero h place bytes = empty None
records_at (suc most) h place bytes =
    if length bytes == 0 then empty None
    else goes_on (record_at h place bytes) (λ x. in_front (frame_in h.precision x.0) (records_at most h x.1 x.2))

unfoldable pub contents_of : List ℕ → Contents
contents_of bytes = goes_on (head_at bytes) (λ x. records_at (length bytes + 1) x.0 x.1 x.2)
