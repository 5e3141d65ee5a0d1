-- What is printed of a frame, and of what else a file holds.
use Rattle.std.specs.Prelude.{ℕ, ◌/◌, ◌%◌, List, [], ◌∷◌, ◌++◌, codes, decimal}
use Rattle.lat_text.specs.Line.{line}
use Rattle.lat_text.specs.AddressText.{address_text}
use Rattle.lat_show.specs.PayloadPrinted.{payload_printed}
use Rattle.lat_pcap.specs.declared.fault.Wrong.{Wrong}
use Rattle.lat_pcap.specs.declared.frame.Frame.{Frame}
use Rattle.lat_pcap.specs.PartWords.{part_word}
use Rattle.lat_dump.specs.Indented.{indented}

-- the digit of a number that counts so many
abbrev pub digit : ℕ → ℕ → List ℕ
digit worth n = decimal (n / worth % 10)

-- seconds, and microseconds as six digits behind the point
abbrev pub moment_printed : ℕ → ℕ → List ℕ
moment_printed seconds micros =
    decimal seconds ++ (codes "." ++ (digit 100000 micros ++ (digit 10000 micros ++ (digit 1000 micros
    ++ (digit 100 micros ++ (digit 10 micros ++ decimal (micros % 10)))))))

-- the line of a frame
abbrev pub heading : Frame → List ℕ
heading f = line (moment_printed f.seconds (f.nanos / 1000) ∷ codes " " ∷ address_text f.from ∷ codes " > " ∷ address_text f.to ∷ [])

-- its line, and the text of its payload
unfoldable pub frame_printed : Frame → List ℕ
frame_printed f = heading f ++ indented (payload_printed f.payload)

-- how many other frames there are
abbrev pub others_printed : ℕ → List ℕ
others_printed others = line (codes "others " ∷ decimal others ∷ [])

-- the first part that is wrong, and its place
abbrev pub wrong_printed : Wrong → List ℕ
wrong_printed wrong = line (codes "bad " ∷ part_word wrong.part ∷ codes " " ∷ decimal wrong.at ∷ [])
