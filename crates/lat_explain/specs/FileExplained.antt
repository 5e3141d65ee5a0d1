-- Why a pcap file is wrong: the place of the first wrong part, what it should be, and what stands there.
use Rattle.std.specs.Prelude.{ℕ, List, [], ◌∷◌, take, drop, codes, decimal}
use Rattle.lat_text.specs.HexText.{hex_text}
use Rattle.lat_text.specs.Line.{line}
use Rattle.lat_pcap.specs.declared.fault.Part.{Part}
use Rattle.lat_pcap.specs.declared.fault.Part.TheVariants as parts
use Rattle.lat_pcap.specs.declared.fault.Wrong.{Wrong}

abbrev pub part_wanted : Part → List ℕ
part_wanted parts.Header = codes "a header of 24 bytes"
part_wanted parts.Magic = codes "d4c3b2a1, 4d3cb2a1, a1b2c3d4 or a1b23c4d"
part_wanted parts.Version = codes "version 2.4"
part_wanted parts.LinkType = codes "link type 1, Ethernet"
part_wanted parts.RecordHeader = codes "a record's header of 16 bytes"
part_wanted parts.Fraction = codes "less than a second"
part_wanted parts.IncludedLength = codes "at most 262144 bytes"
part_wanted parts.Data = codes "all bytes of the record"

-- the bytes that stand there, two of a version and four of another number
abbrev pub part_found : Part → List ℕ → List ℕ
part_found parts.Header bytes = codes "the end of the file"
part_found parts.RecordHeader bytes = codes "the end of the file"
part_found parts.Data bytes = codes "the end of the file"
part_found parts.Version bytes = hex_text (take 2 bytes)
part_found part bytes = hex_text (take 4 bytes)

unfoldable pub file_explained : List ℕ → Wrong → List ℕ
file_explained bytes wrong = line (
    codes "lat: byte " ∷ decimal wrong.at ∷ codes ": " ∷ part_wanted wrong.part ∷ codes " expected, found "
    ∷ part_found wrong.part (drop wrong.at bytes) ∷ []
    )
