-- The words that name the parts of a file in print.
use Rattle.std.specs.Prelude.{ℕ, List, codes}
use Rattle.lat_pcap.specs.declared.fault.Part.{Part}
use Rattle.lat_pcap.specs.declared.fault.Part.TheVariants as parts

-- the name in lower case, a hyphen between its parts
abbrev pub part_word : Part → List ℕ
part_word parts.Header = codes "header"
part_word parts.Magic = codes "magic"
part_word parts.Version = codes "version"
part_word parts.LinkType = codes "link-type"
part_word parts.RecordHeader = codes "record-header"
part_word parts.Fraction = codes "fraction"
part_word parts.IncludedLength = codes "included-length"
part_word parts.Data = codes "data"
