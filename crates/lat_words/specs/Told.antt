-- What is said of a fault of the words.
use Rattle.std.specs.Prelude.{ℕ, ◌&&◌, [], ◌∷◌, ◌++◌, Option, Some, None, codes, decimal, nat_le, if◌then◌else◌}
use Rattle.std.specs.List.{flat_map}
use Rattle.clap.specs.Words.{Text}
use Rattle.lat_text.specs.HexText.{byte_text}
use Rattle.lat_words.specs.Options.{option_text}
use Rattle.lat_words.specs.declared.fault.OptionName.{OptionName}
use Rattle.lat_words.specs.declared.fault.OptionName.TheVariants as options
use Rattle.lat_words.specs.declared.fault.Expected.{Expected}
use Rattle.lat_words.specs.declared.fault.Expected.TheVariants as expected
use Rattle.lat_words.specs.declared.fault.WordsFault.{WordsFault}
use Rattle.lat_words.specs.declared.fault.WordsFault.TheVariants as faults

-- a byte that a terminal shows as it is, else `%` and its two hex digits
abbrev pub byte_said : ℕ → Text
byte_said byte = if nat_le 0x20 byte && nat_le byte 0x7e then byte ∷ [] else codes "%" ++ byte_text byte

abbrev pub value_said : Text → Text
value_said value = flat_map byte_said value

abbrev pub option_said : OptionName → Text
option_said options.Peer = codes "peer"
option_said option = codes "--" ++ option_text option

abbrev pub expected_said : Expected → Text
expected_said expected.Needed = codes "needed"
expected_said expected.One = codes "one value alone"
expected_said expected.Role = codes "server, switch, node or tariff"
expected_said expected.Name = codes "a name of 1 to 16 bytes"
expected_said expected.Address = codes "12 hex digits"
expected_said (expected.Number least most) = decimal least ++ (codes " to " ++ decimal most)
expected_said expected.Service = codes "NAME or NAME=PORT, a port of 1 to 65535"
expected_said (expected.Most most) = decimal most ++ codes " at most"
expected_said expected.OtherService = codes "each service once"
expected_said expected.Rate = codes "NAME=free, NAME=each:N or NAME=while-free:N, N of 1 to 255"
expected_said expected.Offered = codes "a service that is offered"
expected_said (expected.Offer lines) = codes "LINE=NAME=PORT, a line of 1 to " ++ (decimal lines ++ codes ", a port of 1 to 65535")
expected_said expected.OtherLine = codes "each line once"
expected_said expected.Groups = codes "groups of 0 to 255, as 0,3,7-9"
expected_said expected.Level = codes "off, error, info or debug"
expected_said expected.OtherRole = codes "none in this role"

abbrev pub not_said : Option Text → Text
not_said None = []
not_said (Some value) = codes ", not \"" ++ (value_said value ++ codes "\"")

-- the line that `latd` says of it
abbrev pub fault_said : WordsFault → Text
fault_said faults.Memory = codes "latd: no memory\n"
fault_said (faults.Word word) = codes "latd: " ++ (value_said word ++ codes ": no word of latd\n")
fault_said (faults.Option option value expected) =
    codes "latd: " ++ (option_said option ++ (codes ": " ++ (expected_said expected ++ (not_said value ++ codes "\n"))))
