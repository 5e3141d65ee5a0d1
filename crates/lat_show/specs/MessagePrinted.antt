-- The messages of a circuit in print.
use Rattle.std.specs.Prelude.{ℕ, Bool, List, [], ◌∷◌, ◌++◌, length, codes, decimal}
use Rattle.std.specs.List.{concat, flat_map}
use Rattle.lat_fields.specs.declared.params.Param.{Param}
use Rattle.lat_frames.specs.declared.message.Head.{Head}
use Rattle.lat_frames.specs.declared.message.WideHead.{WideHead}
use Rattle.lat_frames.specs.declared.message.StartInfo.{StartInfo}
use Rattle.lat_frames.specs.declared.message.Message.{Message}
use Rattle.lat_frames.specs.declared.message.Message.TheVariants.{Run, Wide, Start, Stop}
use Rattle.lat_text.specs.FlagText.{flag_text}
use Rattle.lat_text.specs.HexText.{hex_text}
use Rattle.lat_text.specs.Line.{line}
use Rattle.lat_text.specs.NameText.{name_text}
use Rattle.lat_show.specs.ParamsPrinted.{params_printed}
use Rattle.lat_show.specs.SlotPrinted.{slot_printed}

-- the first word of a message's line, and what every message has behind it
unfoldable pub circuit_printed : List ℕ → Bool → Bool → ℕ → ℕ → List ℕ
circuit_printed word master ask to from =
    concat (word ∷ codes " master " ∷ flag_text master ∷ codes " ask " ∷ flag_text ask ∷ codes " to " ∷ decimal to ∷ codes " from " ∷ decimal from ∷ [])

-- the numbers of a message that carries slots, and how many slots it has
unfoldable pub numbers_printed : ℕ → ℕ → ℕ → List ℕ
numbers_printed seq ack slots = concat (codes " seq " ∷ decimal seq ∷ codes " ack " ∷ decimal ack ∷ codes " slots " ∷ decimal slots ∷ [])

-- on which terms the sender of a START holds a circuit
unfoldable pub terms_printed : StartInfo → List ℕ
terms_printed info =
    concat (codes " size " ∷ decimal info.size ∷ codes " version 5 eco " ∷ decimal info.eco ∷ codes " sessions " ∷ decimal info.sessions
    ∷ codes " extra " ∷ decimal info.extra ∷ codes " timer " ∷ decimal info.timer ∷ codes " keepalive " ∷ decimal info.keepalive ∷ [])

-- what the sender of a START is
unfoldable pub product_printed : StartInfo → List ℕ
product_printed info =
    concat (codes " facility " ∷ decimal info.facility ∷ codes " product " ∷ decimal info.product ∷ codes " " ∷ decimal info.product_version ∷ [])

-- the two ends of a circuit by name
unfoldable pub names_printed : List ℕ → List ℕ → List ℕ
names_printed slave name = concat (codes " slave " ∷ name_text slave ∷ codes " name " ∷ name_text name ∷ [])

unfoldable pub location_printed : List ℕ → List Param → List ℕ
location_printed location params = concat (codes " location " ∷ hex_text location ∷ codes " params " ∷ params_printed params ∷ [])

unfoldable pub run_printed : Head → ℕ → List ℕ
run_printed head slots = line (circuit_printed (codes "run") head.master head.ask head.to head.from ∷ numbers_printed head.seq head.ack slots ∷ [])

unfoldable pub wide_run_printed : WideHead → ℕ → List ℕ
wide_run_printed head slots = line (circuit_printed (codes "wide-run") head.master head.ask head.to head.from ∷ numbers_printed head.seq head.ack slots ∷ [])

-- what the sender of a START tells of itself
unfoldable pub info_printed : StartInfo → List ℕ
info_printed info = concat (terms_printed info ∷ product_printed info ∷ names_printed info.slave info.name ∷ location_printed info.location info.params ∷ [])

unfoldable pub start_printed : Bool → Bool → ℕ → ℕ → StartInfo → List ℕ
start_printed master ask to from info = line (circuit_printed (codes "circuit-start") master ask to from ∷ info_printed info ∷ [])

-- why a circuit ends
unfoldable pub reason_printed : ℕ → List ℕ → List ℕ
reason_printed reason text = concat (codes " reason " ∷ decimal reason ∷ codes " text " ∷ hex_text text ∷ [])

-- the line of a message, and the lines of the slots that it carries
abbrev pub message_printed : Message → List ℕ
message_printed (Run head slots) = run_printed head (length slots) ++ flat_map slot_printed slots
message_printed (Wide head slots) = wide_run_printed head (length slots) ++ flat_map slot_printed slots
message_printed (Start master ask to from info) = start_printed master ask to from info
message_printed (Stop master ask to from reason text) = line (circuit_printed (codes "circuit-stop") master ask to from ∷ reason_printed reason text ∷ [])
