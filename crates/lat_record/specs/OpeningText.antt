-- The lines in front of the events: what the core was made of.
use Rattle.std.specs.Prelude.{ℕ, Bool, List, [], ◌∷◌, ◌++◌, codes, decimal, if◌then◌else◌}
use Rattle.std.specs.List.{flat_map}
use Rattle.lat_base.specs.declared.addr.Addr.{Addr}
use Rattle.lat_frames.specs.declared.timing.Timing.{Timing}
use Rattle.lat_node.specs.declared.config.NodeConfig.{NodeConfig}
use Rattle.lat_server.specs.declared.config.Offer.{Offer}
use Rattle.lat_server.specs.declared.config.ServerConfig.{ServerConfig}
use Rattle.lat_switch.specs.declared.config.SwitchConfig.{SwitchConfig}
use Rattle.lat_text.specs.AddressText.{address_text}
use Rattle.lat_text.specs.HexText.{hex_text}
use Rattle.lat_text.specs.Line.{line}
use Rattle.lat_text.specs.NameText.{name_text}
use Rattle.lat_record.specs.declared.opening.Opening.{Opening}
use Rattle.lat_record.specs.declared.opening.Opening.TheVariants.{Server, Switch, Node}
use Rattle.lat_record.specs.declared.opening.NodeOpening.{NodeOpening}
use Rattle.lat_record.specs.declared.opening.Rate.{Rate}
use Rattle.lat_record.specs.declared.opening.Rate.TheVariants.{Free, Each, WhileFree}

-- the station of a core, and its lines: `ADDR NAME LINES`
abbrev pub station_words : Addr → (name : List ℕ) → (lines : ℕ) → List ℕ
station_words own name lines = address_text own ++ (codes " " ++ (name_text name ++ (codes " " ++ decimal lines)))

-- how it begins: `first N`, and `prompt` where it is
abbrev pub start_words : (first : ℕ) → (prompt : Bool) → List ℕ
start_words first prompt = codes "first " ++ (decimal first ++ (if prompt then codes " prompt" else []))

abbrev pub span_word : (wide : Bool) → List ℕ
span_word wide = if wide then codes "word" else codes "byte"

-- `circuit TIMER KEEPALIVE SESSIONS EXTRA CEILING SPAN`
abbrev pub circuit_line : Timing → List ℕ
circuit_line t =
    line (codes "circuit " ∷ decimal t.timer ∷ codes " " ∷ decimal t.keepalive ∷ codes " " ∷ decimal t.sessions ∷ codes " " ∷ decimal t.extra ∷ codes " "
    ∷ decimal t.ceiling ∷ codes " " ∷ span_word t.wide ∷ [])

abbrev pub server_groups_line : List ℕ → List ℕ
server_groups_line groups = line (codes "server-groups " ∷ hex_text groups ∷ [])

abbrev pub node_groups_line : List ℕ → List ℕ
node_groups_line groups = line (codes "node-groups " ∷ hex_text groups ∷ [])

abbrev pub offer_line : Offer → List ℕ
offer_line o = line (codes "offer " ∷ decimal o.line ∷ codes " " ∷ name_text o.service ∷ [])

abbrev pub service_line : List ℕ → List ℕ
service_line name = line (codes "service " ∷ name_text name ∷ [])

-- a rule of rating, as an operator writes it
abbrev pub rate_words : Rate → List ℕ
rate_words Free = codes "free"
rate_words (Each rating) = codes "each:" ++ decimal rating
rate_words (WhileFree rating) = codes "while-free:" ++ decimal rating

abbrev pub rate_line : Rate → List ℕ
rate_line rate = line (codes "rate " ∷ rate_words rate ∷ [])

-- `server ADDR NAME LINES first N`, the circuits and the groups
abbrev pub server_front : ServerConfig → List ℕ
server_front c =
    line (codes "server " ∷ station_words c.own c.name c.lines ∷ codes " " ∷ start_words c.first c.prompt ∷ [])
    ++ (circuit_line c.timing ++ server_groups_line c.groups)

-- and its offers
abbrev pub server_text : ServerConfig → List ℕ
server_text c = server_front c ++ flat_map offer_line c.offers

-- `switch ADDR NAME LINES first N`, and the lines behind it
abbrev pub switch_text : SwitchConfig → List ℕ
switch_text c =
    line (codes "switch " ∷ station_words c.own c.name c.lines ∷ codes " " ∷ start_words c.first c.prompt ∷ [])
    ++ (circuit_line c.timing ++ server_groups_line c.groups)

-- `node ADDR NAME LINES INCARNATION TIMER first N`
abbrev pub node_line : NodeConfig → List ℕ
node_line c =
    line (codes "node " ∷ station_words c.own c.name c.lines ∷ codes " " ∷ decimal c.incarnation ∷ codes " " ∷ decimal c.timer ∷ codes " "
    ∷ start_words c.first c.prompt ∷ [])

-- with the circuits and the groups
abbrev pub node_front : NodeConfig → List ℕ
node_front c = node_line c ++ (circuit_line c.timing ++ node_groups_line c.groups)

-- and its services with their rates
abbrev pub node_text : NodeConfig → List Rate → List ℕ
node_text c rates = node_front c ++ (flat_map service_line c.services ++ flat_map rate_line rates)

abbrev pub core_text : Opening → List ℕ
core_text (Server config) = server_text config
core_text (Switch config) = switch_text config
core_text (Node opening) = node_text opening.config opening.rates

-- all lines in front of the first event
abbrev pub opening_text : Opening → List ℕ
opening_text o = codes "lat record 1\n" ++ (core_text o ++ codes "go\n")
