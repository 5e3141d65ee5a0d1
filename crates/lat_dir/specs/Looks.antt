-- What is told of a node that is live, and of its services.
use Rattle.std.specs.Prelude.{ℕ, List, length, min, Option, Some, None, option_map, slice_get}
use Rattle.lat_base.specs.Addresses.{addr_of}
use Rattle.lat_base.specs.declared.look.NodeLook.{NodeLook}
use Rattle.lat_base.specs.declared.look.ServiceLook.{ServiceLook}
use Rattle.lat_machines.specs.values.Addresses.{address}
use Rattle.lat_machines.specs.values.Notices.{Service}
use Rattle.lat_machines.specs.server.Directory.{HeardAnnouncement}
use Rattle.lat_dir.specs.declared.offers.Offer.{Offer}
use Rattle.lat_dir.specs.declared.node.Node.{Node}
use Rattle.lat_dir.specs.Stands.{Known, known_of, offer_in}
use Rattle.lat_dir.specs.Words.{Nodes, living}

-- a moment as it is told: it stops at the greatest number of 64 bits
abbrev pub moment_told : ℕ → ℕ
moment_told n = min 18446744073709551615 n

abbrev pub node_told : Known → NodeLook
node_told k = record { name = k.name; from = addr_of k.from; services = length k.offers; until = moment_told k.until }

-- of a node that is kept
abbrev pub node_shown : Node → NodeLook
node_shown n = record { name = n.name; from = addr_of (address n.from.0); services = length n.offers; until = moment_told n.until }

abbrev pub service_told : Offer → ServiceLook
service_told o = record { name = o.service; rating = o.rating }

-- what is told of an announcement, and of a service in it, whose name is told in upper case
abbrev pub node_look_of : HeardAnnouncement → NodeLook
node_look_of e = node_told (known_of e)

abbrev pub service_look_of : Service → ServiceLook
service_look_of s = service_told (offer_in s)

-- the node that is live at a place, from 0 on
abbrev pub live_at : ℕ → Nodes → ℕ → Option (List ℕ × Node)
live_at now nodes at = slice_get (living now nodes) at

-- at a place of what a node announced
abbrev pub service_at : Option (List ℕ × Node) → ℕ → Option ServiceLook
service_at None at = None
service_at (Some e) at = option_map service_told (slice_get e.1.offers at)
