-- What a directory keeps, and what it looks for in it.
use Rattle.std.specs.Prelude.{ℕ, ◌+◌, ◌*◌, not, ◌||◌, nat_eq, List, map, filter, find, Option, Some, None, option_map, unwrap_or, if◌then◌else◌, nat_lt, bytes_eq, ◌==◌}
use Rattle.lat_base.specs.declared.addr.Addr.{Addr}
use Rattle.lat_notices.specs.declared.services.Service.{Service}
use Rattle.lat_notices.specs.declared.notice.Announcement.{Announcement}
use Rattle.lat_machines.specs.values.Addresses.{address}
use Rattle.lat_machines.specs.values.Names.{folded}
use Rattle.lat_machines.specs.server.Directory as directory
use Rattle.lat_dir.specs.declared.offers.Offer.{Offer}
use Rattle.lat_dir.specs.declared.node.Node.{Node}
use Rattle.lat_dir.specs.declared.best.Best.{Best}

abbrev pub offer_of : Service → Offer
offer_of s = record { service = folded s.name; rating = s.rating }

-- the rating of the first entry of the service; 0 where there is none
abbrev pub rating_in : List ℕ → List Offer → ℕ
rating_in service offers = unwrap_or (option_map (λ o. o.rating) (find (λ o. bytes_eq o.service service) offers)) 0

-- what is kept of an announcement
abbrev pub node_of : Addr → Announcement → ℕ → Node
node_of from a now = record { from = from; name = a.node; until = now + 3000 * a.timer; offers = map offer_of a.services }

-- a chosen node as the machines' value
abbrev pub best_shown : Best → directory.Best
best_shown b = record { from = address b.from.0; node = b.node; rating = b.rating }

-- a node stays the best one found unless the other beats it
abbrev pub better_of : Best → Option Best → Best
better_of x None = x
better_of x (Some y) = if directory.beats (best_shown y) (best_shown x) then y else x

abbrev pub best_of : List ℕ → Node → Best
best_of service n = record { from = n.from; node = n.name; rating = rating_in service n.offers }

-- the best one found, one more node looked at
abbrev pub better_in : List ℕ → ℕ → Option Best → Node → Option Best
better_in service now found n =
    if rating_in service n.offers == 0 || not (nat_lt now n.until) then found else Some (better_of (best_of service n) found)

-- the node under each name, in the order in which they were last heard
abbrev pub Nodes : Type 0
Nodes = List (List ℕ × Node)

-- those that live at the moment
abbrev pub living : ℕ → Nodes → Nodes
living now nodes = filter (λ e. nat_lt now e.1.until) nodes

-- those of other names
abbrev pub others : List ℕ → Nodes → Nodes
others name nodes = filter (λ e. not (bytes_eq e.0 name)) nodes

-- those of other addresses
abbrev pub elsewhere : ℕ → Nodes → Nodes
elsewhere from nodes = filter (λ e. not (nat_eq (address e.1.from.0) from)) nodes
