-- What is kept of a wire.
use Rattle.std.specs.Prelude.{◌≡◌, ℕ, ◌*◌, ◌<◌, ◌≤◌, Bool, List, length}
use Rattle.lat_base.specs.declared.addr.Addr.{Addr}
use Rattle.lat_machines.specs.values.Addresses.{address}
use Rattle.lat_machines.specs.world.Machines.{Setups}
use Rattle.lat_server.specs.Kept as servers
use Rattle.lat_node.specs.Kept as nodes
use Rattle.lat_wire.specs.declared.notes.Note.{Note}
use Rattle.lat_wire.specs.ledger.Ways.{CameAtMost}
use Rattle.lat_wire.specs.ledger.Tallies.{tally_at}
use Rattle.lat_wire.specs.ledger.Books.{Book, tallies_of}

-- H is the rule by which the node rates its services
pub record Kept (H : Type 0) : Type 0 where
  pub server : servers.Kept
  pub node : nodes.Kept H
  pub server_own : Addr
  pub node_own : Addr
  pub book : Book
  pub notes : List Note
  pub count : ℕ
  pub moment : ℕ
  pub timer : ℕ

-- what both ends are made of
abbrev pub setups_of : {H : Type 0} → Kept H → Setups
setups_of k = record { server = servers.config_of k.server; node = nodes.config_of k.node }

-- how many frames were sent
abbrev pub frame_count : {H : Type 0} → Kept H → ℕ
frame_count k = length k.book.log.posts

-- what holds of every wire
pub record Holds {H : Type 0} (k : Kept H) : Type 0 where
  pub server_own : (setups_of k).server.own ≡ address k.server_own.0
  pub node_own : (setups_of k).node.own ≡ address k.node_own.0
  pub timer : k.timer ≡ 10 * (setups_of k).server.timing.timer
  pub frames : length k.book.log.posts ≤ 200000
  pub formed : (b : Bool) (x : ℕ) → (tally_at (tallies_of k.book b) x).formed ≤ length k.book.log.posts
  pub taken : (b : Bool) (x : ℕ) → (tally_at (tallies_of k.book b) x).taken ≤ k.count
  pub came : CameAtMost k.count k.book.log.ways

-- fewer frames of each side came than there were events
pub record CameLess {H : Type 0} (k : Kept H) : Type 0 where
  pub server : k.book.log.ways.server.came < k.count
  pub node : k.book.log.ways.node.came < k.count
