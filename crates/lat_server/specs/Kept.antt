-- What is kept of a server.
use Rattle.std.specs.Prelude.{◌≡◌, ℕ, ◌+◌, ◌≤◌, Bool, true, List, [], map, length}
use Rattle.lat_machines.specs.values.Addresses.{address}
use Rattle.lat_machines.specs.server.Server as machine
use Rattle.lat_circuit.specs.Frames.{timing_shown}
use Rattle.lat_lines.specs.circuits.Kept.{IsClear, HasRooms}
use Rattle.lat_dir.specs.Stands as dir
use Rattle.lat_queue.specs.Tables as queue
use Rattle.lat_queue.specs.Tables.{waiting_count}
use Rattle.lat_lines.specs.Kept as lines
use Rattle.lat_server.specs.declared.config.Offer.{Offer}
use Rattle.lat_server.specs.declared.gate.Gate.{Gate}
use Rattle.lat_server.specs.Config.{offer_shown, AreOffers}

pub record Kept : Type 0 where
  pub lines : lines.Kept
  pub offers : List Offer
  pub directory : dir.Kept
  pub queue : queue.Table
  pub solicits : ℕ
  pub gate : Gate
  pub prompt : Bool

abbrev pub config_of : Kept → machine.ServerConfig
config_of k = record {
  own = address k.lines.circuits.own.0;
  name = k.lines.circuits.name;
  lines = k.lines.lines;
  offers = map offer_shown k.offers;
  groups = k.directory.groups;
  timing = timing_shown k.lines.circuits.timing;
  prompt = k.prompt;
  first = k.lines.circuits.first;
}

-- what holds of every server
pub record Holds (k : Kept) : Type 0 where
  pub server : k.lines.circuits.server ≡ true
  pub lines : k.lines.lines ≤ 32
  pub offers : AreOffers k.lines.lines k.offers
  pub services : k.queue.offered ≡ map (λ (o : Offer). o.service) k.offers
  pub groups : length k.directory.groups ≡ 32
  pub moment : k.directory.moment ≤ k.lines.circuits.moment

-- there is memory for a circuit to each request that waits, and for so many circuits more, or for as many as may live
abbrev pub HasSpare : ℕ → Kept → Type 0
HasSpare n k = HasRooms (waiting_count k.queue.entries + n) k.lines.circuits

-- of the memory for circuits beyond those of the requests it took no more than so many circuits need
abbrev pub Spends : ℕ → (old new : Kept) → Type 0
Spends cost old new = (n : ℕ) → HasSpare (cost + n) old → HasSpare n new

-- between events no circuit that has ended is held, no request is to be finished, and there is memory for those that wait
pub record AtRest (k : Kept) : Type 0 where
  pub clear : IsClear k.lines.circuits
  pub freed : k.lines.freed ≡ []
  pub memory : HasSpare 0 k

-- the configuration doesn't change
abbrev pub SameConfig : (old new : Kept) → Type 0
SameConfig old new = config_of new ≡ config_of old

-- with other requests
abbrev pub with_queue : queue.Table → Kept → Kept
with_queue q k = record k { queue = q }
