-- Which worlds of the two machines a wire stands for.
use Rattle.std.specs.Prelude.{◌≡◌, ℕ, List, map}
use Rattle.lat_machines.specs.world.Machines.{Machines, Move, happens, run, open_machines}
use Rattle.lat_machines.specs.world.Safe.{Fit, Safe}
use Rattle.lat_server.specs.Stands as servers
use Rattle.lat_node.specs.Stands as nodes
use Rattle.lat_wire.specs.ledger.Books.{IsBookOf}
use Rattle.lat_wire.specs.Kept.{Kept, setups_of}
use Rattle.lat_wire.specs.Notes.{note_shown, noted_info}
use Rattle.lat_wire.specs.Rates.{rates}

-- the parts are those of the world
pub record Mirrors {H : Type 0} (k : Kept H) (w : Machines) : Type 0 where
  pub server : servers.Stands k.server w.server
  pub node : nodes.Stands k.node w.node
  pub book : IsBookOf (setups_of k) k.book w
  pub notes : map note_shown k.notes ≡ map noted_info w.noted
  pub count : k.count ≡ w.count

-- A wire stands for a world: its parts are the world's, and the world is a run of the two machines
pub record Stands {H : Type 0} (k : Kept H) (w : Machines) : Type 0 where
  pub parts : Mirrors k w
  pub fit : Fit (setups_of k)
  pub moves : List Move
  pub run : w ≡ run (setups_of k) moves (open_machines (setups_of k))

-- of each world that the wire stood for, it stands for the one behind this move, which the ratings of then complete
abbrev pub Happens : {H : Type 0} → (old new : Kept H) → (List ℕ → Move) → Type 0
Happens old new move =
    (w : Machines)
    → Stands old w
    → Stands new (happens (setups_of old) w (move (rates (setups_of old) w)))

-- so all laws of the machines hold of it
abbrev pub WorldsAreSafe : Type 0 → Type 0
WorldsAreSafe H = (k : Kept H) (w : Machines) → Stands k w → Safe (setups_of k) w
