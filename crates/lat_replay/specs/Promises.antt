-- What holds of every world.
use Rattle.std.specs.Prelude.{◌≡◌, ℕ, suc, Bool, cond, List, [], ◌∷◌, ◌++◌, None}
use Rattle.lat_machines.specs.values.Frames.{Malformed}
use Rattle.lat_machines.specs.values.Events.{Event, Hears}
use Rattle.lat_machines.specs.values.Answers.{Bad}
use Rattle.lat_machines.specs.server.Queue.{LegalQueue}
use Rattle.lat_machines.specs.world.Machines.{Setups, Machines, tell}
use Rattle.lat_machines.specs.world.Refusals.{server_moved, node_moved}
use Rattle.lat_machines.specs.world.Safe.{StreamsInOrder, SlotsCredited, NoGrant, Safe}
use Rattle.lat_laws.specs.promises.Circuits.{RunningIsShared, NothingSaidBefore, WithinWindows}
use Rattle.lat_laws.specs.promises.Rows.{RowsInOrder, RowsWithinCredit}
use Rattle.lat_replay.specs.Kept.{Kept, setups_of}
use Rattle.lat_replay.specs.Stands.{Stands}

-- the moment of the end that was told the event may move on, and one event more is noted, with the payload's first bad
-- field; nothing else changes
pub record OnlyNotes (w : Machines) (server : Bool) (e : Event) (field at : ℕ) (x : Machines) : Type 0 where
  pub server_state : x.server ≡ cond server (server_moved e w.server) w.server
  pub node_state : x.node ≡ cond server w.node (node_moved e w.node)
  pub posts : x.posts ≡ w.posts
  pub delivered : x.delivered ≡ w.delivered
  pub noted : x.noted ≡ w.noted ++ record { event = suc w.count; answer = Bad field at } ∷ []

-- so it is of a payload of no layout, whichever end hears it, from wherever it comes and whenever
abbrev pub NoLayoutChangesNothing : Setups → Machines → Type 0
NoLayoutChangesNothing u w =
    (server : Bool) (from field at now : ℕ) (rates : List ℕ) →
    OnlyNotes w server (Hears from (Malformed field at) None now) field at (tell u w server (Hears from (Malformed field at) None now) rates)

-- What both ends are promised: each circuit that runs is shared by both, before that nothing is said, and no end has more
-- messages on their way than its window; each of its sessions takes a prefix of what the other end put, and so it stands in the
-- report; each credited slot had its credit; each request was granted at most once and as the first that waited; no grant is
-- left open; and a frame of no layout changes nothing
pub record Promises (u : Setups) (w : Machines) : Type 0 where
  pub running : RunningIsShared u w
  pub before : NothingSaidBefore u w
  pub windows : WithinWindows w
  pub streams : StreamsInOrder u w
  pub rows : RowsInOrder u w
  pub spent : RowsWithinCredit u w
  pub credits : SlotsCredited u w
  pub queue : LegalQueue w.server.queue
  pub grants : NoGrant u.server w.server
  pub layouts : NoLayoutChangesNothing u w

-- of every world that is stood for, behind whatever events
abbrev pub WorldsKeepPromises : Type 0 → Type 0
WorldsKeepPromises H = (k : Kept H) (w : Machines) → Stands k w → Promises (setups_of k) w

-- and all laws of the two machines hold of it
abbrev pub WorldsAreSafe : Type 0 → Type 0
WorldsAreSafe H = (k : Kept H) (w : Machines) → Stands k w → Safe (setups_of k) w
