-- A RUN of one end that names a circuit of the other.
use Rattle.std.specs.Prelude.{◌≡◌, ℕ, Bool, true, not, cond, ◌&&◌, List}
use Rattle.lat_model.specs.sessions.Slots.{Slot}
use Rattle.lat_model.specs.numbers.Link.{Frame}
use Rattle.lat_model.specs.ends.End.{Mark, Run, lives}
use Rattle.lat_model.specs.circuits.World.{CircuitEntry, Wired, World, table}
use Rattle.lat_model.specs.circuits.Arriving.{is_of}

-- a RUN names this circuit of the side b
abbrev pub names_run : World → Bool → ℕ → Bool → ℕ → ℕ → Bool
names_run w b from bit destination source =
    let c : CircuitEntry = (table w b).circuit_at destination in
    is_of c from source && lives c.end && c.end.running && (cond bit (not c.end.master) c.end.master)

-- a RUN of one end, which names a circuit of the other
pub record Comes (w : World) (p : Wired) (a : Bool) (f : Frame (List Slot)) : Type 0 where
  pub to : p.to ≡ (table w (not p.by_server)).own
  pub mark : Mark
  pub run : p.sent ≡ Run mark a f
  pub names : names_run w (not p.by_server) (table w p.by_server).own p.by_server p.destination p.source ≡ true
