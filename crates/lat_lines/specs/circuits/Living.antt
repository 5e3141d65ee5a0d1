-- Where circuits live, which have room, on which nothing is under way, and which of their sessions wait for this end's answer.
use Rattle.std.specs.Prelude.{◌≡◌, ℕ, Bool, false, not, ◌&&◌, ◌||◌, is_none, List, Option, Some, None, slice_get}
use Rattle.std.specs.List.{list_all}
use Rattle.lat_base.specs.declared.state.SessionState.TheVariants as states
use Rattle.lat_model.specs.sessions.Session.{waits}
use Rattle.lat_model.specs.sessions.Sessions.{named}
use Rattle.lat_model.specs.ends.End.{End, lives}
use Rattle.lat_machines.specs.cores.Cores.{Core}
use Rattle.lat_machines.specs.cores.Looks.{end_drained}
use Rattle.lat_session.specs.Table.{state_at, has_room}
use Rattle.lat_circuit.specs.Kept as circuit
use Rattle.lat_lines.specs.circuits.Kept.{Kept}
use Rattle.lat_lines.specs.circuits.Stands.{Stands}
use Rattle.lat_lines.specs.circuits.Info.{held_circuit, is_asked_at}

abbrev pub lives_in : Option circuit.Kept → Bool
lives_in None = false
lives_in (Some q) = is_none q.ended

-- it lives and holds fewer sessions than were agreed
abbrev pub room_in : Option circuit.Kept → Bool
room_in None = false
room_in (Some q) = is_none q.ended && has_room q.sessions

abbrev pub has_room_at : Kept → ℕ → Bool
has_room_at k x = room_in (held_circuit k x)

-- the circuit of this id lives, and stands at this place
pub record IsLiving (k : Kept) (x at : ℕ) (q : circuit.Kept) : Type 0 where
  pub here : slice_get k.held at ≡ Some q
  pub found : held_circuit k x ≡ Some q
  pub lives : q.ended ≡ None

abbrev pub LivesAt : Kept → ℕ → ℕ → Type 0
LivesAt k x at = (q : circuit.Kept) × IsLiving k x at q

-- so it does, and its session of this id is asked for
abbrev pub AsksAt : Kept → ℕ → ℕ → ℕ → Type 0
AsksAt k x id at = (q : circuit.Kept) × IsLiving k x at q × (state_at q.sessions id ≡ states.Asked)

-- an end is over, or nothing is under way on it
abbrev pub is_still : End → Bool
is_still e = not (lives e) || end_drained e

-- so it is with the ends of all these
abbrev pub are_still : Core → List circuit.Kept → Bool
are_still c qs = list_all (λ q. is_still (c.circuits.circuit_at q.facts.id).end) qs

-- an end of a slave has a session that waits for its answer
abbrev pub waits_at : End → ℕ → Bool
waits_at e id = not e.half.sessions.master && waits (named e.half.sessions id)

-- no living circuit of this id has such a session
pub record NoneAsks (k : Kept) (x id : ℕ) : Type 0 where
  pub unasked : is_asked_at k x id ≡ false
  pub core : (c : Core) → Stands k c → (lives (c.circuits.circuit_at x).end && waits_at (c.circuits.circuit_at x).end id) ≡ false
