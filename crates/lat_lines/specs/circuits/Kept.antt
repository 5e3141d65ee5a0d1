-- What is kept of the circuits of a core.
use Rattle.std.specs.Prelude.{◌≡◌, ℕ, ◌+◌, ◌<◌, ◌≤◌, Bool, true, cond, List, [], ◌∷◌, map, length, None, nat_eq, nat_lt}
use Rattle.std.specs.List.{list_any}
use Rattle.lat_base.specs.declared.addr.Addr.{Addr}
use Rattle.lat_model.specs.Lists.{Each}
use Rattle.lat_model.specs.circuits.Ids.{id_behind, is_id_of, Rises}
use Rattle.lat_machines.specs.cores.Cores.{Side}
use Rattle.lat_frames.specs.declared.timing.Timing.{Timing}
use Rattle.lat_frames.specs.Timings.{IsTiming}
use Rattle.lat_circuit.specs.Frames.{timing_shown}
use Rattle.lat_circuit.specs.Kept as circuit

pub record Kept : Type 0 where
  pub own : Addr
  pub name : List ℕ
  pub timing : Timing
  pub server : Bool
  pub first : ℕ  -- the id of the circuit that is drawn first
  pub drawn : ℕ  -- how many were drawn
  pub moment : ℕ
  pub held : List circuit.Kept  -- by rising id: those that live, and those that have ended and weren't cleared away yet
  pub rooms : List ℕ  -- the memory that no circuit has

-- what a core needs to know of itself for its circuits
abbrev pub side_of : Kept → Side
side_of k = record { server = k.server; timing = timing_shown k.timing; name = k.name }

abbrev pub ids : Kept → List ℕ
ids k = map (λ (q : circuit.Kept). q.facts.id) k.held

-- a circuit of this id is held
abbrev pub has_id : ℕ → Kept → Bool
has_id x k = list_any (nat_eq x) (ids k)

-- the id of the circuit that is drawn next
abbrev pub next_id : Kept → ℕ
next_id k = id_behind k.first k.drawn

-- a circuit of this id was drawn, held or not
abbrev pub is_drawn : Kept → ℕ → Bool
is_drawn k x = is_id_of k.first k.drawn x

-- one circuit more among these, behind those of lower ids
abbrev pub held_with : circuit.Kept → List circuit.Kept → List circuit.Kept
held_with q [] = q ∷ []
held_with q (p ∷ ps) = cond (nat_lt q.facts.id p.facts.id) (q ∷ p ∷ ps) (p ∷ held_with q ps)

-- no circuit that ended is held
abbrev pub IsClear : Kept → Type 0
IsClear k = Each (λ (q : circuit.Kept). q.ended ≡ None) k.held

-- how many circuits have memory: those that are held, and as many more as there are rooms
abbrev pub with_memory : Kept → ℕ
with_memory k = length k.held + length k.rooms

-- there is memory for so many circuits more, or for as many as may be held
abbrev pub HasRooms : ℕ → Kept → Type 0
HasRooms n k = length k.rooms < n → with_memory k ≡ 8

-- rooms for circuits of this core, with which there is memory for so many more, and no more of them than that
pub record AreRooms (count : ℕ) (k : Kept) (more : List ℕ) : Type 0 where
  pub enough : length k.rooms + length more < count → with_memory k + length more ≡ 8
  pub few : 0 < length more → length k.rooms + length more ≤ count
  pub most : with_memory k + length more ≤ 8
  pub each : Each (λ n. k.timing.sessions ≤ n) more

-- the same core, with as much memory, and the same circuits of it
pub record SameCore (old new : Kept) : Type 0 where
  pub own : new.own ≡ old.own
  pub name : new.name ≡ old.name
  pub timing : new.timing ≡ old.timing
  pub server : new.server ≡ old.server
  pub first : new.first ≡ old.first
  pub memory : with_memory new ≡ with_memory old

pub record SameCircuits (old new : Kept) : Type 0 where
  pub core : SameCore old new
  pub ids : ids new ≡ ids old
  pub drawn : new.drawn ≡ old.drawn
  pub moment : new.moment ≡ old.moment

-- a circuit of this core
pub record IsOwn (k : Kept) (q : circuit.Kept) : Type 0 where
  pub own : q.facts.config.own ≡ k.own
  pub name : q.facts.config.name ≡ k.name
  pub timing : q.facts.config.timing ≡ k.timing
  pub master : q.facts.master ≡ k.server
  pub side : q.sessions.master ≡ k.server
  pub moment : q.moments.now ≤ k.moment
  pub places : k.timing.sessions ≤ length q.sessions.sessions

pub record Holds (k : Kept) : Type 0 where
  pub timing : IsTiming k.timing
  pub first : (1 ≤ k.first) × (k.first ≤ 65535)
  pub places : with_memory k ≤ 8
  pub rooms : Each (λ n. k.timing.sessions ≤ n) k.rooms
  pub rising : Rises 0 (ids k)
  pub drawn : Each (λ (q : circuit.Kept). is_drawn k q.facts.id ≡ true) k.held
  pub each : Each (IsOwn k) k.held
