-- What is kept of a switch.
use Rattle.std.specs.Prelude.{◌≡◌, ℕ, ◌≤◌, ◌+◌, List, [], map, length}
use Rattle.lat_base.specs.declared.event.Event.{Event}
use Rattle.lat_base.specs.declared.event.Event.TheVariants as events
use Rattle.lat_server.specs.Kept as server
use Rattle.lat_server.specs.Kept.{AtRest, config_of}
use Rattle.lat_server.specs.Stands as machines
use Rattle.lat_server.specs.Stands.{Machine, IsMachine}
use Rattle.lat_switch.specs.Lines.{Line}

pub record Kept : Type 0 where
  pub inner : server.Kept
  pub lines : List Line

-- one of a line's four inner lines
abbrev pub IsInner : Line → ℕ → Type 0
IsInner l x = (l.first ≤ x) × (x ≤ l.first + 3)

-- they are among 32, and one of them is shown
pub record IsLine (l : Line) : Type 0 where
  pub first : (1 ≤ l.first) × (l.first ≤ 29)
  pub shown : IsInner l l.shown

-- what holds of every switch
pub record Holds (k : Kept) : Type 0 where
  pub lines : length k.lines ≤ 8
  pub offers : (config_of k.inner).offers ≡ []

-- between events: the server is at rest, and is a state of its machine
pub record IsValid (k : Kept) : Type 0 where
  pub rest : AtRest k.inner
  pub machine : Machine
  pub stands : IsMachine k.inner machine

-- as many lines, each with the same inner lines, over a server that was opened the same
pub record IsSame (old new : Kept) : Type 0 where
  pub lines : length new.lines ≡ length old.lines
  pub firsts : map (λ (l : Line). l.first) new.lines ≡ map (λ (l : Line). l.first) old.lines
  pub opening : machines.opening new.inner ≡ machines.opening old.inner

-- an event that makes no frame where nothing is offered
abbrev pub IsQuiet : Event → Type 0
IsQuiet (events.Put line bytes) = Unit {0}
IsQuiet (events.Set line setting) = Unit {0}
IsQuiet (events.Attend line flag) = Unit {0}
IsQuiet (events.Close line) = Unit {0}
IsQuiet e = ⊥
