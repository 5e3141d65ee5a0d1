-- What is new of circuits between two sights of them.
use Rattle.std.specs.Prelude.{ℕ, Bool, not, ◌&&◌, ◌||◌, List, [], ◌∷◌, ◌++◌, nat_eq, ◌==◌, if◌then◌else◌}
use Rattle.std.specs.List.{flat_map, list_any}
use Rattle.lat_base.specs.declared.look.CircuitLook.{CircuitLook}
use Rattle.lat_log.specs.declared.entry.Cause.{Cause}
use Rattle.lat_log.specs.declared.entry.Cause.TheVariants as causes
use Rattle.lat_log.specs.declared.entry.Circuit.{Circuit as Joined}
use Rattle.lat_log.specs.declared.entry.CircuitNews.TheVariants.{Up, Down}
use Rattle.lat_log.specs.declared.entry.Entry.{Entry}
use Rattle.lat_log.specs.declared.entry.Entry.TheVariants.{Circuit}
use Rattle.lat_log.specs.declared.seen.Side.{Side}
use Rattle.lat_log.specs.declared.seen.Side.TheVariants as sides
use Rattle.lat_log.specs.declared.trigger.Trigger.{Trigger}
use Rattle.lat_log.specs.declared.trigger.Trigger.TheVariants as triggers

-- the peer's id is known, so it runs
abbrev pub is_up : CircuitLook → Bool
is_up c = not (c.peer_id == 0)

abbrev pub lives_in : List CircuitLook → ℕ → Bool
lives_in circuits id = list_any (λ (c : CircuitLook). nat_eq c.id id) circuits

abbrev pub up_in : List CircuitLook → ℕ → Bool
up_in circuits id = list_any (λ (c : CircuitLook). nat_eq c.id id && is_up c) circuits

-- it held sessions, or repeats were at their limit, or its call wasn't answered
abbrev pub is_used : CircuitLook → Bool
is_used c = not (c.held == 0) || (c.rounds == 8 || not (is_up c))

-- when time passes a node's circuit ends by silence alone, and a server's also when it isn't used
abbrev pub timed_out : Side → CircuitLook → Cause
timed_out sides.Server c = if is_used c then causes.NoAnswer else causes.NoUse
timed_out sides.Switch c = if is_used c then causes.NoAnswer else causes.NoUse
timed_out sides.Node c = causes.NoAnswer

-- why a circuit went down that was seen so
abbrev pub cause_of : Side → Trigger → CircuitLook → Cause
cause_of side (triggers.Stop reason) c = causes.Stopped reason
cause_of side (triggers.Breach reason) c = causes.Broken reason
cause_of side triggers.Time c = timed_out side c
cause_of side triggers.Halt c = causes.Halted
cause_of side triggers.Other c = causes.Outlived

abbrev pub circuit_of : CircuitLook → Joined
circuit_of c = record { id = c.id; name = c.name; address = c.peer }

-- one that lived went down
abbrev pub went_down : Side → Trigger → List CircuitLook → CircuitLook → List Entry
went_down side trigger now c =
    if lives_in now c.id then [] else Circuit (circuit_of c) (Down (cause_of side trigger c)) ∷ []

-- one runs that didn't run
abbrev pub came_up : List CircuitLook → CircuitLook → List Entry
came_up old c = if is_up c && not (up_in old c.id) then Circuit (circuit_of c) Up ∷ [] else []

-- first those that went down, then those that came up
abbrev pub circuits_news : Side → Trigger → (old now : List CircuitLook) → List Entry
circuits_news side trigger old now = flat_map (went_down side trigger now) old ++ flat_map (came_up old) now
