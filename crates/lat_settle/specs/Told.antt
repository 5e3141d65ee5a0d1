-- What a call comes to that tells a world some events, one after another.
use Rattle.std.specs.Prelude.{◌≡◌, List, [], ◌∷◌, ◌++◌, None, Result, Ok, Err}
use Rattle.lat_machines.specs.world.Machines.{Setups}
use Rattle.lat_replay.specs.Kept.{Kept}
use Rattle.lat_replay.specs.Played.{State, next, refusal, StandsAt}
use Rattle.lat_schedule.specs.declared.event.WorldEvent.{WorldEvent}
use Rattle.lat_wire.specs.declared.fault.EventFault.{EventFault}
use Rattle.lat_wire.specs.Refusals.{RefusedAs}
use Rattle.lat_settle.specs.Events.{behind}

-- none of these events is refused when its turn comes
unfoldable pub NoneRefused : Setups → State → List WorldEvent → Type 0
NoneRefused u s [] = Unit {0}
NoneRefused u s (e ∷ es) = (refusal u s e ≡ None) × NoneRefused u (next u s e) es

-- one of these events was refused, or memory wanted at it; the world is behind those before it
pub record Stops {H : Type 0} (u : Setups) (s : State) (es : List WorldEvent) (fault : EventFault) (k : Kept H) : Type 0 where
  pub before : List WorldEvent
  pub event : WorldEvent
  pub after : List WorldEvent
  pub is : es ≡ before ++ event ∷ after
  pub none : NoneRefused u s before
  pub refused : RefusedAs {A = Unit {0}} (Err fault) (refusal u (behind u s before) event)
  pub stands : StandsAt k (behind u s before)

-- all of them were told
pub record ToldAll {H : Type 0} (u : Setups) (s : State) (es : List WorldEvent) (k : Kept H) : Type 0 where
  pub none : NoneRefused u s es
  pub stands : StandsAt k (behind u s es)

abbrev pub ToldAs : {A H : Type 0} → Setups → State → List WorldEvent → Result A EventFault → Kept H → Type 0
ToldAs u s es (Ok a) k = ToldAll u s es k
ToldAs u s es (Err fault) k = Stops u s es fault k
