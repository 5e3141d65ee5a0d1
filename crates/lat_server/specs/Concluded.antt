-- The requests of a server's line sessions.
use Rattle.std.specs.Prelude.{◌≡◌, Bool, false, ◌⊎◌, List, [], ◌∷◌, ◌++◌, Option, Some, None}
use Rattle.lat_model.specs.Lists.{Each}
use Rattle.lat_machines.specs.values.Keys.{Key}
use Rattle.lat_machines.specs.values.Notices.{Granted, Done}
use Rattle.lat_machines.specs.cores.Cores.{Seat, Core}
use Rattle.lat_machines.specs.cores.Lines.{over}
use Rattle.lat_machines.specs.server.Queue.{QueueEvent}
use Rattle.lat_machines.specs.server.Records.{kept_for}
use Rattle.lat_queue.specs.Histories.{finish_history}

-- the request that a session was granted for is done, or it is granted still and the session isn't over
abbrev pub IsConcluded : List QueueEvent → Option Key → (is_over : Bool) → Type 0
IsConcluded q None is_over = Unit {0}
IsConcluded q (Some k) is_over = (kept_for k q ≡ Some Done) ⊎ ((is_over ≡ false) × (kept_for k q ≡ Some Granted))

abbrev pub AreConcluded : Core → List QueueEvent → List Seat → Type 0
AreConcluded c q seats = Each (λ (s : Seat). IsConcluded q s.key (over c s)) seats

abbrev pub Concluded : Core → List QueueEvent → Type 0
Concluded c q = AreConcluded c q c.seats

-- the requests of these keys are finished, in order
abbrev pub finish_each : List Key → List QueueEvent → List QueueEvent
finish_each [] q = q
finish_each (k ∷ ks) q = finish_each ks (finish_history k q)

-- the line sessions are those of before, and behind them some that no request was granted for
pub record Connects (c d : Core) : Type 0 where
  pub new : List Seat
  pub seats : d.seats ≡ c.seats ++ new
  pub keyless : Each (λ (s : Seat). s.key ≡ None) new
