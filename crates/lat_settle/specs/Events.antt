-- The events of a round. Each is found when its turn comes: in the state behind those before it.
use Rattle.std.specs.Prelude.{ℕ, zero, suc, Bool, true, false, cond, List, [], ◌∷◌, ◌++◌, Option, Some, None}
use Rattle.lat_base.specs.declared.event.Event.TheVariants as events
use Rattle.lat_machines.specs.cores.Lines.{has_session}
use Rattle.lat_machines.specs.world.Machines.{Setups, core_of}
use Rattle.lat_model.specs.Lists.{upwards}
use Rattle.lat_replay.specs.Played.{State, next}
use Rattle.lat_laws.specs.rounds.Rounds.{undelivered, next_moment}
use Rattle.lat_schedule.specs.declared.event.WorldEvent.{WorldEvent}
use Rattle.lat_schedule.specs.declared.event.WorldEvent.TheVariants.{Local, Deliver}

-- the state behind some events
unfoldable pub behind : Setups → State → List WorldEvent → State
behind u s [] = s
behind u s (e ∷ es) = behind u (next u s e) es

-- these events, and then those that are found behind them
unfoldable pub followed : Setups → State → List WorldEvent → (State → List WorldEvent) → List WorldEvent
followed u s es more = es ++ more (behind u s es)

-- both ends are told the moment, the server first
abbrev pub tell_time : Bool → ℕ → WorldEvent
tell_time server now = Local server (events.Time now)

abbrev pub time_events : ℕ → List WorldEvent
time_events now = tell_time true now ∷ tell_time false now ∷ []

abbrev pub delivers : Option ℕ → (ℕ → List WorldEvent) → List WorldEvent
delivers None more = []
delivers (Some index) more = Deliver index ∷ more index

-- Every frame that never came is delivered, the one that was sent first before the others, as long as there is one. At most
-- so many are
unfoldable pub deliver_events : Setups → (most : ℕ) → State → List WorldEvent
deliver_events u zero s = []
deliver_events u (suc most) s = delivers (undelivered u s.machines) (λ index. deliver_events u most (next u s (Deliver index)))

abbrev pub take_on : Bool → ℕ → WorldEvent
take_on server line = Local server (events.Take line 4096)

-- each of these lines that has a session when its turn comes takes
unfoldable pub take_events : Setups → Bool → List ℕ → State → List WorldEvent
take_events u server [] s = []
take_events u server (line ∷ lines) s =
    cond (has_session (core_of s.machines server) line)
    (take_on server line ∷ take_events u server lines (next u s (take_on server line)))
    (take_events u server lines s)

-- A round: the next moment, all frames, then the lines of the server and those of the node, by rising number. A round whose
-- events aren't refused has fewer deliveries than this: each is of a later frame, and none comes once more than 199,744 were sent
unfoldable pub round_events : Setups → State → List WorldEvent
round_events u s =
    followed u s (time_events (next_moment u s.moment)) (λ told.
    followed u told (deliver_events u 199745 told) (λ heard.
    followed u heard (take_events u true (upwards 0 u.server.lines) heard)
    (take_events u false (upwards 0 u.node.lines))))
