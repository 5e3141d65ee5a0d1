-- What rounds come to.
use Rattle.std.specs.Prelude.{◌≡◌, ℕ, zero, suc, ◌+◌, ◌*◌, ◌<◌, ◌≤◌, length, take, Result, Ok, Err}
use Rattle.lat_machines.specs.world.Machines.{Setups}
use Rattle.lat_replay.specs.Kept.{Kept}
use Rattle.lat_replay.specs.Played.{State, Played, Through, Refused, played, StandsAt}
use Rattle.lat_wire.specs.declared.fault.EventFault.{EventFault}
use Rattle.lat_wire.specs.declared.fault.EventFault.TheVariants.{Memory}
use Rattle.lat_settle.specs.declared.settling.Unsettled.{Unsettled}
use Rattle.lat_settle.specs.Events.{round_events}

-- further rounds follow a round, unless it is the one in which an event is refused
abbrev pub in_round : (round : ℕ) → Played → (State → Played) → Played
in_round round (Through t) more = more t
in_round round (Refused index fault t) more = Refused round fault t

-- so many rounds, behind as many as were run before
unfoldable pub settled_behind : Setups → (run : ℕ) → (rounds : ℕ) → State → Played
settled_behind u run zero s = Through s
settled_behind u run (suc rounds) s = in_round (suc run) (played u s (round_events u s)) (settled_behind u (suc run) rounds)

-- So many rounds: to the state behind all of them; or up to the first event that is refused, with the number of its round,
-- from 1 on, why, and the state before it
abbrev pub settled : Setups → State → (rounds : ℕ) → Played
settled u s rounds = settled_behind u 0 rounds s

-- memory wanted in this round, one of so many, behind some events that weren't refused
pub record Wants (u : Setups) (s : State) (rounds round : ℕ) (t : State) : Type 0 where
  pub run : ℕ
  pub next : round ≡ suc run
  pub within : round ≤ rounds
  pub start : State
  pub whole : settled u s run ≡ Through start
  pub index : ℕ
  pub early : index < length (round_events u start)
  pub good : played u start (take index (round_events u start)) ≡ Through t

-- why rounds go no further than to this state: in this round an event is the first that is refused, or memory wanted
abbrev pub StopsIn : Setups → State → (rounds round : ℕ) → EventFault → State → Type 0
StopsIn u s rounds round Memory t = Wants u s rounds round t
StopsIn u s rounds round fault t = settled u s rounds ≡ Refused round fault t

-- A call ran so many rounds, or up to an event that was refused. The world stands for what it came to
abbrev pub RunsAs : {A H : Type 0} → Setups → State → (rounds : ℕ) → Result A Unsettled → Kept H → Type 0
RunsAs u s rounds (Ok done) k = (t : State) × (settled u s rounds ≡ Through t) × StandsAt k t
RunsAs u s rounds (Err e) k = (t : State) × StopsIn u s rounds e.round e.fault t × StandsAt k t

-- the same, where the round isn't told
abbrev pub SettlesAs : {A H : Type 0} → Setups → State → (rounds : ℕ) → Result A EventFault → Kept H → Type 0
SettlesAs u s rounds (Ok done) k = (t : State) × (settled u s rounds ≡ Through t) × StandsAt k t
SettlesAs u s rounds (Err fault) k = (round : ℕ) × (t : State) × StopsIn u s rounds round fault t × StandsAt k t

-- the moment behind so many rounds
abbrev pub rounds_moment : Setups → ℕ → (rounds : ℕ) → ℕ
rounds_moment u now rounds = now + rounds * (10 * u.server.timing.timer)
