-- An end before a round.
use Rattle.std.specs.Prelude.{◌≡◌, ℕ, suc, ◌+◌, ◌*◌, ◌<◌, ◌≤◌, true, false, List, [], ◌∷◌}
use Rattle.lat_model.specs.numbers.Link.{bare_frame}
use Rattle.lat_model.specs.ends.End.{Bare, Sent, Run, End, lives}
use Rattle.lat_model.specs.ends.Timers.{may_form, time_step}
use Rattle.lat_model.specs.ends.Run.{run_end}
use Rattle.lat_model.specs.sessions.EndOk.{EndOk}
use Rattle.lat_model.specs.circuits.Together.{Together}
use Rattle.lat_laws.specs.rounds.Idle.{Fitting, Silent, AllAnswered, AllTaken, AllThrough}
use Rattle.lat_laws.specs.rounds.Plain.{BothPlain}
use Rattle.lat_laws.specs.rounds.Measure.{weights}
use Rattle.lat_laws.specs.rounds.Flight.{Flow, ShowsTaken, Clear}

-- its timer is due at this moment, and it may form
pub record Due (now : ℕ) (e : End) : Type 0 where
  pub lives : lives e ≡ true
  pub running : e.running ≡ true
  pub forms : may_form e ≡ true
  pub due : e.due_at + 10 * e.timer ≤ now
  pub window : 0 < e.window
  pub fits : Fitting e.room e.half.sessions
  pub good : EndOk e.half.sessions

-- Two ends between which no frame is in flight
pub record Still (m : End) (s : End) : Type 0 where
  pub up : Flow m.half.link s.half.link []
  pub down : Flow s.half.link m.half.link []
  pub shows : ShowsTaken m
  pub clear : Clear s
  pub master : m.master ≡ true
  pub slave : s.master ≡ false

-- What a round brings: the master forms at its time event, or the slave at its own; or the master sends an acknowledgement
-- first, at which the slave forms; or both have nothing to send
pub data Outcome (now : ℕ) (m : End) (s : End) : Type 0 where
  MasterForms : suc (weights m.half.sessions) ≤ weights (time_step now m).end.half.sessions → Outcome now m s
  SlaveForms : suc (weights s.half.sessions) ≤ weights (time_step now s).end.half.sessions → Outcome now m s
  SlaveAnswers :
      (rest : List Sent) →
      (time_step now m).sent ≡ Run Bare false (bare_frame m.half.link) ∷ rest →
      ((t : ℕ) → suc (weights s.half.sessions) ≤ weights (run_end t false (bare_frame m.half.link) (time_step now s).end).step.end.half.sessions) →
      Outcome now m s
  BothSilent : Silent m.room m.half.sessions → Silent s.room s.half.sessions → Outcome now m s

-- What the ends of a circuit of both are before a round: nothing is in flight, all is taken, and each asked session is
-- answered
pub record Ready (now : ℕ) (m : End) (s : End) : Type 0 where
  pub still : Still m s
  pub together : Together m.half s.half []
  pub plain : BothPlain m.half.sessions s.half.sessions
  pub master_due : m.due_at + 10 * m.timer ≤ now
  pub slave_due : s.due_at + 10 * s.timer ≤ now
  pub master_lives : lives m ≡ true
  pub slave_lives : lives s ≡ true
  pub master_runs : m.running ≡ true
  pub slave_runs : s.running ≡ true
  pub slave_forms : s.heard_run ≡ true
  pub master_window : 0 < m.window
  pub slave_window : 0 < s.window
  pub master_room : 300 ≤ m.room
  pub slave_room : 300 ≤ s.room
  pub master_gives : 0 < m.half.sessions.ceiling
  pub slave_gives : 0 < s.half.sessions.ceiling
  pub answered : AllAnswered s.half.sessions
  pub master_takes : AllTaken m.half.sessions
  pub slave_takes : AllTaken s.half.sessions

-- a round brings the sessions forward, or all that was put is through
pub data Brings (now : ℕ) (m : End) (s : End) : Type 0 where
  Forward : suc (weights m.half.sessions) ≤ weights (time_step now m).end.half.sessions → Brings now m s
  Back : suc (weights s.half.sessions) ≤ weights (time_step now s).end.half.sessions → Brings now m s
  Answered :
      (rest : List Sent) →
      (time_step now m).sent ≡ Run Bare false (bare_frame m.half.link) ∷ rest →
      ((t : ℕ) → suc (weights s.half.sessions) ≤ weights (run_end t false (bare_frame m.half.link) (time_step now s).end).step.end.half.sessions) →
      Brings now m s
  Through : AllThrough m.half.sessions s.half.sessions → Brings now m s
