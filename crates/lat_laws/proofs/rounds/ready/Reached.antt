-- What every world of a run has, and so each world behind rounds.
use Rattle.std.proofs.Common.{ℕ, sym, subst, List}
use Rattle.lat_machines.specs.world.Machines.{Setups, Machines, Move, run, open_machines}
use Rattle.lat_machines.specs.world.Safe.{Fit}
use Rattle.lat_laws.specs.rounds.Rounds.{rounds}
use Rattle.lat_laws.specs.rounds.Settles.{Begins}
use Rattle.lat_laws.specs.rounds.Seated.{BothSeated}
use Rattle.lat_laws.specs.rounds.Fitting.{BothFit}
use Rattle.lat_laws.proofs.rounds.rounds.Moves.{Reached, rounds_reach}
use Rattle.lat_laws.proofs.rounds.ready.Events.{run_seated, open_seated}
use Rattle.lat_laws.proofs.rounds.ready.FitRuns.{run_fit, open_fit}
use Rattle.lat_laws.proofs.rounds.ready.Answereds.{AllAnsweredAt, run_answered, open_answered}
use Rattle.lat_laws.proofs.rounds.ready.Firsts.{NodeIdle, run_idle, open_idle}

pub record Standing (u : Setups) (w : Machines) : Type 0 where
  pub seated : BothSeated u w
  pub fits : BothFit u w
  pub answered : AllAnsweredAt w
  pub idle : NodeIdle w

run_standing : (u : Setups) (es : List Move) → Fit u → Standing u (run u es (open_machines u))
run_standing u es f = record {
  seated = run_seated u es (open_machines u) f.sessions (open_seated u);
  fits = run_fit u es (open_machines u) (open_fit u);
  answered = run_answered u es (open_machines u) f.sessions (open_seated u) (open_answered u);
  idle = run_idle u es (open_machines u) f.node_ceiling (open_idle u f.node_ceiling);
}

pub reached_standing : (u : Setups) (w : Machines) → Fit u → Reached u w → Standing u w
reached_standing u w f r = subst (Standing u) (sym r.there) (run_standing u r.moves f)

pub rounds_standing : (u : Setups) (now : ℕ) (w : Machines) (rs : List (List (List ℕ))) → Begins u now w → Standing u (rounds u now rs w)
rounds_standing u now w rs g = reached_standing u (rounds u now rs w) g.fit (rounds_reach u now w rs g)
