-- A round between two ends with nothing in flight brings them forward, or all that was put is through.
use Rattle.std.proofs.Common.{◌≡◌, ℕ, ◌≤◌, ap, refl, subst, arith, true, ◌||◌, [], ◌∷◌, length, length-append}
use Rattle.std.proofs.lemmas.Bool.{and_from, or_left, or_right}
use Rattle.lat_model.specs.sessions.Joined.{Joined}
use Rattle.lat_model.specs.ends.End.{End, lives}
use Rattle.lat_model.specs.ends.Timers.{time_step}
use Rattle.lat_model.specs.circuits.Together.{Log, wires, flat, Together}
use Rattle.lat_model.proofs.numbers.Net.{prefix_length}
use Rattle.lat_laws.specs.rounds.Idle.{Silent, AtRest}
use Rattle.lat_laws.specs.rounds.Progress.{Due, Still, Outcome, MasterForms, SlaveForms, SlaveAnswers, BothSilent, Ready, Brings, Forward, Back, Answered, Through}
use Rattle.lat_laws.proofs.rounds.sessions.Fits.{all_fit}
use Rattle.lat_laws.proofs.rounds.sessions.Rests.{at_rest}
use Rattle.lat_laws.proofs.rounds.plain.Handies.{handy_master, handy_slave}
use Rattle.lat_laws.proofs.rounds.progress.Answers.{round_outcome}

no_log : (ms : Log) → length (wires ms) ≡ 0 → ms ≡ []
no_log [] h = refl
no_log (m ∷ ms) h = absurd (omega (arith, h))

-- nothing lies on the wires
pub joined_still : (m s : End) → Together m.half s.half [] → Still m s → Joined m.half.sessions s.half.sessions [] []
joined_still m s t w = subst (λ z. Joined m.half.sessions s.half.sessions (flat z) []) up (subst (λ z. Joined m.half.sessions s.half.sessions (flat t.up) (flat z)) down t.joined)
  where
    up : t.up ≡ []
    up = no_log t.up (omega (arith, ap length t.up_is, length-append s.half.link.came (wires t.up), w.up.brings))

    down : t.down ≡ []
    down = no_log t.down (omega (arith, ap length t.down_is, length-append m.half.link.came (wires t.down), w.down.brings))

pub round_brings : (now : ℕ) (m s : End) → Ready now m s → lives (time_step now m).end ≡ true → lives (time_step now s).end ≡ true → Brings now m s
round_brings now m s r lm ls = go (round_outcome now m s r.still master slave known lm ls)
  where
    j : Joined m.half.sessions s.half.sessions [] []
    j = joined_still m s r.together r.still

    master : Due now m
    master = record {
      lives = r.master_lives;
      running = r.master_runs;
      forms = and_from m.running (m.master || m.heard_run) r.master_runs (or_left m.master m.heard_run r.still.master);
      due = r.master_due;
      window = r.master_window;
      fits = all_fit m.room m.half.sessions r.master_room (handy_master m.half.sessions s.half.sessions [] [] j r.plain.master r.plain.slave);
      good = j.master_ok;
    }

    slave : Due now s
    slave = record {
      lives = r.slave_lives;
      running = r.slave_runs;
      forms = and_from s.running (s.master || s.heard_run) r.slave_runs (or_right s.master s.heard_run r.slave_forms);
      due = r.slave_due;
      window = r.slave_window;
      fits = all_fit s.room s.half.sessions r.slave_room (handy_slave m.half.sessions s.half.sessions [] [] j r.plain.master r.plain.slave);
      good = j.slave_ok;
    }

    known : s.half.link.known ≤ length s.half.link.sent
    known = omega (arith, r.together.way_down.known_taken, prefix_length m.half.link.came s.half.link.sent r.together.way_down.came_first)

    rests : Silent m.room m.half.sessions → Silent s.room s.half.sessions → AtRest m.room s.room m.half.sessions s.half.sessions
    rests a b = record {
      joined = j;
      master_gives = r.master_gives;
      slave_gives = r.slave_gives;
      master_ids = r.plain.master.ids;
      slave_ids = r.plain.slave.ids;
      master_accepts = λ k. (r.plain.master.each k).accepts j.master;
      slave_answers = r.answered;
      no_stops = r.plain.stops;
      master_takes = r.master_takes;
      slave_takes = r.slave_takes;
      master_silent = a;
      slave_silent = b;
    }

    go : Outcome now m s → Brings now m s
    go (MasterForms h) = Forward h
    go (SlaveForms h) = Back h
    go (SlaveAnswers rest e h) = Answered rest e h
    go (BothSilent a b) = Through (at_rest m.room s.room m.half.sessions s.half.sessions (rests a b))
