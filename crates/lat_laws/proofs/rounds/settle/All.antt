-- The theorem: rounds bring all that was put.
use Rattle.std.proofs.Common.{◌≡◌, ℕ, ◌≤◌, ◌⊎◌, inl, inr, ⊎_elim, sym, ◌∙◌, refl, arith, true, false, List, ◌∷◌, Bool}
use Rattle.lat_model.specs.Lists.{upwards}
use Rattle.lat_model.specs.ends.End.{lives}
use Rattle.lat_model.proofs.circuits.Ids.{drawn_or}
use Rattle.lat_model.specs.circuits.Ids.{is_drawn}
use Rattle.lat_machines.specs.cores.Cores.{Seat}
use Rattle.lat_machines.specs.world.Machines.{Setups, Machines}
use Rattle.lat_machines.specs.world.Reports.{row}
use Rattle.lat_laws.specs.rounds.Rounds.{time_both, delivered_by, take_lines, round, rounds, next_moment, Whole}
use Rattle.lat_laws.specs.rounds.Settles.{Begins, IsOpen, IsSettled, RoundsSettle}
use Rattle.lat_laws.proofs.rounds.rounds.Moves.{Moved, Reached, moved_then, moved_time, moved_deliveries, moved_round, moved_rounds}
use Rattle.lat_laws.proofs.rounds.rounds.Delivers.{time_keeps, deliveries_keep, round_keeps, rounds_keep}
use Rattle.lat_laws.proofs.rounds.rounds.Youngs.{reached_within, reached_then}
use Rattle.lat_laws.proofs.rounds.ready.Moments.{round_until}
use Rattle.lat_laws.proofs.rounds.counting.Most.{matched_at}
use Rattle.lat_laws.proofs.rounds.counting.Bares.{Bare, lines_bare, rounds_bare}
use Rattle.lat_laws.proofs.rounds.row.Settle.{Rounding, rounds_settle}
use Rattle.lat_laws.proofs.rounds.settle.Steady.{HasEnd, RunsTo}
use Rattle.lat_laws.proofs.rounds.settle.Walks.{runs_on, lived_up, address_on}
use Rattle.lat_laws.proofs.rounds.settle.Before.{Runs, up_end, moved_takes, runs_on_next}
use Rattle.lat_laws.proofs.rounds.settle.Counts.{peer_next, counts}
use Rattle.lat_laws.proofs.rounds.settle.Firsts.{all_run}
use Rattle.lat_laws.proofs.rounds.settle.Late.{bare_here, late_settled}

rounding : (u : Setups) (p : ℕ) → Rounding u p (Runs u p)
rounding u p = record {
  on = λ now w r more o. runs_on_next u p now w r more o;
  matched = λ now w more o. matched_at u w p o.fit o.usual o.reached o.home o.running;
  peer = λ now w r more o. peer_next u p now w r more o;
  counts = λ now w r more o. counts u p now w r more o;
}

-- behind the first round
module _ (u : Setups) (now : ℕ) (w : Machines) (r : List (List ℕ)) (more : List (List (List ℕ))) (p : ℕ) (b : Begins u now w) (whole : Whole u now (r ∷ more) w) where
  abbrev t : ℕ
  t = next_moment u now

  abbrev both_timed : Machines
  both_timed = time_both u t w

  abbrev m : Machines
  m = delivered_by u t r w

  abbrev z : Machines
  z = round u t r w

  abbrev end : Machines
  end = rounds u t more z

  begins : Reached u w
  begins = record { moves = b.moves; there = b.reached; short = b.short; calm = b.calm; lossless = b.lossless }

  reached_timed : Reached u both_timed
  reached_timed = reached_then u w both_timed begins (moved_time u t w) (time_keeps u t w (reached_within u w begins) b.lossless).lossless

  reached_m : Reached u m
  reached_m = reached_then u both_timed m reached_timed (moved_deliveries u t r both_timed) (deliveries_keep u t r both_timed (reached_within u both_timed reached_timed) reached_timed.lossless).lossless

  reached_z : Reached u z
  reached_z = reached_then u w z begins (moved_round u t r w) (round_keeps u t r w (reached_within u w begins) b.lossless).lossless

  reached_end : Reached u end
  reached_end = reached_then u z end reached_z (moved_rounds u more t z) (rounds_keep u more t z (reached_within u z reached_z) reached_z.lossless).lossless

  moved_end : Moved u m end
  moved_end = moved_then u m z end (moved_takes u m) (moved_rounds u more t z)

  bare_end : Bare (is_drawn m.server.core.circuits) (is_drawn m.node.core.circuits) end
  bare_end =
      let n : ℕ → Bool = is_drawn m.server.core.circuits in
      let k : ℕ → Bool = is_drawn m.node.core.circuits in
      let s : Machines = take_lines u true (upwards 0 u.server.lines) m in
      rounds_bare u n k more t z (lines_bare u n k false (upwards 0 u.node.lines) s (lines_bare u n k true (upwards 0 u.server.lines) m (bare_here u m b.fit b.usual reached_m)))

  runs_first : is_drawn m.server.core.circuits p ≡ true → (end.server.core.circuits.circuit_at p).address ≡ u.node.own → lives (up_end end p) ≡ true → Runs u p t z more
  runs_first d home l =
      let a : (m.server.core.circuits.circuit_at p).address ≡ u.node.own = sym (address_on u p m end moved_end d) ∙ home in
      let run : (up_end m p).running ≡ true = all_run u m p b.fit b.usual reached_m whole.0 a (lived_up u p m end moved_end d l) in
      let h : HasEnd p u.node.own (RunsTo (up_end m p).peer) z.server.core = runs_on u p u.node.own (up_end m p).peer m z (moved_takes u m) (record { drawn = d; address = a; end = (run, refl) }) in
      record {
        fit = b.fit;
        usual = b.usual;
        reached = reached_z;
        until = round_until u t r w (record { server = (let x : w.server.core.moment ≤ now = b.server in omega (arith, x)); node = (let x : w.node.core.moment ≤ now = b.node in omega (arith, x)) });
        whole = whole.1;
        home = h.address;
        running = h.end.0;
        alive = l;
        before = m;
        takes = refl;
        reached_before = reached_m;
        none = whole.0;
        runs_before = record { address = a; running = run };
      }

  first : (end.server.core.circuits.circuit_at p).address ≡ u.node.own → lives (up_end end p) ≡ true → Runs u p t z more ⊎ ((s : Seat) → s.circuit ≡ p → IsOpen u end s → IsSettled (row u end s))
  first home l = ⊎_elim {C = Runs u p t z more ⊎ ((s : Seat) → s.circuit ≡ p → IsOpen u end s → IsSettled (row u end s))}
      (λ late. inr (λ s at o. late_settled u b.fit b.usual m end reached_m reached_end moved_end bare_end p late home s at))
      (λ d. inl (runs_first d home l))
      (drawn_or m.server.core.circuits p)

pub all_settle : RoundsSettle
all_settle = rounds_settle Runs rounding (λ u now w r more p b h home l. first u now w r more p b h home l)
