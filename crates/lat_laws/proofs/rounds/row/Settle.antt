-- Rounds that each bring a circuit forward, or leave all of it through, settle its open sessions.
use Rattle.std.proofs.Common.{◌≡◌, ℕ, suc, ◌≤◌, ◌⊎◌, ⊎_elim, refl, sym, subst, arith, Bool, true, false, not, List, [], ◌∷◌, length}
use Rattle.std.proofs.lemmas.Bool.{or_parts}
use Rattle.lat_model.specs.sessions.Session.{free}
use Rattle.lat_model.specs.ends.End.{lives}
use Rattle.lat_machines.specs.cores.Lines.{end_of, session_of}
use Rattle.lat_machines.specs.cores.Cores.{Seat}
use Rattle.lat_machines.specs.world.Machines.{Setups, Machines}
use Rattle.lat_machines.specs.world.Reports.{row, report}
use Rattle.lat_laws.specs.rounds.Rounds.{round, rounds, next_moment, Whole}
use Rattle.lat_laws.specs.rounds.Settles.{Begins, Enough, IsOpen, IsSettled, RoundsSettle}
use Rattle.lat_laws.specs.rounds.Counting.{sessions_at, peer_at, both}
use Rattle.lat_laws.proofs.rounds.rounds.Moves.{Reached, rounds_reach}
use Rattle.lat_laws.proofs.rounds.counting.Most.{Matched, both_most}
use Rattle.lat_laws.proofs.rounds.counting.Counts.{ThroughAt, Counting, enough_through}
use Rattle.lat_laws.proofs.rounds.counting.Seats.{AllSeated, run_seated}
use Rattle.lat_laws.proofs.rounds.counting.Stays.{Onto}
use Rattle.lat_laws.proofs.rounds.counting.Forth.{Forth, round_forth}
use Rattle.lat_laws.proofs.rounds.counting.Through.{through_stays}
use Rattle.lat_laws.proofs.rounds.row.Open.{open_settled}

-- a round keeps what is through
pub round_stays : (u : Setups) (now : ℕ) (r : List (List ℕ)) (w : Machines) (p : ℕ) → Matched u w p → Matched u (round u now r w) p → peer_at (round u now r w) p ≡ peer_at w p → ThroughAt w p → ThroughAt (round u now r w) p
round_stays u now r w p a b q t =
    let v : Machines = round u now r w in
    let f : Forth w v = round_forth u now r w in
    let x : Onto (sessions_at w true p) (sessions_at v true p) = f.server.at p a.here a.together.joined.master_ok.past in
    let y : Onto (sessions_at w false (peer_at w p)) (sessions_at v false (peer_at w p)) = f.node.at (peer_at w p) a.drawn a.together.joined.slave_ok.past in
    let z : Onto (sessions_at w false (peer_at w p)) (sessions_at v false (peer_at v p)) = subst (λ i. Onto (sessions_at w false (peer_at w p)) (sessions_at v false i)) (sym q) y in
    through_stays (sessions_at w true p) (sessions_at w false (peer_at w p)) (sessions_at v true p) (sessions_at v false (peer_at v p)) _ _ _ _ a.together.joined b.together.joined a.plain.master.numbered x.each z.each t

-- what is known at the start of each round but the first: of the circuit, and that the round brings it forward or finds it through
pub record Rounding (u : Setups) (p : ℕ) (Ok : ℕ → Machines → List (List (List ℕ)) → Type 0) : Type 0 where
  pub on : (now : ℕ) (w : Machines) (r : List (List ℕ)) (more : List (List (List ℕ))) → Ok now w (r ∷ more) → Ok (next_moment u now) (round u (next_moment u now) r w) more
  pub matched : (now : ℕ) (w : Machines) (more : List (List (List ℕ))) → Ok now w more → Matched u w p
  pub peer : (now : ℕ) (w : Machines) (r : List (List ℕ)) (more : List (List (List ℕ))) → Ok now w (r ∷ more) → peer_at (round u (next_moment u now) r w) p ≡ peer_at w p
  pub counts : (now : ℕ) (w : Machines) (r : List (List ℕ)) (more : List (List (List ℕ))) → Ok now w (r ∷ more) → (suc (both w p) ≤ both (round u (next_moment u now) r w) p) ⊎ ThroughAt (round u (next_moment u now) r w) p

pub counting : (u : Setups) (p : ℕ) (Ok : ℕ → Machines → List (List (List ℕ)) → Type 0) → Rounding u p Ok → Counting u p Ok
counting u p Ok c = record {
  on = c.on;
  counts = c.counts;
  stays = λ now w r more o t. round_stays u (next_moment u now) r w p (c.matched now w (r ∷ more) o) (c.matched (next_moment u now) (round u (next_moment u now) r w) more (c.on now w r more o)) (c.peer now w r more o) t;
}

matched_end : (u : Setups) (p : ℕ) (Ok : ℕ → Machines → List (List (List ℕ)) → Type 0) → Rounding u p Ok → (rs : List (List (List ℕ))) (now : ℕ) (w : Machines) → Ok now w rs → Matched u (rounds u now rs w) p
matched_end u p Ok c [] now w o = c.matched now w [] o
matched_end u p Ok c (r ∷ rs) now w o = matched_end u p Ok c rs (next_moment u now) (round u (next_moment u now) r w) (c.on now w r rs o)

pub reached_seated : (u : Setups) (w : Machines) → Reached u w → AllSeated w
reached_seated u w r = subst AllSeated (sym r.there) (run_seated u r.moves)

-- The rounds behind the first one are enough
pub settles_by : (u : Setups) (now : ℕ) (w : Machines) (r : List (List ℕ)) (more : List (List (List ℕ))) (s : Seat) (Ok : ℕ → Machines → List (List (List ℕ)) → Type 0) →
    Begins u now w → Rounding u s.circuit Ok → Ok (next_moment u now) (round u (next_moment u now) r w) more →
    Enough (length (r ∷ more)) (report u (rounds u now (r ∷ more) w)) →
    IsOpen u (rounds u now (r ∷ more) w) s → IsSettled (row u (rounds u now (r ∷ more) w) s)
settles_by u now w r more s Ok b c o e i =
    let v : Machines = rounds u now (r ∷ more) w in
    let m : Matched u v s.circuit = matched_end u s.circuit Ok c more (next_moment u now) (round u (next_moment u now) r w) o in
    let a : AllSeated v = reached_seated u v (rounds_reach u now w (r ∷ more) b) in
    open_settled u v s m a.node (enough_through u s.circuit Ok (counting u s.circuit Ok c) r more now w o e (both_most u v s.circuit m a.server.seated a.node)) i

shown : (b : Bool) → not b ≡ false → b ≡ true
shown true h = refl
shown false h = sym h

-- The theorem, from what holds behind the first round of each circuit that still lives at the end. One that was called later
-- has nothing put in it: its open rows are settled in another way
pub rounds_settle : (Ok : Setups → ℕ → ℕ → Machines → List (List (List ℕ)) → Type 0) → ((u : Setups) (p : ℕ) → Rounding u p (Ok u p)) →
    ((u : Setups) (now : ℕ) (w : Machines) (r : List (List ℕ)) (more : List (List (List ℕ))) (p : ℕ) → Begins u now w → Whole u now (r ∷ more) w →
    ((rounds u now (r ∷ more) w).server.core.circuits.circuit_at p).address ≡ u.node.own →
    lives ((rounds u now (r ∷ more) w).server.core.circuits.circuit_at p).end ≡ true →
    Ok u p (next_moment u now) (round u (next_moment u now) r w) more ⊎ ((s : Seat) → s.circuit ≡ p → IsOpen u (rounds u now (r ∷ more) w) s → IsSettled (row u (rounds u now (r ∷ more) w) s))) →
    RoundsSettle
rounds_settle Ok c first u now w [] b h e i s at o = absurd (omega (arith, e))
rounds_settle Ok c first u now w (r ∷ more) b h e i s at o =
    let v : Machines = rounds u now (r ∷ more) w in
    let l : lives (end_of v.server.core s) ≡ true = shown (lives (end_of v.server.core s)) (or_parts (not (lives (end_of v.server.core s))) (free (session_of v.server.core s)) o.held).0 in
    ⊎_elim {C = IsSettled (row u v s)} (λ k. settles_by u now w r more s (Ok u s.circuit) b (c u s.circuit) k e o) (λ z. z s refl o) (first u now w r more s.circuit b h o.home l)
