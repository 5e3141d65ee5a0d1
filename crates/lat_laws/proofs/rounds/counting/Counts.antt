-- Rounds that each bring the two ends of a circuit forward, until all is through.
use Rattle.std.proofs.Common.{ℕ, suc, ◌+◌, ◌*◌, ◌≤◌, ◌⊎◌, inl, inr, ⊎_elim, arith, true, false, List, [], ◌∷◌, length}
use Rattle.lat_machines.specs.world.Machines.{Setups, Machines}
use Rattle.lat_machines.specs.world.Reports.{report}
use Rattle.lat_laws.specs.rounds.Rounds.{round, rounds, next_moment}
use Rattle.lat_laws.specs.rounds.Idle.{AllThrough}
use Rattle.lat_laws.specs.rounds.Settles.{put_in, Enough}
use Rattle.lat_laws.specs.rounds.Counting.{sessions_at, peer_at, both}

abbrev pub ThroughAt : Machines → ℕ → Type 0
ThroughAt w p = AllThrough (sessions_at w true p) (sessions_at w false (peer_at w p))

-- what is known of a world, its moment and the rounds to come: it holds on, and in each round the ends come forward, or all is
-- through; and what is through stays so
pub record Counting (u : Setups) (p : ℕ) (Ok : ℕ → Machines → List (List (List ℕ)) → Type 0) : Type 0 where
  pub on : (now : ℕ) (w : Machines) (r : List (List ℕ)) (more : List (List (List ℕ))) → Ok now w (r ∷ more) → Ok (next_moment u now) (round u (next_moment u now) r w) more
  pub counts : (now : ℕ) (w : Machines) (r : List (List ℕ)) (more : List (List (List ℕ))) → Ok now w (r ∷ more) → (suc (both w p) ≤ both (round u (next_moment u now) r w) p) ⊎ ThroughAt (round u (next_moment u now) r w) p
  pub stays : (now : ℕ) (w : Machines) (r : List (List ℕ)) (more : List (List (List ℕ))) → Ok now w (r ∷ more) → ThroughAt w p → ThroughAt (round u (next_moment u now) r w) p

stays_on : (u : Setups) (p : ℕ) (Ok : ℕ → Machines → List (List (List ℕ)) → Type 0) → Counting u p Ok → (rs : List (List (List ℕ))) (now : ℕ) (w : Machines) → Ok now w rs → ThroughAt w p → ThroughAt (rounds u now rs w) p
stays_on u p Ok c [] now w o t = t
stays_on u p Ok c (r ∷ more) now w o t = stays_on u p Ok c more (next_moment u now) (round u (next_moment u now) r w) (c.on now w r more o) (c.stays now w r more o t)

pub rounds_count : (u : Setups) (p : ℕ) (Ok : ℕ → Machines → List (List (List ℕ)) → Type 0) → Counting u p Ok → (rs : List (List (List ℕ))) (now : ℕ) (w : Machines) → Ok now w rs → (length rs + both w p ≤ both (rounds u now rs w) p) ⊎ ThroughAt (rounds u now rs w) p
rounds_count u p Ok c [] now w o = inl (omega arith)
rounds_count u p Ok c (r ∷ more) now w o = ⊎_elim {C = (suc (length more) + both w p ≤ both end p) ⊎ ThroughAt end p}
    (λ l. ⊎_elim {C = (suc (length more) + both w p ≤ both end p) ⊎ ThroughAt end p} (λ h. inl (omega (arith, h, l))) inr (rounds_count u p Ok c more (next_moment u now) v n))
    (λ t. inr (stays_on u p Ok c more (next_moment u now) v n t))
    (c.counts now w r more o)
  where
    v : Machines
    v = round u (next_moment u now) r w

    n : Ok (next_moment u now) v more
    n = c.on now w r more o

    end : Machines
    end = rounds u (next_moment u now) more v

-- so many rounds bring all through: the first one may be another's, and empties the wires
pub enough_through : (u : Setups) (p : ℕ) (Ok : ℕ → Machines → List (List (List ℕ)) → Type 0) → Counting u p Ok → (r : List (List ℕ)) (more : List (List (List ℕ))) (now : ℕ) (w : Machines) → Ok (next_moment u now) (round u (next_moment u now) r w) more → Enough (length (r ∷ more)) (report u (rounds u now (r ∷ more) w)) → both (rounds u now (r ∷ more) w) p ≤ 6 * length (report u (rounds u now (r ∷ more) w)).sessions + 2 * put_in (report u (rounds u now (r ∷ more) w)).sessions → ThroughAt (rounds u now (r ∷ more) w) p
enough_through u p Ok c r more now w o e m = ⊎_elim {C = ThroughAt (rounds u now (r ∷ more) w) p} (λ h. absurd (omega (arith, h, e, m))) (λ t. t) (rounds_count u p Ok c more (next_moment u now) (round u (next_moment u now) r w) o)
