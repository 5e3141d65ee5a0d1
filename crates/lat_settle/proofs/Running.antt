-- Rounds run one after another.
use Rattle.std.proofs.Common.{◌≡◌, ℕ, zero, suc, ◌+◌, ◌*◌, ◌<◌, ◌≤◌, sym, ap, ◌∙◌, refl, subst, arith, take, length, ◌∷◌, Some}
use Rattle.lat_machines.specs.world.Machines.{Setups}
use Rattle.lat_replay.specs.Kept.{Kept}
use Rattle.lat_replay.specs.Played.{State, refusal, Played, Through, Refused, played, StandsAt}
use Rattle.lat_laws.specs.rounds.Rounds.{next_moment}
use Rattle.lat_wire.specs.declared.fault.EventFault.{EventFault}
use Rattle.lat_wire.specs.declared.fault.EventFault.TheVariants.{FramesFull, Backward, OwnAddress, NoFrame, Old, Memory}
use Rattle.lat_settle.specs.Events.{behind, round_events}
use Rattle.lat_settle.specs.Told.{Stops, ToldAll}
use Rattle.lat_settle.specs.Rounds.{in_round, settled_behind, settled, Wants, StopsIn, rounds_moment}
use Rattle.lat_settle.proofs.Passing.{played_through, played_refused, take_front, is_before}

-- one round more, behind so many that were run
pub settled_more : (u : Setups) (run n : ℕ) (s t : State) (p : Played) → settled_behind u run n s ≡ Through t → played u t (round_events u t) ≡ p → settled_behind u run (suc n) s ≡ in_round (suc (run + n)) p Through
unfolding settled_behind
settled_more u run zero s t p q e =
    let same : s ≡ t = cc in
    ap (λ z. in_round (suc run) z Through) (ap (λ z. played u z (round_events u z)) same ∙ e) ∙ ap (λ z. in_round (suc z) p Through) (omega arith)
settled_more u run (suc n) s t p q e = go (played u s (round_events u s)) q (λ r f. settled_more u (suc run) n r t p f e)
  where
    go : (x : Played) → in_round (suc run) x (settled_behind u (suc run) n) ≡ Through t → ((r : State) → settled_behind u (suc run) n r ≡ Through t → settled_behind u (suc run) (suc n) r ≡ in_round (suc (suc run + n)) p Through) → in_round (suc run) x (settled_behind u (suc run) (suc n)) ≡ in_round (suc (run + suc n)) p Through
    go (Through r) f more = more r f ∙ ap (λ z. in_round (suc z) p Through) (omega arith)
    go (Refused i fault r) f more = let z : ⊥ = cc in absurd z

-- no further than to a round in which an event is refused
pub settled_stops : (u : Setups) (run n total : ℕ) (s t r : State) (i : ℕ) (fault : EventFault) → n < total → settled_behind u run n s ≡ Through t → played u t (round_events u t) ≡ Refused i fault r → settled_behind u run total s ≡ Refused (suc (run + n)) fault r
unfolding settled_behind
settled_stops u run n zero s t r i fault l q e = let z : ⊥ = omega (arith, l) in absurd z
settled_stops u run zero (suc total) s t r i fault l q e =
    let same : s ≡ t = cc in
    ap (λ z. in_round (suc run) z (settled_behind u (suc run) total)) (ap (λ z. played u z (round_events u z)) same ∙ e) ∙ ap (λ z. Refused (suc z) fault r) (omega arith)
settled_stops u run (suc n) (suc total) s t r i fault l q e = go (played u s (round_events u s)) q (λ x f. settled_stops u (suc run) n total x t r i fault (omega (arith, l)) f e)
  where
    go : (x : Played) → in_round (suc run) x (settled_behind u (suc run) n) ≡ Through t → ((y : State) → settled_behind u (suc run) n y ≡ Through t → settled_behind u (suc run) total y ≡ Refused (suc (suc run + n)) fault r) → in_round (suc run) x (settled_behind u (suc run) total) ≡ Refused (suc (run + suc n)) fault r
    go (Through y) f more = more y f ∙ ap (λ z. Refused (suc z) fault r) (omega arith)
    go (Refused j other y) f more = let z : ⊥ = cc in absurd z

-- so many rounds were run

pub record Running {H : Type 0} (u : Setups) (s : State) (n : ℕ) (k : Kept H) : Type 0 where
  pub state : State
  pub whole : settled u s n ≡ Through state
  pub stands : StandsAt k state

pub running_none : {H : Type 0} (u : Setups) (s : State) (k : Kept H) → StandsAt k s → Running u s 0 k
unfolding settled_behind
running_none u s k h = record { state = s; whole = refl; stands = h }

pub running_more : {H : Type 0} (u : Setups) (s : State) (n : ℕ) (k new : Kept H) → Running u s n k → ((t : State) → StandsAt k t → ToldAll u t (round_events u t) new) → Running u s (suc n) new
running_more u s n k new r go =
    let q : ToldAll u r.state (round_events u r.state) new = go r.state r.stands in
    record {
      state = behind u r.state (round_events u r.state);
      whole = settled_more u 0 n s r.state (Through (behind u r.state (round_events u r.state))) r.whole (played_through u 0 r.state (round_events u r.state) q.none);
      stands = q.stands;
    }

refused_in : {H : Type 0} (u : Setups) (s : State) (n total : ℕ) (t : State) (fault : EventFault) (new : Kept H) → n < total → settled u s n ≡ Through t → (q : Stops u t (round_events u t) fault new) → refusal u (behind u t q.before) q.event ≡ Some fault → settled u s total ≡ Refused (suc n) fault (behind u t q.before)
refused_in u s n total t fault new l whole q e =
    let is : played u t (round_events u t) ≡ Refused (0 + length q.before) fault (behind u t q.before) = ap (played u t) q.is ∙ played_refused u 0 t q.before q.event q.after fault q.none e in
    settled_stops u 0 n total s t (behind u t q.before) (0 + length q.before) fault l whole is ∙ ap (λ z. Refused (suc z) fault (behind u t q.before)) (let z : 0 + n ≡ n = omega arith in z)

wants_in : {H : Type 0} (u : Setups) (s : State) (n total : ℕ) (t : State) (fault : EventFault) (new : Kept H) → n < total → settled u s n ≡ Through t → (q : Stops u t (round_events u t) fault new) → Wants u s total (suc n) (behind u t q.before)
wants_in u s n total t fault new l whole q = record {
  run = n;
  next = refl;
  within = omega (arith, l);
  start = t;
  whole = whole;
  index = length q.before;
  early = subst (λ z. length q.before < length z) (sym q.is) (is_before q.before q.after q.event);
  good = ap (played u t) (ap (take (length q.before)) q.is ∙ take_front q.before (q.event ∷ q.after)) ∙ played_through u 0 t q.before q.none;
}

stops_in : {H : Type 0} (u : Setups) (s : State) (n total : ℕ) (t : State) (fault : EventFault) (new : Kept H) → n < total → settled u s n ≡ Through t → (q : Stops u t (round_events u t) fault new) → StopsIn u s total (suc n) fault (behind u t q.before)
stops_in u s n total t Memory new l whole q = wants_in u s n total t Memory new l whole q
stops_in u s n total t FramesFull new l whole q = refused_in u s n total t FramesFull new l whole q q.refused
stops_in u s n total t (Backward at last) new l whole q = refused_in u s n total t (Backward at last) new l whole q q.refused
stops_in u s n total t OwnAddress new l whole q = refused_in u s n total t OwnAddress new l whole q q.refused
stops_in u s n total t (NoFrame index sent) new l whole q = refused_in u s n total t (NoFrame index sent) new l whole q q.refused
stops_in u s n total t (Old acknowledgement number newest) new l whole q = refused_in u s n total t (Old acknowledgement number newest) new l whole q q.refused

pub running_stops : {H : Type 0} (u : Setups) (s : State) (n round total : ℕ) (fault : EventFault) (k new : Kept H) → round ≡ suc n → n < total → Running u s n k → ((t : State) → StandsAt k t → Stops u t (round_events u t) fault new) → (t : State) × StopsIn u s total round fault t × StandsAt new t
running_stops u s n round total fault k new is l r go =
    let q : Stops u r.state (round_events u r.state) fault new = go r.state r.stands in
    (behind u r.state q.before, subst (λ z. StopsIn u s total z fault (behind u r.state q.before)) (sym is) (stops_in u s n total r.state fault new l r.whole q), q.stands)

pub running_all : {H : Type 0} (u : Setups) (s : State) (n total : ℕ) (k : Kept H) → n ≤ total → total ≤ n → Running u s n k → Running u s total k
running_all u s n total k l h r = subst (λ z. Running u s z k) (let q : n ≡ total = omega (arith, l, h) in q) r

-- moments

pub times_more : (a b t : ℕ) → a ≤ b → a * t ≤ b * t
times_more zero b t l = omega arith
times_more (suc a) zero t l = let z : ⊥ = omega (arith, l) in absurd z
times_more (suc a) (suc b) t l =
    let h : a * t ≤ b * t = times_more a b t (omega (arith, l)) in
    let p : suc a * t ≡ t + a * t = omega arith in
    let q : suc b * t ≡ t + b * t = omega arith in
    omega (arith, h, p, q)

pub moment_next : (u v : Setups) (now n at : ℕ) → v ≡ u → at ≡ rounds_moment u now n → next_moment v at ≡ rounds_moment u now (suc n)
moment_next u v now n at same e =
    let q : suc n * (10 * u.server.timing.timer) ≡ 10 * u.server.timing.timer + n * (10 * u.server.timing.timer) = omega arith in
    ap (λ z. next_moment z at) same ∙ omega (arith, e, q)

pub still_below : (u v : Setups) (now at n m most : ℕ) → v ≡ u → at ≡ rounds_moment u now n → n < m → rounds_moment u now m < most → next_moment v at < most
still_below u v now at n m most same e l h =
    let a : suc n * (10 * u.server.timing.timer) ≤ m * (10 * u.server.timing.timer) = times_more (suc n) m (10 * u.server.timing.timer) (omega (arith, l)) in
    omega (arith, moment_next u v now n at same e, a, h)

pub moment_so : (u v : Setups) (now at after n m : ℕ) → m ≡ suc n → v ≡ u → at ≡ rounds_moment u now n → after ≡ next_moment v at → after ≡ rounds_moment u now m
moment_so u v now at after n m q same e f = f ∙ (moment_next u v now n at same e ∙ ap (rounds_moment u now) (sym q))

pub moment_all : (u : Setups) (now at n m : ℕ) → n ≤ m → m ≤ n → at ≡ rounds_moment u now n → at ≡ rounds_moment u now m
moment_all u now at n m l h e = e ∙ ap (rounds_moment u now) (let q : n ≡ m = omega (arith, l, h) in q)
