-- Events played one after another.
use Rattle.std.proofs.Common.{◌≡◌, ℕ, zero, suc, ◌+◌, ◌≤◌, length, sym, ap, ◌∙◌, refl, subst, List, [], ◌∷◌, Option, Some, None, slice_get, take, arith, Result, Err}
use Rattle.lat_machines.specs.world.Machines.{Setups, Machines, happens}
use Rattle.lat_schedule.specs.declared.event.WorldEvent.{WorldEvent}
use Rattle.lat_wire.specs.declared.fault.EventFault.{EventFault}
use Rattle.lat_wire.specs.declared.fault.EventFault.TheVariants.{FramesFull, Backward, OwnAddress, NoFrame, Old, Memory}
use Rattle.lat_wire.specs.Refusals.{RefusedAs}
use Rattle.lat_replay.specs.Kept.{Kept, setups_of, moment_of}
use Rattle.lat_replay.specs.Moves.{move_of, moment_behind, refusal_of}
use Rattle.lat_replay.specs.Stands.{Stands}
use Rattle.lat_replay.specs.Played.{State, next, refusal, Played, Through, Refused, unless, played_from, played, StandsAt, StopsBy}

-- what was played is not refused at its first event
pub passes : (o : Option EventFault) (i : ℕ) (s t : State) (rest : Played) → unless o i s rest ≡ Through t → o ≡ None
passes None i s t rest e = refl
passes (Some f) i s t rest e = let z : ⊥ = cc in absurd z

pub past : (o : Option EventFault) (i : ℕ) (s : State) (rest : Played) → o ≡ None → unless o i s rest ≡ rest
past None i s rest e = refl
past (Some f) i s rest e = let z : ⊥ = cc in absurd z

stops : (o : Option EventFault) (i : ℕ) (s : State) (rest : Played) (f : EventFault) → o ≡ Some f → unless o i s rest ≡ Refused i f s
stops o i s rest f e = ap (λ z. unless z i s rest) e

pub same_state : (s t : State) → Through s ≡ Through t → s ≡ t
same_state s t e = cc

same_event : (x e : WorldEvent) → Some x ≡ Some e → x ≡ e
same_event x e q = cc

-- one event more
pub through_more : (u : Setups) (i : ℕ) (s : State) (es : List WorldEvent) (n : ℕ) (e : WorldEvent) (t : State) → played_from u i s (take n es) ≡ Through t → slice_get es n ≡ Some e → refusal u t e ≡ None → played_from u i s (take (suc n) es) ≡ Through (next u t e)
through_more u i s [] n e t p q r = let z : ⊥ = cc in absurd z
through_more u i s (x ∷ xs) zero e t p q r =
    subst (λ z. played_from u i s (z ∷ []) ≡ Through (next u t e)) (sym (same_event x e q))
    (subst (λ z. played_from u i z (e ∷ []) ≡ Through (next u t e)) (sym (same_state s t p)) (past (refusal u t e) i t (Through (next u t e)) r))
through_more u i s (x ∷ xs) (suc n) e t p q r =
    past (refusal u s x) i s (played_from u (suc i) (next u s x) (take (suc n) xs)) none
    ∙ through_more u (suc i) (next u s x) xs n e t (sym (past (refusal u s x) i s (played_from u (suc i) (next u s x) (take n xs)) none) ∙ p) q r
  where
    none : refusal u s x ≡ None
    none = passes (refusal u s x) i s t (played_from u (suc i) (next u s x) (take n xs)) p

-- the first one that is refused
pub refused_at : (u : Setups) (i : ℕ) (s : State) (es : List WorldEvent) (n : ℕ) (e : WorldEvent) (t : State) (f : EventFault) → played_from u i s (take n es) ≡ Through t → slice_get es n ≡ Some e → refusal u t e ≡ Some f → played_from u i s es ≡ Refused (i + n) f t
refused_at u i s [] n e t f p q r = let z : ⊥ = cc in absurd z
refused_at u i s (x ∷ xs) zero e t f p q r =
    stops (refusal u s x) i s (played_from u (suc i) (next u s x) xs) f (ap (refusal u s) (same_event x e q) ∙ (ap (λ z. refusal u z e) (same_state s t p) ∙ r))
    ∙ (ap (λ z. Refused z f s) (omega arith) ∙ ap (Refused (i + zero) f) (same_state s t p))
refused_at u i s (x ∷ xs) (suc n) e t f p q r =
    past (refusal u s x) i s (played_from u (suc i) (next u s x) xs) none
    ∙ (refused_at u (suc i) (next u s x) xs n e t f (sym (past (refusal u s x) i s (played_from u (suc i) (next u s x) (take n xs)) none) ∙ p) q r
    ∙ ap (λ z. Refused z f t) (omega arith))
  where
    none : refusal u s x ≡ None
    none = passes (refusal u s x) i s t (played_from u (suc i) (next u s x) (take n xs)) p

-- a world stands for what these events led to
abbrev pub Reaches : {H : Type 0} → Setups → State → List WorldEvent → Kept H → Type 0
Reaches u s es k = (t : State) × (played u s es ≡ Through t) × StandsAt k t

pub reaches_more : {H : Type 0} (k new : Kept H) (u : Setups) (s : State) (es : List WorldEvent) (n : ℕ) (e : WorldEvent) → slice_get es n ≡ Some e → ((t : State) → StandsAt k t → refusal u t e ≡ None) → ((t : State) → StandsAt k t → StandsAt new (next u t e)) → Reaches u s (take n es) k → Reaches u s (take (suc n) es) new
reaches_more k new u s es n e q passes goes r = (next u r.0 e, through_more u 0 s es n e r.0 r.1 q (passes r.0 r.2), goes r.0 r.2)

stopped_at : (u : Setups) (s : State) (es : List WorldEvent) (n : ℕ) (e : WorldEvent) (t : State) (f : EventFault) → played u s (take n es) ≡ Through t → slice_get es n ≡ Some e → refusal u t e ≡ Some f → played u s es ≡ Refused n f t
stopped_at u s es n e t f p q r = refused_at u 0 s es n e t f p q r ∙ ap (λ z. Refused z f t) (let z : 0 + n ≡ n = omega arith in z)

stops_by : (A : Type 0) (u : Setups) (s : State) (es : List WorldEvent) (n : ℕ) (e : WorldEvent) (t : State) (f : EventFault) → played u s (take n es) ≡ Through t → slice_get es n ≡ Some e → RefusedAs {A = A} (Err f) (refusal u t e) → StopsBy u s es n f t
stops_by A u s es n e t Memory p q r = p
stops_by A u s es n e t FramesFull p q r = stopped_at u s es n e t FramesFull p q r
stops_by A u s es n e t (Backward at last) p q r = stopped_at u s es n e t (Backward at last) p q r
stops_by A u s es n e t OwnAddress p q r = stopped_at u s es n e t OwnAddress p q r
stops_by A u s es n e t (NoFrame index sent) p q r = stopped_at u s es n e t (NoFrame index sent) p q r
stops_by A u s es n e t (Old acknowledgement number newest) p q r = stopped_at u s es n e t (Old acknowledgement number newest) p q r

-- and stops there
pub stops_at : {H : Type 0} (A : Type 0) (k new : Kept H) (u : Setups) (s : State) (es : List WorldEvent) (n : ℕ) (e : WorldEvent) (f : EventFault) → slice_get es n ≡ Some e → ((t : State) → StandsAt k t → RefusedAs {A = A} (Err f) (refusal u t e)) → ((t : State) → StandsAt k t → StandsAt new t) → Reaches u s (take n es) k → (t : State) × StopsBy u s es n f t × StandsAt new t
stops_at A k new u s es n e f q refused stays r = (r.0, stops_by A u s es n e r.0 f r.1 q (refused r.0 r.2), stays r.0 r.2)

-- the clauses of a step, of a world at a moment

pub refused_so : {A H : Type 0} (k : Kept H) (u : Setups) (e : WorldEvent) (r : Result A EventFault) → setups_of k ≡ u → ((w : Machines) → Stands k w → RefusedAs r (refusal_of (setups_of k) w (moment_of k) e)) → (t : State) → StandsAt k t → RefusedAs r (refusal u t e)
refused_so k u e r same refused t h =
    subst (λ v. RefusedAs r (refusal_of v t.machines t.moment e)) same
    (subst (λ m. RefusedAs r (refusal_of (setups_of k) t.machines m e)) h.moment (refused t.machines h.machines))

pub goes_on : {H : Type 0} (k new : Kept H) (u : Setups) (e : WorldEvent) → setups_of k ≡ u → ((w : Machines) → Stands k w → Stands new (happens (setups_of k) w (move_of (setups_of k) w (moment_of k) e))) → moment_of new ≡ moment_behind (moment_of k) e → (t : State) → StandsAt k t → StandsAt new (next u t e)
goes_on k new u e same goes moment t h = record {
  machines = subst (λ v. Stands new (happens v t.machines (move_of v t.machines t.moment e))) same
      (subst (λ m. Stands new (happens (setups_of k) t.machines (move_of (setups_of k) t.machines m e))) h.moment (goes t.machines h.machines));
  moment = moment ∙ ap (λ m. moment_behind m e) h.moment;
}

pub stays_so : {H : Type 0} (k new : Kept H) → ((w : Machines) → Stands k w → Stands new w) → moment_of new ≡ moment_of k → (t : State) → StandsAt k t → StandsAt new t
stays_so k new stays moment t h = record { machines = stays t.machines h.machines; moment = moment ∙ h.moment }

-- all of them were played
take_all : (es : List WorldEvent) (n : ℕ) → length es ≤ n → take n es ≡ es
take_all [] zero q = refl
take_all [] (suc n) q = refl
take_all (e ∷ es) zero q = let z : ⊥ = omega (arith, q) in absurd z
take_all (e ∷ es) (suc n) q = ap (λ z. e ∷ z) (take_all es n (omega (arith, q)))

pub reaches_all : {H : Type 0} (k : Kept H) (u : Setups) (s : State) (es : List WorldEvent) (n : ℕ) → length es ≤ n → Reaches u s (take n es) k → Reaches u s es k
reaches_all k u s es n q r = subst (λ z. Reaches u s z k) (take_all es n q) r
