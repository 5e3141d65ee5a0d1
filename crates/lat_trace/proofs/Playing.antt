-- Events played one after another on a wire.
use Rattle.std.proofs.Common.{◌≡◌, ◌≢◌, ℕ, zero, suc, ◌+◌, ◌<◌, ◌≤◌, length, take, List, [], ◌∷◌, Option, Some, None, slice_get, Err, refl, sym, ap, ◌∙◌, subst, arith}
use Rattle.lat_machines.specs.world.Machines.{Setups}
use Rattle.lat_schedule.specs.declared.event.WorldEvent.{WorldEvent}
use Rattle.lat_wire.specs.declared.fault.EventFault.{EventFault}
use Rattle.lat_wire.specs.declared.fault.EventFault.TheVariants.{FramesFull, Backward, OwnAddress, NoFrame, Old, Memory}
use Rattle.lat_wire.specs.Kept.{Kept}
use Rattle.lat_wire.specs.Refusals.{RefusedAs}
use Rattle.lat_replay.specs.Moves.{move_of}
use Rattle.lat_replay.specs.Played.{State, next, refusal, Through, Refused, played}
use Rattle.lat_replay.proofs.Playing as plays
use Rattle.lat_trace.specs.declared.entry.Entry as kept
use Rattle.lat_trace.specs.Shown.{IsAt, AreEntries, Enters}
use Rattle.lat_trace.proofs.Entering.{Sends, entered, no_entry, refused_entries}
use Rattle.lat_trace.proofs.Growing as growing

-- a wire is at what these events led to, and these are their entries
abbrev pub Reaches : {H : Type 0} → Setups → State → List WorldEvent → Kept H → List kept.Entry → Type 0
Reaches u s es k ks = (t : State) × (played u s es ≡ Through t) × IsAt k t × AreEntries u s es t ks

-- before the first event
pub reaches_none : {H : Type 0} (k : Kept H) (u : Setups) (s : State) (es : List WorldEvent) (ks : List kept.Entry) → ks ≡ [] → IsAt k s → Reaches u s (take 0 es) k ks
reaches_none k u s es ks none at = (s, refl, at, subst (λ (z : List kept.Entry). AreEntries u s [] s z) (sym none) (no_entry u s))

sends_next : (u : Setups) (t : State) (e : WorldEvent) → Sends t (next u t e)
sends_next u t e = growing.sends u t.machines (move_of u t.machines t.moment e)

take_length : (es : List WorldEvent) (n : ℕ) → n < length es → length (take (suc n) es) ≡ suc n
take_length [] n h = let z : ⊥ = omega (arith, h) in absurd z
take_length (e ∷ es) zero h = refl
take_length (e ∷ es) (suc n) h = ap suc (take_length es n (omega (arith, h)))

-- one event more
pub reaches_more :
    {H : Type 0} (k new : Kept H) (u : Setups) (s : State) (es : List WorldEvent) (n : ℕ) (e : WorldEvent) (ks now : List kept.Entry) →
    length ks ≡ n → slice_get es n ≡ Some e → n < length es →
    ((t : State) → IsAt k t → refusal u t e ≡ None) → ((t : State) → IsAt k t → IsAt new (next u t e)) →
    ((t : State) → IsAt k t → Enters u t e ks now) →
    Reaches u s (take n es) k ks → Reaches u s (take (suc n) es) new now
reaches_more k new u s es n e ks now same q fits passes goes enters r =
    let x = enters r.0 r.2 in (
      next u r.0 e,
      plays.through_more u 0 s es n e r.0 r.1 q (passes r.0 r.2),
      goes r.0 r.2,
      subst (λ (z : List kept.Entry). AreEntries u s (take (suc n) es) (next u r.0 e) z) (sym x.1)
          (entered u s es n e r.0 ks x.0 same r.1 q (passes r.0 r.2) (sends_next u r.0 e) (λ more. x.2.is (1 + n) more) x.2.within (take_length es n fits) r.3),
    )

-- the first one that is refused
pub stops_at :
    {H : Type 0} (A : Type 0) (k new : Kept H) (u : Setups) (s : State) (es : List WorldEvent) (n : ℕ) (e : WorldEvent) (f : EventFault) (ks now : List kept.Entry) →
    length ks ≡ n → slice_get es n ≡ Some e → n ≤ length es → ((t : State) → IsAt k t → RefusedAs {A = A} (Err f) (refusal u t e)) →
    (f ≢ Memory → (new ≡ k) × (now ≡ ks)) → Reaches u s (take n es) k ks →
    f ≢ Memory → (t : State) × (played u s es ≡ Refused n f t) × IsAt new t × AreEntries u s es t now
stops_at A k new u s es n e f ks now same q fits refused stays r other =
    let is : refusal u r.0 e ≡ Some f = why f (refusal u r.0 e) other (refused r.0 r.2) in (
      r.0,
      plays.refused_at u 0 s es n e r.0 f r.1 q is ∙ ap (λ z. Refused z f r.0) (let z : 0 + n ≡ n = omega arith in z),
      subst (λ (z : Kept _). IsAt z r.0) (sym (stays other).0) r.2,
      subst (λ (z : List kept.Entry). AreEntries u s es r.0 z) (sym (stays other).1) (refused_entries u s es n e r.0 f ks same r.1 q is fits r.3),
    )
  where
    why : (f : EventFault) (o : Option EventFault) → f ≢ Memory → RefusedAs {A = A} (Err f) o → o ≡ Some f
    why Memory o other r = absurd (other refl)
    why FramesFull o other r = r
    why (Backward at last) o other r = r
    why OwnAddress o other r = r
    why (NoFrame index sent) o other r = r
    why (Old acknowledgement number newest) o other r = r

take_whole : (es : List WorldEvent) (n : ℕ) → length es ≤ n → take n es ≡ es
take_whole [] zero q = refl
take_whole [] (suc n) q = refl
take_whole (e ∷ es) zero q = let z : ⊥ = omega (arith, q) in absurd z
take_whole (e ∷ es) (suc n) q = ap (λ z. e ∷ z) (take_whole es n (omega (arith, q)))

-- all of them
pub reaches_all : {H : Type 0} (k : Kept H) (u : Setups) (s : State) (es : List WorldEvent) (n : ℕ) (ks : List kept.Entry) → length es ≤ n → Reaches u s (take n es) k ks → Reaches u s es k ks
reaches_all k u s es n ks q r = subst (λ (z : List WorldEvent). Reaches u s z k ks) (take_whole es n q) r
