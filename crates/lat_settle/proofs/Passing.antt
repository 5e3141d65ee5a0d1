-- What is played of events that are told one after another.
use Rattle.std.proofs.Common.{◌≡◌, ℕ, suc, ◌+◌, ◌<◌, ap, ◌∙◌, refl, arith, List, [], ◌∷◌, ◌++◌, length, take, Option, Some, None, length-append}
use Rattle.lat_machines.specs.world.Machines.{Setups}
use Rattle.lat_replay.specs.Played.{State, next, refusal, Through, Refused, unless, played_from}
use Rattle.lat_schedule.specs.declared.event.WorldEvent.{WorldEvent}
use Rattle.lat_wire.specs.declared.fault.EventFault.{EventFault}
use Rattle.lat_settle.specs.Events.{behind}
use Rattle.lat_settle.specs.Told.{NoneRefused}

pub played_through : (u : Setups) (i : ℕ) (s : State) (es : List WorldEvent) → NoneRefused u s es → played_from u i s es ≡ Through (behind u s es)
unfolding behind NoneRefused
played_through u i s [] p = refl
played_through u i s (e ∷ es) p = ap (λ o. unless o i s (played_from u (suc i) (next u s e) es)) p.0 ∙ played_through u (suc i) (next u s e) es p.1

pub played_refused : (u : Setups) (i : ℕ) (s : State) (before : List WorldEvent) (e : WorldEvent) (after : List WorldEvent) (fault : EventFault) → NoneRefused u s before → refusal u (behind u s before) e ≡ Some fault → played_from u i s (before ++ e ∷ after) ≡ Refused (i + length before) fault (behind u s before)
unfolding behind NoneRefused
played_refused u i s [] e after fault p q = ap (λ o. unless o i s (played_from u (suc i) (next u s e) after)) q ∙ ap (λ z. Refused z fault s) (omega arith)
played_refused u i s (x ∷ xs) e after fault p q =
    ap (λ o. unless o i s (played_from u (suc i) (next u s x) (xs ++ e ∷ after))) p.0
    ∙ (played_refused u (suc i) (next u s x) xs e after fault p.1 q
    ∙ ap (λ z. Refused z fault (behind u (next u s x) xs)) (omega arith))

pub passed : (u : Setups) (i : ℕ) (s t : State) (es : List WorldEvent) → played_from u i s es ≡ Through t → NoneRefused u s es × (t ≡ behind u s es)
unfolding behind NoneRefused
passed u i s t [] q = (tt, let same : t ≡ s = cc in same)
passed u i s t (e ∷ es) q = go (refusal u s e) refl q (λ r. passed u (suc i) (next u s e) t es r)
  where
    go : (o : Option EventFault) → refusal u s e ≡ o → unless o i s (played_from u (suc i) (next u s e) es) ≡ Through t → (played_from u (suc i) (next u s e) es ≡ Through t → NoneRefused u (next u s e) es × (t ≡ behind u (next u s e) es)) → ((refusal u s e ≡ None) × NoneRefused u (next u s e) es) × (t ≡ behind u (next u s e) es)
    go None p r f = let h : NoneRefused u (next u s e) es × (t ≡ behind u (next u s e) es) = f r in ((p, h.0), h.1)
    go (Some fault) p r f = let z : ⊥ = cc in absurd z

pub take_front : (xs ys : List WorldEvent) → take (length xs) (xs ++ ys) ≡ xs
take_front [] [] = refl
take_front [] (y ∷ ys) = refl
take_front (x ∷ xs) ys = ap (λ z. x ∷ z) (take_front xs ys)

pub is_before : (before after : List WorldEvent) (e : WorldEvent) → length before < length (before ++ e ∷ after)
is_before before after e = let q : length (before ++ e ∷ after) ≡ length before + length (e ∷ after) = length-append before (e ∷ after) in omega (arith, q)
