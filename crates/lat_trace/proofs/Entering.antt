-- Entries of events, one after another.
use Rattle.std.proofs.Common.{◌≡◌, ℕ, zero, suc, ◌+◌, ◌≤◌, length, sym, ap, ◌∙◌, refl, subst, List, [], ◌∷◌, ◌++◌, Option, Some, None, slice_get, take, arith}
use Rattle.std.proofs.lemmas.List.{length-append}
use Rattle.lat_machines.specs.world.Machines.{Setups, Posted}
use Rattle.lat_model.specs.Lists.{Each}
use Rattle.lat_schedule.specs.declared.event.WorldEvent.{WorldEvent}
use Rattle.lat_wire.specs.declared.fault.EventFault.{EventFault}
use Rattle.lat_replay.specs.Played.{State, next, refusal, Played, Through, unless, played_from, played}
use Rattle.lat_trace.specs.declared.entry.Entry as kept
use Rattle.lat_trace.specs.Entries.{entry_at, unless_refused, entries_from}
use Rattle.lat_trace.specs.Shown.{IsWithin, AreEntries, shown, shown_from}
use Rattle.lat_trace.proofs.Slices.{append_more}

-- what was played is not refused at its first event
passes : (o : Option EventFault) (i : ℕ) (s t : State) (rest : Played) → unless o i s rest ≡ Through t → o ≡ None
passes None i s t rest e = refl
passes (Some f) i s t rest e = let z : ⊥ = cc in absurd z

past : (o : Option EventFault) (i : ℕ) (s t : State) (rest : Played) → unless o i s rest ≡ Through t → rest ≡ Through t
past None i s t rest e = e
past (Some f) i s t rest e = let z : ⊥ = cc in absurd z

same_state : (s t : State) → Through s ≡ Through t → s ≡ t
same_state s t e = cc

same_event : (x e : WorldEvent) → Some x ≡ Some e → x ≡ e
same_event x e q = cc

-- one event more that isn't refused
pub enters : (u : Setups) (i k : ℕ) (s : State) (es : List WorldEvent) (n : ℕ) (e : WorldEvent) (t : State) → played_from u i s (take n es) ≡ Through t → slice_get es n ≡ Some e → refusal u t e ≡ None → entries_from u k s (take (suc n) es) ≡ entries_from u k s (take n es) ++ entry_at u (k + n) t e ∷ []
unfolding entries_from
enters u i k s [] n e t p q r = let z : ⊥ = cc in absurd z
enters u i k s (x ∷ xs) zero e t p q r =
    let here : s ≡ t = same_state s t p in
    let same : x ≡ e = same_event x e q in
    let none : refusal u s x ≡ None = ap (refusal u s) same ∙ (ap (λ z. refusal u z e) here ∙ r) in
    rw none (ap (λ z. entry_at u k s z ∷ []) same ∙ (ap (λ z. entry_at u k z e ∷ []) here ∙ ap (λ z. entry_at u z t e ∷ []) (omega arith)))
enters u i k s (x ∷ xs) (suc n) e t p q r =
    let none : refusal u s x ≡ None = passes (refusal u s x) i s t (played_from u (suc i) (next u s x) (take n xs)) p in
    let more = enters u (suc i) (suc k) (next u s x) xs n e t (past (refusal u s x) i s t (played_from u (suc i) (next u s x) (take n xs)) p) q r in
    rw none (ap (λ z. entry_at u k s x ∷ z) (more ∙ ap (λ z. entries_from u (suc k) (next u s x) (take n xs) ++ entry_at u z t e ∷ []) (omega arith)))

-- nothing is entered from one on that is refused
pub ends : (u : Setups) (i k : ℕ) (s : State) (es : List WorldEvent) (n : ℕ) (e : WorldEvent) (t : State) (f : EventFault) → played_from u i s (take n es) ≡ Through t → slice_get es n ≡ Some e → refusal u t e ≡ Some f → entries_from u k s es ≡ entries_from u k s (take n es)
unfolding entries_from
ends u i k s [] n e t f p q r = let z : ⊥ = cc in absurd z
ends u i k s (x ∷ xs) zero e t f p q r =
    let some : refusal u s x ≡ Some f = ap (refusal u s) (same_event x e q) ∙ (ap (λ z. refusal u z e) (same_state s t p) ∙ r) in
    rw some refl
ends u i k s (x ∷ xs) (suc n) e t f p q r =
    ap (λ z. unless_refused (refusal u s x) (entry_at u k s x ∷ z))
    (ends u (suc i) (suc k) (next u s x) xs n e t f (past (refusal u s x) i s t (played_from u (suc i) (next u s x) (take n xs)) p) q r)

-- what is kept of one event more
pub shows_more : (posts : List Posted) (k : ℕ) (ks : List kept.Entry) (x : kept.Entry) (es : List WorldEvent) (n : ℕ) (e : WorldEvent) → length ks ≡ n → slice_get es n ≡ Some e → shown_from posts k (ks ++ x ∷ []) (take (suc n) es) ≡ shown_from posts k ks (take n es) ++ shown posts (k + n) e x ∷ []
unfolding shown_from
shows_more posts k ks x [] n e same q = let z : ⊥ = cc in absurd z
shows_more posts k [] x (y ∷ ys) zero e same q = ap (λ z. shown posts k z x ∷ []) (same_event y e q) ∙ ap (λ z. shown posts z e x ∷ []) (omega arith)
shows_more posts k [] x (y ∷ ys) (suc n) e same q = let z : ⊥ = omega (arith, same) in absurd z
shows_more posts k (a ∷ bs) x (y ∷ ys) zero e same q = let z : ⊥ = omega (arith, same) in absurd z
shows_more posts k (a ∷ bs) x (y ∷ ys) (suc n) e same q =
    ap (λ z. shown posts k y a ∷ z)
    (shows_more posts (suc k) bs x ys n e (omega (arith, same)) q ∙ ap (λ z. shown_from posts (suc k) bs (take n ys) ++ shown posts z e x ∷ []) (omega arith))

-- events behind those of which something is kept say nothing
pub shows_no_more : (posts : List Posted) (k : ℕ) (ks : List kept.Entry) (es : List WorldEvent) → shown_from posts k ks es ≡ shown_from posts k ks (take (length ks) es)
unfolding shown_from
shows_no_more posts k [] es = refl
shows_no_more posts k (a ∷ bs) [] = refl
shows_no_more posts k (a ∷ bs) (e ∷ es) = ap (λ z. shown posts k e a ∷ z) (shows_no_more posts (suc k) bs es)

-- frames that were sent stay among more
within_more : (m n : ℕ) (ks : List kept.Entry) → m ≤ n → Each (IsWithin m) ks → Each (IsWithin n) ks
within_more m n [] h t = tt
within_more m n (k ∷ ks) h t = ((t.0.0, omega (arith, h, t.0.1)), within_more m n ks h t.1)

within_last : (n : ℕ) (ks : List kept.Entry) (x : kept.Entry) → Each (IsWithin n) ks → IsWithin n x → Each (IsWithin n) (ks ++ x ∷ [])
within_last n [] x t h = (h, tt)
within_last n (k ∷ ks) x t h = (t.0, within_last n ks x t.1 h)

-- the frames that were sent from one state to the next
abbrev pub Sends : State → State → Type 0
Sends s t = (new : List Posted) × (t.machines.posts ≡ s.machines.posts ++ new)

-- one entry more
pub entered :
    (u : Setups) (s : State) (es : List WorldEvent) (n : ℕ) (e : WorldEvent) (t : State) (ks : List kept.Entry) (x : kept.Entry) →
    length ks ≡ n → played u s (take n es) ≡ Through t → slice_get es n ≡ Some e → refusal u t e ≡ None → Sends t (next u t e) →
    ((more : List Posted) → shown ((next u t e).machines.posts ++ more) (1 + n) e x ≡ entry_at u (1 + n) t e) →
    IsWithin (length (next u t e).machines.posts) x → length (take (suc n) es) ≡ suc n →
    AreEntries u s (take n es) t ks → AreEntries u s (take (suc n) es) (next u t e) (ks ++ x ∷ [])
entered u s es n e t ks x same p q r sends is within whole a = record {
  shown = λ more.
      let posts : List Posted = (next u t e).machines.posts ++ more in
      let here : posts ≡ t.machines.posts ++ (sends.0 ++ more) = ap (λ z. z ++ more) sends.1 ∙ append_more t.machines.posts sends.0 more in
      let before : shown_from posts 1 ks (take n es) ≡ entries_from u 1 s (take n es) = subst (λ z. shown_from z 1 ks (take n es) ≡ entries_from u 1 s (take n es)) (sym here) (a.shown (sends.0 ++ more)) in
      shows_more posts 1 ks x es n e same q
      ∙ (ap (λ z. z ++ shown posts (1 + n) e x ∷ []) before
      ∙ (ap (λ z. entries_from u 1 s (take n es) ++ z ∷ []) (is more)
      ∙ sym (enters u 0 1 s es n e t p q r)));
  within = within_last (length (next u t e).machines.posts) ks x
      (within_more (length t.machines.posts) (length (next u t e).machines.posts) ks (omega (arith, ap length sends.1, length-append t.machines.posts sends.0)) a.within) within;
  few = omega (arith, whole, length-append ks (x ∷ []), same);
}

-- the entries of all events, where one is refused
pub refused_entries :
    (u : Setups) (s : State) (es : List WorldEvent) (n : ℕ) (e : WorldEvent) (t : State) (f : EventFault) (ks : List kept.Entry) →
    length ks ≡ n → played u s (take n es) ≡ Through t → slice_get es n ≡ Some e → refusal u t e ≡ Some f → n ≤ length es →
    AreEntries u s (take n es) t ks → AreEntries u s es t ks
refused_entries u s es n e t f ks same p q r fits a = record {
  shown = λ more.
      shows_no_more (t.machines.posts ++ more) 1 ks es
      ∙ (ap (λ z. shown_from (t.machines.posts ++ more) 1 ks (take z es)) same
      ∙ (a.shown more ∙ sym (ends u 0 1 s es n e t f p q r)));
  within = a.within;
  few = omega (arith, same, fits);
}

-- before the first event
pub no_entry : (u : Setups) (s : State) → AreEntries u s [] s []
unfolding entries_from shown_from
no_entry u s = record { shown = λ more. refl; within = tt; few = omega arith }
