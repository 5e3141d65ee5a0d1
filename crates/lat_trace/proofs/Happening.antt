-- What is kept of an event that a wire was told.
use Rattle.std.proofs.Common.{◌≡◌, ℕ, ◌+◌, ◌-◌, ◌<◌, Bool, true, false, cond, List, [], ◌∷◌, ◌++◌, length, take, drop, Option, Some, None, slice_get, refl, sym, ap, ◌∙◌, arith}
use Rattle.std.specs.Prelude.{nat_lt}
use Rattle.std.proofs.lemmas.Bool.Decides.{nat_tests}
use Rattle.std.proofs.lemmas.List.{length-append}
use Rattle.lat_base.specs.declared.answer.Answer.{Answer}
use Rattle.lat_machines.specs.world.Machines.{Setups, Posted, Machines}
use Rattle.lat_schedule.specs.declared.event.WorldEvent.{WorldEvent}
use Rattle.lat_schedule.specs.declared.event.WorldEvent.TheVariants.{Local, Deliver, Inject}
use Rattle.lat_wire.specs.declared.fault.EventFault.{EventFault}
use Rattle.lat_wire.specs.declared.fault.EventFault.TheVariants.{NoFrame}
use Rattle.lat_wire.specs.Kept.{Kept, setups_of}
use Rattle.lat_wire.specs.Refusals.{first_of, full, no_frame, old}
use Rattle.lat_wire.specs.Stands.{Stands}
use Rattle.lat_replay.specs.Moves.{move_of}
use Rattle.lat_replay.specs.Played.{State, next, refusal}
use Rattle.lat_trace.specs.declared.entry.Entry as kept
use Rattle.lat_trace.specs.Entries.{Entry, came_in, answer_at, entry_at, made}
use Rattle.lat_trace.specs.Shown.{IsAt, ShowsEvent, between}
use Rattle.lat_trace.proofs.Growing as growing
use Rattle.lat_trace.proofs.Slices.{append_more, added, added_here, early}

none_second : (a b c : Option EventFault) → first_of (a ∷ b ∷ c ∷ []) ≡ None → b ≡ None
none_second None None c e = refl
none_second None (Some f) c e = let z : ⊥ = cc in absurd z
none_second (Some f) b c e = let z : ⊥ = cc in absurd z

-- a frame that is delivered is there
there : (w : Machines) (i : ℕ) → no_frame w i ≡ None → i < length w.posts
there w i e = by (nat_lt i (length w.posts)) refl e
  where
    by : (b : Bool) → nat_lt i (length w.posts) ≡ b → cond b None (Some (NoFrame i (length w.posts))) ≡ None → i < length w.posts
    by true h e = grind (arith, nat_tests)
    by false h e = let z : ⊥ = cc in absurd z

-- so it stays that frame, whatever is sent later
came_stays : (u : Setups) (s : State) (e : WorldEvent) (new more : List Posted) → refusal u s e ≡ None → came_in ((s.machines.posts ++ new) ++ more) e ≡ came_in s.machines.posts e
came_stays u s (Local server event) new more none = refl
came_stays u s (Deliver index) new more none =
    ap (λ (z : List Posted). slice_get z index) (append_more s.machines.posts new more)
    ∙ early s.machines.posts (new ++ more) index (there s.machines index (none_second (full s.machines) (no_frame s.machines index) (old u s.machines (slice_get s.machines.posts index)) none))
came_stays u s (Inject server from payload) new more none = refl

abbrev of_parts : (number : ℕ) → WorldEvent → ℕ → Option Posted → Option Answer → ℕ → List Posted → Entry
of_parts number e moment came answer first frames = record {
  number = number;
  moment = moment;
  event = e;
  came = came;
  answer = answer;
  first = first;
  frames = frames;
}

same_parts :
    (number : ℕ) (e : WorldEvent) (m n : ℕ) (c d : Option Posted) (a b : Option Answer) (f g : ℕ) (ps qs : List Posted) →
    m ≡ n → c ≡ d → a ≡ b → f ≡ g → ps ≡ qs → of_parts number e m c a f ps ≡ of_parts number e n d b g qs
same_parts number e m n c d a b f g ps qs moment came answer first frames =
    ap (λ z. of_parts number e z c a f ps) moment
    ∙ (ap (λ (z : Option Posted). of_parts number e n z a f ps) came
    ∙ (ap (λ (z : Option Answer). of_parts number e n d z f ps) answer
    ∙ (ap (λ z. of_parts number e n d b z ps) first
    ∙ ap (λ (z : List Posted). of_parts number e n d b g z) frames)))

frames_same : (xs ys new more : List Posted) (first behind : ℕ) → ys ≡ xs ++ new → first ≡ length xs → behind ≡ length ys → between first behind (ys ++ more) ≡ drop (length xs) ys
frames_same xs ys new more first behind is low high =
    ap (λ n. take (behind - n) (drop n (ys ++ more))) low
    ∙ (ap (λ n. take (n - length xs) (drop (length xs) (ys ++ more))) high
    ∙ (ap (λ (z : List Posted). take (length z - length xs) (drop (length xs) (z ++ more))) is
    ∙ (added xs new more
    ∙ (sym (added_here xs new) ∙ ap (λ (z : List Posted). drop (length xs) z) (sym is)))))

-- what is kept by these calls is what happened
pub happened :
    {H : Type 0} (k new : Kept H) (e : WorldEvent) (x : kept.Entry) →
    ((w : Machines) → Stands k w → x.first ≡ length w.posts) → ((w : Machines) → Stands new w → x.behind ≡ length w.posts) → x.moment ≡ new.moment →
    ((s : State) → IsAt k s → IsAt new (next (setups_of k) s e)) → ((s : State) → IsAt k s → x.answer ≡ answer_at (setups_of k) s e) →
    ((s : State) → IsAt k s → refusal (setups_of k) s e ≡ None) →
    (s : State) → IsAt k s → ShowsEvent (setups_of k) s e x
unfolding entry_at
happened k new e x first behind moment goes answers fits s at =
    let u : Setups = setups_of k in
    let t : State = next u s e in
    let sent : growing.Sends s.machines t.machines = growing.sends u s.machines (move_of u s.machines s.moment e) in
    let on : IsAt new t = goes s at in
    let low : x.first ≡ length s.machines.posts = first s.machines at.machines in
    let high : x.behind ≡ length t.machines.posts = behind t.machines on.machines in
    let long : length t.machines.posts ≡ length s.machines.posts + length sent.0 = ap length sent.1 ∙ length-append s.machines.posts sent.0 in
    record {
      is = λ number more.
          same_parts number e x.moment t.moment (came_in (t.machines.posts ++ more) e) (came_in s.machines.posts e) x.answer (answer_at u s e) x.first (length s.machines.posts)
          (between x.first x.behind (t.machines.posts ++ more)) (made s t) (moment ∙ on.moment)
          (ap (λ (z : List Posted). came_in (z ++ more) e) sent.1 ∙ came_stays u s e sent.0 more (fits s at)) (answers s at) low
          (frames_same s.machines.posts t.machines.posts sent.0 more x.first x.behind sent.1 low high);
      within = (omega (arith, low, high, long), omega (arith, high));
    }
