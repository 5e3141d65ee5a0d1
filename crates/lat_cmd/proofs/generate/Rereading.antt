-- The text of a generated schedule is read as the events that were told, and they lead to its world.
use Rattle.std.proofs.Common.{◌≡◌, ℕ, zero, suc, ◌+◌, ◌*◌, ◌^◌, ◌<◌, ◌≤◌, Bool, true, false, List, [], ◌∷◌, ◌++◌, length, refl, sym, ap, ◌∙◌, subst, append_assoc, length-append, arith}
use Rattle.std.specs.Prelude.{Option, Some, None, nat_lt, cond}
use Rattle.std.proofs.lemmas.List.{append-nil}
use Rattle.std.proofs.lemmas.Bool.Decides.{nat_tests}
use Rattle.lat_base.specs.declared.event.Event.TheVariants.{Announce}
use Rattle.lat_model.specs.Lists.{Each}
use Rattle.lat_machines.specs.world.Machines.{Setups}
use Rattle.lat_schedule.specs.declared.event.WorldEvent.{WorldEvent}
use Rattle.lat_schedule.specs.declared.event.WorldEvent.TheVariants.{Local, Deliver, Inject}
use Rattle.lat_schedule.specs.declared.setup_line.Version.TheVariants.{One}
use Rattle.lat_schedule.specs.EventText.{event_text}
use Rattle.lat_schedule.specs.ReadBack.{IsWritten, events_text}
use Rattle.lat_schedule.proofs.Pushed.{each_push}
use Rattle.lat_wire.specs.declared.fault.EventFault.{EventFault}
use Rattle.lat_wire.specs.Refusals.{first_of, full, no_frame}
use Rattle.lat_replay.specs.Played.{State, open_state, next, refusal, Through, played_from}
use Rattle.lat_replay.proofs.Playing.{passes, past, same_state}
use Rattle.lat_cmd.specs.generate.Draws.{Drawn}
use Rattle.lat_cmd.specs.generate.Front.{vax, front_text}
use Rattle.lat_cmd.specs.generate.Grown.{Grown, setups, unless_refused, told, turned, turns, opened, begun, grown}
use Rattle.lat_cmd.specs.generate.Turns.{turn}
use Rattle.lat_cmd.proofs.generate.Drawing.{own, IsTellable, MayTell, IsDrawn, turn_drawn, announce_tells, deliver_tells}

-- one event more is played

one_more : (u : Setups) (i : ℕ) (s : State) (es : List WorldEvent) (e : WorldEvent) (t : State) → played_from u i s es ≡ Through t → refusal u t e ≡ None →
    played_from u i s (es ++ e ∷ []) ≡ Through (next u t e)
one_more u i s [] e t p none =
    subst (λ z. played_from u i z (e ∷ []) ≡ Through (next u t e)) (sym (same_state s t p)) (past (refusal u t e) i t (Through (next u t e)) none)
one_more u i s (x ∷ xs) e t p none =
    let first : refusal u s x ≡ None = passes (refusal u s x) i s t (played_from u (suc i) (next u s x) xs) p in
    past (refusal u s x) i s (played_from u (suc i) (next u s x) (xs ++ e ∷ [])) first
    ∙ one_more u (suc i) (next u s x) xs e t (sym (past (refusal u s x) i s (played_from u (suc i) (next u s x) xs) first) ∙ p) none

-- an event that is told and not refused has its line

no_full : (o p q : Option EventFault) → first_of (o ∷ p ∷ q ∷ []) ≡ None → (o ≡ None) × (p ≡ None)
no_full None None q e = (refl, refl)
no_full None (Some f) q e = absurd (cc)
no_full (Some f) p q e = absurd (cc)

few_frames : (n index : ℕ) (f g : EventFault) → cond (nat_lt 199744 n) (Some f) None ≡ None → cond (nat_lt index n) None (Some g) ≡ None → index < 10 ^ 9
few_frames n index f g not_full there = by (nat_lt 199744 n) refl (nat_lt index n) refl
  where
    by : (a : Bool) → nat_lt 199744 n ≡ a → (b : Bool) → nat_lt index n ≡ b → index < 10 ^ 9
    by true ea b eb = absurd (let no : Some f ≡ None = rw ea at not_full in cc)
    by false ea true eb = grind (arith, nat_tests)
    by false ea false eb = absurd (let no : Some g ≡ None = rw eb at there in cc)

tells_so : (u : Setups) (s : State) (e : WorldEvent) → refusal u s e ≡ None → MayTell e → IsTellable e
tells_so u s (Local server event) none may = may
tells_so u s (Deliver index) none may =
    let both = no_full (full s.machines) (no_frame s.machines index) _ none in
    deliver_tells index (few_frames (length s.machines.posts) index _ _ both.0 both.1)
tells_so u s (Inject server from payload) none may = absurd may

-- the events of this text, at most n of them, lead to this state
pub record Tells (n : ℕ) (state : State) (told_text : List ℕ) (told_events : ℕ) : Type 0 where
  pub events : List WorldEvent
  pub text : told_text ≡ front_text ++ events_text events
  pub written : Each (IsWritten One own) events
  pub leads : played_from setups 0 (open_state setups) events ≡ Through state
  pub count : length events ≡ told_events
  pub few : length events ≤ n
  pub short : length (events_text events) ≤ 1100 * n

text_more : (es : List WorldEvent) (e : WorldEvent) → events_text (es ++ e ∷ []) ≡ events_text es ++ event_text e
text_more [] e = append-nil (event_text e)
text_more (x ∷ es) e = ap (λ (t : List ℕ). event_text x ++ t) (text_more es e) ∙ sym (append_assoc (event_text x) (events_text es) (event_text e))

-- a text with the text of one event more
text_joins : (front text : List ℕ) (es : List WorldEvent) (e : WorldEvent) → text ≡ front ++ events_text es → text ++ event_text e ≡ front ++ events_text (es ++ e ∷ [])
text_joins front text es e same =
    ap (λ (t : List ℕ). t ++ event_text e) same
    ∙ append_assoc front (events_text es) (event_text e)
    ∙ ap (λ (t : List ℕ). front ++ t) (sym (text_more es e))

-- one that is told
tells_more : (n : ℕ) (s : State) (text : List ℕ) (count : ℕ) (e : WorldEvent) → IsTellable e → refusal setups s e ≡ None → Tells n s text count →
    Tells (suc n) (next setups s e) (text ++ event_text e) (suc count)
tells_more n s text count e is none t =
    let long = length-append t.events (e ∷ []) in
    let counted = t.count in
    let few = t.few in
    let joined = ap length (text_more t.events e) ∙ length-append (events_text t.events) (event_text e) in
    let short = t.short in
    let line = is.few in
    record {
      events = t.events ++ e ∷ [];
      text = text_joins front_text text t.events e t.text;
      written = each_push (IsWritten One own) t.events e t.written is.written;
      leads = one_more setups 0 (open_state setups) t.events e s t.leads none;
      count = omega (arith, long, counted);
      few = omega (arith, long, few);
      short = omega (arith, joined, short, line);
    }

-- one that is refused
tells_still : (n : ℕ) (s : State) (text : List ℕ) (count : ℕ) → Tells n s text count → Tells (suc n) s text count
tells_still n s text count t =
    let few = t.few in
    let short = t.short in
    record {
      events = t.events;
      text = t.text;
      written = t.written;
      leads = t.leads;
      count = t.count;
      few = omega (arith, few);
      short = omega (arith, short);
    }

-- behind n events that were drawn
pub record Grows (n : ℕ) (g : Grown) : Type 0 where
  pub tells : Tells n g.state g.text g.events
  pub moment : g.generator.moment ≤ 80 * n

told_tells : (n : ℕ) (g : Grown) (e : WorldEvent) → MayTell e → g.generator.moment ≤ 80 * suc n → Tells n g.state g.text g.events → Grows (suc n) (told e g)
unfolding told
told_tells n g e may low t = by (refusal setups g.state e) refl
  where
    by : (o : Option EventFault) → refusal setups g.state e ≡ o → Grows (suc n) (unless_refused o e g)
    by None none = record { tells = tells_more n g.state g.text g.events e (tells_so setups g.state e none may) none t; moment = low }
    by (Some f) refused = record { tells = tells_still n g.state g.text g.events t; moment = low }

turned_grows : (n : ℕ) (g : Grown) → n ≤ 5000 → Grows n g → Grows (suc n) (turned g)
unfolding turned
turned_grows n g few is =
    let low = is.moment in
    let d : Drawn WorldEvent = turn vax (length g.state.machines.posts) g.generator in
    let drawn : IsDrawn g.generator d = turn_drawn (length g.state.machines.posts) g.generator (omega (arith, low, few)) in
    let grows = drawn.moment in
    told_tells n (record g { generator = d.1 }) d.0 drawn.tells (omega (arith, low, grows)) is.tells

turns_grow : (n k : ℕ) (g : Grown) → n + k ≤ 5000 → Grows k g → Grows (n + k) (turns n g)
unfolding turns
turns_grow zero k g few is = let same : k ≡ 0 + k = omega arith in subst (λ (m : ℕ). Grows m g) same is
turns_grow (suc n) k g few is =
    let same : suc (n + k) ≡ suc n + k = omega arith in
    subst (λ (m : ℕ). Grows m (turned (turns n g))) same (turned_grows (n + k) (turns n g) (omega (arith, few)) (turns_grow n k g (omega (arith, few)) is))

opened_grows : (seed : ℕ) → Grows 0 (opened seed)
unfolding opened
opened_grows seed = record {
  tells = record {
    events = [];
    text = sym (append-nil front_text);
    written = tt;
    leads = refl;
    count = refl;
    few = omega arith;
    short = omega arith;
  };
  moment = omega arith;
}

told_grows : (n : ℕ) (g : Grown) (e : WorldEvent) → MayTell e → Grows n g → Grows (suc n) (told e g)
told_grows n g e may is = let low = is.moment in told_tells n g e may (omega (arith, low)) is.tells

begun_grows : (seed : ℕ) → Grows 2 (begun seed)
unfolding begun
begun_grows seed =
    told_grows 1 (told (Local false Announce) (opened seed)) (Deliver 0) tt
    (told_grows 0 (opened seed) (Local false Announce) announce_tells (opened_grows seed))

pub grown_grows : (seed : ℕ) → Grows 4002 (grown seed)
unfolding grown
grown_grows seed = turns_grow 4000 2 (begun seed) (omega arith) (begun_grows seed)
