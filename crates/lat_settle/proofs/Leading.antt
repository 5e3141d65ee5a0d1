-- The events of rounds lead where the laws of rounds say.
use Rattle.std.proofs.Common.{◌≡◌, ℕ, zero, suc, ◌+◌, ◌*◌, ◌<◌, ◌≤◌, sym, ap, ◌∙◌, refl, subst, arith, Bool, true, false, cond, List, [], ◌∷◌, length, Option, Some, None, nat_lt, slice_get}
use Rattle.std.proofs.lemmas.Bool.{lt-ltb, ltb-true}
use Rattle.lat_machines.specs.values.Events.{Takes}
use Rattle.lat_machines.specs.cores.Lines.{has_session}
use Rattle.lat_machines.specs.world.Machines.{Setups, Machines, core_of, tell}
use Rattle.lat_model.specs.Lists.{upwards}
use Rattle.lat_replay.specs.Played.{State, next, Played, Through, Refused, played}
use Rattle.lat_laws.specs.rounds.Rounds.{undelivered, deliver_one, deliveries, time_both, take_lines, delivered_by, round, rounds, next_moment, Whole}
use Rattle.lat_schedule.specs.declared.event.WorldEvent.{WorldEvent}
use Rattle.lat_schedule.specs.declared.event.WorldEvent.TheVariants.{Deliver}
use Rattle.lat_wire.specs.declared.fault.EventFault.{EventFault}
use Rattle.lat_wire.specs.declared.fault.EventFault.TheVariants.{FramesFull, NoFrame}
use Rattle.lat_wire.specs.Rates.{rates}
use Rattle.lat_wire.specs.Refusals.{first_of, full, no_frame, old, deliver_refusal}
use Rattle.lat_settle.specs.Events.{behind, followed, time_events, delivers, deliver_events, take_on, take_events, round_events}
use Rattle.lat_settle.specs.Told.{NoneRefused}
use Rattle.lat_settle.specs.Rounds.{in_round, settled_behind, rounds_moment}
use Rattle.lat_settle.specs.Laws.{Led}
use Rattle.lat_settle.proofs.Along.{behind_more, none_split}
use Rattle.lat_settle.proofs.Passing.{passed}
use Rattle.lat_settle.proofs.Later.{LowAt, rises}

-- the parts of a round

pub times_lead : (u : Setups) (s : State) (now : ℕ) → (behind u s (time_events now)).machines ≡ time_both u now s.machines
unfolding behind
times_lead u s now = refl

pub times_moment : (u : Setups) (s : State) (now : ℕ) → (behind u s (time_events now)).moment ≡ now
unfolding behind
times_moment u s now = refl

pub record Delivered (u : Setups) (s t : State) : Type 0 where
  pub ratings : List (List ℕ)
  pub machines : t.machines ≡ deliveries u s.moment ratings s.machines
  pub moment : t.moment ≡ s.moment

pub deliver_lead : (u : Setups) (n : ℕ) (s : State) → Delivered u s (behind u s (deliver_events u n s))
unfolding behind deliver_events
deliver_lead u zero s = record { ratings = []; machines = refl; moment = refl }
deliver_lead u (suc n) s = go (undelivered u s.machines) refl (λ i. deliver_lead u n (next u s (Deliver i)))
  where
    go : (o : Option ℕ) → undelivered u s.machines ≡ o → ((i : ℕ) → Delivered u (next u s (Deliver i)) (behind u (next u s (Deliver i)) (deliver_events u n (next u s (Deliver i))))) → Delivered u s (behind u s (delivers o (λ i. deliver_events u n (next u s (Deliver i)))))
    go None e f = record { ratings = []; machines = refl; moment = refl }
    go (Some i) e f =
        let q : Delivered u (next u s (Deliver i)) (behind u (next u s (Deliver i)) (deliver_events u n (next u s (Deliver i)))) = f i in
        record {
          ratings = rates u s.machines ∷ q.ratings;
          machines = q.machines ∙ sym (ap (λ z. deliveries u s.moment q.ratings (deliver_one u s.moment (rates u s.machines) z s.machines)) e);
          moment = q.moment;
        }

pub record Taken (u : Setups) (b : Bool) (lines : List ℕ) (s t : State) : Type 0 where
  pub machines : t.machines ≡ take_lines u b lines s.machines
  pub moment : t.moment ≡ s.moment

take_same : (u : Setups) (w : Machines) (b : Bool) (line : ℕ) (ratings : List ℕ) → tell u w b (Takes line 4096) ratings ≡ tell u w b (Takes line 4096) []
take_same u w true line ratings = refl
take_same u w false line ratings = refl

pub take_lead : (u : Setups) (b : Bool) (lines : List ℕ) (s : State) → Taken u b lines s (behind u s (take_events u b lines s))
unfolding behind take_events
take_lead u b [] s = record { machines = refl; moment = refl }
take_lead u b (line ∷ lines) s = go (has_session (core_of s.machines b) line) refl (take_lead u b lines (next u s (take_on b line))) (take_lead u b lines s)
  where
    go : (c : Bool) → has_session (core_of s.machines b) line ≡ c → Taken u b lines (next u s (take_on b line)) (behind u (next u s (take_on b line)) (take_events u b lines (next u s (take_on b line)))) → Taken u b lines s (behind u s (take_events u b lines s)) → Taken u b (line ∷ lines) s (behind u s (cond c (take_on b line ∷ take_events u b lines (next u s (take_on b line))) (take_events u b lines s)))
    go true e p q = record {
      machines = p.machines ∙ ap (take_lines u b lines) (take_same u s.machines b line (rates u s.machines) ∙ sym (ap (λ z. cond z (tell u s.machines b (Takes line 4096) []) s.machines) e));
      moment = p.moment;
    }
    go false e p q = record {
      machines = q.machines ∙ ap (take_lines u b lines) (sym (ap (λ z. cond z (tell u s.machines b (Takes line 4096) []) s.machines) e));
      moment = q.moment;
    }

-- behind the deliveries none is left

has_room : (w : Machines) (o p : Option EventFault) → first_of (full w ∷ o ∷ p ∷ []) ≡ None → (nat_lt 199744 (length w.posts) ≡ false) × (o ≡ None)
has_room w o p e = go (nat_lt 199744 (length w.posts)) refl e
  where
    later : (o : Option EventFault) → first_of (o ∷ p ∷ []) ≡ None → o ≡ None
    later None q = refl
    later (Some f) q = let z : ⊥ = cc in absurd z

    go : (b : Bool) → nat_lt 199744 (length w.posts) ≡ b → first_of (cond b (Some FramesFull) None ∷ o ∷ p ∷ []) ≡ None → (nat_lt 199744 (length w.posts) ≡ false) × (o ≡ None)
    go true q r = let z : ⊥ = cc in absurd z
    go false q r = (q, later o r)

not_below : (a b : ℕ) → nat_lt a b ≡ false → b ≤ a
not_below a b e = let h : (a < b → ⊥) = (λ l. absurd (no (sym (lt-ltb a b l) ∙ e))) in omega (arith, h)
  where
    no : true ≡ false → ⊥
    no e = cc

is_below : (w : Machines) (i : ℕ) → no_frame w i ≡ None → i < length w.posts
is_below w i e = go (nat_lt i (length w.posts)) refl e
  where
    go : (b : Bool) → nat_lt i (length w.posts) ≡ b → cond b None (Some (NoFrame i (length w.posts))) ≡ None → i < length w.posts
    go true q r = ltb-true i (length w.posts) q
    go false q r = let z : ⊥ = cc in absurd z

below_full : (u : Setups) (w : Machines) (i : ℕ) → deliver_refusal u w i ≡ None → i < 199744
below_full u w i e =
    let p : (nat_lt 199744 (length w.posts) ≡ false) × (no_frame w i ≡ None) = has_room w (no_frame w i) (old u w (slice_get w.posts i)) e in
    omega (arith, not_below 199744 (length w.posts) p.0, is_below w i p.1)

-- the frames that come are later and later ones
pub deliver_whole : (u : Setups) (n m : ℕ) (s : State) → m + n ≡ 199745 → m ≤ 199744 → LowAt u m s.machines → NoneRefused u s (deliver_events u n s) → undelivered u (behind u s (deliver_events u n s)).machines ≡ None
unfolding behind deliver_events NoneRefused
deliver_whole u zero m s a l low p = let z : ⊥ = omega (arith, a, l) in absurd z
deliver_whole u (suc n) m s a l low p = go (undelivered u s.machines) refl p (λ i. deliver_whole u n (suc m) (next u s (Deliver i)) (omega (arith, a)))
  where
    go : (o : Option ℕ) → undelivered u s.machines ≡ o → NoneRefused u s (delivers o (λ i. deliver_events u n (next u s (Deliver i)))) → ((i : ℕ) → suc m ≤ 199744 → LowAt u (suc m) (next u s (Deliver i)).machines → NoneRefused u (next u s (Deliver i)) (deliver_events u n (next u s (Deliver i))) → undelivered u (behind u (next u s (Deliver i)) (deliver_events u n (next u s (Deliver i)))).machines ≡ None) → undelivered u (behind u s (delivers o (λ i. deliver_events u n (next u s (Deliver i))))).machines ≡ None
    go None e q more = e
    go (Some i) e q more =
        more i (omega (arith, low i e, below_full u s.machines i q.0))
        (λ j f. omega (arith, low i e, rises u s.moment (rates u s.machines) s.machines i j e f))
        q.1

-- a whole round

pub behind_then : (u : Setups) (s : State) (es : List WorldEvent) (more : State → List WorldEvent) → behind u s (followed u s es more) ≡ behind u (behind u s es) (more (behind u s es))
unfolding followed
behind_then u s es more = behind_more u s es (more (behind u s es))

none_then : (u : Setups) (s : State) (es : List WorldEvent) (more : State → List WorldEvent) → NoneRefused u s (followed u s es more) → NoneRefused u s es × NoneRefused u (behind u s es) (more (behind u s es))
unfolding followed
none_then u s es more p = none_split u s es (more (behind u s es)) p

-- the states in a round
unfoldable pub told_at : Setups → State → State
told_at u s = behind u s (time_events (next_moment u s.moment))

unfoldable pub heard_at : Setups → State → State
heard_at u s = behind u (told_at u s) (deliver_events u 199745 (told_at u s))

unfoldable pub took_at : Setups → State → State
took_at u s = behind u (heard_at u s) (take_events u true (upwards 0 u.server.lines) (heard_at u s))

pub record RoundLeads (u : Setups) (s : State) : Type 0 where
  pub ratings : List (List ℕ)
  pub machines : (behind u s (round_events u s)).machines ≡ round u (next_moment u s.moment) ratings s.machines
  pub moment : (behind u s (round_events u s)).moment ≡ next_moment u s.moment
  pub heard : (heard_at u s).machines ≡ delivered_by u (next_moment u s.moment) ratings s.machines

round_ends : (u : Setups) (s : State) → behind u s (round_events u s) ≡ behind u (took_at u s) (take_events u false (upwards 0 u.node.lines) (took_at u s))
unfolding round_events told_at heard_at took_at
round_ends u s =
    behind_then u s (time_events (next_moment u s.moment)) (λ told. followed u told (deliver_events u 199745 told) (λ heard. followed u heard (take_events u true (upwards 0 u.server.lines) heard) (take_events u false (upwards 0 u.node.lines))))
    ∙ (behind_then u (behind u s (time_events (next_moment u s.moment))) (deliver_events u 199745 (behind u s (time_events (next_moment u s.moment)))) (λ heard. followed u heard (take_events u true (upwards 0 u.server.lines) heard) (take_events u false (upwards 0 u.node.lines)))
    ∙ behind_then u (heard_at u s) (take_events u true (upwards 0 u.server.lines) (heard_at u s)) (take_events u false (upwards 0 u.node.lines)))

round_from : (u : Setups) (s told heard took t : State) (now : ℕ) → told.machines ≡ time_both u now s.machines → told.moment ≡ now → (d : Delivered u told heard) → Taken u true (upwards 0 u.server.lines) heard took → Taken u false (upwards 0 u.node.lines) took t → (heard.machines ≡ delivered_by u now d.ratings s.machines) × (t.machines ≡ round u now d.ratings s.machines) × (t.moment ≡ now)
round_from u s told heard took t now a m d p q =
    let h : heard.machines ≡ delivered_by u now d.ratings s.machines = d.machines ∙ (ap (λ z. deliveries u z d.ratings told.machines) m ∙ ap (deliveries u now d.ratings) a) in
    (h, q.machines ∙ ap (take_lines u false (upwards 0 u.node.lines)) (p.machines ∙ ap (take_lines u true (upwards 0 u.server.lines)) h), q.moment ∙ (p.moment ∙ (d.moment ∙ m)))

pub round_leads : (u : Setups) (s : State) → RoundLeads u s
unfolding told_at heard_at took_at
round_leads u s = record {
  ratings = d.ratings;
  machines = ap (λ z. z.machines) (round_ends u s) ∙ all.1;
  moment = ap (λ z. z.moment) (round_ends u s) ∙ all.2;
  heard = all.0;
}
  where
    now : ℕ
    now = next_moment u s.moment

    d : Delivered u (told_at u s) (heard_at u s)
    d = deliver_lead u 199745 (told_at u s)

    all : ((heard_at u s).machines ≡ delivered_by u now d.ratings s.machines) × ((behind u (took_at u s) (take_events u false (upwards 0 u.node.lines) (took_at u s))).machines ≡ round u now d.ratings s.machines) × ((behind u (took_at u s) (take_events u false (upwards 0 u.node.lines) (took_at u s))).moment ≡ now)
    all = round_from u s (told_at u s) (heard_at u s) (took_at u s) (behind u (took_at u s) (take_events u false (upwards 0 u.node.lines) (took_at u s))) now (times_lead u s now) (times_moment u s now) d (take_lead u true (upwards 0 u.server.lines) (heard_at u s)) (take_lead u false (upwards 0 u.node.lines) (took_at u s))

pub round_whole : (u : Setups) (s : State) → NoneRefused u s (round_events u s) → undelivered u (heard_at u s).machines ≡ None
unfolding round_events told_at heard_at
round_whole u s p =
    let now : ℕ = next_moment u s.moment in
    let q : NoneRefused u s (time_events now) × NoneRefused u (told_at u s) (followed u (told_at u s) (deliver_events u 199745 (told_at u s)) (λ heard. followed u heard (take_events u true (upwards 0 u.server.lines) heard) (take_events u false (upwards 0 u.node.lines)))) = none_then u s (time_events now) (λ told. followed u told (deliver_events u 199745 told) (λ heard. followed u heard (take_events u true (upwards 0 u.server.lines) heard) (take_events u false (upwards 0 u.node.lines)))) p in
    deliver_whole u 199745 0 (told_at u s) (omega arith) (omega arith) (λ i e. omega arith)
    (none_then u (told_at u s) (deliver_events u 199745 (told_at u s)) (λ heard. followed u heard (take_events u true (upwards 0 u.server.lines) heard) (take_events u false (upwards 0 u.node.lines))) q.1).0

-- rounds

led_none : (u : Setups) (s t : State) → s ≡ t → Led u s 0 t
led_none u s t e = record { ratings = []; count = refl; whole = tt; machines = ap (λ z. z.machines) (sym e); moment = ap (λ z. z.moment) (sym e) ∙ omega arith }

led_more : (u : Setups) (n : ℕ) (s r t : State) → r ≡ behind u s (round_events u s) → NoneRefused u s (round_events u s) → Led u r n t → Led u s (suc n) t
led_more u n s r t e none l = record {
  ratings = d.ratings ∷ l.ratings;
  count = ap suc l.count;
  whole = (ap (undelivered u) (sym d.heard) ∙ round_whole u s none, subst (λ z. Whole u (next_moment u s.moment) l.ratings z) machines (subst (λ z. Whole u z l.ratings r.machines) moment l.whole));
  machines = l.machines ∙ (ap (λ z. rounds u z l.ratings r.machines) moment ∙ ap (rounds u (next_moment u s.moment) l.ratings) machines);
  moment = l.moment ∙ (ap (λ z. rounds_moment u z n) moment ∙ on);
}
  where
    d : RoundLeads u s
    d = round_leads u s

    machines : r.machines ≡ round u (next_moment u s.moment) d.ratings s.machines
    machines = ap (λ z. z.machines) e ∙ d.machines

    moment : r.moment ≡ next_moment u s.moment
    moment = ap (λ z. z.moment) e ∙ d.moment

    on : rounds_moment u (next_moment u s.moment) n ≡ rounds_moment u s.moment (suc n)
    on = let q : suc n * (10 * u.server.timing.timer) ≡ 10 * u.server.timing.timer + n * (10 * u.server.timing.timer) = omega arith in omega (arith, q)

pub led_of : (u : Setups) (run n : ℕ) (s t : State) → settled_behind u run n s ≡ Through t → Led u s n t
unfolding settled_behind
led_of u run zero s t q = led_none u s t (let same : s ≡ t = cc in same)
led_of u run (suc n) s t q = go (played u s (round_events u s)) refl q (λ r f. led_of u (suc run) n r t f)
  where
    go : (p : Played) → played u s (round_events u s) ≡ p → in_round (suc run) p (settled_behind u (suc run) n) ≡ Through t → ((r : State) → settled_behind u (suc run) n r ≡ Through t → Led u r n t) → Led u s (suc n) t
    go (Through r) e f more =
        let h : NoneRefused u s (round_events u s) × (r ≡ behind u s (round_events u s)) = passed u 0 s r (round_events u s) e in
        led_more u n s r t h.1 h.0 (more r f)
    go (Refused i fault r) e f more = let z : ⊥ = cc in absurd z
