-- The turns of the loops of a round.
use Rattle.std.proofs.Common.{◌≡◌, ℕ, zero, suc, ◌+◌, ◌*◌, ◌<◌, ◌≤◌, sym, ap, ◌∙◌, refl, subst, arith, Bool, true, false, cond, List, [], ◌∷◌, ◌++◌, Option, Some, None, Result}
use Rattle.lat_machines.specs.cores.Lines.{has_session}
use Rattle.lat_machines.specs.world.Machines.{Setups, Machines, core_of}
use Rattle.lat_model.specs.Lists.{upwards}
use Rattle.lat_replay.specs.Kept.{Kept}
use Rattle.lat_replay.specs.Played.{State, next, StandsAt}
use Rattle.lat_replay.specs.Stands.{Stands}
use Rattle.lat_laws.specs.rounds.Rounds.{undelivered, next_moment}
use Rattle.lat_schedule.specs.declared.event.WorldEvent.{WorldEvent}
use Rattle.lat_schedule.specs.declared.event.WorldEvent.TheVariants.{Deliver}
use Rattle.lat_wire.specs.declared.fault.EventFault.{EventFault}
use Rattle.lat_settle.specs.Events.{behind, followed, tell_time, time_events, delivers, deliver_events, take_on, take_events, round_events}
use Rattle.lat_settle.specs.Told.{NoneRefused, Stops, ToldAll, ToldAs}
use Rattle.lat_settle.proofs.Along.{Half, half_none, half_more, half_stops, half_all, stops_then, tells_then}

-- deliveries

-- so many deliveries were made, and as many as are left of 199,745 may follow
pub record Delivering {H : Type 0} (u : Setups) (s : State) (n : ℕ) (k : Kept H) : Type 0 where
  pub left : ℕ
  pub count : n + left ≡ 199745
  pub half : Half u s (deliver_events u 199745 s) (deliver_events u left) k

pub delivering_none : {H : Type 0} (u : Setups) (s : State) (k : Kept H) → StandsAt k s → Delivering u s 0 k
delivering_none u s k h = record { left = 199745; count = omega arith; half = half_none u s (deliver_events u 199745) k h }

deliver_cut : (u : Setups) (n i : ℕ) (t : State) → undelivered u t.machines ≡ Some i → deliver_events u (suc n) t ≡ followed u t (Deliver i ∷ []) (deliver_events u n)
unfolding deliver_events followed behind
deliver_cut u n i t e = ap (λ o. delivers o (λ index. deliver_events u n (next u t (Deliver index)))) e

deliver_none : (u : Setups) (n : ℕ) (t : State) → undelivered u t.machines ≡ None → deliver_events u n t ≡ []
unfolding deliver_events
deliver_none u zero t e = refl
deliver_none u (suc n) t e = ap (λ o. delivers o (λ index. deliver_events u n (next u t (Deliver index)))) e

deliver_end : (u : Setups) (t : State) → deliver_events u 0 t ≡ []
unfolding deliver_events
deliver_end u t = refl

-- what is left is one more than what is left behind the next
pub record OneLess (n left : ℕ) : Type 0 where
  pub less : ℕ
  pub is : left ≡ suc less
  pub count : suc n + less ≡ 199745

one_less : (n left : ℕ) → n + left ≡ 199745 → n < 199745 → OneLess n left
one_less n zero e l = let z : ⊥ = omega (arith, e, l) in absurd z
one_less n (suc left) e l = record { less = left; is = refl; count = omega (arith, e) }

next_cut : {H : Type 0} (u : Setups) (i left less : ℕ) (k : Kept H) → left ≡ suc less → ((t : State) → StandsAt k t → Some i ≡ undelivered u t.machines) → (t : State) → StandsAt k t → deliver_events u left t ≡ followed u t (Deliver i ∷ []) (deliver_events u less)
next_cut u i left less k is found t h = ap (λ z. deliver_events u z t) is ∙ deliver_cut u less i t (sym (found t h))

pub delivering_more : {H : Type 0} (u : Setups) (s : State) (n m i : ℕ) (k new : Kept H) → m ≡ suc n → n < 199745 → ((t : State) → StandsAt k t → Some i ≡ undelivered u t.machines) → ((t : State) → StandsAt k t → ToldAll u t (Deliver i ∷ []) new) → Delivering u s n k → Delivering u s m new
delivering_more u s n m i k new q l found go d =
    let o : OneLess n d.left = one_less n d.left d.count l in
    record {
      left = o.less;
      count = ap (λ z. z + o.less) q ∙ o.count;
      half = half_more u s (deliver_events u 199745 s) (λ t. Deliver i ∷ []) (deliver_events u d.left) (deliver_events u o.less) k new d.half (next_cut u i d.left o.less k o.is found) go;
    }

pub delivering_stops : {H : Type 0} (u : Setups) (s : State) (n i : ℕ) (fault : EventFault) (k new : Kept H) → n < 199745 → ((t : State) → StandsAt k t → Some i ≡ undelivered u t.machines) → ((t : State) → StandsAt k t → Stops u t (Deliver i ∷ []) fault new) → Delivering u s n k → Stops u s (deliver_events u 199745 s) fault new
delivering_stops u s n i fault k new l found go d =
    let o : OneLess n d.left = one_less n d.left d.count l in
    half_stops u s (deliver_events u 199745 s) (λ t. Deliver i ∷ []) (deliver_events u d.left) (deliver_events u o.less) fault k new d.half (next_cut u i d.left o.less k o.is found) go

pub delivering_all : {H : Type 0} (u : Setups) (s : State) (n : ℕ) (k : Kept H) → ((t : State) → StandsAt k t → None ≡ undelivered u t.machines) → Delivering u s n k → ToldAll u s (deliver_events u 199745 s) k
delivering_all u s n k found d = half_all u s (deliver_events u 199745 s) (deliver_events u d.left) k d.half (λ t h. deliver_none u d.left t (sym (found t h)))

pub delivering_most : {H : Type 0} (u : Setups) (s : State) (n : ℕ) (k : Kept H) → 199745 ≤ n → Delivering u s n k → ToldAll u s (deliver_events u 199745 s) k
delivering_most u s n k l d = half_all u s (deliver_events u 199745 s) (deliver_events u d.left) k d.half (λ t h. ap (λ z. deliver_events u z t) (let q : d.left ≡ 0 = omega (arith, d.count, l) in q) ∙ deliver_end u t)

-- takes

-- so many lines had their turn, and as many as are left of all will
pub record Taking {H : Type 0} (u : Setups) (s : State) (b : Bool) (lines n : ℕ) (k : Kept H) : Type 0 where
  pub left : ℕ
  pub count : n + left ≡ lines
  pub half : Half u s (take_events u b (upwards 0 lines) s) (take_events u b (upwards n left)) k

pub taking_none : {H : Type 0} (u : Setups) (s : State) (b : Bool) (lines : ℕ) (k : Kept H) → StandsAt k s → Taking u s b lines 0 k
taking_none u s b lines k h = record { left = lines; count = omega arith; half = half_none u s (take_events u b (upwards 0 lines)) k h }

take_cut : (u : Setups) (b : Bool) (line : ℕ) (lines : List ℕ) (t : State) → take_events u b (line ∷ lines) t ≡ followed u t (take_events u b (line ∷ []) t) (take_events u b lines)
unfolding take_events followed behind
take_cut u b line lines t = go (has_session (core_of t.machines b) line)
  where
    go : (c : Bool) → cond c (take_on b line ∷ take_events u b lines (next u t (take_on b line))) (take_events u b lines t) ≡ cond c (take_on b line ∷ []) [] ++ take_events u b lines (behind u t (cond c (take_on b line ∷ []) []))
    go true = refl
    go false = refl

take_end : (u : Setups) (b : Bool) (t : State) → take_events u b [] t ≡ []
unfolding take_events
take_end u b t = refl

pub record LineLess (n left lines : ℕ) : Type 0 where
  pub less : ℕ
  pub is : left ≡ suc less
  pub count : suc n + less ≡ lines

line_less : (n left lines : ℕ) → n + left ≡ lines → n < lines → LineLess n left lines
line_less n zero lines e l = let z : ⊥ = omega (arith, e, l) in absurd z
line_less n (suc left) lines e l = record { less = left; is = refl; count = omega (arith, e) }

line_cut : {H : Type 0} (u : Setups) (b : Bool) (n left less : ℕ) (k : Kept H) → left ≡ suc less → (t : State) → StandsAt k t → take_events u b (upwards n left) t ≡ followed u t (take_events u b (suc n ∷ []) t) (take_events u b (upwards (suc n) less))
line_cut u b n left less k is t h = ap (λ z. take_events u b (upwards n z) t) is ∙ take_cut u b (suc n) (upwards (suc n) less) t

pub taking_more : {H : Type 0} (u : Setups) (s : State) (b : Bool) (lines n m : ℕ) (k new : Kept H) → m ≡ suc n → n < lines → ((t : State) → StandsAt k t → ToldAll u t (take_events u b (suc n ∷ []) t) new) → Taking u s b lines n k → Taking u s b lines m new
taking_more u s b lines n m k new q l go d =
    let o : LineLess n d.left lines = line_less n d.left lines d.count l in
    record {
      left = o.less;
      count = ap (λ z. z + o.less) q ∙ o.count;
      half = subst (λ z. Half u s (take_events u b (upwards 0 lines) s) (take_events u b (upwards z o.less)) new) (sym q)
          (half_more u s (take_events u b (upwards 0 lines) s) (take_events u b (suc n ∷ [])) (take_events u b (upwards n d.left)) (take_events u b (upwards (suc n) o.less)) k new d.half (line_cut u b n d.left o.less k o.is) go);
    }

pub taking_stops : {H : Type 0} (u : Setups) (s : State) (b : Bool) (lines n : ℕ) (fault : EventFault) (k new : Kept H) → n < lines → ((t : State) → StandsAt k t → Stops u t (take_events u b (suc n ∷ []) t) fault new) → Taking u s b lines n k → Stops u s (take_events u b (upwards 0 lines) s) fault new
taking_stops u s b lines n fault k new l go d =
    let o : LineLess n d.left lines = line_less n d.left lines d.count l in
    half_stops u s (take_events u b (upwards 0 lines) s) (take_events u b (suc n ∷ [])) (take_events u b (upwards n d.left)) (take_events u b (upwards (suc n) o.less)) fault k new d.half (line_cut u b n d.left o.less k o.is) go

pub taking_all : {H : Type 0} (u : Setups) (s : State) (b : Bool) (lines n : ℕ) (k : Kept H) → lines ≤ n → Taking u s b lines n k → ToldAll u s (take_events u b (upwards 0 lines) s) k
taking_all u s b lines n k l d = half_all u s (take_events u b (upwards 0 lines) s) (take_events u b (upwards n d.left)) k d.half (λ t h. ap (λ z. take_events u b (upwards n z) t) (let q : d.left ≡ 0 = omega (arith, d.count, l) in q) ∙ take_end u b t)

-- a line without a session doesn't take
pub takes_none : {H : Type 0} (u : Setups) (s : State) (b : Bool) (line : ℕ) (k : Kept H) → has_session (core_of s.machines b) line ≡ false → StandsAt k s → ToldAll u s (take_events u b (line ∷ []) s) k
unfolding take_events behind NoneRefused
takes_none u s b line k e h =
    subst (λ z. ToldAll u s (cond z (take_on b line ∷ []) []) k) (sym e) (record { none = tt; stands = h })

-- one with a session does
pub takes_one : {A H : Type 0} (u : Setups) (s : State) (b : Bool) (line : ℕ) (r : Result A EventFault) (k : Kept H) → has_session (core_of s.machines b) line ≡ true → ToldAs u s (take_on b line ∷ []) r k → ToldAs u s (take_events u b (line ∷ []) s) r k
unfolding take_events
takes_one {A = A} {H = H} u s b line r k e q = subst (λ z. ToldAs u s (cond z (take_on b line ∷ []) []) r k) (sym e) q

-- one event, then another: both ends are told the moment
pub time_cut : (u : Setups) (s : State) (e f : WorldEvent) → followed u s (e ∷ []) (λ t. f ∷ []) ≡ e ∷ f ∷ []
unfolding followed
time_cut u s e f = refl

-- clauses of a call, by what the world was made of before

pub setups_same : {H : Type 0} (u v : Setups) (es : Setups → State → List WorldEvent) (r : Result (Unit {0}) EventFault) (k new : Kept H) → v ≡ u → ((t : State) → StandsAt k t → ToldAs v t (es v t) r new) → (t : State) → StandsAt k t → ToldAs u t (es u t) r new
setups_same u v es r k new same f t h = subst (λ z. ToldAs z t (es z t) r new) same (f t h)

pub line_so : {H : Type 0} (u v : Setups) (b : Bool) (n m : ℕ) (r : Result (Unit {0}) EventFault) (k new : Kept H) → v ≡ u → m ≡ suc n → ((t : State) → StandsAt k t → ToldAs v t (take_events v b (m ∷ []) t) r new) → (t : State) → StandsAt k t → ToldAs u t (take_events u b (suc n ∷ []) t) r new
line_so u v b n m r k new same q f t h = subst (λ z. ToldAs u t (take_events u b (z ∷ []) t) r new) q (setups_same u v (λ z. take_events z b (m ∷ [])) r k new same f t h)

pub lines_so : {H : Type 0} (u v : Setups) (b : Bool) (n m : ℕ) (r : Result (Unit {0}) EventFault) (k new : Kept H) → v ≡ u → n ≡ m → ((t : State) → StandsAt k t → ToldAs v t (take_events v b (upwards 0 n) t) r new) → (t : State) → StandsAt k t → ToldAs u t (take_events u b (upwards 0 m) t) r new
lines_so u v b n m r k new same q f t h = subst (λ z. ToldAs u t (take_events u b (upwards 0 z) t) r new) q (setups_same u v (λ z. take_events z b (upwards 0 n)) r k new same f t h)

-- the times

pub time_stops : {H : Type 0} (u : Setups) (s : State) (now : ℕ) (fault : EventFault) (k : Kept H) → now ≡ next_moment u s.moment → Stops u s (tell_time true now ∷ []) fault k → Stops u s (time_events (next_moment u s.moment)) fault k
time_stops u s now fault k e q =
    subst (λ z. Stops u s (time_events z) fault k) e
    (subst (λ z. Stops u s z fault k) (time_cut u s (tell_time true now) (tell_time false now)) (stops_then u s (tell_time true now ∷ []) (λ t. tell_time false now ∷ []) fault k q))

pub time_tells : {H : Type 0} (u : Setups) (s : State) (now : ℕ) (r : Result (Unit {0}) EventFault) (mid new : Kept H) → now ≡ next_moment u s.moment → ToldAll u s (tell_time true now ∷ []) mid → ((t : State) → StandsAt mid t → ToldAs u t (tell_time false now ∷ []) r new) → ToldAs u s (time_events (next_moment u s.moment)) r new
time_tells u s now r mid new e p f =
    subst (λ z. ToldAs u s (time_events z) r new) e
    (subst (λ z. ToldAs u s z r new) (time_cut u s (tell_time true now) (tell_time false now)) (tells_then u s (tell_time true now ∷ []) (λ t. tell_time false now ∷ []) mid new r p f))

pub now_is : (u : Setups) (at moment timer last : ℕ) → moment ≡ at → timer ≡ 10 * u.server.timing.timer → at ≡ last → moment + timer ≡ next_moment u last
now_is u at moment timer last a b c = omega (arith, a, b, c)

-- the parts of a round

abbrev pub behind_frames : Setups → State → List WorldEvent
behind_frames u s = followed u s (take_events u true (upwards 0 u.server.lines) s) (take_events u false (upwards 0 u.node.lines))

abbrev pub behind_times : Setups → State → List WorldEvent
behind_times u s = followed u s (deliver_events u 199745 s) (behind_frames u)

pub round_stops : {H : Type 0} (u : Setups) (s : State) (fault : EventFault) (k : Kept H) → Stops u s (time_events (next_moment u s.moment)) fault k → Stops u s (round_events u s) fault k
unfolding round_events
round_stops u s fault k q = stops_then u s (time_events (next_moment u s.moment)) (behind_times u) fault k q

pub round_tells : {H : Type 0} (u : Setups) (s : State) (r : Result (Unit {0}) EventFault) (mid new : Kept H) → ToldAll u s (time_events (next_moment u s.moment)) mid → ((t : State) → StandsAt mid t → ToldAs u t (behind_times u t) r new) → ToldAs u s (round_events u s) r new
unfolding round_events
round_tells u s r mid new p f = tells_then u s (time_events (next_moment u s.moment)) (behind_times u) mid new r p f

pub frames_stop : {H : Type 0} (u : Setups) (fault : EventFault) (k new : Kept H) → ((t : State) → StandsAt k t → Stops u t (deliver_events u 199745 t) fault new) → (t : State) → StandsAt k t → Stops u t (behind_times u t) fault new
frames_stop u fault k new f t h = stops_then u t (deliver_events u 199745 t) (behind_frames u) fault new (f t h)

pub frames_tell : {H : Type 0} (u : Setups) (r : Result (Unit {0}) EventFault) (k mid new : Kept H) → ((t : State) → StandsAt k t → ToldAll u t (deliver_events u 199745 t) mid) → ((t : State) → StandsAt mid t → ToldAs u t (behind_frames u t) r new) → (t : State) → StandsAt k t → ToldAs u t (behind_times u t) r new
frames_tell u r k mid new f g t h = tells_then u t (deliver_events u 199745 t) (behind_frames u) mid new r (f t h) g

pub takes_stop : {H : Type 0} (u : Setups) (fault : EventFault) (k new : Kept H) → ((t : State) → StandsAt k t → Stops u t (take_events u true (upwards 0 u.server.lines) t) fault new) → (t : State) → StandsAt k t → Stops u t (behind_frames u t) fault new
takes_stop u fault k new f t h = stops_then u t (take_events u true (upwards 0 u.server.lines) t) (take_events u false (upwards 0 u.node.lines)) fault new (f t h)

pub takes_tell : {H : Type 0} (u : Setups) (r : Result (Unit {0}) EventFault) (k mid new : Kept H) → ((t : State) → StandsAt k t → ToldAll u t (take_events u true (upwards 0 u.server.lines) t) mid) → ((t : State) → StandsAt mid t → ToldAs u t (take_events u false (upwards 0 u.node.lines) t) r new) → (t : State) → StandsAt k t → ToldAs u t (behind_frames u t) r new
takes_tell u r k mid new f g t h = tells_then u t (take_events u true (upwards 0 u.server.lines) t) (take_events u false (upwards 0 u.node.lines)) mid new r (f t h) g

pub found_so : {H : Type 0} (u v : Setups) (k : Kept H) (o : Option ℕ) → v ≡ u → ((w : Machines) → Stands k w → o ≡ undelivered v w) → (t : State) → StandsAt k t → o ≡ undelivered u t.machines
found_so u v k o same f t h = f t.machines h.machines ∙ ap (λ z. undelivered z t.machines) same
