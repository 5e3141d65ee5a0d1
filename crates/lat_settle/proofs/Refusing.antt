-- Why an event of a round is refused, where nothing was lost: for the number of frames, or for want of memory.
use Rattle.std.proofs.Common.{◌≡◌, ℕ, zero, suc, ◌+◌, ◌<◌, ◌≤◌, ◌⊎◌, inl, inr, sym, ap, ◌∙◌, refl, subst, arith, Bool, true, false, not, cond, List, [], ◌∷◌, ◌++◌, length, Option, Some, None, nat_lt, slice_get}
use Rattle.std.proofs.lemmas.Bool.{lt-ltb, ltb-true}
use Rattle.std.proofs.lemmas.Option.{slice_get_within}
use Rattle.lat_machines.specs.values.Timing.{half_range}
use Rattle.lat_machines.specs.values.Messages.{Head}
use Rattle.lat_machines.specs.cores.Hearing.{names}
use Rattle.lat_machines.specs.cores.Lines.{has_session}
use Rattle.lat_machines.specs.world.Machines.{Setups, Posted, Machines, own_of, core_of}
use Rattle.lat_machines.specs.world.Reports.{report}
use Rattle.lat_machines.specs.world.Tally.{formed_in, shown_in}
use Rattle.lat_machines.specs.world.Young.{head_of, YoungOf, IsYoung}
use Rattle.lat_model.specs.Lists.{upwards}
use Rattle.lat_replay.specs.Kept.{Kept}
use Rattle.lat_replay.specs.Played.{State, next, refusal, Played, Through, Refused, unless, played_from, played}
use Rattle.lat_laws.proofs.rounds.rounds.Moves.{Reached, rounds_reach}
use Rattle.lat_laws.proofs.rounds.rounds.Nexts.{NextOf, next_of}
use Rattle.lat_laws.proofs.rounds.rounds.Youngs.{rounds_young}
use Rattle.lat_laws.proofs.rounds.ready.Moments.{BothUntil, round_until}
use Rattle.lat_laws.proofs.rounds.settle.All.{all_settle}
use Rattle.lat_laws.specs.rounds.Lossless.{Lossless}
use Rattle.lat_laws.specs.rounds.Rounds.{undelivered, deliver_one, time_both, round, rounds, next_moment, YoungNext, YoungDeliveries}
use Rattle.lat_laws.specs.rounds.Settles.{Enough, Settled}
use Rattle.lat_schedule.specs.declared.event.WorldEvent.{WorldEvent}
use Rattle.lat_schedule.specs.declared.event.WorldEvent.TheVariants.{Deliver}
use Rattle.lat_wire.specs.declared.fault.EventFault.{EventFault}
use Rattle.lat_wire.specs.declared.fault.EventFault.TheVariants.{FramesFull, Backward, OwnAddress, NoFrame, Old, Memory}
use Rattle.lat_wire.specs.Rates.{rates}
use Rattle.lat_wire.specs.Refusals.{first_of, full, no_frame, old, old_so, old_frame, old_run}
use Rattle.lat_settle.specs.Events.{behind, followed, tell_time, time_events, delivers, deliver_events, take_on, take_events, round_events}
use Rattle.lat_settle.specs.Rounds.{in_round, settled_behind, StopsIn}
use Rattle.lat_settle.specs.Laws.{BeginsAt, EnoughSettle, Settles, IsFullOrMemory, Led}
use Rattle.lat_settle.proofs.Leading.{times_lead, times_moment, told_at, heard_at, took_at, RoundLeads, round_leads, led_of}
use Rattle.lat_settle.proofs.Passing.{passed}
use Rattle.lat_settle.proofs.Running.{Running}

abbrev OnlyFull : Option EventFault → Type 0
OnlyFull o = (o ≡ None) ⊎ (o ≡ Some FramesFull)

first_full : (b : Bool) (rest : List (Option EventFault)) → first_of rest ≡ None → OnlyFull (first_of (cond b (Some FramesFull) None ∷ rest))
first_full true rest e = inr refl
first_full false rest e = inl e

not_less : (a b : ℕ) → b ≤ a → nat_lt a b ≡ false
not_less a b h = go (nat_lt a b) refl
  where
    go : (x : Bool) → nat_lt a b ≡ x → nat_lt a b ≡ false
    go true e = absurd (omega (arith, h, ltb-true a b e))
    go false e = e

time_passes : (x : Machines) (m at : ℕ) → m ≤ at → OnlyFull (first_of (full x ∷ cond (nat_lt at m) (Some (Backward at m)) None ∷ []))
time_passes x m at l = first_full (nat_lt 199744 (length x.posts)) _ (ap (λ z. first_of (cond z (Some (Backward at m)) None ∷ [])) (not_less at m l))

-- a young RUN isn't old

recent : (acknowledgement : Bool) (r number newest : ℕ) → newest < number + r → old_so acknowledgement r number newest ≡ None
recent acknowledgement r number newest l = ap (λ z. cond z None (Some (Old acknowledgement number newest))) (lt-ltb newest (number + r) l)

two_none : (a b : Option EventFault) → a ≡ None → b ≡ None → first_of (a ∷ b ∷ []) ≡ None
two_none a b p q = ap (λ z. first_of (z ∷ b ∷ [])) p ∙ ap (λ z. first_of (z ∷ [])) q

young_run : (u : Setups) (x : Machines) (p : Posted) (o : Option Head) → YoungOf u x p o → old_run u x p o ≡ None
young_run u x p None y = refl
young_run u x p (Some h) y = go (names (core_of x (not p.by_server)).circuits (own_of u p.by_server) h.to h.from) refl
  where
    r : ℕ
    r = half_range ((core_of x (not p.by_server)).circuits.circuit_at h.to).end.wide

    go : (c : Bool) → names (core_of x (not p.by_server)).circuits (own_of u p.by_server) h.to h.from ≡ c → cond c (old_frame r (core_of x p.by_server) p.frame) None ≡ None
    go false e = refl
    go true e = two_none (old_so false r p.frame.number (formed_in (core_of x p.by_server) p.frame.circuit)) (old_so true r p.frame.acknowledgement (shown_in (core_of x p.by_server) p.frame.circuit))
        (recent false r p.frame.number (formed_in (core_of x p.by_server) p.frame.circuit) (y e).message)
        (recent true r p.frame.acknowledgement (shown_in (core_of x p.by_server) p.frame.circuit) (y e).acknowledgement)

young_passes : (u : Setups) (x : Machines) (i : ℕ) → undelivered u x ≡ Some i → ((p : Posted) → slice_get x.posts i ≡ Some p → IsYoung u x p) → OnlyFull (first_of (full x ∷ no_frame x i ∷ old u x (slice_get x.posts i) ∷ []))
young_passes u x i e young = first_full (nat_lt 199744 (length x.posts)) _ (two_none (no_frame x i) (old u x (slice_get x.posts i)) there (ap (old u x) at ∙ (ap (λ z. cond z (old_run u x n.post (head_of n.post.frame.value)) None) n.other ∙ young_run u x n.post (head_of n.post.frame.value) (young n.post at))))
  where
    n : NextOf u x.delivered 0 x.posts i
    n = next_of u x.delivered 0 x.posts i e

    at : slice_get x.posts i ≡ Some n.post
    at = subst (λ z. slice_get x.posts z ≡ Some n.post) (omega (arith, n.at)) n.there

    there : no_frame x i ≡ None
    there = ap (λ z. cond z None (Some (NoFrame i (length x.posts)))) (lt-ltb i (length x.posts) (slice_get_within x.posts i n.post at))

young_if : (u : Setups) (x : Machines) (i : ℕ) (o : Option ℕ) → o ≡ Some i → YoungNext u x o → (p : Posted) → slice_get x.posts i ≡ Some p → IsYoung u x p
young_if u x i o e y = (subst (YoungNext u x) e y)

-- some events, each of which is refused for that alone

OnlyFulls : Setups → State → List WorldEvent → Type 0
OnlyFulls u s [] = Unit {0}
OnlyFulls u s (e ∷ es) = OnlyFull (refusal u s e) × OnlyFulls u (next u s e) es

full_more : (u : Setups) (s : State) (es fs : List WorldEvent) → OnlyFulls u s es → OnlyFulls u (behind u s es) fs → OnlyFulls u s (es ++ fs)
unfolding behind OnlyFulls
full_more u s [] fs p q = q
full_more u s (e ∷ es) fs p q = (p.0, full_more u (next u s e) es fs p.1 q)

full_then : (u : Setups) (s : State) (es : List WorldEvent) (more : State → List WorldEvent) → OnlyFulls u s es → OnlyFulls u (behind u s es) (more (behind u s es)) → OnlyFulls u s (followed u s es more)
unfolding followed
full_then u s es more p q = full_more u s es (more (behind u s es)) p q

full_times : (u : Setups) (s : State) (now : ℕ) → s.moment ≤ now → OnlyFulls u s (time_events now)
unfolding OnlyFulls
full_times u s now l = (time_passes s.machines s.moment now l, (time_passes (next u s (tell_time true now)).machines now now (omega arith), tt))

full_delivers : (u : Setups) (n : ℕ) (s : State) → ((ratings : List (List ℕ)) → YoungDeliveries u s.moment ratings s.machines) → OnlyFulls u s (deliver_events u n s)
unfolding OnlyFulls deliver_events
full_delivers u zero s young = tt
full_delivers u (suc n) s young = go (undelivered u s.machines) refl (λ i. full_delivers u n (next u s (Deliver i)))
  where
    go : (o : Option ℕ) → undelivered u s.machines ≡ o → ((i : ℕ) → ((ratings : List (List ℕ)) → YoungDeliveries u s.moment ratings (next u s (Deliver i)).machines) → OnlyFulls u (next u s (Deliver i)) (deliver_events u n (next u s (Deliver i)))) → OnlyFulls u s (delivers o (λ i. deliver_events u n (next u s (Deliver i))))
    go None e more = tt
    go (Some i) e more = (
      young_passes u s.machines i e (young_if u s.machines i (undelivered u s.machines) e (young ([] ∷ [])).0),
      more i (λ ratings. subst (λ z. YoungDeliveries u s.moment ratings (deliver_one u s.moment (rates u s.machines) z s.machines)) e (young (rates u s.machines ∷ ratings)).1),
    )

full_takes : (u : Setups) (b : Bool) (lines : List ℕ) (s : State) → OnlyFulls u s (take_events u b lines s)
unfolding OnlyFulls take_events
full_takes u b [] s = tt
full_takes u b (line ∷ lines) s = go (has_session (core_of s.machines b) line) (full_takes u b lines (next u s (take_on b line))) (full_takes u b lines s)
  where
    go : (c : Bool) → OnlyFulls u (next u s (take_on b line)) (take_events u b lines (next u s (take_on b line))) → OnlyFulls u s (take_events u b lines s) → OnlyFulls u s (cond c (take_on b line ∷ take_events u b lines (next u s (take_on b line))) (take_events u b lines s))
    go true p q = (first_full (nat_lt 199744 (length s.machines.posts)) (None ∷ []) refl, p)
    go false p q = q

full_round : (u : Setups) (s : State) → BeginsAt u s → OnlyFulls u s (round_events u s)
unfolding round_events told_at heard_at took_at
full_round u s b =
    full_then u s (time_events now) (λ told. followed u told (deliver_events u 199745 told) (λ heard. followed u heard (take_events u true (upwards 0 u.server.lines) heard) (take_events u false (upwards 0 u.node.lines))))
    (full_times u s now (omega arith))
    (full_then u (told_at u s) (deliver_events u 199745 (told_at u s)) (λ heard. followed u heard (take_events u true (upwards 0 u.server.lines) heard) (take_events u false (upwards 0 u.node.lines)))
    (full_delivers u 199745 (told_at u s) young)
    (full_then u (heard_at u s) (take_events u true (upwards 0 u.server.lines) (heard_at u s)) (take_events u false (upwards 0 u.node.lines))
    (full_takes u true (upwards 0 u.server.lines) (heard_at u s))
    (full_takes u false (upwards 0 u.node.lines) (took_at u s))))
  where
    now : ℕ
    now = next_moment u s.moment

    young : (ratings : List (List ℕ)) → YoungDeliveries u (told_at u s).moment ratings (told_at u s).machines
    young ratings =
        subst (λ z. YoungDeliveries u (told_at u s).moment ratings z) (sym (times_lead u s now))
        (subst (λ z. YoungDeliveries u z ratings (time_both u now s.machines)) (sym (times_moment u s now)) (rounds_young u s.moment s.machines (ratings ∷ []) b).0)

-- nothing is lost in a round either
begins_next : (u : Setups) (s : State) → BeginsAt u s → BeginsAt u (behind u s (round_events u s))
begins_next u s b = record {
  fit = b.fit;
  usual = b.usual;
  moves = r.moves;
  short = r.short;
  calm = r.calm;
  reached = d.machines ∙ r.there;
  lossless = subst (Lossless u) (sym d.machines) r.lossless;
  server = subst (λ z. z.server.core.moment ≤ t.moment) (sym d.machines) (subst (λ z. here.server.core.moment ≤ z) (sym d.moment) until.server);
  node = subst (λ z. z.node.core.moment ≤ t.moment) (sym d.machines) (subst (λ z. here.node.core.moment ≤ z) (sym d.moment) until.node);
}
  where
    t : State
    t = behind u s (round_events u s)

    d : RoundLeads u s
    d = round_leads u s

    here : Machines
    here = round u (next_moment u s.moment) d.ratings s.machines

    r : Reached u here
    r = rounds_reach u s.moment s.machines (d.ratings ∷ []) b

    until : BothUntil (next_moment u s.moment) here
    until = round_until u (next_moment u s.moment) d.ratings s.machines (record { server = (let l : s.machines.server.core.moment ≤ s.moment = b.server in omega (arith, l)); node = (let l : s.machines.node.core.moment ≤ s.moment = b.node in omega (arith, l)) })

-- so a round is refused for the number of frames alone

full_refused : (u : Setups) (i : ℕ) (s : State) (es : List WorldEvent) (j : ℕ) (fault : EventFault) (t : State) → OnlyFulls u s es → played_from u i s es ≡ Refused j fault t → fault ≡ FramesFull
unfolding OnlyFulls
full_refused u i s [] j fault t p e = let z : ⊥ = cc in absurd z
full_refused u i s (x ∷ xs) j fault t p e = go (refusal u s x) p.0 e (λ f. full_refused u (suc i) (next u s x) xs j fault t p.1 f)
  where
    go : (o : Option EventFault) → OnlyFull o → unless o i s (played_from u (suc i) (next u s x) xs) ≡ Refused j fault t → (played_from u (suc i) (next u s x) xs ≡ Refused j fault t → fault ≡ FramesFull) → fault ≡ FramesFull
    go None q f more = more f
    go (Some g) (inl q) f more = let z : ⊥ = cc in absurd z
    go (Some g) (inr q) f more = let a : g ≡ FramesFull = cc in let b : g ≡ fault = cc in sym b ∙ a

full_settled : (u : Setups) (run n : ℕ) (s : State) (r : ℕ) (fault : EventFault) (t : State) → BeginsAt u s → settled_behind u run n s ≡ Refused r fault t → fault ≡ FramesFull
unfolding settled_behind
full_settled u run zero s r fault t b e = let z : ⊥ = cc in absurd z
full_settled u run (suc n) s r fault t b e = go (played u s (round_events u s)) refl e (λ x c f. full_settled u (suc run) n x r fault t c f)
  where
    go : (p : Played) → played u s (round_events u s) ≡ p → in_round (suc run) p (settled_behind u (suc run) n) ≡ Refused r fault t → ((x : State) → BeginsAt u x → settled_behind u (suc run) n x ≡ Refused r fault t → fault ≡ FramesFull) → fault ≡ FramesFull
    go (Through x) q f more = more x (subst (BeginsAt u) (sym (passed u 0 s x (round_events u s) q).1) (begins_next u s b)) f
    go (Refused i g x) q f more =
        let a : g ≡ FramesFull = full_refused u 0 s (round_events u s) i g x (full_round u s b) q in
        let c : g ≡ fault = cc in
        sym c ∙ a

pub full_or_memory : (u : Setups) (s : State) (rounds round : ℕ) (fault : EventFault) (t : State) → BeginsAt u s → StopsIn u s rounds round fault t → IsFullOrMemory fault
full_or_memory u s rounds round Memory t b q = inr refl
full_or_memory u s rounds round FramesFull t b q = inl refl
full_or_memory u s rounds round (Backward at last) t b q = inl (full_settled u 0 rounds s round (Backward at last) t b q)
full_or_memory u s rounds round OwnAddress t b q = inl (full_settled u 0 rounds s round OwnAddress t b q)
full_or_memory u s rounds round (NoFrame index sent) t b q = inl (full_settled u 0 rounds s round (NoFrame index sent) t b q)
full_or_memory u s rounds round (Old acknowledgement number newest) t b q = inl (full_settled u 0 rounds s round (Old acknowledgement number newest) t b q)

-- enough rounds settle all

pub enough_settle : EnoughSettle
enough_settle u s n t b q e =
    let l : Led u s n t = led_of u 0 n s t q in
    subst (Settled u) (sym l.machines)
    (all_settle u s.moment s.machines l.ratings b l.whole
    (subst (λ z. Enough (length l.ratings) (report u z)) l.machines (subst (λ z. Enough z (report u t.machines)) (sym l.count) e)))

-- and rounds may begin behind rounds
begins_settled : (u : Setups) (run n : ℕ) (s t : State) → BeginsAt u s → settled_behind u run n s ≡ Through t → BeginsAt u t
unfolding settled_behind
begins_settled u run zero s t b e = let z : s ≡ t = cc in subst (BeginsAt u) z b
begins_settled u run (suc n) s t b e = go (played u s (round_events u s)) refl e (λ x c f. begins_settled u (suc run) n x t c f)
  where
    go : (p : Played) → played u s (round_events u s) ≡ p → in_round (suc run) p (settled_behind u (suc run) n) ≡ Through t → ((x : State) → BeginsAt u x → settled_behind u (suc run) n x ≡ Through t → BeginsAt u t) → BeginsAt u t
    go (Through x) q f more = more x (subst (BeginsAt u) (sym (passed u 0 s x (round_events u s) q).1) (begins_next u s b)) f
    go (Refused i g x) q f more = let z : ⊥ = cc in absurd z

pub settles_so : {H : Type 0} (u : Setups) (s : State) (n : ℕ) (k : Kept H) → Running u s n k → BeginsAt u s → Settles u s n k
settles_so u s n k r b = record { state = r.state; is = r.whole; stands = r.stands; all = enough_settle u s n r.state b r.whole; again = begins_settled u 0 n s r.state b r.whole }
