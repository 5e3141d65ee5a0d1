-- A schedule that loses nothing leads to a state at which rounds may begin.
use Rattle.std.proofs.Common.{◌≡◌, ℕ, ◌+◌, ◌*◌, ◌<◌, ◌≤◌, ◌^◌, sym, ap, ◌∙◌, refl, subst, arith, Bool, true, false, not, cond, List, [], ◌∷◌, length, map, Option, Some, None, nat_lt, slice_get, lit<}
use Rattle.std.proofs.lemmas.Bool.{le-leb, lt-ltb}
use Rattle.lat_base.specs.declared.addr.Addr.{Addr}
use Rattle.lat_base.specs.declared.event.Event.TheVariants as events
use Rattle.lat_machines.specs.values.Addresses.{address}
use Rattle.lat_machines.specs.values.Events.{Hears, Time}
use Rattle.lat_machines.specs.server.Server as machine
use Rattle.lat_machines.specs.world.Machines.{Setups, Posted, Machines, Move, HearsFrame, tell, is_for_other, is_own, heard_as, counted, marked_delivered, comes, happens, run}
use Rattle.lat_machines.specs.world.Safe.{Fit}
use Rattle.lat_model.specs.Lists.{Each}
use Rattle.lat_replay.specs.Moves.{move_of, moment_behind}
use Rattle.lat_replay.specs.Played.{State, open_state, next, refusal}
use Rattle.lat_replay.specs.Setups.{setups_shown}
use Rattle.lat_laws.specs.rounds.Calm.{CalmMove}
use Rattle.lat_laws.specs.rounds.Settles.{Usual, ShortMove}
use Rattle.lat_laws.proofs.rounds.ready.Moments.{BothUntil, tell_until}
use Rattle.lat_payload.specs.Reads.{reading_of}
use Rattle.lat_lines.specs.Events.{event_shown}
use Rattle.lat_schedule.specs.Events.{IsEvent}
use Rattle.lat_schedule.specs.Setups.{IsSetup}
use Rattle.lat_schedule.specs.declared.event.WorldEvent.{WorldEvent}
use Rattle.lat_schedule.specs.declared.event.WorldEvent.TheVariants.{Local, Deliver, Inject}
use Rattle.lat_schedule.specs.declared.setup.Setup.{Setup}
use Rattle.lat_server.specs.Config.{offer_shown}
use Rattle.lat_server.specs.declared.config.Offer.{Offer}
use Rattle.lat_base.specs.Names.{IsName}
use Rattle.lat_wire.specs.declared.fault.EventFault.TheVariants.{FramesFull, Backward}
use Rattle.lat_wire.specs.Rates.{rates}
use Rattle.lat_wire.specs.Refusals.{first_of, full}
use Rattle.lat_settle.specs.Events.{behind}
use Rattle.lat_settle.specs.Told.{NoneRefused}
use Rattle.lat_settle.specs.Laws.{HaltsNobody, SchedulesBegin, SchedulesLeaveRoom}
use Rattle.lat_settle.proofs.Passing.{passed}
use Rattle.lat_settle.proofs.Running.{times_more}

-- what the setup grants

short_offers : (os : List Offer) → Each (λ (o : Offer). IsName o.service) os → Each (λ (o : machine.Offer). length o.service ≤ 255) (map offer_shown os)
short_offers [] h = tt
short_offers (o ∷ os) h = (let l : length o.service ≤ 16 = h.0.most in omega (arith, l), short_offers os h.1)

fit_of : (setup : Setup) → IsSetup setup → Fit (setups_shown setup)
fit_of setup h = record {
  apart = h.apart;
  server_own = h.server_own;
  node_own = h.node_own;
  server_ceiling = (let l : setup.server.timing.ceiling ≤ 15 = h.server.timing.ceiling.1 in omega (arith, l));
  node_ceiling = (let l : setup.node.timing.ceiling ≤ 15 = h.node.timing.ceiling.1 in omega (arith, l));
  sessions = (let l : 1 ≤ setup.server.timing.sessions = h.server.timing.sessions.0 in omega (arith, l));
}

usual_of : (setup : Setup) → IsSetup setup → Usual (setups_shown setup)
usual_of setup h = record {
  server_gives = (let l : 1 ≤ setup.server.timing.ceiling = h.server.timing.ceiling.0 in omega (arith, l));
  node_gives = (let l : 1 ≤ setup.node.timing.ceiling = h.node.timing.ceiling.0 in omega (arith, l));
  server_low = h.server.timing.ceiling.1;
  node_low = h.node.timing.ceiling.1;
  offers = short_offers setup.server.offers h.offers;
}

-- the events are moves

moves_of : Setups → State → List WorldEvent → List Move
moves_of u s [] = []
moves_of u s (e ∷ es) = move_of u s.machines s.moment e ∷ moves_of u (next u s e) es

moved_behind : (u : Setups) (s : State) (es : List WorldEvent) → (behind u s es).machines ≡ run u (moves_of u s es) s.machines
unfolding behind moves_of
moved_behind u s [] = refl
moved_behind u s (e ∷ es) = moved_behind u (next u s e) es

short_move : (u : Setups) (w : Machines) (moment : ℕ) (to : Addr) (e : WorldEvent) → IsEvent to e → ShortMove (move_of u w moment e)
short_move u w moment to (Local server (events.Heard from payload now)) t = tt
short_move u w moment to (Local server (events.Time now)) t = tt
short_move u w moment to (Local server (events.Connect line service)) t = let l : length service ≤ 16 = t.2.most in omega (arith, l)
short_move u w moment to (Local server (events.Put line bytes)) t = tt
short_move u w moment to (Local server (events.Set line setting)) t = tt
short_move u w moment to (Local server (events.Take line n)) t = tt
short_move u w moment to (Local server (events.Attend line flag)) t = tt
short_move u w moment to (Local server (events.Close line)) t = tt
short_move u w moment to (Local server (events.Request at id service)) t = tt
short_move u w moment to (Local server (events.Cancel id)) t = tt
short_move u w moment to (Local server events.Announce) t = tt
short_move u w moment to (Local server (events.Avoid line)) t = tt
short_move u w moment to (Local server (events.Ready line ready)) t = tt
short_move u w moment to (Local server events.Halt) t = tt
short_move u w moment to (Deliver index) t = tt
short_move u w moment to (Inject server from payload) t = tt

short_moves : (u : Setups) (to : Addr) (s : State) (es : List WorldEvent) → Each (IsEvent to) es → Each ShortMove (moves_of u s es)
unfolding moves_of
short_moves u to s [] h = tt
short_moves u to s (e ∷ es) h = (short_move u s.machines s.moment to e h.0, short_moves u to (next u s e) es h.1)

-- an event that halts nobody is a calm move
calm_move : (u : Setups) (w : Machines) (moment : ℕ) (e : WorldEvent) → HaltsNobody e → CalmMove (move_of u w moment e)
calm_move u w moment (Local server (events.Heard from payload now)) h = tt
calm_move u w moment (Local server (events.Time now)) h = tt
calm_move u w moment (Local server (events.Connect line service)) h = tt
calm_move u w moment (Local server (events.Put line bytes)) h = tt
calm_move u w moment (Local server (events.Set line setting)) h = tt
calm_move u w moment (Local server (events.Take line n)) h = tt
calm_move u w moment (Local server (events.Attend line flag)) h = tt
calm_move u w moment (Local server (events.Close line)) h = tt
calm_move u w moment (Local server (events.Request at id service)) h = tt
calm_move u w moment (Local server (events.Cancel id)) h = tt
calm_move u w moment (Local server events.Announce) h = tt
calm_move u w moment (Local server (events.Avoid line)) h = tt
calm_move u w moment (Local server (events.Ready line ready)) h = tt
calm_move u w moment (Local server events.Halt) h = absurd h
calm_move u w moment (Deliver index) h = tt
calm_move u w moment (Inject server from payload) h = tt

calm_moves : (u : Setups) (s : State) (es : List WorldEvent) → Each HaltsNobody es → Each CalmMove (moves_of u s es)
unfolding moves_of
calm_moves u s [] h = tt
calm_moves u s (e ∷ es) h = (calm_move u s.machines s.moment e h.0, calm_moves u (next u s e) es h.1)

-- no core's moment is past that of the schedule

abbrev Until : State → Type 0
Until s = BothUntil s.moment s.machines

until_cond : (n : ℕ) (b : Bool) (x y : Machines) → BothUntil n x → BothUntil n y → BothUntil n (cond b x y)
until_cond n true x y p q = p
until_cond n false x y p q = q

not_backward : (w : Machines) (last now : ℕ) → first_of (full w ∷ cond (nat_lt now last) (Some (Backward now last)) None ∷ []) ≡ None → last ≤ now
not_backward w last now e = let h : (now < last → ⊥) = (λ l. go (nat_lt 199744 (length w.posts)) (ap (λ z. first_of (full w ∷ cond z (Some (Backward now last)) None ∷ [])) (sym (lt-ltb now last l)) ∙ e)) in omega (arith, h)
  where
    go : (b : Bool) → first_of (cond b (Some FramesFull) None ∷ Some (Backward now last) ∷ []) ≡ None → ⊥
    go true q = cc
    go false q = cc

until_time : (u : Setups) (s : State) (b : Bool) (now : ℕ) → refusal u s (Local b (events.Time now)) ≡ None → Until s → Until (next u s (Local b (events.Time now)))
until_time u s b now e h =
    let l : s.moment ≤ now = not_backward s.machines s.moment now e in
    tell_until u now s.machines b (Time now) (rates u s.machines) (le-leb now now (omega arith)) (record { server = (let m : s.machines.server.core.moment ≤ s.moment = h.server in omega (arith, l, m)); node = (let m : s.machines.node.core.moment ≤ s.moment = h.node in omega (arith, l, m)) })

until_come : (u : Setups) (now i : ℕ) (ratings : List ℕ) (w : Machines) → BothUntil now w → BothUntil now (happens u w (HearsFrame i now ratings))
until_come u now i ratings w h = go (slice_get w.posts i)
  where
    go : (o : Option Posted) → BothUntil now (comes u w i now ratings o)
    go None = h
    go (Some p) =
        until_cond now (is_for_other u p) (tell u (marked_delivered i w) (not p.by_server) (heard_as u p now) ratings) (counted (marked_delivered i w))
        (tell_until u now (marked_delivered i w) (not p.by_server) (heard_as u p now) ratings (le-leb now now (omega arith)) (record { server = h.server; node = h.node }))
        (record { server = h.server; node = h.node })

until_next : (u : Setups) (s : State) (e : WorldEvent) → refusal u s e ≡ None → Until s → Until (next u s e)
until_next u s (Local b (events.Heard from payload now)) q h = h
until_next u s (Local b (events.Time now)) q h = until_time u s b now q h
until_next u s (Local b (events.Connect line service)) q h = tell_until u s.moment s.machines b (event_shown (events.Connect line service)) (rates u s.machines) tt h
until_next u s (Local b (events.Put line bytes)) q h = tell_until u s.moment s.machines b (event_shown (events.Put line bytes)) (rates u s.machines) tt h
until_next u s (Local b (events.Set line setting)) q h = tell_until u s.moment s.machines b (event_shown (events.Set line setting)) (rates u s.machines) tt h
until_next u s (Local b (events.Take line n)) q h = tell_until u s.moment s.machines b (event_shown (events.Take line n)) (rates u s.machines) tt h
until_next u s (Local b (events.Attend line flag)) q h = tell_until u s.moment s.machines b (event_shown (events.Attend line flag)) (rates u s.machines) tt h
until_next u s (Local b (events.Close line)) q h = tell_until u s.moment s.machines b (event_shown (events.Close line)) (rates u s.machines) tt h
until_next u s (Local b (events.Request to id service)) q h = tell_until u s.moment s.machines b (event_shown (events.Request to id service)) (rates u s.machines) tt h
until_next u s (Local b (events.Cancel id)) q h = tell_until u s.moment s.machines b (event_shown (events.Cancel id)) (rates u s.machines) tt h
until_next u s (Local b events.Announce) q h = tell_until u s.moment s.machines b (event_shown events.Announce) (rates u s.machines) tt h
until_next u s (Local b (events.Avoid line)) q h = tell_until u s.moment s.machines b (event_shown (events.Avoid line)) (rates u s.machines) tt h
until_next u s (Local b (events.Ready line ready)) q h = tell_until u s.moment s.machines b (event_shown (events.Ready line ready)) (rates u s.machines) tt h
until_next u s (Local b events.Halt) q h = tell_until u s.moment s.machines b (event_shown events.Halt) (rates u s.machines) tt h
until_next u s (Deliver i) q h = until_come u s.moment i (rates u s.machines) s.machines h
until_next u s (Inject b from payload) q h =
    until_cond s.moment (is_own u (address from.0)) s.machines (tell u s.machines b (Hears (address from.0) (reading_of payload) None s.moment) (rates u s.machines)) h
    (tell_until u s.moment s.machines b (Hears (address from.0) (reading_of payload) None s.moment) (rates u s.machines) (le-leb s.moment s.moment (omega arith)) h)

until_behind : (u : Setups) (s : State) (es : List WorldEvent) → NoneRefused u s es → Until s → Until (behind u s es)
unfolding behind NoneRefused
until_behind u s [] p h = h
until_behind u s (e ∷ es) p h = until_behind u (next u s e) es p.1 (until_next u s e p.0 h)

until_open : (u : Setups) → Until (open_state u)
until_open u = record { server = omega arith; node = omega arith }

pub schedules_begin : SchedulesBegin
schedules_begin setup es t h calm each q lossless = record {
  fit = fit_of setup h;
  usual = usual_of setup h;
  moves = moves_of u s es;
  short = short_moves u setup.server.own s es each;
  calm = record { patient = record { server = calm.server; node = calm.node }; calm = calm_moves u s es calm.events };
  reached = ap (λ z. z.machines) p.1 ∙ moved_behind u s es;
  lossless = lossless;
  server = until.server;
  node = until.node;
}
  where
    u : Setups
    u = setups_shown setup

    s : State
    s = open_state u

    p : NoneRefused u s es × (t ≡ behind u s es)
    p = passed u 0 s t es q

    until : BothUntil t.moment t.machines
    until = subst Until (sym p.1) (until_behind u s es p.0 (until_open u))

-- the moment of a schedule

early_next : (m : ℕ) (to : Addr) (e : WorldEvent) → IsEvent to e → m < 10 ^ 15 → moment_behind m e < 10 ^ 15
early_next m to (Local server (events.Heard from payload now)) t l = l
early_next m to (Local server (events.Time now)) t l = t
early_next m to (Local server (events.Connect line service)) t l = l
early_next m to (Local server (events.Put line bytes)) t l = l
early_next m to (Local server (events.Set line setting)) t l = l
early_next m to (Local server (events.Take line n)) t l = l
early_next m to (Local server (events.Attend line flag)) t l = l
early_next m to (Local server (events.Close line)) t l = l
early_next m to (Local server (events.Request at id service)) t l = l
early_next m to (Local server (events.Cancel id)) t l = l
early_next m to (Local server events.Announce) t l = l
early_next m to (Local server (events.Avoid line)) t l = l
early_next m to (Local server (events.Ready line ready)) t l = l
early_next m to (Local server events.Halt) t l = l
early_next m to (Deliver index) t l = l
early_next m to (Inject server from payload) t l = l

early_behind : (u : Setups) (to : Addr) (s : State) (es : List WorldEvent) → Each (IsEvent to) es → s.moment < 10 ^ 15 → (behind u s es).moment < 10 ^ 15
unfolding behind
early_behind u to s [] h l = l
early_behind u to s (e ∷ es) h l = early_behind u to (next u s e) es h.1 (early_next s.moment to e h.0 l)

leaves_room : (m n t : ℕ) → m < 10 ^ 15 → n ≤ 100000 → t ≤ 100 → m + n * (10 * t) < 2 ^ 64
leaves_room m n t a b c =
    let p : n * (10 * t) ≤ 100000 * (10 * t) = times_more n 100000 (10 * t) b in
    omega (arith, a, c, p)

pub schedules_leave_room : SchedulesLeaveRoom
schedules_leave_room setup es t h each q rounds l =
    leaves_room t.moment rounds setup.server.timing.timer
    (subst (λ z. z.moment < 10 ^ 15) (sym (passed (setups_shown setup) 0 (open_state (setups_shown setup)) t es q).1) (early_behind (setups_shown setup) setup.server.own (open_state (setups_shown setup)) es each (lit< tt)))
    l h.server.timing.timer.1
