-- Every run of the world of circuits keeps the sessions of both ends plain.
use Rattle.std.proofs.Common.{◌≡◌, ℕ, suc, sym, ap, ap₂, ◌∙◌, refl, subst, arith, Bool, true, false, not, cond, ◌&&◌, ◌||◌, List, [], ◌∷◌, min, Option, Some, None, nat_eq, nat_lt, slice_get, eqb-true}
use Rattle.std.proofs.lemmas.Bool.{true≢false, false≢true, and_parts, eqb-false}
use Rattle.lat_model.specs.sessions.Slots.{Slot}
use Rattle.lat_model.specs.sessions.Sessions.{Sessions}
use Rattle.lat_model.specs.sessions.Calls.{Call, call}
use Rattle.lat_model.specs.numbers.Link.{Frame}
use Rattle.lat_model.specs.numbers.NetOk.{FrameOf}
use Rattle.lat_model.specs.Lists.{Each}
use Rattle.lat_model.specs.ends.End.{Mark, Sent, Run, CallStart, ReplyStart, Stopped, Half, End, Step, lives, call_end, finish, lapse}
use Rattle.lat_model.specs.ends.Timers.{note_empty, time_step}
use Rattle.lat_model.specs.ends.Run.{run_end}
use Rattle.lat_model.specs.ends.Starting.{Agreed, Setup, reply_end, make_slave, again_start, hear_reply, hear_stop, void_sessions}
use Rattle.lat_model.specs.circuits.World.{CircuitEntry, Wired, World, table, with_table, put_circuit, at_end, first_end}
use Rattle.lat_model.specs.circuits.Arriving.{is_of, living, slave_of, run_in, stop_in, reply_in, start_in, arrive}
use Rattle.lat_model.specs.circuits.Events.{WorldEvent, Calls, Locally, Times, Moves, Delivers, Injects, deliver_in, occurs, go_on, open_world, Ends, Lapses, Stops}
use Rattle.lat_model.specs.circuits.Together.{Together}
use Rattle.lat_model.specs.circuits.WorldOk.{void_half, mate, Idle, Joint, Replied, ByServer, ByNode, FromSender, WorldOk}
use Rattle.lat_model.proofs.sessions.Words.{upd_other, upd_field}
use Rattle.lat_model.proofs.numbers.Net.{each_at}
use Rattle.lat_model.proofs.circuits.Kin.{Kin, kin_time, kin_run, kin_stop, kin_finish}
use Rattle.lat_model.proofs.circuits.Begins.{kin_call}
use Rattle.lat_model.proofs.circuits.Arrives.{Fair, says_fair, occurs_ok}
use Rattle.lat_model.specs.circuits.Ids.{next_id}
use Rattle.lat_model.proofs.circuits.Ids.{drawn_apart}
use Rattle.lat_laws.specs.rounds.Idle.{NoStops}
use Rattle.lat_laws.specs.rounds.Plain.{Plain, BothPlain, WorldPlain, ShortCall, ShortWorldEvent}
use Rattle.lat_laws.proofs.rounds.plain.Calls.{agree_plain}
use Rattle.lat_laws.proofs.rounds.plain.Steps.{FairPlain, Onward, time_onward, call_fair, run_onward, fair_of}
use Rattle.lat_laws.proofs.rounds.plain.Steps as Steps

-- an end of which the sessions, its place among the circuits and its peer say all that is needed

plain_cond : (c : Bool) (v w : World) → (c ≡ true → WorldPlain v) → WorldPlain w → WorldPlain (cond c v w)
plain_cond true v w p q = p refl
plain_cond false v w p q = q

-- a step of a circuit of the server
server_plain : (w : World) (x : ℕ) (st : Step) → WorldPlain w → Kin (w.server.circuit_at x).end st.end → ((w.server.circuit_at x).address ≡ w.node.own → BothPlain st.end.half.sessions (mate w x).sessions) → WorldPlain (at_end w true x st)
server_plain w x st pl kin kept p h = subst (λ z. BothPlain (v.server.circuit_at p).end.half.sessions z.sessions) (sym same_mate) (go (nat_eq p x) refl)
  where
    c' : CircuitEntry
    c' = record { address = (w.server.circuit_at x).address; end = (note_empty (w.server.circuit_at x).end st).end }

    v : World
    v = at_end w true x st

    address : (v.server.circuit_at p).address ≡ (w.server.circuit_at p).address
    address = upd_field (λ (z : CircuitEntry). z.address) w.server.circuit_at x c' refl p

    same_mate : mate v p ≡ mate w p
    same_mate = ap₂ (λ r q. cond r (w.node.circuit_at q).end.half (void_half false)) (upd_field (λ (z : CircuitEntry). z.end.running) w.server.circuit_at x c' kin.running p) (upd_field (λ (z : CircuitEntry). z.end.peer) w.server.circuit_at x c' kin.peer p)

    go : (b : Bool) → nat_eq p x ≡ b → BothPlain (cond b c' (w.server.circuit_at p)).end.half.sessions (mate w p).sessions
    go true q =
        let i : p ≡ x = eqb-true p x q in
        subst (λ z. BothPlain st.end.half.sessions (mate w z).sessions) (sym i) (kept (ap (λ z. (w.server.circuit_at z).address) (sym i) ∙ sym address ∙ h))
    go false q = pl p (sym address ∙ h)

-- a step of a circuit of the node
node_plain : (w : World) (x : ℕ) (st : Step) → WorldPlain w → ((p : ℕ) → (w.server.circuit_at p).address ≡ w.node.own → (w.server.circuit_at p).end.running ≡ true → (w.server.circuit_at p).end.peer ≡ x → BothPlain (w.server.circuit_at p).end.half.sessions st.end.half.sessions) → WorldPlain (at_end w false x st)
node_plain w x st pl kept p h = go m.running refl (pl p h)
  where
    m : End
    m = (w.server.circuit_at p).end

    c' : CircuitEntry
    c' = record { address = (w.node.circuit_at x).address; end = (note_empty (w.node.circuit_at x).end st).end }

    by : m.running ≡ true → BothPlain m.half.sessions (w.node.circuit_at m.peer).end.half.sessions → (b : Bool) → nat_eq m.peer x ≡ b → BothPlain m.half.sessions (cond b c' (w.node.circuit_at m.peer)).end.half.sessions
    by r k true q = kept p h r (eqb-true m.peer x q)
    by r k false q = k

    go : (r : Bool) → m.running ≡ r → BothPlain m.half.sessions (cond r (w.node.circuit_at m.peer).end.half (void_half false)).sessions → BothPlain m.half.sessions (cond r ((at_end w false x st).node.circuit_at m.peer).end.half (void_half false)).sessions
    go true r k = by r k (nat_eq m.peer x) refl
    go false r k = k

-- as the ends of one circuit

to_fair : (m s : Sessions) → BothPlain m s → FairPlain true m s
to_fair m s b = record { own_plain = b.master; other_plain = b.slave; stops = b.stops }

to_fair_down : (m s : Sessions) → BothPlain m s → FairPlain false s m
to_fair_down m s b = record { own_plain = b.slave; other_plain = b.master; stops = b.stops }

from_fair : (m s : Sessions) → Steps.Fair true m s → BothPlain m s
from_fair m s f = record { master = f.own_plain; slave = f.other_plain; stops = f.stops }

from_fair_down : (m s : Sessions) → Steps.Fair false s m → BothPlain m s
from_fair_down m s f = record { master = f.other_plain; slave = f.own_plain; stops = f.stops }

-- a circuit of the server beside its mate
up_fair : (w : World) (x : ℕ) → WorldOk w → WorldPlain w → (w.server.circuit_at x).address ≡ w.node.own → Steps.Fair true (w.server.circuit_at x).end.half.sessions (mate w x).sessions
up_fair w x ok pl h = fair_of true (w.server.circuit_at x).end.half (mate w x) [] (ok.matched x h) (to_fair (w.server.circuit_at x).end.half.sessions (mate w x).sessions (pl x h))

-- a circuit of the node beside the master that names it
record Mated (w : World) (x : ℕ) (p : ℕ) : Type 0 where
  together : Together (w.server.circuit_at p).end.half (w.node.circuit_at x).end.half []
  plain : BothPlain (w.server.circuit_at p).end.half.sessions (w.node.circuit_at x).end.half.sessions

mated : (w : World) (x p : ℕ) → WorldOk w → WorldPlain w → (w.server.circuit_at p).address ≡ w.node.own → (w.server.circuit_at p).end.running ≡ true → (w.server.circuit_at p).end.peer ≡ x → Mated w x p
mated w x p ok pl h r q =
    let e : mate w p ≡ (w.node.circuit_at x).end.half = ap₂ (λ a b. cond a (w.node.circuit_at b).end.half (void_half false)) r q in
    record {
      together = subst (λ z. Together (w.server.circuit_at p).end.half z []) e (ok.matched p h);
      plain = subst (λ (z : Half). BothPlain (w.server.circuit_at p).end.half.sessions z.sessions) e (pl p h);
    }

down_fair : (w : World) (x p : ℕ) → Mated w x p → Steps.Fair false (w.node.circuit_at x).end.half.sessions (w.server.circuit_at p).end.half.sessions
down_fair w x p m = fair_of false (w.node.circuit_at x).end.half (w.server.circuit_at p).end.half [] m.together (to_fair_down (w.server.circuit_at p).end.half.sessions (w.node.circuit_at x).end.half.sessions m.plain)

-- empty sessions

void_plain : (m : Bool) (a c : ℕ) → Plain (void_sessions m a c)
void_plain m a c = record {
  each = λ k. record { short = omega arith; frugal = tt; accepts = λ q r. absurd (true≢false r); neat = tt };
  numbered = λ g p l. absurd (omega (arith, p, l));
  ids = λ i h. refl;
}

void_stops : (m : Sessions) (a c d f : ℕ) → NoStops m (void_sessions false a c) → NoStops m (void_sessions false d f)
void_stops m a c d f n g x y = n g x y

-- each event

call_kept : (w : World) (x : ℕ) (c : Call) → ShortCall c → WorldOk w → WorldPlain w → (w.server.circuit_at x).address ≡ w.node.own → BothPlain (call (w.server.circuit_at x).end.half.sessions c) (mate w x).sessions
call_kept w x c s ok pl h = from_fair (call (w.server.circuit_at x).end.half.sessions c) (mate w x).sessions (call_fair true (w.server.circuit_at x).end.half.sessions (mate w x).sessions c s (up_fair w x ok pl h))

server_same : (w : World) (x : ℕ) (st : Step) → WorldPlain w → Kin (w.server.circuit_at x).end st.end → st.end.half.sessions ≡ (w.server.circuit_at x).end.half.sessions → WorldPlain (at_end w true x st)
server_same w x st pl kin q = server_plain w x st pl kin (λ h. subst (λ z. BothPlain z (mate w x).sessions) (sym q) (pl x h))

node_same : (w : World) (x : ℕ) (st : Step) → WorldOk w → WorldPlain w → st.end.half.sessions ≡ (w.node.circuit_at x).end.half.sessions → WorldPlain (at_end w false x st)
node_same w x st ok pl q = node_plain w x st pl (λ p h r i. subst (λ z. BothPlain (w.server.circuit_at p).end.half.sessions z) (sym q) (mated w x p ok pl h r i).plain)

calls_plain : (w : World) → WorldPlain w → (address now : ℕ) → WorldPlain (occurs w (Calls address now))
calls_plain w pl address now p h = go (nat_eq p x) h (pl p)
  where
    x : ℕ
    x = next_id w.server

    c' : CircuitEntry
    c' = record { address = address; end = record (first_end true true w.setup) { moment = now; due_at = now; sent_at = now; start_at = now } }

    go : (b : Bool) → (cond b c' (w.server.circuit_at p)).address ≡ w.node.own → ((w.server.circuit_at p).address ≡ w.node.own → BothPlain (w.server.circuit_at p).end.half.sessions (mate w p).sessions) → BothPlain (cond b c' (w.server.circuit_at p)).end.half.sessions (cond (cond b c' (w.server.circuit_at p)).end.running (w.node.circuit_at (cond b c' (w.server.circuit_at p)).end.peer).end.half (void_half false)).sessions
    go true h k = record { master = void_plain true (min w.setup.sessions 64) w.setup.ceiling; slave = void_plain false 0 0; stops = λ g a b. (refl, refl) }
    go false h k = k h

make_plain : (w : World) → WorldOk w → WorldPlain w → (from source now : ℕ) (g : Agreed) → WorldPlain (put_circuit w false (suc w.node.drawn) (next_id w.node) from (make_slave now source g (first_end false false w.other)))
make_plain w ok pl from source now g p h = go m.running refl (pl p h)
  where
    m : End
    m = (w.server.circuit_at p).end

    c' : CircuitEntry
    c' = record { address = from; end = (make_slave now source g (first_end false false w.other)).end }

    go : (r : Bool) → m.running ≡ r → BothPlain m.half.sessions (cond r (w.node.circuit_at m.peer).end.half (void_half false)).sessions → BothPlain m.half.sessions (cond r (cond (nat_eq m.peer (next_id w.node)) c' (w.node.circuit_at m.peer)).end.half (void_half false)).sessions
    go true r k = subst (λ (z : CircuitEntry). BothPlain m.half.sessions z.end.half.sessions) (sym (upd_other w.node.circuit_at (next_id w.node) c' m.peer (drawn_apart w.node.first w.node.drawn m.peer (ok.replied p h r).drawn))) k
    go false r k = k

-- the first reply
reply_plain : (w : World) (x now source : ℕ) (g : Agreed) → WorldOk w → WorldPlain w → (w.server.circuit_at x).end.running ≡ false → ((w.server.circuit_at x).address ≡ w.node.own → ((w.node.circuit_at source).address ≡ w.server.own) × ((w.node.circuit_at source).end.peer ≡ x)) → WorldPlain (at_end w true x (record { end = reply_end now source g (w.server.circuit_at x).end; sent = [] }))
reply_plain w x now source g ok pl idle_yet facts p h = go (nat_eq p x) refl h (pl p)
  where
    c : CircuitEntry
    c = w.server.circuit_at x

    e : End
    e = (note_empty c.end (record { end = reply_end now source g c.end; sent = [] })).end

    c' : CircuitEntry
    c' = record { address = c.address; end = e }

    alone : c.address ≡ w.node.own → BothPlain c.end.half.sessions (void_sessions false 0 0)
    alone h = subst (λ r. BothPlain c.end.half.sessions (cond r (w.node.circuit_at c.end.peer).end.half (void_half false)).sessions) idle_yet (pl x h)

    not_joint : c.address ≡ w.node.own → Joint w source → ⊥
    not_joint h j = false≢true (sym idle_yet ∙ ap (λ z. (w.server.circuit_at z).end.running) (sym (facts h).1) ∙ j.running)

    beside : c.address ≡ w.node.own → BothPlain e.half.sessions (w.node.circuit_at source).end.half.sessions
    beside h =
        let i : Idle (w.node.circuit_at source).end = ok.idle source (facts h).0 (not_joint h) in
        let b : BothPlain c.end.half.sessions (void_sessions false 0 0) = alone h in
        subst (λ z. BothPlain e.half.sessions z) (sym i.sessions) (record { master = agree_plain (min g.sessions c.end.half.sessions.agreed) c.end.half.sessions b.master; slave = void_plain false i.agreed i.ceiling; stops = void_stops c.end.half.sessions 0 0 i.agreed i.ceiling b.stops })

    go : (b : Bool) → nat_eq p x ≡ b → (cond b c' (w.server.circuit_at p)).address ≡ w.node.own → ((w.server.circuit_at p).address ≡ w.node.own → BothPlain (w.server.circuit_at p).end.half.sessions (mate w p).sessions) → BothPlain (cond b c' (w.server.circuit_at p)).end.half.sessions (cond (cond b c' (w.server.circuit_at p)).end.running (w.node.circuit_at (cond b c' (w.server.circuit_at p)).end.peer).end.half (void_half false)).sessions
    go true q h k = beside h
    go false q h k = k h

-- what comes

run_server_plain : (w : World) → WorldOk w → WorldPlain w → (from : ℕ) (bit : Bool) (d s now : ℕ) (a : Bool) (k : Mark) (f : Frame (List Slot)) → Fair w true from d s (Run k a f) → WorldPlain (run_in w true from bit d s now a f)
run_server_plain w ok pl from bit d s now a k f fair =
    plain_cond (is_of c from s && lives c.end && c.end.running && cond bit (not c.end.master) c.end.master) (at_end w true d st) w go pl
  where
    c : CircuitEntry
    c = w.server.circuit_at d

    st : Step
    st = (run_end now a f c.end).step

    go : (is_of c from s && lives c.end && c.end.running && cond bit (not c.end.master) c.end.master) ≡ true → WorldPlain (at_end w true d st)
    go h =
        let p : ((is_of c from s && lives c.end && c.end.running) ≡ true) × _ = and_parts (is_of c from s && lives c.end && c.end.running) _ h in
        let q : ((is_of c from s && lives c.end) ≡ true) × (c.end.running ≡ true) = and_parts (is_of c from s && lives c.end) c.end.running p.0 in
        let r : (is_of c from s ≡ true) × (lives c.end ≡ true) = and_parts (is_of c from s) (lives c.end) q.0 in
        let i : (nat_eq c.address from ≡ true) × (nat_eq c.end.peer s ≡ true) = and_parts (nat_eq c.address from) (nat_eq c.end.peer s) r.0 in
        let it : c.address ≡ from = eqb-true c.address from i.0 in
        let m : mate w d ≡ (w.node.circuit_at s).end.half = ap₂ (λ u v. cond u (w.node.circuit_at v).end.half (void_half false)) q.1 (eqb-true c.end.peer s i.1) in
        server_plain w d st pl (kin_run now a f c.end)
        (λ t. from_fair st.end.half.sessions (mate w d).sessions (run_onward true now a f c.end (mate w d) [] (subst (λ z. FrameOf (List Slot) z.link f) (sym m) (fair (sym it ∙ t)).1) (ok.matched d t) (to_fair c.end.half.sessions (mate w d).sessions (pl d t))).fair)

run_node_plain : (w : World) → WorldOk w → WorldPlain w → (from : ℕ) (bit : Bool) (d s now : ℕ) (a : Bool) (k : Mark) (f : Frame (List Slot)) → Fair w false from d s (Run k a f) → WorldPlain (run_in w false from bit d s now a f)
run_node_plain w ok pl from bit d s now a k f fair =
    plain_cond (is_of c from s && lives c.end && c.end.running && cond bit (not c.end.master) c.end.master) (at_end w false d st) w go pl
  where
    c : CircuitEntry
    c = w.node.circuit_at d

    st : Step
    st = (run_end now a f c.end).step

    go : (is_of c from s && lives c.end && c.end.running && cond bit (not c.end.master) c.end.master) ≡ true → WorldPlain (at_end w false d st)
    go h =
        let p : ((is_of c from s && lives c.end && c.end.running) ≡ true) × _ = and_parts (is_of c from s && lives c.end && c.end.running) _ h in
        let q : ((is_of c from s && lives c.end) ≡ true) × (c.end.running ≡ true) = and_parts (is_of c from s && lives c.end) c.end.running p.0 in
        let r : (is_of c from s ≡ true) × (lives c.end ≡ true) = and_parts (is_of c from s) (lives c.end) q.0 in
        let i : (nat_eq c.address from ≡ true) × (nat_eq c.end.peer s ≡ true) = and_parts (nat_eq c.address from) (nat_eq c.end.peer s) r.0 in
        let it : c.address ≡ from = eqb-true c.address from i.0 in
        let ip : c.end.peer ≡ s = eqb-true c.end.peer s i.1 in
        node_plain w d st pl
        (λ y t run j.
        let x : Replied w y = ok.replied y t run in
        let own : c.address ≡ w.server.own = ap (λ z. (w.node.circuit_at z).address) (sym j) ∙ x.address in
        let same : s ≡ y = sym ip ∙ ap (λ z. (w.node.circuit_at z).end.peer) (sym j) ∙ x.peer in
        let o : ((w.server.circuit_at s).address ≡ w.node.own) × ByServer w s d s f = fair (sym it ∙ own) in
        let m : Mated w d y = mated w d y ok pl t run j in
        from_fair_down (w.server.circuit_at y).end.half.sessions st.end.half.sessions (run_onward false now a f c.end (w.server.circuit_at y).end.half [] (subst (λ z. FrameOf (List Slot) (w.server.circuit_at z).end.half.link f) same o.1.frame) m.together (to_fair_down (w.server.circuit_at y).end.half.sessions c.end.half.sessions m.plain)).fair)

stop_same : (now r : ℕ) (e : End) → (hear_stop now r e).end.half.sessions ≡ e.half.sessions
stop_same now r e = go (lives e)
  where
    go : (b : Bool) → (cond {A = Step} b (record { end = record e { ended = Some r; moment = now }; sent = [] }) (record { end = e; sent = [] })).end.half.sessions ≡ e.half.sessions
    go true = refl
    go false = refl

again_same : (now : ℕ) (e : End) → (again_start now e).end.half.sessions ≡ e.half.sessions
again_same now e = go (lives e && not e.heard_run) (lives e)
  where
    replied : Step
    replied = record { end = record e { moment = now; heard_at = now; sent_at = now; owed = false }; sent = ReplyStart ∷ [] }

    go : (b c : Bool) → (cond {A = Step} b replied (cond c (record { end = record e { moment = now; heard_at = now }; sent = [] }) (record { end = e; sent = [] }))).end.half.sessions ≡ e.half.sessions
    go true c = refl
    go false true = refl
    go false false = refl

stop_in_plain : (w : World) → WorldOk w → WorldPlain w → (b : Bool) (from d s now r : ℕ) → WorldPlain (stop_in w b from d s now r)
stop_in_plain w ok pl true from d s now r =
    let c : CircuitEntry = w.server.circuit_at d in
    plain_cond (nat_eq c.address from && (nat_eq c.end.peer s || nat_eq s 0) && lives c.end) (at_end w true d (hear_stop now r c.end)) w (λ h. server_same w d (hear_stop now r c.end) pl (kin_stop now r c.end) (stop_same now r c.end)) pl
stop_in_plain w ok pl false from d s now r =
    let c : CircuitEntry = w.node.circuit_at d in
    plain_cond (nat_eq c.address from && (nat_eq c.end.peer s || nat_eq s 0) && lives c.end) (at_end w false d (hear_stop now r c.end)) w (λ h. node_same w d (hear_stop now r c.end) ok pl (stop_same now r c.end)) pl

reply_in_plain : (w : World) → WorldOk w → WorldPlain w → (from d s now : ℕ) (g : Agreed) → Fair w true from d s ReplyStart → WorldPlain (reply_in w from d s now g)
reply_in_plain w ok pl from d s now g fair =
    plain_cond (nat_eq c.address from && lives c.end && (not c.end.running || nat_eq c.end.peer s)) (at_end w true d (hear_reply now s g c.end)) w go pl
  where
    c : CircuitEntry
    c = w.server.circuit_at d

    noted : Step
    noted = record { end = record (c.end) { moment = now; heard_at = now }; sent = [] }

    first : Step
    first = record { end = reply_end now s g c.end; sent = [] }

    none : Step
    none = record { end = c.end; sent = [] }

    go : (nat_eq c.address from && lives c.end && (not c.end.running || nat_eq c.end.peer s)) ≡ true → WorldPlain (at_end w true d (hear_reply now s g c.end))
    go h =
        let p : ((nat_eq c.address from && lives c.end) ≡ true) × _ = and_parts (nat_eq c.address from && lives c.end) (not c.end.running || nat_eq c.end.peer s) h in
        let q : (nat_eq c.address from ≡ true) × (lives c.end ≡ true) = and_parts (nat_eq c.address from) (lives c.end) p.0 in
        by c.end.running refl (eqb-true c.address from q.0) q.1
      where
        by : (r : Bool) → c.end.running ≡ r → c.address ≡ from → lives c.end ≡ true → WorldPlain (at_end w true d (hear_reply now s g c.end))
        by true r it l = subst (λ z. WorldPlain (at_end w true d z)) (sym (ap₂ (λ u v. cond u (cond v noted first) none) l r)) (server_same w d noted pl (record { peer = refl; running = refl; master = refl; window = refl; wide = refl; sessions = refl }) refl)
        by false r it l = subst (λ z. WorldPlain (at_end w true d z)) (sym (ap₂ (λ u v. cond u (cond v noted first) none) l r)) (reply_plain w d now s g ok pl r (λ t. let o : ByNode w s d s = fair (sym it ∙ t) in (o.address, sym o.destination)))

start_in_plain : (w : World) → WorldOk w → WorldPlain w → (from s now : ℕ) (g : Agreed) → WorldPlain (start_in w from s now g)
start_in_plain w ok pl from s now g = go (nat_eq (slave_of w.node from s) 0) (nat_lt (living w.node) 8 && nat_lt w.node.drawn 65535)
  where
    k : ℕ
    k = slave_of w.node from s

    go : (b c : Bool) → WorldPlain (cond b (cond c (put_circuit w false (suc w.node.drawn) (next_id w.node) from (make_slave now s g (first_end false false w.other))) (with_table w false w.node (record { by_server = false; circuit = 0; to = from; destination = s; source = 0; sent = Stopped 7 } ∷ []))) (at_end w false k (again_start now (w.node.circuit_at k).end)))
    go true true = make_plain w ok pl from s now g
    go true false = pl
    go false c = node_same w k (again_start now (w.node.circuit_at k).end) ok pl (again_same now (w.node.circuit_at k).end)

arrive_plain : (w : World) → WorldOk w → WorldPlain w → (b : Bool) (from : ℕ) (bit : Bool) (d s now : ℕ) (g : Agreed) (m : Sent) → Fair w b from d s m → WorldPlain (arrive w b from bit d s now g m)
arrive_plain w ok pl true from bit d s now g (Run k a f) h = run_server_plain w ok pl from bit d s now a k f h
arrive_plain w ok pl false from bit d s now g (Run k a f) h = run_node_plain w ok pl from bit d s now a k f h
arrive_plain w ok pl true from bit d s now g CallStart h = pl
arrive_plain w ok pl false from bit d s now g CallStart h = start_in_plain w ok pl from s now g
arrive_plain w ok pl true from bit d s now g ReplyStart h = reply_in_plain w ok pl from d s now g h
arrive_plain w ok pl false from bit d s now g ReplyStart h = pl
arrive_plain w ok pl true from bit d s now g (Stopped r) h = stop_in_plain w ok pl true from d s now r
arrive_plain w ok pl false from bit d s now g (Stopped r) h = stop_in_plain w ok pl false from d s now r

foreign_fair : (w : World) (b : Bool) (from d s : ℕ) (m : Sent) → (from ≡ w.server.own → ⊥) → (from ≡ w.node.own → ⊥) → Fair w b from d s m
foreign_fair w true from d s (Run k a f) n o = λ q. absurd (o q)
foreign_fair w false from d s (Run k a f) n o = λ q. absurd (n q)
foreign_fair w true from d s ReplyStart n o = λ q. absurd (o q)
foreign_fair w false from d s ReplyStart n o = tt
foreign_fair w true from d s CallStart n o = tt
foreign_fair w false from d s CallStart n o = tt
foreign_fair w true from d s (Stopped r) n o = tt
foreign_fair w false from d s (Stopped r) n o = tt

deliver_plain : (w : World) → WorldOk w → WorldPlain w → (now : ℕ) (g : Agreed) (o : Option Wired) → ((p : Wired) → o ≡ Some p → FromSender w p.by_server p.circuit p.to p.destination p.source p.sent) → WorldPlain (deliver_in w now g o)
deliver_plain w ok pl now g None h = pl
deliver_plain w ok pl now g (Some p) h =
    plain_cond (nat_eq p.to (table w (not p.by_server)).own) (arrive w (not p.by_server) (table w p.by_server).own p.by_server p.destination p.source now g p.sent) w
    (λ t. arrive_plain w ok pl (not p.by_server) (table w p.by_server).own p.by_server p.destination p.source now g p.sent (says_fair w p (eqb-true p.to (table w (not p.by_server)).own t) (h p refl)))
    pl

pub occurs_plain : (w : World) → WorldOk w → WorldPlain w → (e : WorldEvent) → ShortWorldEvent e → WorldPlain (occurs w e)
occurs_plain w ok pl (Calls address now) h = calls_plain w pl address now
occurs_plain w ok pl (Locally true x c) h =
    let e : End = (w.server.circuit_at x).end in
    plain_cond (lives e) (at_end w true x (record { end = call_end c e; sent = [] })) w (λ l. server_plain w x (record { end = call_end c e; sent = [] }) pl (kin_call c e) (call_kept w x c h ok pl)) pl
occurs_plain w ok pl (Locally false x c) h =
    let e : End = (w.node.circuit_at x).end in
    plain_cond (lives e) (at_end w false x (record { end = call_end c e; sent = [] })) w
    (λ l. node_plain w x (record { end = call_end c e; sent = [] }) pl (λ p t r i. from_fair_down (w.server.circuit_at p).end.half.sessions (call e.half.sessions c) (call_fair false e.half.sessions (w.server.circuit_at p).end.half.sessions c h (down_fair w x p (mated w x p ok pl t r i))))) pl
occurs_plain w ok pl (Times true x now) h =
    let e : End = (w.server.circuit_at x).end in
    plain_cond (lives e) (at_end w true x (time_step now e)) w (λ l. server_plain w x (time_step now e) pl (kin_time now e) (λ t. from_fair (time_step now e).end.half.sessions (mate w x).sessions (time_onward true now e (mate w x).sessions (up_fair w x ok pl t)).fair)) pl
occurs_plain w ok pl (Times false x now) h =
    let e : End = (w.node.circuit_at x).end in
    plain_cond (lives e) (at_end w false x (time_step now e)) w
    (λ l. node_plain w x (time_step now e) pl (λ p t r i. from_fair_down (w.server.circuit_at p).end.half.sessions (time_step now e).end.half.sessions (time_onward false now e (w.server.circuit_at p).end.half.sessions (down_fair w x p (mated w x p ok pl t r i))).fair)) pl
occurs_plain w ok pl (Moves true x now) h =
    let e : End = (w.server.circuit_at x).end in
    plain_cond (lives e) (at_end w true x (record { end = record e { moment = now }; sent = [] })) w (λ l. server_same w x (record { end = record e { moment = now }; sent = [] }) pl (record { peer = refl; running = refl; master = refl; window = refl; wide = refl; sessions = refl }) refl) pl
occurs_plain w ok pl (Moves false x now) h =
    let e : End = (w.node.circuit_at x).end in
    plain_cond (lives e) (at_end w false x (record { end = record e { moment = now }; sent = [] })) w (λ l. node_same w x (record { end = record e { moment = now }; sent = [] }) ok pl refl) pl
occurs_plain w ok pl (Ends true x r) h =
    let e : End = (w.server.circuit_at x).end in
    plain_cond (lives e) (at_end w true x (finish r e)) w (λ l. server_same w x (finish r e) pl (kin_finish r e) refl) pl
occurs_plain w ok pl (Ends false x r) h =
    let e : End = (w.node.circuit_at x).end in
    plain_cond (lives e) (at_end w false x (finish r e)) w (λ l. node_same w x (finish r e) ok pl refl) pl
occurs_plain w ok pl (Lapses true x r) h =
    let e : End = (w.server.circuit_at x).end in
    plain_cond (lives e) (at_end w true x (lapse r e)) w (λ l. server_same w x (lapse r e) pl (kin_finish r e) refl) pl
occurs_plain w ok pl (Lapses false x r) h =
    let e : End = (w.node.circuit_at x).end in
    plain_cond (lives e) (at_end w false x (lapse r e)) w (λ l. node_same w x (lapse r e) ok pl refl) pl
occurs_plain w ok pl (Stops true to d s r) h = pl
occurs_plain w ok pl (Stops false to d s r) h = pl
occurs_plain w ok pl (Delivers i now g) h = deliver_plain w ok pl now g (slice_get w.frames i) (λ p e. each_at (λ f. FromSender w f.by_server f.circuit f.to f.destination f.source f.sent) w.frames i p ok.says e)
occurs_plain w ok pl (Injects b from bit d s now g m) h = go (nat_eq from w.server.own) (nat_eq from w.node.own) refl refl
  where
    go : (x y : Bool) → nat_eq from w.server.own ≡ x → nat_eq from w.node.own ≡ y → WorldPlain (cond (x || y) w (arrive w b from bit d s now g m))
    go true y p q = pl
    go false true p q = pl
    go false false p q = arrive_plain w ok pl b from bit d s now g m (foreign_fair w b from d s m (eqb-false from w.server.own p) (eqb-false from w.node.own q))

-- every run in which the names of services are short
pub go_on_plain : (es : List WorldEvent) (w : World) → WorldOk w → WorldPlain w → Each ShortWorldEvent es → WorldPlain (go_on es w)
go_on_plain [] w ok pl h = pl
go_on_plain (e ∷ es) w ok pl h = go_on_plain es (occurs w e) (occurs_ok w ok e) (occurs_plain w ok pl e h.0) h.1

pub open_plain : (s n i j : ℕ) (u v : Setup) → WorldPlain (open_world s n i j u v)
open_plain s n i j u v p h = record { master = void_plain true (min u.sessions 64) u.ceiling; slave = void_plain false 0 0; stops = λ g a b. (refl, refl) }
