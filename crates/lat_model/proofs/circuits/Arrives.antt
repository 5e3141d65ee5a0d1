-- Each event of a server and a node keeps what is known of their circuits.
use Rattle.std.proofs.Common.{◌++◌, ◌≡◌, ℕ, suc, ◌≤◌, ⊎_elim, sym, ap, ap₂, ◌∙◌, refl, subst, arith, Bool, true, false, not, cond, ◌&&◌, ◌||◌, List, [], ◌∷◌, min, Option, Some, None, nat_eq, nat_lt, slice_get, eqb-true}
use Rattle.std.proofs.lemmas.Bool.{false≢true, and_parts, eqb-false}
use Rattle.lat_model.specs.sessions.Slots.{Slot}
use Rattle.lat_model.specs.Lists.{least}
use Rattle.lat_model.specs.numbers.Link.{Frame}
use Rattle.lat_model.specs.numbers.NetOk.{FrameOf}
use Rattle.lat_model.specs.ends.End.{Mark, Sent, Run, CallStart, ReplyStart, Stopped, End, Step, lives, call_end, finish, lapse}
use Rattle.lat_model.specs.ends.Timers.{time_step}
use Rattle.lat_model.specs.ends.Run.{run_end}
use Rattle.lat_model.specs.ends.Starting.{Agreed, reply_end, Setup, make_slave, again_start, hear_reply, hear_stop}
use Rattle.lat_model.specs.circuits.World.{CircuitEntry, Wired, World, table, with_table, put_circuit, at_end, first_end}
use Rattle.lat_model.specs.circuits.Arriving.{is_of, run_in, stop_in, reply_in, living, slave_of, make_in, start_in, arrive}
use Rattle.lat_model.specs.circuits.Events.{WorldEvent, Calls, Locally, Times, Moves, Delivers, Injects, deliver_in, occurs, go_on, open_world, Ends, Lapses, Stops, stray_stop}
use Rattle.lat_model.specs.circuits.WorldOk.{void_half, mate, Replied, ByServer, ByNode, FromSender, WorldOk}
use Rattle.lat_model.proofs.numbers.Net.{each_imp, each_append, each_at}
use Rattle.lat_model.proofs.circuits.Pairs.{StepOk, run_ok, time_ok, again_start_ok, heard_stop_ok, heard_reply_ok, finish_ok, still_ok}
use Rattle.lat_model.proofs.circuits.Kin.{kin_time, kin_run, kin_again, kin_stop, idle_calm, calm_time, calm_again, calm_stop, idle_call, kin_finish}
use Rattle.lat_model.proofs.circuits.Worlds.{void_together, server_put, node_put, NodeKept, Beside}
use Rattle.lat_model.proofs.circuits.Begins.{server_alive, node_alive, kin_window, quiet_server, quiet_node, moved_ok, call_step_ok, kin_call, world_cond, calls_ok, make_put, reply_put}
use Rattle.lat_model.proofs.circuits.Ids.{drawn_some}
use Rattle.lat_model.specs.circuits.Ids.{next_id, ids}

-- A frame that comes. What is known of it where it bears the other end's address

abbrev pub Fair : World → Bool → ℕ → ℕ → ℕ → Sent → Type 0
Fair w true from d s (Run k a f) = from ≡ w.node.own → ByNode w s d s × FrameOf (List Slot) (w.node.circuit_at s).end.half.link f
Fair w false from d s (Run k a f) = from ≡ w.server.own → ((w.server.circuit_at s).address ≡ w.node.own) × ByServer w s d s f
Fair w true from d s ReplyStart = from ≡ w.node.own → ByNode w s d s
Fair w false from d s ReplyStart = Unit {0}
Fair w b from d s CallStart = Unit {0}
Fair w b from d s (Stopped r) = Unit {0}

run_server : (w : World) → WorldOk w → (from : ℕ) (bit : Bool) (d s now : ℕ) (a : Bool) (k : Mark) (f : Frame (List Slot)) → Fair w true from d s (Run k a f) → WorldOk (run_in w true from bit d s now a f)
run_server w ok from bit d s now a k f fair =
    world_cond (is_of c from s && lives c.end && c.end.running && cond bit (not c.end.master) c.end.master) (at_end w true d st) w go ok
  where
    c : CircuitEntry
    c = w.server.circuit_at d

    st : Step
    st = (run_end now a f c.end).step

    go : (is_of c from s && lives c.end && c.end.running && cond bit (not c.end.master) c.end.master) ≡ true → WorldOk (at_end w true d st)
    go h =
        let p : ((is_of c from s && lives c.end && c.end.running) ≡ true) × _ = and_parts (is_of c from s && lives c.end && c.end.running) _ h in
        let q : ((is_of c from s && lives c.end) ≡ true) × (c.end.running ≡ true) = and_parts (is_of c from s && lives c.end) c.end.running p.0 in
        let r : (is_of c from s ≡ true) × (lives c.end ≡ true) = and_parts (is_of c from s) (lives c.end) q.0 in
        let i : (nat_eq c.address from ≡ true) × (nat_eq c.end.peer s ≡ true) = and_parts (nat_eq c.address from) (nat_eq c.end.peer s) r.0 in
        let it : c.address ≡ from = eqb-true c.address from i.0 in
        let ip : c.end.peer ≡ s = eqb-true c.end.peer s i.1 in
        let m : mate w d ≡ (w.node.circuit_at s).end.half = ap₂ (λ u v. cond u (w.node.circuit_at v).end.half (void_half false)) q.1 ip in
        server_put w d st ok (server_alive w d ok r.1) (kin_run now a f c.end) (kin_window c.end st.end (kin_run now a f c.end) (ok.windows d).0)
        (λ t ps o. (run_ok true now a f c.end (mate w d) ps (ok.windows d).0 (subst (λ z. FrameOf (List Slot) z.link f) (sym m) (fair (sym it ∙ t)).1) o).after)

run_node : (w : World) → WorldOk w → (from : ℕ) (bit : Bool) (d s now : ℕ) (a : Bool) (k : Mark) (f : Frame (List Slot)) → Fair w false from d s (Run k a f) → WorldOk (run_in w false from bit d s now a f)
run_node w ok from bit d s now a k f fair =
    world_cond (is_of c from s && lives c.end && c.end.running && cond bit (not c.end.master) c.end.master) (at_end w false d st) w go ok
  where
    c : CircuitEntry
    c = w.node.circuit_at d

    st : Step
    st = (run_end now a f c.end).step

    go : (is_of c from s && lives c.end && c.end.running && cond bit (not c.end.master) c.end.master) ≡ true → WorldOk (at_end w false d st)
    go h =
        let p : ((is_of c from s && lives c.end && c.end.running) ≡ true) × _ = and_parts (is_of c from s && lives c.end && c.end.running) _ h in
        let q : ((is_of c from s && lives c.end) ≡ true) × (c.end.running ≡ true) = and_parts (is_of c from s && lives c.end) c.end.running p.0 in
        let r : (is_of c from s ≡ true) × (lives c.end ≡ true) = and_parts (is_of c from s) (lives c.end) q.0 in
        let i : (nat_eq c.address from ≡ true) × (nat_eq c.end.peer s ≡ true) = and_parts (nat_eq c.address from) (nat_eq c.end.peer s) r.0 in
        let it : c.address ≡ from = eqb-true c.address from i.0 in
        let ip : c.end.peer ≡ s = eqb-true c.end.peer s i.1 in
        let kept : c.address ≡ w.server.own → NodeKept w d st = λ t.
        let o : ((w.server.circuit_at s).address ≡ w.node.own) × ByServer w s d s f = fair (sym it ∙ t) in
        let run : ((w.server.circuit_at s).end.running ≡ true) × (d ≡ (w.server.circuit_at s).end.peer) = ⊎_elim {C = ((w.server.circuit_at s).end.running ≡ true) × (d ≡ (w.server.circuit_at s).end.peer)} (λ z. absurd (drawn_some w.node.first w.node.drawn d (node_alive w d ok r.1) z)) (λ z. z) o.1.destination in
        Beside (record { address = ap (λ z. (w.server.circuit_at z).address) ip ∙ o.0; running = ap (λ z. (w.server.circuit_at z).end.running) ip ∙ run.0; peer = ap (λ z. (w.server.circuit_at z).end.peer) ip ∙ sym run.1 })
        (λ ps e. (run_ok false now a f c.end (w.server.circuit_at c.end.peer).end.half ps (ok.windows d).1 (subst (λ z. FrameOf (List Slot) (w.server.circuit_at z).end.half.link f) (sym ip) o.1.frame) e).after) in
        node_put w d st ok (node_alive w d ok r.1) (kin_run now a f c.end) (kin_window c.end st.end (kin_run now a f c.end) (ok.windows d).1) kept

stop_ok : (w : World) → WorldOk w → (b : Bool) (from d s now r : ℕ) → WorldOk (stop_in w b from d s now r)
stop_ok w ok true from d s now r =
    let c : CircuitEntry = w.server.circuit_at d in
    world_cond (nat_eq c.address from && (nat_eq c.end.peer s || nat_eq s 0) && lives c.end) (at_end w true d (hear_stop now r c.end)) w
    (λ h. quiet_server w d (hear_stop now r c.end) ok (and_parts (nat_eq c.address from && (nat_eq c.end.peer s || nat_eq s 0)) (lives c.end) h).1 (kin_stop now r c.end) (heard_stop_ok true now r c.end)) ok
stop_ok w ok false from d s now r =
    let c : CircuitEntry = w.node.circuit_at d in
    world_cond (nat_eq c.address from && (nat_eq c.end.peer s || nat_eq s 0) && lives c.end) (at_end w false d (hear_stop now r c.end)) w
    (λ h. quiet_node w d (hear_stop now r c.end) ok (and_parts (nat_eq c.address from && (nat_eq c.end.peer s || nat_eq s 0)) (lives c.end) h).1 (kin_stop now r c.end) (heard_stop_ok false now r c.end) (λ i. idle_calm c.end (hear_stop now r c.end).end (calm_stop now r c.end) i)) ok

reply_ok : (w : World) → WorldOk w → (from d s now : ℕ) (g : Agreed) → Fair w true from d s ReplyStart → WorldOk (reply_in w from d s now g)
reply_ok w ok from d s now g fair =
    world_cond (nat_eq c.address from && lives c.end && (not c.end.running || nat_eq c.end.peer s)) (at_end w true d (hear_reply now s g c.end)) w go ok
  where
    c : CircuitEntry
    c = w.server.circuit_at d

    noted : Step
    noted = record { end = record (c.end) { moment = now; heard_at = now }; sent = [] }

    first : Step
    first = record { end = reply_end now s g c.end; sent = [] }

    none : Step
    none = record { end = c.end; sent = [] }

    go : (nat_eq c.address from && lives c.end && (not c.end.running || nat_eq c.end.peer s)) ≡ true → WorldOk (at_end w true d (hear_reply now s g c.end))
    go h =
        let p : ((nat_eq c.address from && lives c.end) ≡ true) × _ = and_parts (nat_eq c.address from && lives c.end) (not c.end.running || nat_eq c.end.peer s) h in
        let q : (nat_eq c.address from ≡ true) × (lives c.end ≡ true) = and_parts (nat_eq c.address from) (lives c.end) p.0 in
        by c.end.running refl (eqb-true c.address from q.0) q.1
      where
        step : (r : Bool) → Step
        step r = cond (lives c.end) (cond r noted first) none

        by : (r : Bool) → c.end.running ≡ r → c.address ≡ from → lives c.end ≡ true → WorldOk (at_end w true d (hear_reply now s g c.end))
        by true r it l =
            let is : hear_reply now s g c.end ≡ noted = ap₂ (λ u v. cond u (cond v noted first) none) l r in
            subst (λ z. WorldOk (at_end w true d z)) (sym is)
            (quiet_server w d noted ok l (record { peer = refl; running = refl; master = refl; window = refl; wide = refl; sessions = refl }) (subst (StepOk true c.end.half c.end.window) is (heard_reply_ok true now s g c.end)))
        by false r it l =
            let is : hear_reply now s g c.end ≡ first = ap₂ (λ u v. cond u (cond v noted first) none) l r in
            subst (λ z. WorldOk (at_end w true d z)) (sym is)
            (reply_put w d now s g ok (server_alive w d ok l) r
            (λ t. let o : ByNode w s d s = fair (sym it ∙ t) in (o.some, o.drawn, o.address, sym o.destination)))

-- what the least number that passes is
least_passes : (p : ℕ → Bool) (xs : List ℕ) → (least p xs ≡ 0 → ⊥) → p (least p xs) ≡ true
least_passes p [] n = absurd (n refl)
least_passes p (x ∷ xs) n = go (p x) refl (least_passes p xs) n
  where
    go : (b : Bool) → p x ≡ b → ((least p xs ≡ 0 → ⊥) → p (least p xs) ≡ true) → (cond b x (least p xs) ≡ 0 → ⊥) → p (cond b x (least p xs)) ≡ true
    go true e ih n = e
    go false e ih n = ih n

-- a STOP that comes from no circuit
stray_ok : (w : World) → WorldOk w → (b : Bool) (to d s r : ℕ) → WorldOk (record w { frames = w.frames ++ stray_stop b to d s r ∷ [] })
stray_ok w ok b to d s r = record {
  apart = ok.apart;
  ceiling = ok.ceiling;
  other_ceiling = ok.other_ceiling;
  matched = ok.matched;
  replied = λ p h r. (let o : Replied w p = ok.replied p h r in record { some = o.some; drawn = o.drawn; address = o.address; peer = o.peer });
  calling = ok.calling;
  idle = λ q h nj. ok.idle q h (λ j. nj (record { address = j.address; running = j.running; peer = j.peer }));
  says = each_append (λ f. FromSender v f.by_server f.circuit f.to f.destination f.source f.sent) w.frames (stray_stop b to d s r ∷ [])
      (each_imp (λ f. FromSender w f.by_server f.circuit f.to f.destination f.source f.sent) (λ f. FromSender v f.by_server f.circuit f.to f.destination f.source f.sent) (λ f. says f.by_server f.circuit f.to f.destination f.source f.sent) w.frames ok.says)
      (stopped b, tt);
  none_server = ok.none_server;
  none_node = ok.none_node;
  windows = ok.windows;
}
  where
    v : World
    v = record w { frames = w.frames ++ stray_stop b to d s r ∷ [] }

    stopped : (b : Bool) → FromSender v b 0 to d s (Stopped r)
    stopped true = tt
    stopped false = tt

    by_node : (y d s : ℕ) → ByNode w y d s → ByNode v y d s
    by_node y d s o = record { source = o.source; some = o.some; drawn = o.drawn; address = o.address; destination = o.destination }

    says : (b : Bool) (y to d s : ℕ) (m : Sent) → FromSender w b y to d s m → FromSender v b y to d s m
    says true y to d s (Run k a f) h = λ t. let o : ((w.server.circuit_at y).address ≡ w.node.own) × ByServer w y d s f = h t in (o.0, record { source = o.1.source; destination = o.1.destination; drawn = o.1.drawn; frame = o.1.frame })
    says false y to d s (Run k a f) h = λ t. (by_node y d s (h t).0, (h t).1)
    says true y to d s ReplyStart h = tt
    says false y to d s ReplyStart h = λ t. by_node y d s (h t)
    says true y to d s CallStart h = tt
    says false y to d s CallStart h = tt
    says true y to d s (Stopped r) h = tt
    says false y to d s (Stopped r) h = tt

start_in_ok : (w : World) → WorldOk w → (from s now : ℕ) (g : Agreed) → WorldOk (start_in w from s now g)
start_in_ok w ok from s now g = go (nat_eq k 0) refl
  where
    k : ℕ
    k = slave_of w.node from s

    test : ℕ → Bool
    test i = is_of (w.node.circuit_at i) from s && lives (w.node.circuit_at i).end

    make : (b : Bool) → WorldOk (cond b (put_circuit w false (suc w.node.drawn) (next_id w.node) from (make_slave now s g (first_end false false w.other))) (with_table w false w.node (record { by_server = false; circuit = 0; to = from; destination = s; source = 0; sent = Stopped 7 } ∷ [])))
    make true = make_put w ok from s now g
    make false = stray_ok w ok false from s 0 7

    go : (b : Bool) → nat_eq k 0 ≡ b → WorldOk (cond b (make_in w from s now g) (at_end w false k (again_start now (w.node.circuit_at k).end)))
    go true q = make (nat_lt (living w.node) 8 && nat_lt w.node.drawn 65535)
    go false q =
        let l : lives (w.node.circuit_at k).end ≡ true = (and_parts (is_of (w.node.circuit_at k) from s) (lives (w.node.circuit_at k).end) (least_passes test (ids w.node) (eqb-false k 0 q))).1 in
        quiet_node w k (again_start now (w.node.circuit_at k).end) ok l (kin_again now (w.node.circuit_at k).end) (again_start_ok false now (w.node.circuit_at k).end) (λ i. idle_calm (w.node.circuit_at k).end (again_start now (w.node.circuit_at k).end).end (calm_again now (w.node.circuit_at k).end) i)

pub arrive_ok : (w : World) → WorldOk w → (b : Bool) (from : ℕ) (bit : Bool) (d s now : ℕ) (g : Agreed) (m : Sent) → Fair w b from d s m → WorldOk (arrive w b from bit d s now g m)
arrive_ok w ok true from bit d s now g (Run k a f) h = run_server w ok from bit d s now a k f h
arrive_ok w ok false from bit d s now g (Run k a f) h = run_node w ok from bit d s now a k f h
arrive_ok w ok true from bit d s now g CallStart h = ok
arrive_ok w ok false from bit d s now g CallStart h = start_in_ok w ok from s now g
arrive_ok w ok true from bit d s now g ReplyStart h = reply_ok w ok from d s now g h
arrive_ok w ok false from bit d s now g ReplyStart h = ok
arrive_ok w ok true from bit d s now g (Stopped r) h = stop_ok w ok true from d s now r
arrive_ok w ok false from bit d s now g (Stopped r) h = stop_ok w ok false from d s now r

-- the frames of the world are fair, and so is a foreign one

pub says_fair : (w : World) (p : Wired) → p.to ≡ (table w (not p.by_server)).own → FromSender w p.by_server p.circuit p.to p.destination p.source p.sent → Fair w (not p.by_server) (table w p.by_server).own p.destination p.source p.sent
says_fair w p t h = go p.by_server p.sent t h
  where
    go : (b : Bool) (m : Sent) → p.to ≡ (table w (not b)).own → FromSender w b p.circuit p.to p.destination p.source m → Fair w (not b) (table w b).own p.destination p.source m
    go true (Run k a f) t h = λ q.
        let o : ((w.server.circuit_at p.circuit).address ≡ w.node.own) × ByServer w p.circuit p.destination p.source f = h t in
        let e : p.circuit ≡ p.source = sym o.1.source in
        subst (λ z. ((w.server.circuit_at z).address ≡ w.node.own) × ByServer w z p.destination p.source f) e o
    go false (Run k a f) t h = λ q.
        let o : ByNode w p.circuit p.destination p.source × FrameOf (List Slot) (w.node.circuit_at p.circuit).end.half.link f = h t in
        subst (λ z. ByNode w z p.destination p.source × FrameOf (List Slot) (w.node.circuit_at z).end.half.link f) (sym o.0.source) o
    go true ReplyStart t h = tt
    go false ReplyStart t h = λ q. let o : ByNode w p.circuit p.destination p.source = h t in subst (λ z. ByNode w z p.destination p.source) (sym o.source) o
    go true CallStart t h = tt
    go false CallStart t h = tt
    go true (Stopped r) t h = tt
    go false (Stopped r) t h = tt

foreign_fair : (w : World) (b : Bool) (from d s : ℕ) (m : Sent) → (from ≡ w.server.own → ⊥) → (from ≡ w.node.own → ⊥) → Fair w b from d s m
foreign_fair w true from d s (Run k a f) n o = λ q. absurd (o q)
foreign_fair w false from d s (Run k a f) n o = λ q. absurd (n q)
foreign_fair w true from d s ReplyStart n o = λ q. absurd (o q)
foreign_fair w false from d s ReplyStart n o = tt
foreign_fair w true from d s CallStart n o = tt
foreign_fair w false from d s CallStart n o = tt
foreign_fair w true from d s (Stopped r) n o = tt
foreign_fair w false from d s (Stopped r) n o = tt

deliver_ok : (w : World) → WorldOk w → (now : ℕ) (g : Agreed) (o : Option Wired) → ((p : Wired) → o ≡ Some p → FromSender w p.by_server p.circuit p.to p.destination p.source p.sent) → WorldOk (deliver_in w now g o)
deliver_ok w ok now g None h = ok
deliver_ok w ok now g (Some p) h =
    world_cond (nat_eq p.to (table w (not p.by_server)).own) (arrive w (not p.by_server) (table w p.by_server).own p.by_server p.destination p.source now g p.sent) w
    (λ t. arrive_ok w ok (not p.by_server) (table w p.by_server).own p.by_server p.destination p.source now g p.sent (says_fair w p (eqb-true p.to (table w (not p.by_server)).own t) (h p refl)))
    ok

pub occurs_ok : (w : World) → WorldOk w → (e : WorldEvent) → WorldOk (occurs w e)
occurs_ok w ok (Calls address now) = calls_ok w ok address now
occurs_ok w ok (Locally true x c) =
    let e : End = (w.server.circuit_at x).end in
    world_cond (lives e) (at_end w true x (record { end = call_end c e; sent = [] })) w (λ l. quiet_server w x (record { end = call_end c e; sent = [] }) ok l (kin_call c e) (call_step_ok true c e)) ok
occurs_ok w ok (Locally false x c) =
    let e : End = (w.node.circuit_at x).end in
    world_cond (lives e) (at_end w false x (record { end = call_end c e; sent = [] })) w (λ l. quiet_node w x (record { end = call_end c e; sent = [] }) ok l (kin_call c e) (call_step_ok false c e) (idle_call c e)) ok
occurs_ok w ok (Times true x now) =
    let e : End = (w.server.circuit_at x).end in
    world_cond (lives e) (at_end w true x (time_step now e)) w (λ l. quiet_server w x (time_step now e) ok l (kin_time now e) (time_ok true now e)) ok
occurs_ok w ok (Times false x now) =
    let e : End = (w.node.circuit_at x).end in
    world_cond (lives e) (at_end w false x (time_step now e)) w (λ l. quiet_node w x (time_step now e) ok l (kin_time now e) (time_ok false now e) (λ i. idle_calm e (time_step now e).end (calm_time now e i) i)) ok
occurs_ok w ok (Moves true x now) =
    let e : End = (w.server.circuit_at x).end in
    world_cond (lives e) (at_end w true x (record { end = record e { moment = now }; sent = [] })) w (λ l. quiet_server w x (record { end = record e { moment = now }; sent = [] }) ok l (record { peer = refl; running = refl; master = refl; window = refl; wide = refl; sessions = refl }) (moved_ok true now e)) ok
occurs_ok w ok (Moves false x now) =
    let e : End = (w.node.circuit_at x).end in
    world_cond (lives e) (at_end w false x (record { end = record e { moment = now }; sent = [] })) w (λ l. quiet_node w x (record { end = record e { moment = now }; sent = [] }) ok l (record { peer = refl; running = refl; master = refl; window = refl; wide = refl; sessions = refl }) (moved_ok false now e) (λ i. record { link = i.link; agreed = i.agreed; ceiling = i.ceiling; agreed_low = i.agreed_low; ceiling_low = i.ceiling_low; sessions = i.sessions; heard_run = i.heard_run; master = i.master })) ok
occurs_ok w ok (Ends true x r) =
    let e : End = (w.server.circuit_at x).end in
    world_cond (lives e) (at_end w true x (finish r e)) w (λ l. quiet_server w x (finish r e) ok l (kin_finish r e) (finish_ok true r e)) ok
occurs_ok w ok (Ends false x r) =
    let e : End = (w.node.circuit_at x).end in
    world_cond (lives e) (at_end w false x (finish r e)) w (λ l. quiet_node w x (finish r e) ok l (kin_finish r e) (finish_ok false r e) (λ i. idle_calm e (finish r e).end (record { half = refl; heard_run = refl; master = refl }) i)) ok
occurs_ok w ok (Lapses true x r) =
    let e : End = (w.server.circuit_at x).end in
    world_cond (lives e) (at_end w true x (lapse r e)) w (λ l. quiet_server w x (lapse r e) ok l (record { peer = refl; running = refl; master = refl; window = refl; wide = refl; sessions = refl }) (still_ok true (lapse r e).end)) ok
occurs_ok w ok (Lapses false x r) =
    let e : End = (w.node.circuit_at x).end in
    world_cond (lives e) (at_end w false x (lapse r e)) w (λ l. quiet_node w x (lapse r e) ok l (record { peer = refl; running = refl; master = refl; window = refl; wide = refl; sessions = refl }) (still_ok false (lapse r e).end) (λ i. idle_calm e (lapse r e).end (record { half = refl; heard_run = refl; master = refl }) i)) ok
occurs_ok w ok (Stops true to d s r) = stray_ok w ok true to d s r
occurs_ok w ok (Stops false to d s r) = stray_ok w ok false to d s r
occurs_ok w ok (Delivers i now g) = deliver_ok w ok now g (slice_get w.frames i) (λ p e. each_at (λ f. FromSender w f.by_server f.circuit f.to f.destination f.source f.sent) w.frames i p ok.says e)
occurs_ok w ok (Injects b from bit d s now g m) = go (nat_eq from w.server.own) (nat_eq from w.node.own) refl refl
  where
    go : (x y : Bool) → nat_eq from w.server.own ≡ x → nat_eq from w.node.own ≡ y → WorldOk (cond (x || y) w (arrive w b from bit d s now g m))
    go true y p q = ok
    go false true p q = ok
    go false false p q = arrive_ok w ok b from bit d s now g m (foreign_fair w b from d s m (eqb-false from w.server.own p) (eqb-false from w.node.own q))

pub go_on_ok : (es : List WorldEvent) (w : World) → WorldOk w → WorldOk (go_on es w)
go_on_ok [] w ok = ok
go_on_ok (e ∷ es) w ok = go_on_ok es (occurs w e) (occurs_ok w ok e)

pub open_world_ok : (s n i j : ℕ) (u v : Setup) → (s ≡ n → ⊥) → u.ceiling ≤ 255 → v.ceiling ≤ 255 → WorldOk (open_world s n i j u v)
open_world_ok s n i j u v a c d = record {
  apart = a;
  ceiling = c;
  other_ceiling = d;
  matched = λ p h. void_together (min u.sessions 64) u.ceiling 0 0 (omega arith) (omega arith) c (omega arith);
  replied = λ p h r. absurd (false≢true r);
  calling = λ p r. refl;
  idle = λ q h nj. record { link = refl; agreed = min v.sessions 64; ceiling = v.ceiling; agreed_low = omega arith; ceiling_low = d; sessions = refl; heard_run = refl; master = refl };
  says = tt;
  none_server = λ k h. refl;
  none_node = λ k h. refl;
  windows = λ k. (omega arith, omega arith);
}
