-- A circuit that waits for its reply has sent its START; where that was delivered, there is a slave or a refusal on its way.
use Rattle.std.proofs.Common.{◌≡◌, ◌≢◌, ℕ, zero, suc, ◌<◌, ◌≤◌, ◌⊎◌, inl, inr, ⊎_elim, sym, ap, ap₂, ◌∙◌, refl, subst, arith, Bool, true, false, not, cond, ◌&&◌, ◌||◌, List, [], ◌∷◌, ◌++◌, length, Option, Some, None, nat_eq, nat_lt, slice_get, eqb-true}
use Rattle.std.proofs.lemmas.Bool.{true≢false, false≢true, and_parts, and_from, or_right, eqb-false}
use Rattle.std.proofs.lemmas.Option.{slice_get_within}
use Rattle.lat_model.specs.ends.End.{Sent, Run, CallStart, ReplyStart, Stopped, End, Step, still, lives, call_end, finish, lapse}
use Rattle.lat_model.specs.ends.Timers.{note_empty, time_step}
use Rattle.lat_model.specs.ends.Run.{run_end}
use Rattle.lat_model.specs.ends.Starting.{Agreed, Setup, reply_end, make_master, make_slave, again_start, hear_reply, hear_stop}
use Rattle.lat_model.specs.circuits.World.{CircuitEntry, Wired, World, table, with_table, put_circuit, at_end, wire_all, first_end}
use Rattle.lat_model.specs.circuits.WorldOk.{WorldOk}
use Rattle.lat_model.specs.circuits.Arriving.{is_of, living, slave_of, refusal, stop_in, start_in, arrive}
use Rattle.lat_model.specs.circuits.Events.{WorldEvent, Calls, Locally, Times, Moves, Delivers, Injects, deliver_in, occurs, go_on, open_world, Ends, Lapses, Stops, stray_stop}
use Rattle.lat_model.proofs.sessions.Words.{upd_same, upd_other}
use Rattle.lat_model.proofs.circuits.Kin.{Kin, kin_time, kin_run, kin_again, kin_stop, kin_finish}
use Rattle.lat_model.proofs.circuits.Arrives.{occurs_ok}
use Rattle.lat_model.proofs.circuits.Ids.{drawn_apart, drawn_behind, drawn_or, next_drawn}
use Rattle.lat_model.specs.circuits.Ids.{ids, is_drawn, next_id, IdsStay}
use Rattle.lat_machines.proofs.events.Leads.{append_nil}
use Rattle.lat_laws.specs.rounds.Lossless.{is_in}
use Rattle.lat_laws.specs.rounds.Carried.{server_end, node_end, Carried, Kinds, HasSlave, IsRefused, call_frame, IsAsked, Called, done_with, done_after, done_all, Orderly}
use Rattle.lat_laws.proofs.rounds.carried.Kinds.{least_passes, occurs_kinds}
use Rattle.lat_laws.proofs.rounds.carried.Runnings.{occurs_carried}

-- what each event keeps of the circuits that were drawn
record Before (p : ℕ) (w : World) (v : World) : Type 0 where
  address : (v.server.circuit_at p).address ≡ (w.server.circuit_at p).address
  alive : lives (server_end v p) ≡ true → lives (server_end w p) ≡ true
  calling : (server_end v p).running ≡ false → (server_end w p).running ≡ false

record Slaves (q : ℕ) (w : World) (v : World) : Type 0 where
  address : (v.node.circuit_at q).address ≡ (w.node.circuit_at q).address
  peer : (node_end v q).peer ≡ (node_end w q).peer

record Onward (P : ℕ → Type 0) (w : World) (v : World) : Type 0 where
  server_own : v.server.own ≡ w.server.own
  node_own : v.node.own ≡ w.node.own
  more : List Wired
  frames : v.frames ≡ w.frames ++ more
  up : (p : ℕ) → P p → Before p w v
  down : (q : ℕ) → is_drawn w.node q ≡ true → Slaves q w v
  drawn : IdsStay w.node v.node

abbrev Any : ℕ → Type 0
Any p = Unit {0}

before_same : (p : ℕ) (w : World) → Before p w w
before_same p w = record { address = refl; alive = λ h. h; calling = λ h. h }

slaves_same : (q : ℕ) (w : World) → Slaves q w w
slaves_same q w = record { address = refl; peer = refl }

onward_same : (w : World) → Onward Any w w
onward_same w = record { server_own = refl; node_own = refl; more = []; frames = sym (append_nil w.frames); up = λ p a. before_same p w; down = λ q d. slaves_same q w; drawn = λ y l. l }

onward_cond : (w : World) (b : Bool) (x y : World) → (b ≡ true → Onward Any w x) → Onward Any w y → Onward Any w (cond b x y)
onward_cond w true x y p q = p refl
onward_cond w false x y p q = q

-- a step of a circuit of the server that lives
server_onward : (w : World) (x : ℕ) (st : Step) → lives (server_end w x) ≡ true → (st.end.running ≡ false → (server_end w x).running ≡ false) → Onward Any w (at_end w true x st)
server_onward w x st l k = record {
  server_own = refl;
  node_own = refl;
  more = wire_all true x (w.server.circuit_at x).address (note_empty (server_end w x) st).end.peer st.sent;
  frames = refl;
  up = λ p a. up p;
  down = λ q d. record { address = refl; peer = refl };
  drawn = λ y l. l;
}
  where
    new : CircuitEntry
    new = record { address = (w.server.circuit_at x).address; end = (note_empty (server_end w x) st).end }

    up : (p : ℕ) → Before p w (at_end w true x st)
    up p = go (nat_eq p x) refl
      where
        go : (b : Bool) → nat_eq p x ≡ b → Before p w (at_end w true x st)
        go true q =
            let same : p ≡ x = eqb-true p x q in
            let is : (at_end w true x st).server.circuit_at x ≡ record { address = (w.server.circuit_at x).address; end = (note_empty (server_end w x) st).end } = upd_same w.server.circuit_at x (record { address = (w.server.circuit_at x).address; end = (note_empty (server_end w x) st).end }) in
            subst (λ z. Before z w (at_end w true x st)) (sym same) (record {
              address = ap (λ (c : CircuitEntry). c.address) is;
              alive = λ h. l;
              calling = λ h. k (sym (ap (λ (c : CircuitEntry). c.end.running) is) ∙ h);
            })
        go false q =
            let is : (at_end w true x st).server.circuit_at p ≡ w.server.circuit_at p = upd_other w.server.circuit_at x (record { address = (w.server.circuit_at x).address; end = (note_empty (server_end w x) st).end }) p (eqb-false p x q) in
            record { address = ap (λ (c : CircuitEntry). c.address) is; alive = λ h. sym (ap (λ (c : CircuitEntry). lives c.end) is) ∙ h; calling = λ h. sym (ap (λ (c : CircuitEntry). c.end.running) is) ∙ h }

kin_onward : (w : World) (x : ℕ) (st : Step) → lives (server_end w x) ≡ true → Kin (server_end w x) st.end → Onward Any w (at_end w true x st)
kin_onward w x st l k = server_onward w x st l (λ h. sym k.running ∙ h)

-- a step of one of the node
node_onward : (w : World) (x : ℕ) (st : Step) → st.end.peer ≡ (node_end w x).peer → Onward Any w (at_end w false x st)
node_onward w x st k = record {
  server_own = refl;
  node_own = refl;
  more = wire_all false x (w.node.circuit_at x).address (note_empty (node_end w x) st).end.peer st.sent;
  frames = refl;
  up = λ p a. record { address = refl; alive = λ h. h; calling = λ h. h };
  down = λ q d. down q;
  drawn = λ y l. l;
}
  where
    down : (q : ℕ) → Slaves q w (at_end w false x st)
    down q = go (nat_eq q x) refl
      where
        go : (b : Bool) → nat_eq q x ≡ b → Slaves q w (at_end w false x st)
        go true h =
            let same : q ≡ x = eqb-true q x h in
            let is : (at_end w false x st).node.circuit_at x ≡ record { address = (w.node.circuit_at x).address; end = (note_empty (node_end w x) st).end } = upd_same w.node.circuit_at x (record { address = (w.node.circuit_at x).address; end = (note_empty (node_end w x) st).end }) in
            subst (λ z. Slaves z w (at_end w false x st)) (sym same) (record { address = ap (λ (c : CircuitEntry). c.address) is; peer = ap (λ (c : CircuitEntry). c.end.peer) is ∙ k })
        go false h =
            let is : (at_end w false x st).node.circuit_at q ≡ w.node.circuit_at q = upd_other w.node.circuit_at x (record { address = (w.node.circuit_at x).address; end = (note_empty (node_end w x) st).end }) q (eqb-false q x h) in
            record { address = ap (λ (c : CircuitEntry). c.address) is; peer = ap (λ (c : CircuitEntry). c.end.peer) is }

make_onward : (w : World) (from source now : ℕ) (g : Agreed) → Onward Any w (put_circuit w false (suc w.node.drawn) (next_id w.node) from (make_slave now source g (first_end false false w.other)))
make_onward w from source now g = record {
  server_own = refl;
  node_own = refl;
  more = wire_all false (next_id w.node) from source (ReplyStart ∷ []);
  frames = refl;
  up = λ p a. record { address = refl; alive = λ h. h; calling = λ h. h };
  down = λ q d. (let is : (put_circuit w false (suc w.node.drawn) (next_id w.node) from (make_slave now source g (first_end false false w.other))).node.circuit_at q ≡ w.node.circuit_at q = upd_other w.node.circuit_at (next_id w.node) (record { address = from; end = (make_slave now source g (first_end false false w.other)).end }) q (drawn_apart w.node.first w.node.drawn q d) in record { address = ap (λ (c : CircuitEntry). c.address) is; peer = ap (λ (c : CircuitEntry). c.end.peer) is });
  drawn = drawn_behind w.node.first w.node.drawn;
}

refuse_onward : (w : World) (from source : ℕ) → Onward Any w (with_table w false w.node (refusal from source ∷ []))
refuse_onward w from source = record { server_own = refl; node_own = refl; more = refusal from source ∷ []; frames = refl; up = λ p a. record { address = refl; alive = λ h. h; calling = λ h. h }; down = λ q d. record { address = refl; peer = refl }; drawn = λ y l. l }

start_onward : (w : World) (from source now : ℕ) (g : Agreed) → Onward Any w (start_in w from source now g)
start_onward w from source now g = go (nat_eq (slave_of w.node from source) 0) (nat_lt (living w.node) 8 && nat_lt w.node.drawn 65535)
  where
    go : (a b : Bool) → Onward Any w (cond a (cond b (put_circuit w false (suc w.node.drawn) (next_id w.node) from (make_slave now source g (first_end false false w.other))) (with_table w false w.node (refusal from source ∷ []))) (at_end w false (slave_of w.node from source) (again_start now (node_end w (slave_of w.node from source)))))
    go true true = make_onward w from source now g
    go true false = refuse_onward w from source
    go false b = node_onward w (slave_of w.node from source) (again_start now (node_end w (slave_of w.node from source))) (kin_again now (node_end w (slave_of w.node from source))).peer

reply_calling : (now s : ℕ) (g : Agreed) (e : End) → (hear_reply now s g e).end.running ≡ false → e.running ≡ false
reply_calling now s g e = go (lives e) e.running refl
  where
    go : (a b : Bool) → e.running ≡ b → (cond {A = Step} a (cond b (record { end = record e { moment = now; heard_at = now }; sent = [] }) (record { end = reply_end now s g e; sent = [] })) (record { end = e; sent = [] })).end.running ≡ false → e.running ≡ false
    go true true q h = h
    go true false q h = q
    go false b q h = h

arrive_onward : (w : World) (b : Bool) (from : ℕ) (bit : Bool) (d s now : ℕ) (g : Agreed) (m : Sent) → Onward Any w (arrive w b from bit d s now g m)
arrive_onward w true from bit d s now g (Run mark a f) =
    let e : End = server_end w d in
    onward_cond w (is_of (w.server.circuit_at d) from s && lives e && e.running && cond bit (not e.master) e.master) (at_end w true d (run_end now a f e).step) w
    (λ h. kin_onward w d (run_end now a f e).step (and_parts (is_of (w.server.circuit_at d) from s) (lives e) (and_parts (is_of (w.server.circuit_at d) from s && lives e) e.running (and_parts (is_of (w.server.circuit_at d) from s && lives e && e.running) (cond bit (not e.master) e.master) h).0).0).1 (kin_run now a f e)) (onward_same w)
arrive_onward w false from bit d s now g (Run mark a f) =
    let e : End = node_end w d in
    onward_cond w (is_of (w.node.circuit_at d) from s && lives e && e.running && cond bit (not e.master) e.master) (at_end w false d (run_end now a f e).step) w (λ h. node_onward w d (run_end now a f e).step (kin_run now a f e).peer) (onward_same w)
arrive_onward w true from bit d s now g CallStart = onward_same w
arrive_onward w false from bit d s now g CallStart = start_onward w from s now g
arrive_onward w true from bit d s now g ReplyStart =
    let c : CircuitEntry = w.server.circuit_at d in
    onward_cond w (nat_eq c.address from && lives c.end && (not c.end.running || nat_eq c.end.peer s)) (at_end w true d (hear_reply now s g c.end)) w
    (λ h. server_onward w d (hear_reply now s g c.end) (and_parts (nat_eq c.address from) (lives c.end) (and_parts (nat_eq c.address from && lives c.end) (not c.end.running || nat_eq c.end.peer s) h).0).1 (reply_calling now s g c.end)) (onward_same w)
arrive_onward w false from bit d s now g ReplyStart = onward_same w
arrive_onward w true from bit d s now g (Stopped r) =
    let c : CircuitEntry = w.server.circuit_at d in
    onward_cond w (nat_eq c.address from && (nat_eq c.end.peer s || nat_eq s 0) && lives c.end) (at_end w true d (hear_stop now r c.end)) w
    (λ h. kin_onward w d (hear_stop now r c.end) (and_parts (nat_eq c.address from && (nat_eq c.end.peer s || nat_eq s 0)) (lives c.end) h).1 (kin_stop now r c.end)) (onward_same w)
arrive_onward w false from bit d s now g (Stopped r) =
    let c : CircuitEntry = w.node.circuit_at d in
    onward_cond w (nat_eq c.address from && (nat_eq c.end.peer s || nat_eq s 0) && lives c.end) (at_end w false d (hear_stop now r c.end)) w (λ h. node_onward w d (hear_stop now r c.end) (kin_stop now r c.end).peer) (onward_same w)

-- what was asked stays so

pub get_more : {A : Type 0} → (xs ys : List A) (k : ℕ) (x : A) → slice_get xs k ≡ Some x → slice_get (xs ++ ys) k ≡ Some x
get_more [] ys k x e = let z : ⊥ = cc in absurd z
get_more (y ∷ xs) ys zero x e = e
get_more (y ∷ xs) ys (suc k) x e = get_more xs ys k x e

frame_on : {P : ℕ → Type 0} (w v : World) → Onward P w v → (k : ℕ) (f : Wired) → slice_get w.frames k ≡ Some f → slice_get v.frames k ≡ Some f
frame_on w v o k f e = ap (λ z. slice_get z k) o.frames ∙ get_more w.frames o.more k f e

slave_stays : {P : ℕ → Type 0} (w v : World) (p : ℕ) → Onward P w v → HasSlave w p → HasSlave v p
slave_stays w v p o h = record { slave = h.slave; drawn = o.drawn h.slave h.drawn; address = (o.down h.slave h.drawn).address ∙ (h.address ∙ sym o.server_own); peer = (o.down h.slave h.drawn).peer ∙ h.peer }

refused_stays : {P : ℕ → Type 0} (w v : World) (done more : List ℕ) (p : ℕ) → Onward P w v → (h : IsRefused w done p) → is_in h.index more ≡ false → IsRefused v more p
refused_stays w v done more p o h n = record { index = h.index; there = frame_on w v o h.index (refusal w.server.own p) h.there ∙ ap (λ z. Some (refusal z p)) (sym o.server_own); new = n }

asked_stays : {P : ℕ → Type 0} (w v : World) (done : List ℕ) (p : ℕ) → Onward P w v → IsAsked w done p → IsAsked v done p
asked_stays w v done p o h = record {
  index = h.index;
  there = frame_on w v o h.index (call_frame w.node.own p) h.there ∙ ap (λ z. Some (call_frame z p)) (sym o.node_own);
  answered = λ i. ⊎_elim {C = HasSlave v p ⊎ IsRefused v done p} (λ a. inl (slave_stays w v p o a)) (λ a. inr (refused_stays w v done done p o a a.new)) (h.answered i);
}

-- an event that delivers nothing
quiet_called : (w v : World) (done : List ℕ) → Onward Any w v → Called w done → Called v done
quiet_called w v done o k p home l n =
    let b : Before p w v = o.up p tt in
    asked_stays w v done p o (k p (sym b.address ∙ (home ∙ o.node_own)) (b.alive l) (b.calling n))

-- a new circuit sends its START

last_at : {A : Type 0} → (xs : List A) (x : A) → slice_get (xs ++ x ∷ []) (length xs) ≡ Some x
last_at [] x = refl
last_at (y ∷ xs) x = last_at xs x

calls_onward : (w : World) (address now : ℕ) → Onward (λ p. p ≢ next_id w.server) w (occurs w (Calls address now))
calls_onward w address now = record {
  server_own = refl;
  node_own = refl;
  more = call_frame address (next_id w.server) ∷ [];
  frames = refl;
  up = λ p n. (let is : (occurs w (Calls address now)).server.circuit_at p ≡ w.server.circuit_at p = upd_other w.server.circuit_at (next_id w.server) (record { address = address; end = (make_master now (first_end true true w.setup)).end }) p n in record { address = ap (λ (c : CircuitEntry). c.address) is; alive = λ h. sym (ap (λ (c : CircuitEntry). lives c.end) is) ∙ h; calling = λ h. sym (ap (λ (c : CircuitEntry). c.end.running) is) ∙ h });
  down = λ q d. record { address = refl; peer = refl };
  drawn = λ y l. l;
}

calls_called : (w : World) (done : List ℕ) (address now : ℕ) → ((j : ℕ) → length w.frames ≤ j → is_in j done ≡ false) → Called w done → Called (occurs w (Calls address now)) done
calls_called w done address now below k p home l n = go (nat_eq p (next_id w.server)) refl
  where
    o : Onward (λ p. p ≢ next_id w.server) w (occurs w (Calls address now))
    o = calls_onward w address now

    go : (b : Bool) → nat_eq p (next_id w.server) ≡ b → IsAsked (occurs w (Calls address now)) done p
    go true q =
        let same : p ≡ next_id w.server = eqb-true p (next_id w.server) q in
        let new : CircuitEntry = record { address = address; end = (make_master now (first_end true true w.setup)).end } in
        let is : address ≡ w.node.own = sym (ap (λ (c : CircuitEntry). c.address) (upd_same w.server.circuit_at (next_id w.server) new)) ∙ (ap (λ z. ((occurs w (Calls address now)).server.circuit_at z).address) (sym same) ∙ home) in
        record {
          index = length w.frames;
          there = last_at w.frames (call_frame address (next_id w.server)) ∙ ap₂ (λ a z. Some (call_frame a z)) is (sym same);
          answered = λ i. absurd (true≢false (sym i ∙ below (length w.frames) (omega arith)));
        }
    go false q =
        let n' : p ≢ next_id w.server = eqb-false p (next_id w.server) q in
        let b : Before p w (occurs w (Calls address now)) = o.up p n' in
        asked_stays w (occurs w (Calls address now)) done p o (k p (sym b.address ∙ home) (b.alive l) (b.calling n))

-- a START that comes

same_nat : (n : ℕ) → nat_eq n n ≡ true
same_nat n = go (nat_eq n n) refl
  where
    go : (b : Bool) → nat_eq n n ≡ b → nat_eq n n ≡ true
    go true h = h
    go false h = absurd (eqb-false n n h refl)

start_called : (w : World) (done : List ℕ) (i p now : ℕ) (g : Agreed) → WorldOk w → i < length w.frames → ((j : ℕ) → length w.frames ≤ j → is_in j done ≡ false) → HasSlave (start_in w w.server.own p now g) p ⊎ IsRefused (start_in w w.server.own p now g) (i ∷ done) p
start_called w done i p now g ok lower below = go (nat_eq (slave_of w.node w.server.own p) 0) refl (nat_lt (living w.node) 8 && nat_lt w.node.drawn 65535)
  where
    new : is_in (length w.frames) (i ∷ done) ≡ false
    new = at (nat_eq (length w.frames) i) refl
      where
        at : (b : Bool) → nat_eq (length w.frames) i ≡ b → (b || is_in (length w.frames) done) ≡ false
        at true q = absurd (omega (arith, lower, eqb-true (length w.frames) i q))
        at false q = below (length w.frames) (omega arith)

    old : nat_eq (slave_of w.node w.server.own p) 0 ≡ false → HasSlave w p
    old z =
        let x : ℕ = slave_of w.node w.server.own p in
        let h : (is_of (w.node.circuit_at x) w.server.own p ≡ true) × (lives (node_end w x) ≡ true) = and_parts (is_of (w.node.circuit_at x) w.server.own p) (lives (node_end w x)) (least_passes (λ i. is_of (w.node.circuit_at i) w.server.own p && lives (node_end w i)) (ids w.node) (eqb-false x 0 z)) in
        let y : (nat_eq (w.node.circuit_at x).address w.server.own ≡ true) × (nat_eq (node_end w x).peer p ≡ true) = and_parts (nat_eq (w.node.circuit_at x).address w.server.own) (nat_eq (node_end w x).peer p) h.0 in
        record {
          slave = x;
          drawn = ⊎_elim {C = is_drawn w.node x ≡ true} (λ l. absurd (false≢true (sym (ap (λ (c : CircuitEntry). lives c.end) (ok.none_node x l)) ∙ h.1))) (λ l. l) (drawn_or w.node x);
          address = eqb-true (w.node.circuit_at x).address w.server.own y.0;
          peer = eqb-true (node_end w x).peer p y.1;
        }

    go : (a : Bool) → nat_eq (slave_of w.node w.server.own p) 0 ≡ a → (b : Bool) →
        HasSlave (cond a (cond b (put_circuit w false (suc w.node.drawn) (next_id w.node) w.server.own (make_slave now p g (first_end false false w.other))) (with_table w false w.node (refusal w.server.own p ∷ []))) (at_end w false (slave_of w.node w.server.own p) (again_start now (node_end w (slave_of w.node w.server.own p))))) p
        ⊎ IsRefused (cond a (cond b (put_circuit w false (suc w.node.drawn) (next_id w.node) w.server.own (make_slave now p g (first_end false false w.other))) (with_table w false w.node (refusal w.server.own p ∷ []))) (at_end w false (slave_of w.node w.server.own p) (again_start now (node_end w (slave_of w.node w.server.own p))))) (i ∷ done) p
    go true z true =
        let is : (put_circuit w false (suc w.node.drawn) (next_id w.node) w.server.own (make_slave now p g (first_end false false w.other))).node.circuit_at (next_id w.node) ≡ record { address = w.server.own; end = (make_slave now p g (first_end false false w.other)).end } = upd_same w.node.circuit_at (next_id w.node) (record { address = w.server.own; end = (make_slave now p g (first_end false false w.other)).end }) in
        inl (record { slave = next_id w.node; drawn = next_drawn w.node.first w.node.drawn; address = ap (λ (c : CircuitEntry). c.address) is; peer = ap (λ (c : CircuitEntry). c.end.peer) is })
    go true z false = inr (record { index = length w.frames; there = last_at w.frames (refusal w.server.own p); new = new })
    go false z b = inl (slave_stays w (at_end w false (slave_of w.node w.server.own p) (again_start now (node_end w (slave_of w.node w.server.own p)))) p (node_onward w (slave_of w.node w.server.own p) (again_start now (node_end w (slave_of w.node w.server.own p))) (kin_again now (node_end w (slave_of w.node w.server.own p))).peer) (old z))

call_arrives : (w : World) (done : List ℕ) (i p now : ℕ) (g : Agreed) → WorldOk w → i < length w.frames → ((j : ℕ) → length w.frames ≤ j → is_in j done ≡ false) → HasSlave (deliver_in w now g (Some (call_frame w.node.own p))) p ⊎ IsRefused (deliver_in w now g (Some (call_frame w.node.own p))) (i ∷ done) p
call_arrives w done i p now g ok lower below = subst (λ b. HasSlave (cond b (start_in w w.server.own p now g) w) p ⊎ IsRefused (cond b (start_in w w.server.own p now g) w) (i ∷ done) p) (sym (same_nat w.node.own)) (start_called w done i p now g ok lower below)

-- a refusal ends its circuit
refusal_arrives : (w : World) (p now : ℕ) (g : Agreed) → (w.server.circuit_at p).address ≡ w.node.own → lives (server_end w p) ≡ true → lives (server_end (deliver_in w now g (Some (refusal w.server.own p))) p) ≡ false
refusal_arrives w p now g home l = subst (λ b. lives (server_end (cond b (stop_in w true w.node.own p 0 now 7) w) p) ≡ false) (sym (same_nat w.server.own)) (subst (λ b. lives (server_end (cond b (at_end w true p (hear_stop now 7 e)) w) p) ≡ false) (sym named) ended)
  where
    e : End
    e = server_end w p

    named : (nat_eq (w.server.circuit_at p).address w.node.own && (nat_eq (server_end w p).peer 0 || nat_eq 0 0) && lives (server_end w p)) ≡ true
    named = and_from (nat_eq (w.server.circuit_at p).address w.node.own && (nat_eq (server_end w p).peer 0 || nat_eq 0 0)) (lives (server_end w p)) (and_from (nat_eq (w.server.circuit_at p).address w.node.own) (nat_eq (server_end w p).peer 0 || nat_eq 0 0) (ap (λ z. nat_eq z w.node.own) home ∙ same_nat w.node.own) (or_right (nat_eq (server_end w p).peer 0) true refl)) l

    stop_ends : (b : Bool) → b ≡ true → lives (cond {A = Step} b (record { end = record (server_end w p) { ended = Some 7; moment = now }; sent = [] }) (record { end = server_end w p; sent = [] })).end ≡ false
    stop_ends true q = refl
    stop_ends false q = absurd (false≢true q)

    ended : lives (server_end (at_end w true p (hear_stop now 7 (server_end w p))) p) ≡ false
    ended = ap (λ (c : CircuitEntry). lives c.end) (upd_same w.server.circuit_at p (record { address = (w.server.circuit_at p).address; end = (note_empty (server_end w p) (hear_stop now 7 (server_end w p))).end })) ∙ stop_ends (lives (server_end w p)) l

-- a delivery

deliver_onward : (w : World) (now : ℕ) (g : Agreed) (f : Wired) → Onward Any w (deliver_in w now g (Some f))
deliver_onward w now g f = onward_cond w (nat_eq f.to (table w (not f.by_server)).own) (arrive w (not f.by_server) (table w f.by_server).own f.by_server f.destination f.source now g f.sent) w (λ h. arrive_onward w (not f.by_server) (table w f.by_server).own f.by_server f.destination f.source now g f.sent) (onward_same w)

in_next : (k i : ℕ) (done : List ℕ) → nat_eq k i ≡ false → is_in k done ≡ false → is_in k (i ∷ done) ≡ false
in_next k i done q h = ap (λ b. b || is_in k done) q ∙ h

deliver_called : (w : World) (done : List ℕ) (i now : ℕ) (g : Agreed) → WorldOk w → ((j : ℕ) → length w.frames ≤ j → is_in j done ≡ false) → Called w done → (o : Option Wired) → slice_get w.frames i ≡ o → Called (deliver_in w now g o) (done_with done i o)
deliver_called w done i now g ok below k None e p home l n = k p home l n
deliver_called w done i now g ok below k (Some f) e p home l n = go (nat_eq a.index i) refl
  where
    v : World
    v = deliver_in w now g (Some f)

    o : Onward Any w (deliver_in w now g (Some f))
    o = deliver_onward w now g f

    b : Before p w (deliver_in w now g (Some f))
    b = o.up p tt

    home_then : (w.server.circuit_at p).address ≡ w.node.own
    home_then = sym b.address ∙ (home ∙ o.node_own)

    a : IsAsked w done p
    a = k p home_then (b.alive l) (b.calling n)

    there : slice_get (deliver_in w now g (Some f)).frames a.index ≡ Some (call_frame (deliver_in w now g (Some f)).node.own p)
    there = frame_on w (deliver_in w now g (Some f)) o a.index (call_frame w.node.own p) a.there ∙ ap (λ z. Some (call_frame z p)) (sym o.node_own)

    frame_is : (j : ℕ) (x : Wired) → j ≡ i → slice_get w.frames j ≡ Some x → f ≡ x
    frame_is j x q r = (let y : Some x ≡ Some f = sym r ∙ (ap (slice_get w.frames) q ∙ e) in cc)

    refused : IsRefused w done p → HasSlave (deliver_in w now g (Some f)) p ⊎ IsRefused (deliver_in w now g (Some f)) (i ∷ done) p
    refused r = at (nat_eq r.index i) refl
      where
        at : (c : Bool) → nat_eq r.index i ≡ c → HasSlave (deliver_in w now g (Some f)) p ⊎ IsRefused (deliver_in w now g (Some f)) (i ∷ done) p
        at true q = absurd (true≢false (sym l ∙ (ap (λ z. lives (server_end (deliver_in w now g (Some z)) p)) (frame_is r.index (refusal w.server.own p) (eqb-true r.index i q) r.there) ∙ refusal_arrives w p now g home_then (b.alive l))))
        at false q = inr (refused_stays w (deliver_in w now g (Some f)) done (i ∷ done) p o r (in_next r.index i done q r.new))

    go : (c : Bool) → nat_eq a.index i ≡ c → IsAsked (deliver_in w now g (Some f)) (i ∷ done) p
    go true q =
        let is : f ≡ call_frame w.node.own p = frame_is a.index (call_frame w.node.own p) (eqb-true a.index i q) a.there in
        record {
          index = a.index;
          there = there;
          answered = λ h. subst (λ z. HasSlave (deliver_in w now g (Some z)) p ⊎ IsRefused (deliver_in w now g (Some z)) (i ∷ done) p) (sym is) (call_arrives w done i p now g ok (slice_get_within w.frames i f e) below);
        }
    go false q = record {
      index = a.index;
      there = there;
      answered = λ h. ⊎_elim {C = HasSlave (deliver_in w now g (Some f)) p ⊎ IsRefused (deliver_in w now g (Some f)) (i ∷ done) p} (λ z. inl (slave_stays w (deliver_in w now g (Some f)) p o z)) refused (a.answered (sym (ap (λ c. c || is_in a.index done) q) ∙ h));
    }

-- every event

locally_onward : (w : World) (b : Bool) (x : ℕ) (f : End → End) → ((e : End) → (f e).running ≡ e.running) → ((e : End) → (f e).peer ≡ e.peer) → Onward Any w (cond (lives ((table w b).circuit_at x).end) (at_end w b x (still (f ((table w b).circuit_at x).end))) w)
locally_onward w true x f r q = onward_cond w (lives (server_end w x)) (at_end w true x (still (f (server_end w x)))) w (λ l. server_onward w x (still (f (server_end w x))) l (λ h. sym (r (server_end w x)) ∙ h)) (onward_same w)
locally_onward w false x f r q = onward_cond w (lives (node_end w x)) (at_end w false x (still (f (node_end w x)))) w (λ l. node_onward w x (still (f (node_end w x))) (q (node_end w x))) (onward_same w)

times_onward : (w : World) (b : Bool) (x now : ℕ) → Onward Any w (occurs w (Times b x now))
times_onward w true x now = onward_cond w (lives (server_end w x)) (at_end w true x (time_step now (server_end w x))) w (λ l. kin_onward w x (time_step now (server_end w x)) l (kin_time now (server_end w x))) (onward_same w)
times_onward w false x now = onward_cond w (lives (node_end w x)) (at_end w false x (time_step now (node_end w x))) w (λ l. node_onward w x (time_step now (node_end w x)) (kin_time now (node_end w x)).peer) (onward_same w)

ends_onward : (w : World) (b : Bool) (x r : ℕ) → Onward Any w (occurs w (Ends b x r))
ends_onward w true x r = onward_cond w (lives (server_end w x)) (at_end w true x (finish r (server_end w x))) w (λ l. kin_onward w x (finish r (server_end w x)) l (kin_finish r (server_end w x))) (onward_same w)
ends_onward w false x r = onward_cond w (lives (node_end w x)) (at_end w false x (finish r (node_end w x))) w (λ l. node_onward w x (finish r (node_end w x)) refl) (onward_same w)

lapses_onward : (w : World) (b : Bool) (x r : ℕ) → Onward Any w (occurs w (Lapses b x r))
lapses_onward w true x r = onward_cond w (lives (server_end w x)) (at_end w true x (lapse r (server_end w x))) w (λ l. kin_onward w x (lapse r (server_end w x)) l (kin_finish r (server_end w x))) (onward_same w)
lapses_onward w false x r = onward_cond w (lives (node_end w x)) (at_end w false x (lapse r (node_end w x))) w (λ l. node_onward w x (lapse r (node_end w x)) refl) (onward_same w)

stops_onward : (w : World) (b : Bool) (to d s r : ℕ) → Onward Any w (occurs w (Stops b to d s r))
stops_onward w true to d s r = record { server_own = refl; node_own = refl; more = stray_stop true to d s r ∷ []; frames = refl; up = λ p a. record { address = refl; alive = λ h. h; calling = λ h. h }; down = λ q l. record { address = refl; peer = refl }; drawn = λ y l. l }
stops_onward w false to d s r = record { server_own = refl; node_own = refl; more = stray_stop false to d s r ∷ []; frames = refl; up = λ p a. record { address = refl; alive = λ h. h; calling = λ h. h }; down = λ q l. record { address = refl; peer = refl }; drawn = λ y l. l }

injects_onward : (w : World) (b : Bool) (from : ℕ) (bit : Bool) (d s now : ℕ) (g : Agreed) (m : Sent) → Onward Any w (occurs w (Injects b from bit d s now g m))
injects_onward w b from bit d s now g m = go (nat_eq from w.server.own || nat_eq from w.node.own)
  where
    go : (x : Bool) → Onward Any w (cond x w (arrive w b from bit d s now g m))
    go true = onward_same w
    go false = arrive_onward w b from bit d s now g m

-- no frame of the world ever goes from its place
pub record More (w : World) (v : World) : Type 0 where
  pub more : List Wired
  pub frames : v.frames ≡ w.frames ++ more

more_of : {P : ℕ → Type 0} (w v : World) → Onward P w v → More w v
more_of w v o = record { more = o.more; frames = o.frames }

pub occurs_more : (w : World) (e : WorldEvent) → More w (occurs w e)
occurs_more w (Calls address now) = more_of w (occurs w (Calls address now)) (calls_onward w address now)
occurs_more w (Locally b x c) = more_of w (occurs w (Locally b x c)) (locally_onward w b x (call_end c) (λ e. refl) (λ e. refl))
occurs_more w (Times b x now) = more_of w (occurs w (Times b x now)) (times_onward w b x now)
occurs_more w (Moves b x now) = more_of w (occurs w (Moves b x now)) (locally_onward w b x (λ e. record e { moment = now }) (λ e. refl) (λ e. refl))
occurs_more w (Ends b x r) = more_of w (occurs w (Ends b x r)) (ends_onward w b x r)
occurs_more w (Lapses b x r) = more_of w (occurs w (Lapses b x r)) (lapses_onward w b x r)
occurs_more w (Stops b to d s r) = more_of w (occurs w (Stops b to d s r)) (stops_onward w b to d s r)
occurs_more w (Injects b from bit d s now g m) = more_of w (occurs w (Injects b from bit d s now g m)) (injects_onward w b from bit d s now g m)
occurs_more w (Delivers i now g) = go (slice_get w.frames i)
  where
    go : (o : Option Wired) → More w (deliver_in w now g o)
    go None = more_of w w (onward_same w)
    go (Some f) = more_of w (deliver_in w now g (Some f)) (deliver_onward w now g f)

pub occurs_called : (w : World) (done : List ℕ) → WorldOk w → ((j : ℕ) → length w.frames ≤ j → is_in j done ≡ false) → Called w done → (e : WorldEvent) → Called (occurs w e) (done_after w done e)
occurs_called w done ok below k (Calls address now) = calls_called w done address now below k
occurs_called w done ok below k (Locally b x c) = quiet_called w (occurs w (Locally b x c)) done (locally_onward w b x (call_end c) (λ e. refl) (λ e. refl)) k
occurs_called w done ok below k (Times b x now) = quiet_called w (occurs w (Times b x now)) done (times_onward w b x now) k
occurs_called w done ok below k (Moves b x now) = quiet_called w (occurs w (Moves b x now)) done (locally_onward w b x (λ e. record e { moment = now }) (λ e. refl) (λ e. refl)) k
occurs_called w done ok below k (Delivers i now g) = deliver_called w done i now g ok below k (slice_get w.frames i) refl
occurs_called w done ok below k (Injects b from bit d s now g m) = quiet_called w (occurs w (Injects b from bit d s now g m)) done (injects_onward w b from bit d s now g m) k
occurs_called w done ok below k (Ends b x r) = quiet_called w (occurs w (Ends b x r)) done (ends_onward w b x r) k
occurs_called w done ok below k (Lapses b x r) = quiet_called w (occurs w (Lapses b x r)) done (lapses_onward w b x r) k
occurs_called w done ok below k (Stops b to d s r) = quiet_called w (occurs w (Stops b to d s r)) done (stops_onward w b to d s r) k

pub go_on_called : (es : List WorldEvent) (w : World) (done : List ℕ) → WorldOk w → Kinds w → Carried w done → Called w done → Orderly w done es → Called (go_on es w) (done_all w done es)
go_on_called [] w done ok kd k c o = c
go_on_called (e ∷ es) w done ok kd k c o = go_on_called es (occurs w e) (done_after w done e) (occurs_ok w ok e) (occurs_kinds w kd e) (occurs_carried w done ok kd k e o.0) (occurs_called w done ok k.below c e) o.1

pub open_called : (s n i j : ℕ) (u v : Setup) → Called (open_world s n i j u v) []
open_called s n i j u v p home l r = absurd (false≢true l)
