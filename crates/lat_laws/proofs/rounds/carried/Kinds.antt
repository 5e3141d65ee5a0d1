-- Each event keeps the circuits of the server masters, and those of the node slaves that run.
use Rattle.std.proofs.Common.{◌≡◌, ℕ, suc, sym, ◌∙◌, refl, Bool, true, false, not, cond, ◌&&◌, ◌||◌, List, [], ◌∷◌, Option, Some, None, nat_eq, nat_lt, slice_get}
use Rattle.std.proofs.lemmas.Bool.{true≢false, false≢true, and_parts, eqb-false}
use Rattle.lat_model.specs.Lists.{least}
use Rattle.lat_model.specs.ends.End.{Sent, Run, CallStart, ReplyStart, Stopped, End, Step, still, lives, call_end, finish, lapse}
use Rattle.lat_model.specs.ends.Timers.{note_empty, time_step}
use Rattle.lat_model.specs.ends.Run.{run_end}
use Rattle.lat_model.specs.ends.Starting.{Agreed, Setup, reply_end, make_slave, again_start, hear_reply, hear_stop}
use Rattle.lat_model.specs.circuits.World.{CircuitEntry, Wired, World, table, with_table, put_circuit, at_end, first_end}
use Rattle.lat_model.specs.circuits.Arriving.{is_of, living, slave_of, start_in, arrive}
use Rattle.lat_model.specs.circuits.Events.{WorldEvent, Calls, Locally, Times, Moves, Delivers, Injects, deliver_in, occurs, go_on, open_world, Ends, Lapses, Stops}
use Rattle.lat_model.proofs.sessions.Words.{upd_all}
use Rattle.lat_model.proofs.circuits.Kin.{Kin, kin_time, kin_run, kin_again, kin_stop}
use Rattle.lat_model.proofs.circuits.Begins.{kin_call}
use Rattle.lat_model.specs.circuits.Ids.{next_id, ids}
use Rattle.lat_laws.specs.rounds.Carried.{server_end, node_end, Kinds}

kinds_cond : (c : Bool) (v w : World) → (c ≡ true → Kinds v) → Kinds w → Kinds (cond c v w)
kinds_cond true v w p q = p refl
kinds_cond false v w p q = q

abbrev Slave : CircuitEntry → Type 0
Slave c = lives c.end ≡ true → c.end.running ≡ true

server_kinds : (w : World) (x : ℕ) (st : Step) → st.end.master ≡ (server_end w x).master → Kinds w → Kinds (at_end w true x st)
server_kinds w x st m k = record { masters = λ y. upd_all (λ (z : CircuitEntry). z.end.master ≡ true) w.server.circuit_at x (record { address = (w.server.circuit_at x).address; end = (note_empty (server_end w x) st).end }) (m ∙ k.masters x) k.masters y; slaves = k.slaves; runs = k.runs }

node_kinds : (w : World) (x : ℕ) (st : Step) → st.end.master ≡ (node_end w x).master → (lives st.end ≡ true → st.end.running ≡ true) → Kinds w → Kinds (at_end w false x st)
node_kinds w x st m r k =
    let c' : CircuitEntry = record { address = (w.node.circuit_at x).address; end = (note_empty (node_end w x) st).end } in
    record {
      masters = k.masters;
      slaves = λ y. upd_all (λ (z : CircuitEntry). z.end.master ≡ false) w.node.circuit_at x c' (m ∙ k.slaves x) k.slaves y;
      runs = λ y. upd_all Slave w.node.circuit_at x c' r k.runs y;
    }

-- a step of a slave that lives
node_kin : (w : World) (x : ℕ) (st : Step) → lives (node_end w x) ≡ true → Kin (node_end w x) st.end → Kinds w → Kinds (at_end w false x st)
node_kin w x st l kin k = node_kinds w x st kin.master (λ h. kin.running ∙ k.runs x l) k

make_kinds : (w : World) (from source now : ℕ) (g : Agreed) → Kinds w → Kinds (put_circuit w false (suc w.node.drawn) (next_id w.node) from (make_slave now source g (first_end false false w.other)))
make_kinds w from source now g k =
    let c' : CircuitEntry = record { address = from; end = (make_slave now source g (first_end false false w.other)).end } in
    record {
      masters = k.masters;
      slaves = λ y. upd_all (λ (z : CircuitEntry). z.end.master ≡ false) w.node.circuit_at (next_id w.node) c' refl k.slaves y;
      runs = λ y. upd_all Slave w.node.circuit_at (next_id w.node) c' (λ h. refl) k.runs y;
    }

stop_kin : (now r : ℕ) (e : End) → (lives e ≡ true → e.running ≡ true) → lives (hear_stop now r e).end ≡ true → (hear_stop now r e).end.running ≡ true
stop_kin now r e h = go (lives e) refl
  where
    go : (b : Bool) → lives e ≡ b → lives (cond {A = Step} b (record { end = record e { ended = Some r; moment = now }; sent = [] }) (record { end = e; sent = [] })).end ≡ true → (cond {A = Step} b (record { end = record e { ended = Some r; moment = now }; sent = [] }) (record { end = e; sent = [] })).end.running ≡ true
    go true q l = absurd (false≢true l)
    go false q l = absurd (true≢false (sym l ∙ q))

reply_master : (now s : ℕ) (g : Agreed) (e : End) → (hear_reply now s g e).end.master ≡ e.master
reply_master now s g e = go (lives e) e.running
  where
    go : (a b : Bool) → (cond {A = Step} a (cond b (record { end = record e { moment = now; heard_at = now }; sent = [] }) (record { end = reply_end now s g e; sent = [] })) (record { end = e; sent = [] })).end.master ≡ e.master
    go true true = refl
    go true false = refl
    go false b = refl

pub least_passes : (p : ℕ → Bool) (xs : List ℕ) → (least p xs ≡ 0 → ⊥) → p (least p xs) ≡ true
least_passes p [] n = absurd (n refl)
least_passes p (x ∷ xs) n = go (p x) refl (least_passes p xs) n
  where
    go : (b : Bool) → p x ≡ b → ((least p xs ≡ 0 → ⊥) → p (least p xs) ≡ true) → (cond b x (least p xs) ≡ 0 → ⊥) → p (cond b x (least p xs)) ≡ true
    go true e ih n = e
    go false e ih n = ih n

start_kinds : (w : World) (from s now : ℕ) (g : Agreed) → Kinds w → Kinds (start_in w from s now g)
start_kinds w from s now g k = go (nat_eq x 0) refl (nat_lt (living w.node) 8 && nat_lt w.node.drawn 65535)
  where
    x : ℕ
    x = slave_of w.node from s

    test : ℕ → Bool
    test i = is_of (w.node.circuit_at i) from s && lives (w.node.circuit_at i).end

    go : (b : Bool) → nat_eq x 0 ≡ b → (c : Bool) → Kinds (cond b (cond c (put_circuit w false (suc w.node.drawn) (next_id w.node) from (make_slave now s g (first_end false false w.other))) (with_table w false w.node (record { by_server = false; circuit = 0; to = from; destination = s; source = 0; sent = Stopped 7 } ∷ []))) (at_end w false x (again_start now (node_end w x))))
    go true q true = make_kinds w from s now g k
    go true q false = record { masters = k.masters; slaves = k.slaves; runs = k.runs }
    go false q c = node_kin w x (again_start now (node_end w x)) (and_parts (is_of (w.node.circuit_at x) from s) (lives (node_end w x)) (least_passes test (ids w.node) (eqb-false x 0 q))).1 (kin_again now (node_end w x)) k

arrive_kinds : (w : World) → Kinds w → (b : Bool) (from : ℕ) (bit : Bool) (d s now : ℕ) (g : Agreed) (m : Sent) → Kinds (arrive w b from bit d s now g m)
arrive_kinds w k true from bit d s now g (Run mark a f) = kinds_cond (is_of (w.server.circuit_at d) from s && lives (server_end w d) && (server_end w d).running && cond bit (not (server_end w d).master) (server_end w d).master) (at_end w true d (run_end now a f (server_end w d)).step) w (λ h. server_kinds w d (run_end now a f (server_end w d)).step (kin_run now a f (server_end w d)).master k) k
arrive_kinds w k false from bit d s now g (Run mark a f) =
    let e : End = node_end w d in
    kinds_cond (is_of (w.node.circuit_at d) from s && lives e && e.running && cond bit (not e.master) e.master) (at_end w false d (run_end now a f e).step) w
    (λ h. node_kin w d (run_end now a f e).step (and_parts (is_of (w.node.circuit_at d) from s) (lives e) (and_parts (is_of (w.node.circuit_at d) from s && lives e) e.running (and_parts (is_of (w.node.circuit_at d) from s && lives e && e.running) (cond bit (not e.master) e.master) h).0).0).1 (kin_run now a f e) k) k
arrive_kinds w k true from bit d s now g CallStart = k
arrive_kinds w k false from bit d s now g CallStart = start_kinds w from s now g k
arrive_kinds w k true from bit d s now g ReplyStart =
    let c : CircuitEntry = w.server.circuit_at d in
    kinds_cond (nat_eq c.address from && lives c.end && (not c.end.running || nat_eq c.end.peer s)) (at_end w true d (hear_reply now s g c.end)) w (λ h. server_kinds w d (hear_reply now s g c.end) (reply_master now s g c.end) k) k
arrive_kinds w k false from bit d s now g ReplyStart = k
arrive_kinds w k true from bit d s now g (Stopped r) =
    let c : CircuitEntry = w.server.circuit_at d in
    kinds_cond (nat_eq c.address from && (nat_eq c.end.peer s || nat_eq s 0) && lives c.end) (at_end w true d (hear_stop now r c.end)) w (λ h. server_kinds w d (hear_stop now r c.end) (kin_stop now r c.end).master k) k
arrive_kinds w k false from bit d s now g (Stopped r) =
    let c : CircuitEntry = w.node.circuit_at d in
    kinds_cond (nat_eq c.address from && (nat_eq c.end.peer s || nat_eq s 0) && lives c.end) (at_end w false d (hear_stop now r c.end)) w (λ h. node_kinds w d (hear_stop now r c.end) (kin_stop now r c.end).master (stop_kin now r c.end (k.runs d)) k) k

deliver_kinds : (w : World) → Kinds w → (now : ℕ) (g : Agreed) (o : Option Wired) → Kinds (deliver_in w now g o)
deliver_kinds w k now g None = k
deliver_kinds w k now g (Some p) = kinds_cond (nat_eq p.to (table w (not p.by_server)).own) (arrive w (not p.by_server) (table w p.by_server).own p.by_server p.destination p.source now g p.sent) w (λ h. arrive_kinds w k (not p.by_server) (table w p.by_server).own p.by_server p.destination p.source now g p.sent) k

pub occurs_kinds : (w : World) → Kinds w → (e : WorldEvent) → Kinds (occurs w e)
occurs_kinds w k (Calls address now) = record { masters = λ y. upd_all (λ (z : CircuitEntry). z.end.master ≡ true) w.server.circuit_at (next_id w.server) (record { address = address; end = record (first_end true true w.setup) { moment = now; due_at = now; sent_at = now; start_at = now } }) refl k.masters y; slaves = k.slaves; runs = k.runs }
occurs_kinds w k (Locally true x c) = kinds_cond (lives (server_end w x)) (at_end w true x (still (call_end c (server_end w x)))) w (λ l. server_kinds w x (still (call_end c (server_end w x))) refl k) k
occurs_kinds w k (Locally false x c) = kinds_cond (lives (node_end w x)) (at_end w false x (still (call_end c (node_end w x)))) w (λ l. node_kin w x (still (call_end c (node_end w x))) l (kin_call c (node_end w x)) k) k
occurs_kinds w k (Times true x now) = kinds_cond (lives (server_end w x)) (at_end w true x (time_step now (server_end w x))) w (λ l. server_kinds w x (time_step now (server_end w x)) (kin_time now (server_end w x)).master k) k
occurs_kinds w k (Times false x now) = kinds_cond (lives (node_end w x)) (at_end w false x (time_step now (node_end w x))) w (λ l. node_kin w x (time_step now (node_end w x)) l (kin_time now (node_end w x)) k) k
occurs_kinds w k (Moves true x now) = let e : End = server_end w x in kinds_cond (lives e) (at_end w true x (still (record e { moment = now }))) w (λ l. server_kinds w x (still (record e { moment = now })) refl k) k
occurs_kinds w k (Moves false x now) = let e : End = node_end w x in kinds_cond (lives e) (at_end w false x (still (record e { moment = now }))) w (λ l. node_kinds w x (still (record e { moment = now })) refl (λ h. k.runs x l) k) k
occurs_kinds w k (Ends true x r) = kinds_cond (lives (server_end w x)) (at_end w true x (finish r (server_end w x))) w (λ l. server_kinds w x (finish r (server_end w x)) refl k) k
occurs_kinds w k (Ends false x r) = kinds_cond (lives (node_end w x)) (at_end w false x (finish r (node_end w x))) w (λ l. node_kinds w x (finish r (node_end w x)) refl (λ h. k.runs x l) k) k
occurs_kinds w k (Lapses true x r) = kinds_cond (lives (server_end w x)) (at_end w true x (lapse r (server_end w x))) w (λ l. server_kinds w x (lapse r (server_end w x)) refl k) k
occurs_kinds w k (Lapses false x r) = kinds_cond (lives (node_end w x)) (at_end w false x (lapse r (node_end w x))) w (λ l. node_kinds w x (lapse r (node_end w x)) refl (λ h. k.runs x l) k) k
occurs_kinds w k (Stops true to d s r) = record { masters = k.masters; slaves = k.slaves; runs = k.runs }
occurs_kinds w k (Stops false to d s r) = record { masters = k.masters; slaves = k.slaves; runs = k.runs }
occurs_kinds w k (Delivers i now g) = deliver_kinds w k now g (slice_get w.frames i)
occurs_kinds w k (Injects b from bit d s now g m) = go (nat_eq from w.server.own || nat_eq from w.node.own)
  where
    go : (x : Bool) → Kinds (cond x w (arrive w b from bit d s now g m))
    go true = k
    go false = arrive_kinds w k b from bit d s now g m

pub go_on_kinds : (es : List WorldEvent) (w : World) → Kinds w → Kinds (go_on es w)
go_on_kinds [] w k = k
go_on_kinds (e ∷ es) w k = go_on_kinds es (occurs w e) (occurs_kinds w k e)

pub open_kinds : (s n i j : ℕ) (u v : Setup) → Kinds (open_world s n i j u v)
open_kinds s n i j u v = record { masters = λ x. refl; slaves = λ x. refl; runs = λ x h. absurd (false≢true h) }
