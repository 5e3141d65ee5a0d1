-- A new circuit, a new slave and a first reply keep what is known of the circuits of a server and a node.
use Rattle.std.proofs.Common.{◌≡◌, ℕ, suc, ◌≤◌, ◌⊎◌, inl, inr, ⊎_elim, sym, ap, ◌∙◌, refl, subst, arith, Bool, true, false, cond, List, [], ◌∷◌, min, nat_eq, append-nil, eqb-true}
use Rattle.std.proofs.lemmas.Bool.{true≢false, false≢true, eqb-false, true_from_ne_false}
use Rattle.lat_model.specs.sessions.Slots.{Slot}
use Rattle.lat_model.specs.sessions.Calls.{Call}
use Rattle.lat_model.specs.numbers.Link.{Frame}
use Rattle.lat_model.specs.Lists.{Each}
use Rattle.lat_model.specs.numbers.NetOk.{FrameOf}
use Rattle.lat_model.specs.ends.End.{Sent, Run, CallStart, ReplyStart, Stopped, End, Step, lives, call_end}
use Rattle.lat_model.specs.ends.Timers.{note_empty}
use Rattle.lat_model.specs.ends.Starting.{Agreed, reply_end, make_slave}
use Rattle.lat_model.specs.circuits.Together.{Together}
use Rattle.lat_model.specs.circuits.World.{CircuitEntry, World, put_circuit, at_end, first_end, no_circuit}
use Rattle.lat_model.specs.circuits.Events.{Calls, occurs}
use Rattle.lat_model.specs.circuits.WorldOk.{void_half, mate, Idle, Joint, Replied, ByServer, ByNode, FromSender, WorldOk}
use Rattle.lat_model.proofs.sessions.Words.{upd_same, upd_other, upd_field, upd_all}
use Rattle.lat_model.proofs.numbers.Net.{each_imp, each_append}
use Rattle.lat_model.proofs.circuits.Halves.{Sides, sides_call}
use Rattle.lat_model.proofs.circuits.Pairs.{StepOk, agree_sides}
use Rattle.lat_model.proofs.circuits.Kin.{Kin, call_master}
use Rattle.lat_model.proofs.circuits.Worlds.{joint_decides, idle_together, void_together, server_put, node_put, NodeKept, Beside, Alone}
use Rattle.lat_model.specs.circuits.Ids.{is_drawn, next_id}
use Rattle.lat_model.proofs.circuits.Ids.{drawn_apart, drawn_not, next_new, drawn_behind, next_some, undrawn_other, next_drawn, undrawn_before}

-- a circuit that lives was drawn

pub server_alive : (w : World) (x : ℕ) → WorldOk w → lives (w.server.circuit_at x).end ≡ true → is_drawn w.server x ≡ true
server_alive w x ok h = true_from_ne_false (is_drawn w.server x) (λ i. false≢true (sym (ap (λ (z : CircuitEntry). lives z.end) (ok.none_server x i)) ∙ h))

pub node_alive : (w : World) (x : ℕ) → WorldOk w → lives (w.node.circuit_at x).end ≡ true → is_drawn w.node x ≡ true
node_alive w x ok h = true_from_ne_false (is_drawn w.node x) (λ i. false≢true (sym (ap (λ (z : CircuitEntry). lives z.end) (ok.none_node x i)) ∙ h))

-- a step that leaves an idle slave idle
pub node_kept : (w : World) (x : ℕ) (st : Step) → WorldOk w → StepOk false (w.node.circuit_at x).end.half (w.node.circuit_at x).end.window st → (Idle (w.node.circuit_at x).end → Idle st.end) → (w.node.circuit_at x).address ≡ w.server.own → NodeKept w x st
node_kept w x st ok k i h =
    ⊎_elim {C = NodeKept w x st}
    (λ j. Beside j (λ ps. k (w.server.circuit_at (w.node.circuit_at x).end.peer).end.half ps (ok.windows x).1))
    (λ n. Alone n (i (ok.idle x h n)) (λ ps. k (void_half true) ps (ok.windows x).1))
    (joint_decides w x)

pub kin_window : (e f : End) → Kin e f → e.window ≤ 8 → f.window ≤ 8
kin_window e f k h = subst (λ z. z ≤ 8) (sym k.window) h

-- the steps of a living circuit that no frame with a message brings

pub quiet_server : (w : World) (x : ℕ) (st : Step) → WorldOk w → lives (w.server.circuit_at x).end ≡ true → Kin (w.server.circuit_at x).end st.end → StepOk true (w.server.circuit_at x).end.half (w.server.circuit_at x).end.window st → WorldOk (at_end w true x st)
quiet_server w x st ok l kin k = server_put w x st ok (server_alive w x ok l) kin (kin_window (w.server.circuit_at x).end st.end kin (ok.windows x).0) (λ h ps. k (mate w x) ps (ok.windows x).0)

pub quiet_node : (w : World) (x : ℕ) (st : Step) → WorldOk w → lives (w.node.circuit_at x).end ≡ true → Kin (w.node.circuit_at x).end st.end → StepOk false (w.node.circuit_at x).end.half (w.node.circuit_at x).end.window st → (Idle (w.node.circuit_at x).end → Idle st.end) → WorldOk (at_end w false x st)
quiet_node w x st ok l kin k i = node_put w x st ok (node_alive w x ok l) kin (kin_window (w.node.circuit_at x).end st.end kin (ok.windows x).1) (node_kept w x st ok k i)

pub moved_ok : (b : Bool) (now : ℕ) (e : End) → StepOk b e.half e.window (record { end = record e { moment = now }; sent = [] })
moved_ok b now e o ps i t = record { sides = subst (Sides b e.half o) (sym (append-nil ps)) t; window = i }

pub call_step_ok : (b : Bool) (c : Call) (e : End) → StepOk b e.half e.window (record { end = call_end c e; sent = [] })
call_step_ok b c e o ps i t = record { sides = subst (Sides b (call_end c e).half o) (sym (append-nil ps)) (sides_call b e.half o ps c t); window = i }

pub kin_call : (c : Call) (e : End) → Kin e (call_end c e)
kin_call c e = record { peer = refl; running = refl; master = refl; window = refl; wide = refl; sessions = call_master e.half.sessions c }

pub world_cond : (c : Bool) (v w : World) → (c ≡ true → WorldOk v) → WorldOk w → WorldOk (cond c v w)
world_cond true v w p q = p refl
world_cond false v w p q = q

-- a new circuit of the server

pub calls_ok : (w : World) → WorldOk w → (address now : ℕ) → WorldOk (occurs w (Calls address now))
calls_ok w ok address now = record {
  apart = ok.apart;
  ceiling = ok.ceiling;
  other_ceiling = ok.other_ceiling;
  matched = matched;
  replied = λ p h r. replied p (nat_eq p x) refl h r (ok.replied p);
  calling = λ p. calling p (nat_eq p x);
  idle = λ q h nj. ok.idle q h (λ j. nj (joint q j (nat_eq (w.node.circuit_at q).end.peer x) refl));
  says = each_append (λ f. FromSender v f.by_server f.circuit f.to f.destination f.source f.sent) w.frames (record { by_server = true; circuit = x; to = address; destination = 0; source = x; sent = CallStart } ∷ [])
      (each_imp (λ f. FromSender w f.by_server f.circuit f.to f.destination f.source f.sent) (λ f. FromSender v f.by_server f.circuit f.to f.destination f.source f.sent) (λ f. says f.by_server f.circuit f.to f.destination f.source f.sent) w.frames ok.says)
      (tt, tt);
  none_server = λ k h. upd_other w.server.circuit_at x c' k (undrawn_other w.server.first w.server.drawn k h) ∙ ok.none_server k (undrawn_before w.server.first w.server.drawn k h);
  none_node = ok.none_node;
  windows = λ k. (upd_all (λ (z : CircuitEntry). z.end.window ≤ 8) w.server.circuit_at x c' (omega arith) (λ j. (ok.windows j).0) k, (ok.windows k).1);
}
  where
    x : ℕ
    x = next_id w.server

    e : End
    e = record (first_end true true w.setup) { moment = now; due_at = now; sent_at = now; start_at = now }

    c' : CircuitEntry
    c' = record { address = address; end = e }

    v : World
    v = occurs w (Calls address now)

    none : w.server.circuit_at x ≡ no_circuit true w.setup
    none = ok.none_server x (next_new w.server.first w.server.drawn)

    matched : (p : ℕ) → (v.server.circuit_at p).address ≡ w.node.own → Together (v.server.circuit_at p).end.half (mate v p) []
    matched p h = go (nat_eq p x) h (ok.matched p)
      where
        go : (b : Bool) → (cond b c' (w.server.circuit_at p)).address ≡ w.node.own → ((w.server.circuit_at p).address ≡ w.node.own → Together (w.server.circuit_at p).end.half (mate w p) []) → Together (cond b c' (w.server.circuit_at p)).end.half (cond (cond b c' (w.server.circuit_at p)).end.running (w.node.circuit_at (cond b c' (w.server.circuit_at p)).end.peer).end.half (void_half false)) []
        go true h m = void_together (min w.setup.sessions 64) w.setup.ceiling 0 0 (omega arith) (omega arith) ok.ceiling (omega arith)
        go false h m = m h

    replied : (p : ℕ) (b : Bool) → nat_eq p x ≡ b → (cond b c' (w.server.circuit_at p)).address ≡ w.node.own → (cond b c' (w.server.circuit_at p)).end.running ≡ true → ((w.server.circuit_at p).address ≡ w.node.own → (w.server.circuit_at p).end.running ≡ true → Replied w p) → Replied v p
    replied p true i h r o = absurd (false≢true r)
    replied p false i h r o =
        let k : Replied w p = o h r in
        let same : (v.server.circuit_at p) ≡ w.server.circuit_at p = upd_other w.server.circuit_at x c' p (eqb-false p x i) in
        let sp : (v.server.circuit_at p).end.peer ≡ (w.server.circuit_at p).end.peer = ap (λ (z : CircuitEntry). z.end.peer) same in
        record { some = λ q. k.some (sym sp ∙ q); drawn = subst (λ z. is_drawn w.node z ≡ true) (sym sp) k.drawn; address = ap (λ z. (w.node.circuit_at z).address) sp ∙ k.address; peer = ap (λ z. (w.node.circuit_at z).end.peer) sp ∙ k.peer }

    calling : (p : ℕ) (b : Bool) → (cond b c' (w.server.circuit_at p)).end.running ≡ false → (cond b c' (w.server.circuit_at p)).end.peer ≡ 0
    calling p true r = refl
    calling p false r = ok.calling p r

    joint : (q : ℕ) → Joint w q → (b : Bool) → nat_eq (w.node.circuit_at q).end.peer x ≡ b → Joint v q
    joint q j true i = absurd (false≢true (sym (ap (λ (z : CircuitEntry). z.end.running) (ap w.server.circuit_at (eqb-true (w.node.circuit_at q).end.peer x i) ∙ none)) ∙ j.running))
    joint q j false i =
        let same : v.server.circuit_at (w.node.circuit_at q).end.peer ≡ w.server.circuit_at (w.node.circuit_at q).end.peer = upd_other w.server.circuit_at x c' (w.node.circuit_at q).end.peer (eqb-false (w.node.circuit_at q).end.peer x i) in
        record { address = ap (λ (z : CircuitEntry). z.address) same ∙ j.address; running = ap (λ (z : CircuitEntry). z.end.running) same ∙ j.running; peer = ap (λ (z : CircuitEntry). z.end.peer) same ∙ j.peer }

    says : (b : Bool) (y to d s : ℕ) (m : Sent) → FromSender w b y to d s m → FromSender v b y to d s m
    says true y to d s (Run k a f) h = λ t.
        let o : ((w.server.circuit_at y).address ≡ w.node.own) × ByServer w y d s f = h t in
        let same : v.server.circuit_at y ≡ w.server.circuit_at y = upd_other w.server.circuit_at x c' y (drawn_apart w.server.first w.server.drawn y o.1.drawn) in (
          ap (λ (z : CircuitEntry). z.address) same ∙ o.0,
          record {
            source = o.1.source;
            destination = ⊎_elim {C = (d ≡ 0) ⊎ (((v.server.circuit_at y).end.running ≡ true) × (d ≡ (v.server.circuit_at y).end.peer))} (λ z. inl z) (λ z. inr (ap (λ (u : CircuitEntry). u.end.running) same ∙ z.0, z.1 ∙ sym (ap (λ (u : CircuitEntry). u.end.peer) same))) o.1.destination;
            drawn = drawn_behind w.server.first w.server.drawn y o.1.drawn;
            frame = subst (λ (u : CircuitEntry). FrameOf (List Slot) u.end.half.link f) (sym same) o.1.frame;
          },
        )
    says false y to d s (Run k a f) h = λ t. let o : ByNode w y d s × FrameOf (List Slot) (w.node.circuit_at y).end.half.link f = h t in (record { source = o.0.source; some = o.0.some; drawn = o.0.drawn; address = o.0.address; destination = o.0.destination }, o.1)
    says true y to d s ReplyStart h = tt
    says false y to d s ReplyStart h = λ t. let o : ByNode w y d s = h t in record { source = o.source; some = o.some; drawn = o.drawn; address = o.address; destination = o.destination }
    says true y to d s CallStart h = tt
    says false y to d s CallStart h = tt
    says true y to d s (Stopped r) h = tt
    says false y to d s (Stopped r) h = tt

-- a new slave of the node

pub make_put : (w : World) → WorldOk w → (from source now : ℕ) (g : Agreed) → WorldOk (put_circuit w false (suc w.node.drawn) (next_id w.node) from (make_slave now source g (first_end false false w.other)))
make_put w ok from source now g = record {
  apart = ok.apart;
  ceiling = ok.ceiling;
  other_ceiling = ok.other_ceiling;
  matched = λ p h. matched p h (w.server.circuit_at p).end.running refl (ok.matched p h);
  replied = λ p h r.
      let o : Replied w p = ok.replied p h r in
      let same : v.node.circuit_at (w.server.circuit_at p).end.peer ≡ w.node.circuit_at (w.server.circuit_at p).end.peer = old (w.server.circuit_at p).end.peer o.drawn in
      record { some = o.some; drawn = drawn_behind w.node.first w.node.drawn (w.server.circuit_at p).end.peer o.drawn; address = ap (λ (z : CircuitEntry). z.address) same ∙ o.address; peer = ap (λ (z : CircuitEntry). z.end.peer) same ∙ o.peer };
  calling = ok.calling;
  idle = λ q h nj. idle q (nat_eq q x) refl h nj;
  says = each_append (λ f. FromSender v f.by_server f.circuit f.to f.destination f.source f.sent) w.frames (record { by_server = false; circuit = x; to = from; destination = source; source = x; sent = ReplyStart } ∷ [])
      (each_imp (λ f. FromSender w f.by_server f.circuit f.to f.destination f.source f.sent) (λ f. FromSender v f.by_server f.circuit f.to f.destination f.source f.sent) (λ f. says f.by_server f.circuit f.to f.destination f.source f.sent) w.frames ok.says)
      (λ t. record { source = refl; some = next_some w.node.first w.node.drawn; drawn = next_drawn w.node.first w.node.drawn; address = ap (λ (z : CircuitEntry). z.address) (upd_same w.node.circuit_at x c') ∙ t; destination = sym (ap (λ (z : CircuitEntry). z.end.peer) (upd_same w.node.circuit_at x c')) }, tt);
  none_server = ok.none_server;
  none_node = λ k h. upd_other w.node.circuit_at x c' k (undrawn_other w.node.first w.node.drawn k h) ∙ ok.none_node k (undrawn_before w.node.first w.node.drawn k h);
  windows = λ k. ((ok.windows k).0, upd_all (λ (z : CircuitEntry). z.end.window ≤ 8) w.node.circuit_at x c' (omega arith) (λ j. (ok.windows j).1) k);
}
  where
    x : ℕ
    x = next_id w.node

    e : End
    e = (make_slave now source g (first_end false false w.other)).end

    c' : CircuitEntry
    c' = record { address = from; end = e }

    v : World
    v = put_circuit w false (suc w.node.drawn) x from (make_slave now source g (first_end false false w.other))

    old : (q : ℕ) → is_drawn w.node q ≡ true → v.node.circuit_at q ≡ w.node.circuit_at q
    old q h = upd_other w.node.circuit_at x c' q (drawn_apart w.node.first w.node.drawn q h)

    matched : (p : ℕ) → (w.server.circuit_at p).address ≡ w.node.own → (r : Bool) → (w.server.circuit_at p).end.running ≡ r → Together (w.server.circuit_at p).end.half (cond r (w.node.circuit_at (w.server.circuit_at p).end.peer).end.half (void_half false)) [] → Together (w.server.circuit_at p).end.half (cond r (v.node.circuit_at (w.server.circuit_at p).end.peer).end.half (void_half false)) []
    matched p h false r t = t
    matched p h true r t = subst (λ (z : CircuitEntry). Together (w.server.circuit_at p).end.half z.end.half []) (sym (old (w.server.circuit_at p).end.peer (ok.replied p h r).drawn)) t

    new_idle : Idle e
    new_idle = record { link = refl; agreed = min g.sessions (min w.other.sessions 64); ceiling = w.other.ceiling; agreed_low = omega arith; ceiling_low = ok.other_ceiling; sessions = refl; heard_run = refl; master = refl }

    idle : (q : ℕ) (b : Bool) → nat_eq q x ≡ b → (cond b c' (w.node.circuit_at q)).address ≡ w.server.own → (Joint v q → ⊥) → Idle (cond b c' (w.node.circuit_at q)).end
    idle q true i h nj = new_idle
    idle q false i h nj =
        let same : v.node.circuit_at q ≡ w.node.circuit_at q = upd_other w.node.circuit_at x c' q (eqb-false q x i) in
        let sp : (v.node.circuit_at q).end.peer ≡ (w.node.circuit_at q).end.peer = ap (λ (z : CircuitEntry). z.end.peer) same in
        ok.idle q h (λ j. nj (record { address = ap (λ z. (w.server.circuit_at z).address) sp ∙ j.address; running = ap (λ z. (w.server.circuit_at z).end.running) sp ∙ j.running; peer = ap (λ z. (w.server.circuit_at z).end.peer) sp ∙ j.peer }))

    by_node : (y d s : ℕ) → ByNode w y d s → ByNode v y d s
    by_node y d s o = record { source = o.source; some = o.some; drawn = drawn_behind w.node.first w.node.drawn y o.drawn; address = ap (λ (z : CircuitEntry). z.address) (old y o.drawn) ∙ o.address; destination = o.destination ∙ sym (ap (λ (z : CircuitEntry). z.end.peer) (old y o.drawn)) }

    says : (b : Bool) (y to d s : ℕ) (m : Sent) → FromSender w b y to d s m → FromSender v b y to d s m
    says true y to d s (Run k a f) h = λ t. let o : ((w.server.circuit_at y).address ≡ w.node.own) × ByServer w y d s f = h t in (o.0, record { source = o.1.source; destination = o.1.destination; drawn = o.1.drawn; frame = o.1.frame })
    says false y to d s (Run k a f) h = λ t. let o : ByNode w y d s × FrameOf (List Slot) (w.node.circuit_at y).end.half.link f = h t in (by_node y d s o.0, subst (λ (z : CircuitEntry). FrameOf (List Slot) z.end.half.link f) (sym (old y o.0.drawn)) o.1)
    says true y to d s ReplyStart h = tt
    says false y to d s ReplyStart h = λ t. by_node y d s (h t)
    says true y to d s CallStart h = tt
    says false y to d s CallStart h = tt
    says true y to d s (Stopped r) h = tt
    says false y to d s (Stopped r) h = tt

-- the first reply: from now on the master runs beside the slave that sent it

pub reply_put : (w : World) (x now source : ℕ) (g : Agreed) → WorldOk w → is_drawn w.server x ≡ true → (w.server.circuit_at x).end.running ≡ false → ((w.server.circuit_at x).address ≡ w.node.own → (source ≡ 0 → ⊥) × (is_drawn w.node source ≡ true) × ((w.node.circuit_at source).address ≡ w.server.own) × ((w.node.circuit_at source).end.peer ≡ x)) → WorldOk (at_end w true x (record { end = reply_end now source g (w.server.circuit_at x).end; sent = [] }))
reply_put w x now source g ok dr idle_yet facts = record {
  apart = ok.apart;
  ceiling = ok.ceiling;
  other_ceiling = ok.other_ceiling;
  matched = λ p h. matched p (nat_eq p x) refl h (ok.matched p);
  replied = λ p h r. replied p (nat_eq p x) refl h r;
  calling = λ p. calling p (nat_eq p x);
  idle = λ q h nj. ok.idle q h (λ j. nj (joint q j (nat_eq (w.node.circuit_at q).end.peer x) refl));
  says = subst (Each (λ f. FromSender v f.by_server f.circuit f.to f.destination f.source f.sent)) (sym (append-nil w.frames))
      (each_imp (λ f. FromSender w f.by_server f.circuit f.to f.destination f.source f.sent) (λ f. FromSender v f.by_server f.circuit f.to f.destination f.source f.sent) (λ f. says f.by_server f.circuit f.to f.destination f.source f.sent) w.frames ok.says);
  none_server = λ k h. upd_other w.server.circuit_at x c' k (drawn_not w.server.first w.server.drawn k x h dr) ∙ ok.none_server k h;
  none_node = ok.none_node;
  windows = λ k. (upd_all (λ (z : CircuitEntry). z.end.window ≤ 8) w.server.circuit_at x c' (omega arith) (λ j. (ok.windows j).0) k, (ok.windows k).1);
}
  where
    c : CircuitEntry
    c = w.server.circuit_at x

    e : End
    e = (note_empty c.end (record { end = reply_end now source g c.end; sent = [] })).end

    c' : CircuitEntry
    c' = record { address = c.address; end = e }

    v : World
    v = at_end w true x (record { end = reply_end now source g c.end; sent = [] })

    alone : c.address ≡ w.node.own → Together c.end.half (void_half false) []
    alone h = subst (λ r. Together c.end.half (cond r (w.node.circuit_at c.end.peer).end.half (void_half false)) []) idle_yet (ok.matched x h)

    not_joint : c.address ≡ w.node.own → Joint w source → ⊥
    not_joint h j = false≢true (sym idle_yet ∙ ap (λ z. (w.server.circuit_at z).end.running) (sym (facts h).3) ∙ j.running)

    beside : c.address ≡ w.node.own → Together e.half (w.node.circuit_at source).end.half []
    beside h = idle_together e.half (w.node.circuit_at source).end (ok.idle source (facts h).2 (not_joint h)) (agree_sides true g c.end.half (void_half false) [] (alone h))

    matched : (p : ℕ) (b : Bool) → nat_eq p x ≡ b → (cond b c' (w.server.circuit_at p)).address ≡ w.node.own → ((w.server.circuit_at p).address ≡ w.node.own → Together (w.server.circuit_at p).end.half (mate w p) []) → Together (cond b c' (w.server.circuit_at p)).end.half (cond (cond b c' (w.server.circuit_at p)).end.running (w.node.circuit_at (cond b c' (w.server.circuit_at p)).end.peer).end.half (void_half false)) []
    matched p true i h m = beside h
    matched p false i h m = m h

    replied : (p : ℕ) (b : Bool) → nat_eq p x ≡ b → (cond b c' (w.server.circuit_at p)).address ≡ w.node.own → (cond b c' (w.server.circuit_at p)).end.running ≡ true → Replied v p
    replied p true i h r =
        let j : p ≡ x = eqb-true p x i in
        let same : (v.server.circuit_at p).end.peer ≡ source = ap (λ z. (v.server.circuit_at z).end.peer) j ∙ ap (λ (z : CircuitEntry). z.end.peer) (upd_same w.server.circuit_at x c') in
        record { some = λ q. (facts h).0 (sym same ∙ q); drawn = subst (λ z. is_drawn w.node z ≡ true) (sym same) (facts h).1; address = ap (λ z. (w.node.circuit_at z).address) same ∙ (facts h).2; peer = ap (λ z. (w.node.circuit_at z).end.peer) same ∙ (facts h).3 ∙ sym j }
    replied p false i h r =
        let k : Replied w p = ok.replied p h r in
        let sp : (v.server.circuit_at p).end.peer ≡ (w.server.circuit_at p).end.peer = ap (λ (z : CircuitEntry). z.end.peer) (upd_other w.server.circuit_at x c' p (eqb-false p x i)) in
        record { some = λ q. k.some (sym sp ∙ q); drawn = subst (λ z. is_drawn w.node z ≡ true) (sym sp) k.drawn; address = ap (λ z. (w.node.circuit_at z).address) sp ∙ k.address; peer = ap (λ z. (w.node.circuit_at z).end.peer) sp ∙ k.peer }

    calling : (p : ℕ) (b : Bool) → (cond b c' (w.server.circuit_at p)).end.running ≡ false → (cond b c' (w.server.circuit_at p)).end.peer ≡ 0
    calling p true r = absurd (true≢false r)
    calling p false r = ok.calling p r

    joint : (q : ℕ) → Joint w q → (b : Bool) → nat_eq (w.node.circuit_at q).end.peer x ≡ b → Joint v q
    joint q j true i = absurd (false≢true (sym (ap (λ z. (w.server.circuit_at z).end.running) (eqb-true (w.node.circuit_at q).end.peer x i) ∙ idle_yet) ∙ j.running))
    joint q j false i =
        let same : v.server.circuit_at (w.node.circuit_at q).end.peer ≡ w.server.circuit_at (w.node.circuit_at q).end.peer = upd_other w.server.circuit_at x c' (w.node.circuit_at q).end.peer (eqb-false (w.node.circuit_at q).end.peer x i) in
        record { address = ap (λ (z : CircuitEntry). z.address) same ∙ j.address; running = ap (λ (z : CircuitEntry). z.end.running) same ∙ j.running; peer = ap (λ (z : CircuitEntry). z.end.peer) same ∙ j.peer }

    frame : (y : ℕ) (f : Frame (List Slot)) (b : Bool) → nat_eq y x ≡ b → FrameOf (List Slot) (w.server.circuit_at y).end.half.link f → FrameOf (List Slot) (cond b c' (w.server.circuit_at y)).end.half.link f
    frame y f true i h = subst (λ z. FrameOf (List Slot) (w.server.circuit_at z).end.half.link f) (eqb-true y x i) h
    frame y f false i h = h

    destination : (y d : ℕ) (b : Bool) → nat_eq y x ≡ b → (d ≡ 0) ⊎ (((w.server.circuit_at y).end.running ≡ true) × (d ≡ (w.server.circuit_at y).end.peer)) → (d ≡ 0) ⊎ (((cond b c' (w.server.circuit_at y)).end.running ≡ true) × (d ≡ (cond b c' (w.server.circuit_at y)).end.peer))
    destination y d true i h = ⊎_elim {C = (d ≡ 0) ⊎ ((true ≡ true) × (d ≡ source))} (λ z. inl z) (λ z. absurd (false≢true (sym (ap (λ u. (w.server.circuit_at u).end.running) (eqb-true y x i) ∙ idle_yet) ∙ z.0))) h
    destination y d false i h = h

    says : (b : Bool) (y to d s : ℕ) (m : Sent) → FromSender w b y to d s m → FromSender v b y to d s m
    says true y to d s (Run k a f) h = λ t.
        let o : ((w.server.circuit_at y).address ≡ w.node.own) × ByServer w y d s f = h t in
        (upd_field (λ (z : CircuitEntry). z.address) w.server.circuit_at x c' refl y ∙ o.0, record { source = o.1.source; destination = destination y d (nat_eq y x) refl o.1.destination; drawn = o.1.drawn; frame = frame y f (nat_eq y x) refl o.1.frame })
    says false y to d s (Run k a f) h = λ t. let o : ByNode w y d s × FrameOf (List Slot) (w.node.circuit_at y).end.half.link f = h t in (record { source = o.0.source; some = o.0.some; drawn = o.0.drawn; address = o.0.address; destination = o.0.destination }, o.1)
    says true y to d s ReplyStart h = tt
    says false y to d s ReplyStart h = λ t. let o : ByNode w y d s = h t in record { source = o.source; some = o.some; drawn = o.drawn; address = o.address; destination = o.destination }
    says true y to d s CallStart h = tt
    says false y to d s CallStart h = tt
    says true y to d s (Stopped r) h = tt
    says false y to d s (Stopped r) h = tt
