-- A step of a circuit of the server by itself keeps what is in flight.
use Rattle.std.proofs.Common.{◌≡◌, ◌≢◌, ℕ, zero, suc, ◌+◌, ◌<◌, ◌≤◌, ◌⊎◌, ⊎_elim, sym, ap, ◌∙◌, refl, subst, arith, Bool, true, false, cond, List, [], ◌∷◌, ◌++◌, length, Some, nat_eq, slice_get, eqb-true, append-nil, length-append}
use Rattle.std.proofs.lemmas.Bool.{true≢false, false≢true, eqb-false, cases_lt}
use Rattle.lat_model.specs.sessions.Slots.{Slot}
use Rattle.lat_model.specs.Lists.{Each}
use Rattle.lat_model.specs.numbers.Link.{Link, Frame, fresh}
use Rattle.lat_model.specs.ends.End.{Sent, Run, CallStart, ReplyStart, Stopped, End, Step, lives}
use Rattle.lat_model.specs.ends.Timers.{note_empty}
use Rattle.lat_model.specs.circuits.World.{CircuitEntry, Wired, World, table, at_end, wire_all}
use Rattle.lat_model.specs.circuits.WorldOk.{WorldOk, mate}
use Rattle.lat_model.proofs.sessions.Words.{upd_same, upd_other, upd_field}
use Rattle.lat_model.proofs.numbers.Net.{each_imp, each_append, prefix_length}
use Rattle.lat_model.proofs.circuits.Kin.{Kin}
use Rattle.lat_model.proofs.circuits.Begins.{server_alive}
use Rattle.lat_model.specs.circuits.Ids.{is_drawn, is_known}
use Rattle.lat_model.proofs.circuits.Ids.{drawn_known, drawn_some}
use Rattle.lat_laws.specs.rounds.Lossless.{is_in}
use Rattle.lat_laws.specs.rounds.Flight.{EndsTaking, Rises, Flow, ShowsTaken, LinkSound, Old}
use Rattle.lat_laws.specs.rounds.Carried.{flying, flying_from, has_stop_sent, server_end, node_end, Both, Coupled, Offered, NamesSender, Came, Carried}
use Rattle.lat_laws.proofs.rounds.carried.Flying.{flying-append, flying-new, flying-other}
use Rattle.lat_laws.proofs.rounds.carried.Ends.{Truly}

-- a place in a list is one in its front, where it lies there
pub front_place : {X : Type 0} (xs ys : List X) (j : ℕ) (v : X) → j < length xs → slice_get (xs ++ ys) j ≡ Some v → slice_get xs j ≡ Some v
front_place [] ys j v l e = absurd (omega arith)
front_place (x ∷ xs) ys zero v l e = e
front_place (x ∷ xs) ys (suc j) v l e = front_place xs ys j v (omega arith) e

-- a flow depends on its receiver by what it took and knows alone
pub receiver_flow : (a b b' : Link (List Slot)) (fs : List Sent) → b'.came ≡ b.came → b'.known ≡ b.known → Flow a b fs → Flow a b' fs
receiver_flow a b b' fs c k f = record { brings = subst (λ z. EndsTaking z fs (length a.sent)) (ap length (sym c)) f.brings; rises = subst (λ z. Rises z fs a.shown) (sym k) f.rises }

pub old_kept : (e d : End) (f : Frame (List Slot)) → d.half.link.came ≡ e.half.link.came → d.half.link.known ≡ e.half.link.known → Old e f → Old d f
old_kept e d f c k o = record { number = subst (λ z. f.number ≤ length z) (sym c) o.number; acknowledgement = subst (λ z. f.acknowledgement ≤ z) (sym k) o.acknowledgement }

-- what an end of the two keeps of its numbers
pub server_sound : (w : World) (x : ℕ) → WorldOk w → (w.server.circuit_at x).address ≡ w.node.own → LinkSound (server_end w x)
server_sound w x ok h = record {
  shown = (ok.matched x h).way_up.shown_taken;
  known = omega (arith, (ok.matched x h).way_up.known_taken, prefix_length (mate w x).link.came (server_end w x).half.link.sent (ok.matched x h).way_up.came_first);
  most = (ok.matched x h).way_up.window;
  window = (ok.windows x).0;
}

-- what a step of a master does to its numbers
pub record MasterStep (e : End) (st : Step) : Type 0 where
  pub flow : (b : Link (List Slot)) (fs : List Sent) → Flow e.half.link b fs → Flow st.end.half.link b (fs ++ st.sent)
  pub shows : ShowsTaken e → ShowsTaken st.end

pub record More (e : End) (d : End) : Type 0 where
  pub came : length e.half.link.came ≤ length d.half.link.came
  pub known : e.half.link.known ≤ d.half.link.known

-- done is what was delivered before, now what was delivered with the frame that the step hears, if it hears one
module _ (w : World) (done : List ℕ) (now : List ℕ) (x : ℕ) (st : Step) (ok : WorldOk w) (l : lives (w.server.circuit_at x).end ≡ true) (kin : Kin (w.server.circuit_at x).end st.end) (does : (w.server.circuit_at x).address ≡ w.node.own → MasterStep (w.server.circuit_at x).end st) (more : More (w.server.circuit_at x).end st.end) (truly : Each (Truly (w.server.circuit_at x).end st.end) st.sent) (k : Carried w done)
    (below : (j : ℕ) → length w.frames ≤ j → is_in j now ≡ false)
    (up_now : (p : ℕ) → flying w now true p ≡ flying w done true p)
    (down_now : (q : ℕ) → q ≢ 0 → ((w.server.circuit_at x).address ≡ w.node.own → (server_end w x).running ≡ true → (server_end w x).peer ≡ q → ⊥) → flying w now false q ≡ flying w done false q)
    (takes : (w.server.circuit_at x).address ≡ w.node.own → (server_end w x).running ≡ true → lives st.end ≡ true → Flow (node_end w (server_end w x).peer).half.link (w.server.circuit_at x).end.half.link (flying w done false (server_end w x).peer) → Flow (node_end w (server_end w x).peer).half.link st.end.half.link (flying w now false (server_end w x).peer))
    (stops_now : (w.server.circuit_at x).address ≡ w.node.own → (server_end w x).running ≡ true → lives st.end ≡ true → lives (node_end w (server_end w x).peer) ≡ false → has_stop_sent (flying w done false (server_end w x).peer) ≡ true → has_stop_sent (flying w now false (server_end w x).peer) ≡ true)
    (came_now : (j : ℕ) (f : Wired) → slice_get w.frames j ≡ Some f → is_in j now ≡ true → (is_in j done ≡ true) ⊎ Came (at_end w true x st) f.by_server f.circuit f.to f.destination f.sent) where
  abbrev c : CircuitEntry
  c = w.server.circuit_at x

  abbrev e : End
  e = c.end

  abbrev c' : CircuitEntry
  c' = record { address = c.address; end = (note_empty e st).end }

  abbrev v : World
  v = at_end w true x st

  abbrev news : List Wired
  news = wire_all true x c.address st.end.peer st.sent

  address : (p : ℕ) → (v.server.circuit_at p).address ≡ (w.server.circuit_at p).address
  address = upd_field (λ (z : CircuitEntry). z.address) w.server.circuit_at x c' refl

  running : (p : ℕ) → (server_end v p).running ≡ (server_end w p).running
  running = upd_field (λ (z : CircuitEntry). z.end.running) w.server.circuit_at x c' kin.running

  peer : (p : ℕ) → (server_end v p).peer ≡ (server_end w p).peer
  peer = upd_field (λ (z : CircuitEntry). z.end.peer) w.server.circuit_at x c' kin.peer

  -- a circuit that lives then lived before
  lived : (p : ℕ) → lives (server_end v p) ≡ true → lives (server_end w p) ≡ true
  lived p h = go (nat_eq p x) refl h
    where
      go : (b : Bool) → nat_eq p x ≡ b → lives (cond b c' (w.server.circuit_at p)).end ≡ true → lives (server_end w p) ≡ true
      go true q h = ap (λ z. lives (server_end w z)) (eqb-true p x q) ∙ l
      go false q h = h

  dies : (p : ℕ) → lives (server_end w p) ≡ false → lives (server_end v p) ≡ false
  dies p h = go (nat_eq p x) refl
    where
      go : (b : Bool) → nat_eq p x ≡ b → lives (cond b c' (w.server.circuit_at p)).end ≡ false
      go true q = absurd (true≢false (sym (ap (λ z. lives (server_end w z)) (eqb-true p x q) ∙ l) ∙ h))
      go false q = h

  here : v.server.circuit_at x ≡ c'
  here = upd_same w.server.circuit_at x c'

  there : (p : ℕ) → (p ≡ x → ⊥) → v.server.circuit_at p ≡ w.server.circuit_at p
  there p n = upd_other w.server.circuit_at x c' p n

  -- in flight
  down : (q : ℕ) → flying v now false q ≡ flying w now false q
  down q = flying-append w.server.own false q now 0 w.frames news ∙ ap (λ z. flying w now false q ++ z) (flying-other w.server.own false q now (0 + length w.frames) true x c.address st.end.peer st.sent (λ i. absurd (false≢true i))) ∙ append-nil (flying w now false q)

  up_other : (p : ℕ) → (p ≡ x → ⊥) → flying v now true p ≡ flying w done true p
  up_other p n = flying-append w.node.own true p now 0 w.frames news ∙ ap (λ z. flying w now true p ++ z) (flying-other w.node.own true p now (0 + length w.frames) true x c.address st.end.peer st.sent (λ i j. absurd (n (sym j)))) ∙ append-nil (flying w now true p) ∙ up_now p

  up_here : c.address ≡ w.node.own → flying v now true x ≡ flying w done true x ++ st.sent
  up_here h = flying-append w.node.own true x now 0 w.frames news ∙ ap (λ z. flying w now true x ++ z) (subst (λ a. flying_from w.node.own true x now (0 + length w.frames) (wire_all true x a st.end.peer st.sent) ≡ st.sent) (sym h) (flying-new w.node.own true x st.end.peer now (0 + length w.frames) st.sent (λ j i. below j (omega arith)))) ∙ ap (λ z. z ++ st.sent) (up_now x)

  calling : (p : ℕ) → (v.server.circuit_at p).address ≡ w.node.own → lives (server_end v p) ≡ true → (server_end v p).running ≡ false → Flow (server_end v p).half.link fresh (flying v now true p)
  calling p a h r = go (nat_eq p x) refl
    where
      old : Flow (server_end w p).half.link fresh (flying w done true p)
      old = k.calling p (sym (address p) ∙ a) (lived p h) (sym (running p) ∙ r)

      go : (b : Bool) → nat_eq p x ≡ b → Flow (server_end v p).half.link fresh (flying v now true p)
      go true q =
          let i : p ≡ x = eqb-true p x q in
          let a0 : c.address ≡ w.node.own = ap (λ z. (w.server.circuit_at z).address) (sym i) ∙ sym (address p) ∙ a in
          subst (λ z. Flow (server_end v z).half.link fresh (flying v now true z)) (sym i)
          (subst (λ (z : CircuitEntry). Flow z.end.half.link fresh (flying v now true x)) (sym here) (subst (λ z. Flow st.end.half.link fresh z) (sym (up_here a0)) ((does a0).flow fresh (flying w done true x) (subst (λ z. Flow (server_end w z).half.link fresh (flying w done true z)) i old))))
      go false q =
          let n : p ≡ x → ⊥ = eqb-false p x q in
          subst (λ (z : CircuitEntry). Flow z.end.half.link fresh (flying v now true p)) (sym (there p n)) (subst (λ z. Flow (server_end w p).half.link fresh z) (sym (up_other p n)) old)

  runs : (p : ℕ) → (v.server.circuit_at p).address ≡ w.node.own → lives (server_end v p) ≡ true → (server_end v p).running ≡ true → Coupled (server_end v p) (node_end v (server_end v p).peer) (flying v now true p) (flying v now false (server_end v p).peer)
  runs p a h r = subst (λ z. Coupled (server_end v p) (node_end w z) (flying v now true p) (flying v now false z)) (sym (peer p)) (subst (λ z. Coupled (server_end v p) (node_end w (server_end w p).peer) (flying v now true p) z) (sym (down (server_end w p).peer)) (go (nat_eq p x) refl))
    where
      q : ℕ
      q = (server_end w p).peer

      a1 : (w.server.circuit_at p).address ≡ w.node.own
      a1 = sym (address p) ∙ a

      r1 : (server_end w p).running ≡ true
      r1 = sym (running p) ∙ r

      old : Coupled (server_end w p) (node_end w q) (flying w done true p) (flying w done false q)
      old = k.runs p a1 (lived p h) r1

      go : (b : Bool) → nat_eq p x ≡ b → Coupled (server_end v p) (node_end w q) (flying v now true p) (flying w now false q)
      go true i0 =
          let i : p ≡ x = eqb-true p x i0 in
          let a0 : c.address ≡ w.node.own = ap (λ z. (w.server.circuit_at z).address) (sym i) ∙ a1 in
          let r0 : e.running ≡ true = ap (λ z. (server_end w z).running) (sym i) ∙ r1 in
          let l0 : lives st.end ≡ true = sym (ap (λ (z : CircuitEntry). lives z.end) here) ∙ ap (λ z. lives (server_end v z)) (sym i) ∙ h in
          let o : Coupled e (node_end w e.peer) (flying w done true x) (flying w done false e.peer) = subst (λ z. Coupled (server_end w z) (node_end w (server_end w z).peer) (flying w done true z) (flying w done false (server_end w z).peer)) i old in
          let d : MasterStep e st = does a0 in
          let made : Coupled (note_empty e st).end (node_end w e.peer) (flying w done true x ++ st.sent) (flying w now false e.peer) = record {
            alive = λ s. (let b : Both e (node_end w e.peer) (flying w done true x) (flying w done false e.peer) = o.alive s in record {
              up = d.flow (node_end w e.peer).half.link (flying w done true x) b.up;
              down = takes a0 r0 l0 b.down;
              shows = d.shows b.shows;
              clear = b.clear;
            });
            dead = λ s. stops_now a0 r0 l0 s (o.dead s);
          } in
          subst (λ z. Coupled (server_end v z) (node_end w (server_end w z).peer) (flying v now true z) (flying w now false (server_end w z).peer)) (sym i)
          (subst (λ (z : CircuitEntry). Coupled z.end (node_end w e.peer) (flying v now true x) (flying w now false e.peer)) (sym here) (subst (λ z. Coupled (note_empty e st).end (node_end w e.peer) z (flying w now false e.peer)) (sym (up_here a0)) made))
      go false i0 =
          let n : p ≡ x → ⊥ = eqb-false p x i0 in
          let m : c.address ≡ w.node.own → e.running ≡ true → e.peer ≡ q → ⊥ = λ u t y. n (sym (ok.replied p a1 r1).peer ∙ ap (λ z. (node_end w z).peer) (sym y) ∙ (ok.replied x u t).peer) in
          subst (λ (z : CircuitEntry). Coupled z.end (node_end w q) (flying v now true p) (flying w now false q)) (sym (there p n)) (subst (λ z. Coupled (server_end w p) (node_end w q) z (flying w now false q)) (sym (up_other p n)) (subst (λ z. Coupled (server_end w p) (node_end w q) (flying w done true p) z) (sym (down_now q (ok.replied p a1 r1).some m)) old))

  ups : (p : ℕ) → (v.server.circuit_at p).address ≡ w.node.own → (server_end v p).running ≡ true → lives (node_end w (server_end v p).peer) ≡ true → Flow (server_end v p).half.link (node_end w (server_end v p).peer).half.link (flying v now true p)
  ups p a r n = subst (λ z. Flow (server_end v p).half.link (node_end w z).half.link (flying v now true p)) (sym (peer p)) (go (nat_eq p x) refl)
    where
      old : Flow (server_end w p).half.link (node_end w (server_end w p).peer).half.link (flying w done true p)
      old = k.ups p (sym (address p) ∙ a) (sym (running p) ∙ r) (ap (λ z. lives (node_end w z)) (sym (peer p)) ∙ n)

      go : (b : Bool) → nat_eq p x ≡ b → Flow (server_end v p).half.link (node_end w (server_end w p).peer).half.link (flying v now true p)
      go true i0 =
          let i : p ≡ x = eqb-true p x i0 in
          let a0 : c.address ≡ w.node.own = ap (λ z. (w.server.circuit_at z).address) (sym i) ∙ sym (address p) ∙ a in
          subst (λ z. Flow (server_end v z).half.link (node_end w (server_end w z).peer).half.link (flying v now true z)) (sym i)
          (subst (λ (z : CircuitEntry). Flow z.end.half.link (node_end w e.peer).half.link (flying v now true x)) (sym here) (subst (λ z. Flow st.end.half.link (node_end w e.peer).half.link z) (sym (up_here a0)) ((does a0).flow (node_end w e.peer).half.link (flying w done true x) (subst (λ z. Flow (server_end w z).half.link (node_end w (server_end w z).peer).half.link (flying w done true z)) i old))))
      go false i0 =
          let m : p ≡ x → ⊥ = eqb-false p x i0 in
          subst (λ (z : CircuitEntry). Flow z.end.half.link (node_end w (server_end w p).peer).half.link (flying v now true p)) (sym (there p m)) (subst (λ z. Flow (server_end w p).half.link (node_end w (server_end w p).peer).half.link z) (sym (up_other p m)) old)

  downs : (p : ℕ) → (v.server.circuit_at p).address ≡ w.node.own → lives (server_end v p) ≡ true → (server_end v p).running ≡ true → Flow (node_end w (server_end v p).peer).half.link (server_end v p).half.link (flying v now false (server_end v p).peer)
  downs p a h r = subst (λ z. Flow (node_end w z).half.link (server_end v p).half.link (flying v now false z)) (sym (peer p)) (subst (λ z. Flow (node_end w (server_end w p).peer).half.link (server_end v p).half.link z) (sym (down (server_end w p).peer)) (go (nat_eq p x) refl))
    where
      q : ℕ
      q = (server_end w p).peer

      a1 : (w.server.circuit_at p).address ≡ w.node.own
      a1 = sym (address p) ∙ a

      r1 : (server_end w p).running ≡ true
      r1 = sym (running p) ∙ r

      old : Flow (node_end w q).half.link (server_end w p).half.link (flying w done false q)
      old = k.downs p a1 (lived p h) r1

      go : (b : Bool) → nat_eq p x ≡ b → Flow (node_end w q).half.link (server_end v p).half.link (flying w now false q)
      go true i0 =
          let i : p ≡ x = eqb-true p x i0 in
          let a0 : c.address ≡ w.node.own = ap (λ z. (w.server.circuit_at z).address) (sym i) ∙ a1 in
          let r0 : e.running ≡ true = ap (λ z. (server_end w z).running) (sym i) ∙ r1 in
          let l0 : lives st.end ≡ true = sym (ap (λ (z : CircuitEntry). lives z.end) here) ∙ ap (λ z. lives (server_end v z)) (sym i) ∙ h in
          subst (λ z. Flow (node_end w (server_end w z).peer).half.link (server_end v z).half.link (flying w now false (server_end w z).peer)) (sym i)
          (subst (λ (z : CircuitEntry). Flow (node_end w e.peer).half.link z.end.half.link (flying w now false e.peer)) (sym here) (takes a0 r0 l0 (subst (λ z. Flow (node_end w (server_end w z).peer).half.link (server_end w z).half.link (flying w done false (server_end w z).peer)) i old)))
      go false i0 =
          let n : p ≡ x → ⊥ = eqb-false p x i0 in
          let m : c.address ≡ w.node.own → e.running ≡ true → e.peer ≡ q → ⊥ = λ u t y. n (sym (ok.replied p a1 r1).peer ∙ ap (λ z. (node_end w z).peer) (sym y) ∙ (ok.replied x u t).peer) in
          subst (λ (z : CircuitEntry). Flow (node_end w q).half.link z.end.half.link (flying w now false q)) (sym (there p n)) (subst (λ z. Flow (node_end w q).half.link (server_end w p).half.link z) (sym (down_now q (ok.replied p a1 r1).some m)) old)

  offered : (q : ℕ) → is_drawn w.node q ≡ true → (w.node.circuit_at q).address ≡ w.server.own → (v.server.circuit_at (node_end w q).peer).address ≡ w.node.own → lives (server_end v (node_end w q).peer) ≡ true → (server_end v (node_end w q).peer).running ≡ false → Offered (node_end w q) (flying v now false q)
  offered q d a b h r = subst (λ z. Offered (node_end w q) z) (sym (down q ∙ down_now q (drawn_some w.node.first w.node.drawn q d) other)) (k.offered q d a (sym (address (node_end w q).peer) ∙ b) (lived (node_end w q).peer h) (sym (running (node_end w q).peer) ∙ r))
    where
      other : c.address ≡ w.node.own → e.running ≡ true → e.peer ≡ q → ⊥
      other u t y = true≢false (sym t ∙ ap (λ z. (server_end w z).running) (sym (ok.replied x u t).peer ∙ ap (λ z. (node_end w z).peer) y) ∙ sym (running (node_end w q).peer) ∙ r)

  old_tells : (b : Bool) (y to d s : ℕ) (m : Sent) → NamesSender w b y to d s m → NamesSender v b y to d s m
  old_tells true y to d s (Run mark ask f) h = λ t. (running y ∙ (h t).0, (h t).1 ∙ sym (peer y))
  old_tells true y to d s (Stopped r) h = (dies y h.0, h.1, h.2)
  old_tells false y to d s (Stopped r) h = h
  old_tells false y to d s (Run mark ask f) h = tt
  old_tells true y to d s CallStart h = h
  old_tells false y to d s CallStart h = tt
  old_tells true y to d s ReplyStart h = tt
  old_tells false y to d s ReplyStart h = tt

  new_tells : (ss : List Sent) → Each (Truly e st.end) ss → Each (λ f. NamesSender v f.by_server f.circuit f.to f.destination f.source f.sent) (wire_all true x c.address st.end.peer ss)
  new_tells [] h = tt
  new_tells (Run mark ask f ∷ ss) h = (λ t. (running x ∙ h.0, kin.peer ∙ sym (peer x)), new_tells ss h.1)
  new_tells (Stopped r ∷ ss) h = ((ap (λ (z : CircuitEntry). lives z.end) here ∙ h.0, refl, drawn_some w.server.first w.server.drawn x (server_alive w x ok l)), new_tells ss h.1)
  new_tells (CallStart ∷ ss) h = (refl, new_tells ss h.1)
  new_tells (ReplyStart ∷ ss) h = (tt, new_tells ss h.1)

  old_came : (b : Bool) (y to d : ℕ) (m : Sent) → Came w b y to d m → Came v b y to d m
  old_came true y to d (Run mark ask f) h = h
  old_came false y to d (Run mark ask f) h = λ t a i r q. go (nat_eq d x) refl (h t (sym (address d) ∙ a) (lived d i) (sym (running d) ∙ r) (sym (peer d) ∙ q))
    where
      go : (b : Bool) → nat_eq d x ≡ b → Old (server_end w d) f → Old (cond b c' (w.server.circuit_at d)).end f
      go true q o = let g : Old e f = subst (λ z. Old (server_end w z) f) (eqb-true d x q) o in record { number = omega (arith, g.number, more.came); acknowledgement = omega (arith, g.acknowledgement, more.known) }
      go false q o = o
  old_came false y to d ReplyStart h = λ t a i. running d ∙ h t (sym (address d) ∙ a) (lived d i)
  old_came true y to d CallStart h = tt
  old_came false y to d CallStart h = tt
  old_came true y to d ReplyStart h = tt
  old_came true y to d (Stopped r) h = tt
  old_came false y to d (Stopped r) h = tt

  pub server_step_carried : Carried (at_end w true x st) now
  server_step_carried = record {
    below = λ j h. below j (omega (arith, h, length-append w.frames news));
    low = each_append (λ f. is_known (table v f.by_server) f.circuit ≡ true) w.frames news (each_imp (λ f. is_known (table w f.by_server) f.circuit ≡ true) (λ f. is_known (table v f.by_server) f.circuit ≡ true) (λ f. drawn f.circuit f.by_server) w.frames k.low) (new_low st.sent);
    calling = calling;
    runs = runs;
    ups = ups;
    downs = downs;
    offered = offered;
    peers = k.peers;
    tells = each_append (λ f. NamesSender v f.by_server f.circuit f.to f.destination f.source f.sent) w.frames news (each_imp (λ f. NamesSender w f.by_server f.circuit f.to f.destination f.source f.sent) (λ f. NamesSender v f.by_server f.circuit f.to f.destination f.source f.sent) (λ f. old_tells f.by_server f.circuit f.to f.destination f.source f.sent) w.frames k.tells) (new_tells st.sent truly);
    came = λ j f g i. let q : slice_get w.frames j ≡ Some f = front_place w.frames news j f (short j i) g in
        ⊎_elim {C = Came v f.by_server f.circuit f.to f.destination f.sent} (λ z. old_came f.by_server f.circuit f.to f.destination f.sent (k.came j f q z)) (λ z. z) (came_now j f q i);
  }
    where
      drawn : (y : ℕ) (b : Bool) → is_known (table w b) y ≡ true → is_known (table v b) y ≡ true
      drawn y true h = h
      drawn y false h = h

      new_low : (ss : List Sent) → Each (λ (f : Wired). is_known (table v f.by_server) f.circuit ≡ true) (wire_all true x c.address st.end.peer ss)
      new_low [] = tt
      new_low (s ∷ ss) = (drawn_known w.server x (server_alive w x ok l), new_low ss)

      short : (j : ℕ) → is_in j now ≡ true → j < length w.frames
      short j i = ⊎_elim {C = j < length w.frames} (λ z. z) (λ z. absurd (true≢false (sym i ∙ below j z))) (cases_lt j (length w.frames))
