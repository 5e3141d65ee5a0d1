-- A step of a circuit of the node, which may hear a frame, keeps what is in flight.
use Rattle.std.proofs.Common.{◌≡◌, ℕ, ◌+◌, ◌<◌, ◌≤◌, ◌⊎◌, ⊎_elim, sym, ap, ◌∙◌, refl, subst, arith, Bool, true, false, cond, List, [], ◌∷◌, ◌++◌, length, Some, nat_eq, slice_get, eqb-true, append-nil, length-append}
use Rattle.std.proofs.lemmas.Bool.{true≢false, false≢true, eqb-false, cases_lt}
use Rattle.lat_model.specs.sessions.Slots.{Slot}
use Rattle.lat_model.specs.Lists.{Each}
use Rattle.lat_model.specs.numbers.Link.{Link, fresh}
use Rattle.lat_model.specs.ends.End.{Sent, Run, CallStart, ReplyStart, Stopped, End, Step, lives}
use Rattle.lat_model.specs.ends.Timers.{note_empty}
use Rattle.lat_model.specs.circuits.World.{CircuitEntry, Wired, World, table, at_end, wire_all}
use Rattle.lat_model.specs.circuits.WorldOk.{WorldOk, Replied}
use Rattle.lat_model.proofs.sessions.Words.{upd_same, upd_other, upd_field}
use Rattle.lat_model.proofs.numbers.Net.{each_imp, each_append}
use Rattle.lat_model.proofs.circuits.Kin.{Kin}
use Rattle.lat_model.proofs.circuits.Begins.{node_alive}
use Rattle.lat_model.specs.circuits.Ids.{is_drawn, is_known}
use Rattle.lat_model.proofs.circuits.Ids.{drawn_known}
use Rattle.lat_laws.specs.rounds.Lossless.{is_in}
use Rattle.lat_laws.specs.rounds.Flight.{Flow, Clear, Old}
use Rattle.lat_laws.specs.rounds.Carried.{flying, flying_from, has_stop_sent, server_end, node_end, Both, Coupled, Offered, NamesSender, Came, Carried}
use Rattle.lat_laws.proofs.rounds.carried.Flying.{flying-append, flying-new, flying-other}
use Rattle.lat_laws.proofs.rounds.carried.Ends.{stop_behind}
use Rattle.lat_laws.proofs.rounds.carried.Servers.{front_place}

-- what a step of a slave does to its numbers
pub record SlaveStep (e : End) (st : Step) : Type 0 where
  pub flow : (b : Link (List Slot)) (fs : List Sent) → Flow e.half.link b fs → Flow st.end.half.link b (fs ++ st.sent)
  pub clear : Clear e → Clear st.end

pub record More (e : End) (d : End) : Type 0 where
  pub came : length e.half.link.came ≤ length d.half.link.came
  pub known : e.half.link.known ≤ d.half.link.known

-- done is what was delivered before, now what was delivered with the frame that the step hears, if it hears one
module _ (w : World) (done : List ℕ) (now : List ℕ) (x : ℕ) (st : Step) (ok : WorldOk w) (l : lives (w.node.circuit_at x).end ≡ true) (kin : Kin (w.node.circuit_at x).end st.end) (does : (w.node.circuit_at x).address ≡ w.server.own → SlaveStep (w.node.circuit_at x).end st) (more : More (w.node.circuit_at x).end st.end) (dies : (w.node.circuit_at x).address ≡ w.server.own → lives (server_end w (w.node.circuit_at x).end.peer) ≡ true → lives st.end ≡ false → has_stop_sent st.sent ≡ true) (k : Carried w done)
    (below : (j : ℕ) → length w.frames ≤ j → is_in j now ≡ false)
    (down_now : (q : ℕ) → flying w now false q ≡ flying w done false q)
    (up_now : (p : ℕ) → ((server_end w p).running ≡ true → (server_end w p).peer ≡ x → ⊥) → (b : Link (List Slot)) → Flow (server_end w p).half.link b (flying w done true p) → Flow (server_end w p).half.link b (flying w now true p))
    (takes : (p : ℕ) → (w.server.circuit_at p).address ≡ w.node.own → (server_end w p).running ≡ true → (server_end w p).peer ≡ x → Flow (server_end w p).half.link (w.node.circuit_at x).end.half.link (flying w done true p) → Flow (server_end w p).half.link st.end.half.link (flying w now true p))
    (came_now : (j : ℕ) (f : Wired) → slice_get w.frames j ≡ Some f → is_in j now ≡ true → (is_in j done ≡ true) ⊎ Came (at_end w false x st) f.by_server f.circuit f.to f.destination f.sent) where
  abbrev c : CircuitEntry
  c = w.node.circuit_at x

  abbrev e : End
  e = c.end

  abbrev c' : CircuitEntry
  c' = record { address = c.address; end = (note_empty e st).end }

  abbrev v : World
  v = at_end w false x st

  abbrev news : List Wired
  news = wire_all false x c.address st.end.peer st.sent

  address : (q : ℕ) → (v.node.circuit_at q).address ≡ (w.node.circuit_at q).address
  address = upd_field (λ (z : CircuitEntry). z.address) w.node.circuit_at x c' refl

  peer : (q : ℕ) → (node_end v q).peer ≡ (node_end w q).peer
  peer = upd_field (λ (z : CircuitEntry). z.end.peer) w.node.circuit_at x c' kin.peer

  lived : (q : ℕ) → lives (node_end v q) ≡ true → lives (node_end w q) ≡ true
  lived q h = go (nat_eq q x) refl h
    where
      go : (b : Bool) → nat_eq q x ≡ b → lives (cond b c' (w.node.circuit_at q)).end ≡ true → lives (node_end w q) ≡ true
      go true i h = ap (λ z. lives (node_end w z)) (eqb-true q x i) ∙ l
      go false i h = h

  here : v.node.circuit_at x ≡ c'
  here = upd_same w.node.circuit_at x c'

  there : (q : ℕ) → (q ≡ x → ⊥) → v.node.circuit_at q ≡ w.node.circuit_at q
  there q n = upd_other w.node.circuit_at x c' q n

  -- in flight
  up : (p : ℕ) → flying v now true p ≡ flying w now true p
  up p = flying-append w.node.own true p now 0 w.frames news ∙ ap (λ z. flying w now true p ++ z) (flying-other w.node.own true p now (0 + length w.frames) false x c.address st.end.peer st.sent (λ i. absurd (false≢true i))) ∙ append-nil (flying w now true p)

  down_other : (q : ℕ) → (q ≡ x → ⊥) → flying v now false q ≡ flying w done false q
  down_other q n = flying-append w.server.own false q now 0 w.frames news ∙ ap (λ z. flying w now false q ++ z) (flying-other w.server.own false q now (0 + length w.frames) false x c.address st.end.peer st.sent (λ i j. absurd (n (sym j)))) ∙ append-nil (flying w now false q) ∙ down_now q

  down_here : c.address ≡ w.server.own → flying v now false x ≡ flying w done false x ++ st.sent
  down_here h = flying-append w.server.own false x now 0 w.frames news ∙ ap (λ z. flying w now false x ++ z) (subst (λ a. flying_from w.server.own false x now (0 + length w.frames) (wire_all false x a st.end.peer st.sent) ≡ st.sent) (sym h) (flying-new w.server.own false x st.end.peer now (0 + length w.frames) st.sent (λ j i. below j (omega arith)))) ∙ ap (λ z. z ++ st.sent) (down_now x)

  calling : (p : ℕ) → (w.server.circuit_at p).address ≡ w.node.own → lives (server_end w p) ≡ true → (server_end w p).running ≡ false → Flow (server_end w p).half.link fresh (flying v now true p)
  calling p a h r = subst (λ z. Flow (server_end w p).half.link fresh z) (sym (up p)) (up_now p (λ t i. true≢false (sym t ∙ r)) fresh (k.calling p a h r))

  runs : (p : ℕ) → (w.server.circuit_at p).address ≡ w.node.own → lives (server_end w p) ≡ true → (server_end w p).running ≡ true → Coupled (server_end w p) (node_end v (server_end w p).peer) (flying v now true p) (flying v now false (server_end w p).peer)
  runs p a h r = subst (λ z. Coupled m (node_end v m.peer) z (flying v now false m.peer)) (sym (up p)) (go (nat_eq m.peer x) refl)
    where
      m : End
      m = server_end w p

      old : Coupled m (node_end w m.peer) (flying w done true p) (flying w done false m.peer)
      old = k.runs p a h r

      go : (b : Bool) → nat_eq m.peer x ≡ b → Coupled m (node_end v m.peer) (flying w now true p) (flying v now false m.peer)
      go true i0 =
          let i : m.peer ≡ x = eqb-true m.peer x i0 in
          let rep : Replied w p = ok.replied p a r in
          let own : c.address ≡ w.server.own = ap (λ z. (w.node.circuit_at z).address) (sym i) ∙ rep.address in
          let alive : lives (server_end w e.peer) ≡ true = ap (λ y. lives (server_end w (node_end w y).peer)) (sym i) ∙ ap (λ y. lives (server_end w y)) rep.peer ∙ h in
          let d : SlaveStep e st = does own in
          let o : Coupled m e (flying w done true p) (flying w done false x) = subst (λ z. Coupled m (node_end w z) (flying w done true p) (flying w done false z)) i old in
          let b : Both m e (flying w done true p) (flying w done false x) = o.alive l in
          let made : Coupled m (note_empty e st).end (flying w now true p) (flying w done false x ++ st.sent) = record {
            alive = λ s. (let y : Clear st.end = d.clear b.clear in record {
              up = takes p a r i b.up;
              down = d.flow m.half.link (flying w done false x) b.down;
              shows = b.shows;
              clear = (y.0, y.1);
            });
            dead = λ s. stop_behind (flying w done false x) st.sent (dies own alive s);
          } in
          subst (λ z. Coupled m (node_end v z) (flying w now true p) (flying v now false z)) (sym i)
          (subst (λ (z : CircuitEntry). Coupled m z.end (flying w now true p) (flying v now false x)) (sym here) (subst (λ z. Coupled m (note_empty e st).end (flying w now true p) z) (sym (down_here own)) made))
      go false i0 =
          let n : m.peer ≡ x → ⊥ = eqb-false m.peer x i0 in
          subst (λ (z : CircuitEntry). Coupled m z.end (flying w now true p) (flying v now false m.peer)) (sym (there m.peer n))
          (subst (λ z. Coupled m (node_end w m.peer) (flying w now true p) z) (sym (down_other m.peer n))
          (record { alive = λ s. (let b : Both m (node_end w m.peer) (flying w done true p) (flying w done false m.peer) = old.alive s in record { up = up_now p (λ t i. n i) (node_end w m.peer).half.link b.up; down = b.down; shows = b.shows; clear = b.clear }); dead = old.dead }))

  ups : (p : ℕ) → (w.server.circuit_at p).address ≡ w.node.own → (server_end w p).running ≡ true → lives (node_end v (server_end w p).peer) ≡ true → Flow (server_end w p).half.link (node_end v (server_end w p).peer).half.link (flying v now true p)
  ups p a r n = subst (λ z. Flow m.half.link (node_end v m.peer).half.link z) (sym (up p)) (go (nat_eq m.peer x) refl)
    where
      m : End
      m = server_end w p

      old : Flow m.half.link (node_end w m.peer).half.link (flying w done true p)
      old = k.ups p a r (lived m.peer n)

      go : (b : Bool) → nat_eq m.peer x ≡ b → Flow m.half.link (node_end v m.peer).half.link (flying w now true p)
      go true i0 =
          let i : m.peer ≡ x = eqb-true m.peer x i0 in
          subst (λ z. Flow m.half.link (node_end v z).half.link (flying w now true p)) (sym i)
          (subst (λ (z : CircuitEntry). Flow m.half.link z.end.half.link (flying w now true p)) (sym here) (takes p a r i (subst (λ z. Flow m.half.link (node_end w z).half.link (flying w done true p)) i old)))
      go false i0 =
          let o : m.peer ≡ x → ⊥ = eqb-false m.peer x i0 in
          subst (λ (z : CircuitEntry). Flow m.half.link z.end.half.link (flying w now true p)) (sym (there m.peer o)) (up_now p (λ t i. o i) (node_end w m.peer).half.link old)

  downs : (p : ℕ) → (w.server.circuit_at p).address ≡ w.node.own → lives (server_end w p) ≡ true → (server_end w p).running ≡ true → Flow (node_end v (server_end w p).peer).half.link (server_end w p).half.link (flying v now false (server_end w p).peer)
  downs p a h r = go (nat_eq m.peer x) refl
    where
      m : End
      m = server_end w p

      old : Flow (node_end w m.peer).half.link m.half.link (flying w done false m.peer)
      old = k.downs p a h r

      go : (b : Bool) → nat_eq m.peer x ≡ b → Flow (node_end v m.peer).half.link m.half.link (flying v now false m.peer)
      go true i0 =
          let i : m.peer ≡ x = eqb-true m.peer x i0 in
          let own : c.address ≡ w.server.own = ap (λ z. (w.node.circuit_at z).address) (sym i) ∙ (ok.replied p a r).address in
          subst (λ z. Flow (node_end v z).half.link m.half.link (flying v now false z)) (sym i)
          (subst (λ (z : CircuitEntry). Flow z.end.half.link m.half.link (flying v now false x)) (sym here) (subst (λ z. Flow st.end.half.link m.half.link z) (sym (down_here own)) ((does own).flow m.half.link (flying w done false x) (subst (λ z. Flow (node_end w z).half.link m.half.link (flying w done false z)) i old))))
      go false i0 =
          let n : m.peer ≡ x → ⊥ = eqb-false m.peer x i0 in
          subst (λ (z : CircuitEntry). Flow z.end.half.link m.half.link (flying v now false m.peer)) (sym (there m.peer n)) (subst (λ z. Flow (node_end w m.peer).half.link m.half.link z) (sym (down_other m.peer n)) old)

  offered : (q : ℕ) → is_drawn w.node q ≡ true → (v.node.circuit_at q).address ≡ w.server.own → (w.server.circuit_at (node_end v q).peer).address ≡ w.node.own → lives (server_end w (node_end v q).peer) ≡ true → (server_end w (node_end v q).peer).running ≡ false → Offered (node_end v q) (flying v now false q)
  offered q d a b h r = go (nat_eq q x) refl
    where
      old : Offered (node_end w q) (flying w done false q)
      old = k.offered q d (sym (address q) ∙ a) (ap (λ y. (w.server.circuit_at y).address) (sym (peer q)) ∙ b) (ap (λ y. lives (server_end w y)) (sym (peer q)) ∙ h) (ap (λ y. (server_end w y).running) (sym (peer q)) ∙ r)

      go : (t : Bool) → nat_eq q x ≡ t → Offered (node_end v q) (flying v now false q)
      go true i0 =
          let i : q ≡ x = eqb-true q x i0 in
          let own : c.address ≡ w.server.own = ap (λ y. (w.node.circuit_at y).address) (sym i) ∙ sym (address q) ∙ a in
          let alive : lives (server_end w e.peer) ≡ true = ap (λ u. lives (server_end w u)) (sym (peer q ∙ ap (λ u. (node_end w u).peer) i)) ∙ h in
          let o : Offered e (flying w done false x) = subst (λ y. Offered (node_end w y) (flying w done false y)) i old in
          let d : SlaveStep e st = does own in
          let cl : Clear st.end = d.clear o.clear in
          let made : Offered (note_empty e st).end (flying w done false x ++ st.sent) = record {
            rest = o.rest ++ st.sent;
            parts = ap (λ y. y ++ st.sent) o.parts;
            flow = d.flow fresh o.rest o.flow;
            clear = (cl.0, cl.1);
            dead = λ s. stop_behind o.rest st.sent (dies own alive s);
          } in
          subst (λ y. Offered (node_end v y) (flying v now false y)) (sym i) (subst (λ (y : CircuitEntry). Offered y.end (flying v now false x)) (sym here) (subst (λ y. Offered (note_empty e st).end y) (sym (down_here own)) made))
      go false i0 =
          let n : q ≡ x → ⊥ = eqb-false q x i0 in
          subst (λ (y : CircuitEntry). Offered y.end (flying v now false q)) (sym (there q n)) (subst (λ y. Offered (node_end w q) y) (sym (down_other q n)) old)

  old_tells : (b : Bool) (y to d s : ℕ) (m : Sent) → NamesSender w b y to d s m → NamesSender v b y to d s m
  old_tells true y to d s (Run mark ask f) h = h
  old_tells true y to d s (Stopped r) h = h
  old_tells false y to d s (Stopped r) h = λ t n. ((h t n).0, (h t n).1 ∙ sym (peer y))
  old_tells false y to d s (Run mark ask f) h = tt
  old_tells true y to d s CallStart h = h
  old_tells false y to d s CallStart h = tt
  old_tells true y to d s ReplyStart h = tt
  old_tells false y to d s ReplyStart h = tt

  new_tells : (ss : List Sent) → Each (λ f. NamesSender v f.by_server f.circuit f.to f.destination f.source f.sent) (wire_all false x c.address st.end.peer ss)
  new_tells [] = tt
  new_tells (Run mark ask f ∷ ss) = (tt, new_tells ss)
  new_tells (Stopped r ∷ ss) = (λ t n. (refl, kin.peer ∙ sym (peer x)), new_tells ss)
  new_tells (CallStart ∷ ss) = (tt, new_tells ss)
  new_tells (ReplyStart ∷ ss) = (tt, new_tells ss)

  old_came : (b : Bool) (y to d : ℕ) (m : Sent) → Came w b y to d m → Came v b y to d m
  old_came true y to d (Run mark ask f) h = λ t s. go (nat_eq d x) refl (h t (lived d s))
    where
      grown : Old e f → Old (note_empty e st).end f
      grown o = record { number = omega (arith, o.number, more.came); acknowledgement = omega (arith, o.acknowledgement, more.known) }

      go : (b : Bool) → nat_eq d x ≡ b → Old (node_end w d) f → Old (cond b c' (w.node.circuit_at d)).end f
      go true i o = grown (subst (λ z. Old (node_end w z) f) (eqb-true d x i) o)
      go false i o = o
  old_came false y to d (Run mark ask f) h = h
  old_came false y to d ReplyStart h = h
  old_came true y to d CallStart h = tt
  old_came false y to d CallStart h = tt
  old_came true y to d ReplyStart h = tt
  old_came true y to d (Stopped r) h = tt
  old_came false y to d (Stopped r) h = tt

  drawn : (y : ℕ) (b : Bool) → is_known (table w b) y ≡ true → is_known (table v b) y ≡ true
  drawn y true h = h
  drawn y false h = h

  new_low : (ss : List Sent) → Each (λ (f : Wired). is_known (table v f.by_server) f.circuit ≡ true) (wire_all false x c.address st.end.peer ss)
  new_low [] = tt
  new_low (s ∷ ss) = (drawn_known w.node x (node_alive w x ok l), new_low ss)

  short : (j : ℕ) → is_in j now ≡ true → j < length w.frames
  short j i = ⊎_elim {C = j < length w.frames} (λ z. z) (λ z. absurd (true≢false (sym i ∙ below j z))) (cases_lt j (length w.frames))

  pub node_step_carried : Carried (at_end w false x st) now
  node_step_carried = record {
    below = λ j h. below j (omega (arith, h, length-append w.frames news));
    low = each_append (λ f. is_known (table v f.by_server) f.circuit ≡ true) w.frames news (each_imp (λ f. is_known (table w f.by_server) f.circuit ≡ true) (λ f. is_known (table v f.by_server) f.circuit ≡ true) (λ f. drawn f.circuit f.by_server) w.frames k.low) (new_low st.sent);
    calling = calling;
    runs = runs;
    ups = ups;
    downs = downs;
    offered = offered;
    peers = λ q d a. subst (λ z. is_known w.server z ≡ true) (sym (peer q)) (k.peers q d (sym (address q) ∙ a));
    tells = each_append (λ f. NamesSender v f.by_server f.circuit f.to f.destination f.source f.sent) w.frames news (each_imp (λ f. NamesSender w f.by_server f.circuit f.to f.destination f.source f.sent) (λ f. NamesSender v f.by_server f.circuit f.to f.destination f.source f.sent) (λ f. old_tells f.by_server f.circuit f.to f.destination f.source f.sent) w.frames k.tells) (new_tells st.sent);
    came = λ j f g i. let q : slice_get w.frames j ≡ Some f = front_place w.frames news j f (short j i) g in
        ⊎_elim {C = Came v f.by_server f.circuit f.to f.destination f.sent} (λ z. old_came f.by_server f.circuit f.to f.destination f.sent (k.came j f q z)) (λ z. z) (came_now j f q i);
  }
