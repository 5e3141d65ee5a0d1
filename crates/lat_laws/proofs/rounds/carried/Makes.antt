-- New circuits, and a START that is refused.
use Rattle.std.proofs.Common.{◌≡◌, ◌≢◌, ℕ, suc, ◌+◌, ◌<◌, ◌≤◌, ⊎_elim, sym, ap, ap₂, ◌∙◌, refl, subst, arith, Bool, true, false, not, cond, ◌&&◌, List, [], ◌∷◌, ◌++◌, length, Some, nat_eq, slice_get, ne_eqb, append-nil, length-append}
use Rattle.std.proofs.lemmas.Bool.{true≢false, false≢true, and_left, and_right, cases_lt, cases_eq}
use Rattle.lat_model.specs.sessions.Slots.{Slot}
use Rattle.lat_model.specs.Lists.{Each}
use Rattle.lat_model.specs.numbers.Link.{Link, fresh}
use Rattle.lat_model.specs.ends.End.{Sent, Run, CallStart, ReplyStart, Stopped, Step, lives}
use Rattle.lat_model.specs.ends.Starting.{Agreed, make_slave}
use Rattle.lat_model.specs.circuits.World.{CircuitEntry, Wired, World, table, with_table, put_circuit, wire_all, first_end}
use Rattle.lat_model.specs.circuits.WorldOk.{WorldOk, FromSender}
use Rattle.lat_model.proofs.sessions.Words.{upd_same, upd_other}
use Rattle.lat_model.proofs.numbers.Net.{each_imp, each_append, each_at}
use Rattle.lat_model.proofs.circuits.Ids.{drawn_apart, drawn_before, drawn_behind, drawn_known, drawn_or, known_apart, known_stays, next_drawn, drawn_some, known_not, next_unknown}
use Rattle.lat_model.specs.circuits.Ids.{is_drawn, is_known, next_id}
use Rattle.lat_laws.specs.rounds.Lossless.{is_side, is_in}
use Rattle.lat_laws.specs.rounds.Flight.{Flow, Old}
use Rattle.lat_laws.specs.rounds.Carried.{is_of_line, flying, flying_from, server_end, node_end, Both, Coupled, Offered, NamesSender, Came, Carried}
use Rattle.lat_laws.proofs.rounds.carried.Flying.{flying-append, flying-new, flying-other}
use Rattle.lat_laws.proofs.rounds.carried.Servers.{front_place}

-- a line of no frame
pub flying_none : (other : ℕ) (b : Bool) (x : ℕ) (done : List ℕ) (n : ℕ) (vs : List Wired) → Each (λ v. is_of_line other b x v ≡ false) vs → flying_from other b x done n vs ≡ []
flying_none other b x done n [] h = refl
flying_none other b x done n (v ∷ vs) h = ap₂ (λ c z. cond (c && not (is_in n done)) (v.sent ∷ z) z) h.0 (flying_none other b x done (suc n) vs h.1)

-- no frame is of a circuit that wasn't drawn
pub undrawn : (w : World) (other : ℕ) (b : Bool) (x : ℕ) (vs : List Wired) → is_known (table w b) x ≡ false → Each (λ v. is_known (table w v.by_server) v.circuit ≡ true) vs → Each (λ v. is_of_line other b x v ≡ false) vs
undrawn w other b x [] h e = tt
undrawn w other b x (v ∷ vs) h e = (go b v.by_server h e.0, undrawn w other b x vs h e.1)
  where
    at : (c d : Bool) → (v.circuit ≡ x → ⊥) → (c && (nat_eq v.circuit x && d)) ≡ false
    at c d n = and_right c (nat_eq v.circuit x && d) (and_left (nat_eq v.circuit x) d (ne_eqb v.circuit x n))

    go : (b c : Bool) → is_known (table w b) x ≡ false → is_known (table w c) v.circuit ≡ true → (is_side b c && (nat_eq v.circuit x && nat_eq v.to other)) ≡ false
    go true true h l = at true (nat_eq v.to other) (known_not w.server x v.circuit h l)
    go true false h l = refl
    go false true h l = refl
    go false false h l = at true (nat_eq v.to other) (known_not w.node x v.circuit h l)

pub both_each : {X : Type 0} (P Q : X → Type 0) (xs : List X) → Each P xs → Each Q xs → Each (λ x. P x × Q x) xs
both_each P Q [] p q = tt
both_each P Q (x ∷ xs) p q = ((p.0, q.0), both_each P Q xs p.1 q.1)

-- a new slave; done is what was delivered before, now what was with the START that made it
module _ (w : World) (done : List ℕ) (now : List ℕ) (from s t : ℕ) (g : Agreed) (ok : WorldOk w) (k : Carried w done)
    (below : (j : ℕ) → length w.frames ≤ j → is_in j now ≡ false)
    (up_now : (p : ℕ) (b : Link (List Slot)) → Flow (server_end w p).half.link b (flying w done true p) → Flow (server_end w p).half.link b (flying w now true p))
    (down_now : (q : ℕ) → flying w now false q ≡ flying w done false q)
    (came_now : (j : ℕ) (f : Wired) → slice_get w.frames j ≡ Some f → is_in j now ≡ true → Came w f.by_server f.circuit f.to f.destination f.sent)
    (named : from ≡ w.server.own → is_known w.server s ≡ true) where
  abbrev x : ℕ
  x = next_id w.node

  abbrev made : Step
  made = make_slave t s g (first_end false false w.other)

  abbrev c' : CircuitEntry
  c' = record { address = from; end = made.end }

  abbrev v : World
  v = put_circuit w false (suc w.node.drawn) x from made

  abbrev news : List Wired
  news = wire_all false x from s (ReplyStart ∷ [])

  here : v.node.circuit_at x ≡ c'
  here = upd_same w.node.circuit_at x c'

  there : (q : ℕ) → is_drawn w.node q ≡ true → v.node.circuit_at q ≡ w.node.circuit_at q
  there q h = upd_other w.node.circuit_at x c' q (drawn_apart w.node.first w.node.drawn q h)

  known_there : (q : ℕ) → is_known w.node q ≡ true → v.node.circuit_at q ≡ w.node.circuit_at q
  known_there q h = upd_other w.node.circuit_at x c' q (known_apart w.node q h)

  up : (p : ℕ) → flying v now true p ≡ flying w now true p
  up p = flying-append w.node.own true p now 0 w.frames news ∙ ap (λ z. flying w now true p ++ z) (flying-other w.node.own true p now (0 + length w.frames) false x from s (ReplyStart ∷ []) (λ i. absurd (false≢true i))) ∙ append-nil (flying w now true p)

  down : (q : ℕ) → is_drawn w.node q ≡ true → flying v now false q ≡ flying w done false q
  down q h = flying-append w.server.own false q now 0 w.frames news ∙ ap (λ z. flying w now false q ++ z) (flying-other w.server.own false q now (0 + length w.frames) false x from s (ReplyStart ∷ []) (λ i j. absurd (drawn_apart w.node.first w.node.drawn q h (sym j)))) ∙ append-nil (flying w now false q) ∙ down_now q

  down_new : from ≡ w.server.own → flying v now false x ≡ ReplyStart ∷ []
  down_new h = flying-append w.server.own false x now 0 w.frames news
      ∙ ap₂ (λ y z. y ++ z) (flying_none w.server.own false x now 0 w.frames (undrawn w w.server.own false x w.frames (next_unknown w.node) k.low)) (subst (λ a. flying_from w.server.own false x now (0 + length w.frames) (wire_all false x a s (ReplyStart ∷ [])) ≡ ReplyStart ∷ []) (sym h) (flying-new w.server.own false x s now (0 + length w.frames) (ReplyStart ∷ []) (λ j i. below j (omega arith))))

  runs : (p : ℕ) → (w.server.circuit_at p).address ≡ w.node.own → lives (server_end w p) ≡ true → (server_end w p).running ≡ true → Coupled (server_end w p) (node_end v (server_end w p).peer) (flying v now true p) (flying v now false (server_end w p).peer)
  runs p a h r =
      let d : is_drawn w.node (server_end w p).peer ≡ true = (ok.replied p a r).drawn in
      let o : Coupled (server_end w p) (node_end w (server_end w p).peer) (flying w done true p) (flying w done false (server_end w p).peer) = k.runs p a h r in
      subst (λ (z : CircuitEntry). Coupled (server_end w p) z.end (flying v now true p) (flying v now false (server_end w p).peer)) (sym (there (server_end w p).peer d))
      (subst (λ z. Coupled (server_end w p) (node_end w (server_end w p).peer) z (flying v now false (server_end w p).peer)) (sym (up p)) (subst (λ z. Coupled (server_end w p) (node_end w (server_end w p).peer) (flying w now true p) z) (sym (down (server_end w p).peer d))
      (record { alive = λ s. (let b : Both (server_end w p) (node_end w (server_end w p).peer) (flying w done true p) (flying w done false (server_end w p).peer) = o.alive s in record { up = up_now p (node_end w (server_end w p).peer).half.link b.up; down = b.down; shows = b.shows; clear = b.clear }); dead = o.dead })))

  -- what is drawn now and wasn't before is the new one
  is_new : (q : ℕ) → is_drawn w.node q ≡ false → is_drawn v.node q ≡ true → q ≡ x
  is_new q l d = ⊎_elim {C = q ≡ x} (λ i. i) (λ n. absurd (true≢false (sym (drawn_before w.node.first w.node.drawn q n d) ∙ l))) (cases_eq q x)

  new_offer : Offered made.end (ReplyStart ∷ [])
  new_offer = record { rest = []; parts = refl; flow = record { brings = refl; rises = refl }; clear = (refl, refl); dead = λ a. absurd (true≢false a) }

  offered : (q : ℕ) → is_drawn v.node q ≡ true → (v.node.circuit_at q).address ≡ w.server.own → (w.server.circuit_at (node_end v q).peer).address ≡ w.node.own → lives (server_end w (node_end v q).peer) ≡ true → (server_end w (node_end v q).peer).running ≡ false → Offered (node_end v q) (flying v now false q)
  offered q d a b h r = ⊎_elim {C = Offered (node_end v q) (flying v now false q)} old new (drawn_or w.node q)
    where
      old : is_drawn w.node q ≡ false → Offered (node_end v q) (flying v now false q)
      old l =
          let i : q ≡ x = is_new q l d in
          let from_own : from ≡ w.server.own = ap (λ (z : CircuitEntry). z.address) (sym here) ∙ ap (λ z. (v.node.circuit_at z).address) (sym i) ∙ a in
          subst (λ z. Offered (node_end v z) (flying v now false z)) (sym i) (subst (λ (z : CircuitEntry). Offered z.end (flying v now false x)) (sym here) (subst (λ z. Offered made.end z) (sym (down_new from_own)) new_offer))

      new : is_drawn w.node q ≡ true → Offered (node_end v q) (flying v now false q)
      new l =
          let z : v.node.circuit_at q ≡ w.node.circuit_at q = there q l in
          let p : (node_end v q).peer ≡ (node_end w q).peer = ap (λ (u : CircuitEntry). u.end.peer) z in
          subst (λ (u : CircuitEntry). Offered u.end (flying v now false q)) (sym z) (subst (λ u. Offered (node_end w q) u) (sym (down q l)) (k.offered q l (ap (λ (u : CircuitEntry). u.address) (sym z) ∙ a) (ap (λ u. (w.server.circuit_at u).address) (sym p) ∙ b) (ap (λ u. lives (server_end w u)) (sym p) ∙ h) (ap (λ u. (server_end w u).running) (sym p) ∙ r)))

  peers : (q : ℕ) → is_drawn v.node q ≡ true → (v.node.circuit_at q).address ≡ w.server.own → is_known w.server (node_end v q).peer ≡ true
  peers q d a = ⊎_elim {C = is_known w.server (node_end v q).peer ≡ true}
      (λ l. let i : q ≡ x = is_new q l d in
      let p : (node_end v q).peer ≡ s = ap (λ z. (node_end v z).peer) i ∙ ap (λ (z : CircuitEntry). z.end.peer) here in
      subst (λ z. is_known w.server z ≡ true) (sym p) (named (ap (λ (z : CircuitEntry). z.address) (sym here) ∙ ap (λ z. (v.node.circuit_at z).address) (sym i) ∙ a)))
      (λ l. subst (λ (z : CircuitEntry). is_known w.server z.end.peer ≡ true) (sym (there q l)) (k.peers q l (ap (λ (u : CircuitEntry). u.address) (sym (there q l)) ∙ a)))
      (drawn_or w.node q)

  tells : (b : Bool) (y u d o : ℕ) (m : Sent) → is_known (table w b) y ≡ true → NamesSender w b y u d o m → NamesSender v b y u d o m
  tells true y u d o (Run mark ask h) l z = z
  tells true y u d o (Stopped r) l z = z
  tells false y u d o (Stopped r) l z = λ a n. ((z a n).0, (z a n).1 ∙ sym (ap (λ (e : CircuitEntry). e.end.peer) (known_there y l)))
  tells false y u d o (Run mark ask h) l z = tt
  tells true y u d o CallStart l z = z
  tells false y u d o CallStart l z = tt
  tells true y u d o ReplyStart l z = tt
  tells false y u d o ReplyStart l z = tt

  came : (b : Bool) (y u d o : ℕ) (m : Sent) → is_known (table w b) y ≡ true → FromSender w b y u d o m → NamesSender w b y u d o m → Came w b y u d m → Came v b y u d m
  came true y u d o (Run mark ask h) l sy tl z = λ a n.
      let q : is_drawn w.node d ≡ true = subst (λ z. is_drawn w.node z ≡ true) (sym (tl a).1) (ok.replied y (sy a).0 (tl a).0).drawn in
      subst (λ (e : CircuitEntry). Old e.end h) (sym (there d q)) (z a (subst (λ (e : CircuitEntry). lives e.end ≡ true) (there d q) n))
  came false y u d o (Run mark ask h) l sy tl z = z
  came false y u d o ReplyStart l sy tl z = z
  came true y u d o CallStart l sy tl z = tt
  came false y u d o CallStart l sy tl z = tt
  came true y u d o ReplyStart l sy tl z = tt
  came true y u d o (Stopped r) l sy tl z = tt
  came false y u d o (Stopped r) l sy tl z = tt

  pub make_carried : Carried (put_circuit w false (suc w.node.drawn) (next_id w.node) from (make_slave t s g (first_end false false w.other))) now
  make_carried = record {
    below = λ j h. below j (omega (arith, h, length-append w.frames news));
    low = each_append (λ (f : Wired). is_known (table v f.by_server) f.circuit ≡ true) w.frames news (each_imp (λ (f : Wired). is_known (table w f.by_server) f.circuit ≡ true) (λ (f : Wired). is_known (table v f.by_server) f.circuit ≡ true) (λ f. drawn f.circuit f.by_server) w.frames k.low) (drawn_known v.node x (next_drawn w.node.first w.node.drawn), tt);
    calling = λ p a h r. subst (λ z. Flow (server_end w p).half.link fresh z) (sym (up p)) (up_now p fresh (k.calling p a h r));
    runs = runs;
    ups = λ p a r n. (let d : is_drawn w.node (server_end w p).peer ≡ true = (ok.replied p a r).drawn in
        subst (λ (z : CircuitEntry). Flow (server_end w p).half.link z.end.half.link (flying v now true p)) (sym (there (server_end w p).peer d))
        (subst (λ z. Flow (server_end w p).half.link (node_end w (server_end w p).peer).half.link z) (sym (up p)) (up_now p (node_end w (server_end w p).peer).half.link (k.ups p a r (subst (λ (e : CircuitEntry). lives e.end ≡ true) (there (server_end w p).peer d) n)))));
    downs = λ p a h r. (let d : is_drawn w.node (server_end w p).peer ≡ true = (ok.replied p a r).drawn in
        subst (λ (z : CircuitEntry). Flow z.end.half.link (server_end w p).half.link (flying v now false (server_end w p).peer)) (sym (there (server_end w p).peer d))
        (subst (λ z. Flow (node_end w (server_end w p).peer).half.link (server_end w p).half.link z) (sym (down (server_end w p).peer d)) (k.downs p a h r)));
    offered = offered;
    peers = peers;
    tells = each_append (λ (f : Wired). NamesSender v f.by_server f.circuit f.to f.destination f.source f.sent) w.frames news (each_imp (λ (f : Wired). (is_known (table w f.by_server) f.circuit ≡ true) × NamesSender w f.by_server f.circuit f.to f.destination f.source f.sent) (λ (f : Wired). NamesSender v f.by_server f.circuit f.to f.destination f.source f.sent) (λ f z. tells f.by_server f.circuit f.to f.destination f.source f.sent z.0 z.1) w.frames (both_each (λ (f : Wired). is_known (table w f.by_server) f.circuit ≡ true) (λ (f : Wired). NamesSender w f.by_server f.circuit f.to f.destination f.source f.sent) w.frames k.low k.tells)) (tt, tt);
    came = λ j f h i. let q : slice_get w.frames j ≡ Some f = front_place w.frames news j f (short j i) h in
        came f.by_server f.circuit f.to f.destination f.source f.sent (each_at (λ (y : Wired). is_known (table w y.by_server) y.circuit ≡ true) w.frames j f k.low q) (each_at (λ (y : Wired). FromSender w y.by_server y.circuit y.to y.destination y.source y.sent) w.frames j f ok.says q) (each_at (λ (y : Wired). NamesSender w y.by_server y.circuit y.to y.destination y.source y.sent) w.frames j f k.tells q) (came_now j f q i);
  }
    where
      drawn : (y : ℕ) (b : Bool) → is_known (table w b) y ≡ true → is_known (table v b) y ≡ true
      drawn y true h = h
      drawn y false h = known_stays w.node v.node y (drawn_behind w.node.first w.node.drawn) h

      short : (j : ℕ) → is_in j now ≡ true → j < length w.frames
      short j i = ⊎_elim {C = j < length w.frames} (λ z. z) (λ z. absurd (true≢false (sym i ∙ below j z))) (cases_lt j (length w.frames))

-- a START is refused
module _ (w : World) (done : List ℕ) (now : List ℕ) (from s : ℕ) (ok : WorldOk w) (k : Carried w done)
    (below : (j : ℕ) → length w.frames ≤ j → is_in j now ≡ false)
    (up_now : (p : ℕ) (b : Link (List Slot)) → Flow (server_end w p).half.link b (flying w done true p) → Flow (server_end w p).half.link b (flying w now true p))
    (down_now : (q : ℕ) → flying w now false q ≡ flying w done false q)
    (came_now : (j : ℕ) (f : Wired) → slice_get w.frames j ≡ Some f → is_in j now ≡ true → Came w f.by_server f.circuit f.to f.destination f.sent) where
  abbrev turned : List Wired
  turned = wire_all false 0 from s (Stopped 7 ∷ [])

  abbrev u : World
  u = with_table w false w.node turned

  ups : (p : ℕ) → flying u now true p ≡ flying w now true p
  ups p = flying-append w.node.own true p now 0 w.frames turned ∙ ap (λ z. flying w now true p ++ z) (flying-other w.node.own true p now (0 + length w.frames) false 0 from s (Stopped 7 ∷ []) (λ i. absurd (false≢true i))) ∙ append-nil (flying w now true p)

  downs : (q : ℕ) → q ≢ 0 → flying u now false q ≡ flying w done false q
  downs q h = flying-append w.server.own false q now 0 w.frames turned ∙ ap (λ z. flying w now false q ++ z) (flying-other w.server.own false q now (0 + length w.frames) false 0 from s (Stopped 7 ∷ []) (λ i j. absurd (h (sym j)))) ∙ append-nil (flying w now false q) ∙ down_now q

  told : (b : Bool) (y to d o : ℕ) (m : Sent) → NamesSender w b y to d o m → NamesSender u b y to d o m
  told true y to d o (Run mark ask h) z = z
  told true y to d o (Stopped r) z = z
  told false y to d o (Stopped r) z = z
  told false y to d o (Run mark ask h) z = tt
  told true y to d o CallStart z = z
  told false y to d o CallStart z = tt
  told true y to d o ReplyStart z = tt
  told false y to d o ReplyStart z = tt

  arrived : (b : Bool) (y to d : ℕ) (m : Sent) → Came w b y to d m → Came u b y to d m
  arrived true y to d (Run mark ask h) z = z
  arrived false y to d (Run mark ask h) z = z
  arrived false y to d ReplyStart z = z
  arrived true y to d CallStart z = tt
  arrived false y to d CallStart z = tt
  arrived true y to d ReplyStart z = tt
  arrived true y to d (Stopped r) z = tt
  arrived false y to d (Stopped r) z = tt

  pub refuse_carried : Carried (with_table w false w.node (wire_all false 0 from s (Stopped 7 ∷ []))) now
  refuse_carried = record {
    below = λ j h. below j (omega (arith, h, length-append w.frames turned));
    low = each_append (λ (f : Wired). is_known (table u f.by_server) f.circuit ≡ true) w.frames turned (each_imp (λ (f : Wired). is_known (table w f.by_server) f.circuit ≡ true) (λ (f : Wired). is_known (table u f.by_server) f.circuit ≡ true) (λ f. drawn f.circuit f.by_server) w.frames k.low) (refl, tt);
    calling = λ p a h r. subst (λ z. Flow (server_end w p).half.link fresh z) (sym (ups p)) (up_now p fresh (k.calling p a h r));
    runs = λ p a h r. (let o : Coupled (server_end w p) (node_end w (server_end w p).peer) (flying w done true p) (flying w done false (server_end w p).peer) = k.runs p a h r in
        subst (λ z. Coupled (server_end w p) (node_end w (server_end w p).peer) z (flying u now false (server_end w p).peer)) (sym (ups p)) (subst (λ z. Coupled (server_end w p) (node_end w (server_end w p).peer) (flying w now true p) z) (sym (downs (server_end w p).peer (ok.replied p a r).some))
        (record { alive = λ l. (let b : Both (server_end w p) (node_end w (server_end w p).peer) (flying w done true p) (flying w done false (server_end w p).peer) = o.alive l in record { up = up_now p (node_end w (server_end w p).peer).half.link b.up; down = b.down; shows = b.shows; clear = b.clear }); dead = o.dead })));
    ups = λ p a r n. subst (λ z. Flow (server_end w p).half.link (node_end w (server_end w p).peer).half.link z) (sym (ups p)) (up_now p (node_end w (server_end w p).peer).half.link (k.ups p a r n));
    downs = λ p a h r. subst (λ z. Flow (node_end w (server_end w p).peer).half.link (server_end w p).half.link z) (sym (downs (server_end w p).peer (ok.replied p a r).some)) (k.downs p a h r);
    offered = λ q d a b h r. subst (λ z. Offered (node_end w q) z) (sym (downs q (drawn_some w.node.first w.node.drawn q d))) (k.offered q d a b h r);
    peers = k.peers;
    tells = each_append (λ (f : Wired). NamesSender u f.by_server f.circuit f.to f.destination f.source f.sent) w.frames turned (each_imp (λ (f : Wired). NamesSender w f.by_server f.circuit f.to f.destination f.source f.sent) (λ (f : Wired). NamesSender u f.by_server f.circuit f.to f.destination f.source f.sent) (λ f. told f.by_server f.circuit f.to f.destination f.source f.sent) w.frames k.tells) (λ a n. absurd (n refl), tt);
    came = λ j f h i. arrived f.by_server f.circuit f.to f.destination f.sent (came_now j f (front_place w.frames turned j f (short j i) h) i);
  }
    where
      drawn : (y : ℕ) (b : Bool) → is_known (table w b) y ≡ true → is_known (table u b) y ≡ true
      drawn y true h = h
      drawn y false h = h

      short : (j : ℕ) → is_in j now ≡ true → j < length w.frames
      short j i = ⊎_elim {C = j < length w.frames} (λ z. z) (λ z. absurd (true≢false (sym i ∙ below j z))) (cases_lt j (length w.frames))
