-- The first reply: from now on both ends of the circuit are coupled.
use Rattle.std.proofs.Common.{◌≡◌, ◌≢◌, ℕ, inl, ⊎_elim, sym, ap, ◌∙◌, refl, subst, arith, Bool, true, false, cond, ◌&&◌, List, [], ◌∷◌, ◌++◌, length, Some, nat_eq, slice_get, eqb-true, ne_eqb, append-nil}
use Rattle.std.proofs.lemmas.Bool.{true≢false, false≢true, eqb-false}
use Rattle.lat_model.specs.sessions.Slots.{Slot}
use Rattle.lat_model.specs.Lists.{Each}
use Rattle.lat_model.specs.numbers.Link.{Link, fresh}
use Rattle.lat_model.specs.numbers.NetOk.{FrameOf}
use Rattle.lat_model.specs.ends.End.{Sent, Run, CallStart, ReplyStart, Stopped, End, Step, lives}
use Rattle.lat_model.specs.ends.Timers.{note_empty}
use Rattle.lat_model.specs.ends.Starting.{Agreed, reply_end}
use Rattle.lat_model.specs.circuits.Together.{Together}
use Rattle.lat_model.specs.circuits.World.{CircuitEntry, Wired, World, table, at_end}
use Rattle.lat_model.specs.circuits.WorldOk.{WorldOk, FromSender, Idle, void_half}
use Rattle.lat_model.proofs.sessions.Words.{upd_same, upd_other, upd_field}
use Rattle.lat_model.proofs.numbers.Net.{each_imp, each_at}
use Rattle.lat_model.specs.circuits.Ids.{is_drawn, is_known}
use Rattle.lat_laws.specs.rounds.Flight.{Flow, Old}
use Rattle.lat_laws.specs.rounds.Carried.{flying, flying_from, has_stop_sent, server_end, node_end, Coupled, Offered, NamesSender, Came, Carried}
use Rattle.lat_laws.proofs.rounds.carried.Runs.{fly_same, fly_first, place_low, below_more, in_cases}
use Rattle.lat_laws.proofs.rounds.carried.Downs.{line_down, front_down}
use Rattle.lat_laws.proofs.rounds.carried.Unheard.{Turn}
use Rattle.lat_laws.proofs.rounds.carried.Servers.{receiver_flow}

module _ (w : World) (done : List ℕ) (i x q to s t : ℕ) (g : Agreed) (ok : WorldOk w) (k : Carried w done)
    (place : slice_get w.frames i ≡ Some (record { by_server = false; circuit = q; to = to; destination = x; source = s; sent = ReplyStart }))
    (home : to ≡ w.server.own)
    (turn : Turn w done (record { by_server = false; circuit = q; to = to; destination = x; source = s; sent = ReplyStart }) i)
    (l : lives (w.server.circuit_at x).end ≡ true)
    (address : (w.server.circuit_at x).address ≡ w.node.own)
    (waits : (w.server.circuit_at x).end.running ≡ false)
    (some : q ≢ 0)
    (drawn : is_drawn w.node q ≡ true)
    (own : (w.node.circuit_at q).address ≡ w.server.own)
    (peer : (node_end w q).peer ≡ x) where
  abbrev f : Wired
  f = record { by_server = false; circuit = q; to = to; destination = x; source = s; sent = ReplyStart }

  abbrev e : End
  e = (w.server.circuit_at x).end

  abbrev st : Step
  st = record { end = reply_end t q g e; sent = [] }

  abbrev c' : CircuitEntry
  c' = record { address = (w.server.circuit_at x).address; end = (note_empty e st).end }

  abbrev v : World
  v = at_end w true x st

  abbrev now : List ℕ
  now = i ∷ done

  frames : v.frames ≡ w.frames
  frames = append-nil w.frames

  fly : (b : Bool) (y : ℕ) → flying v now b y ≡ flying w now b y
  fly true y = ap (λ z. flying_from w.node.own true y now 0 z) frames
  fly false y = ap (λ z. flying_from w.server.own false y now 0 z) frames

  up_now : (p : ℕ) → flying v now true p ≡ flying w done true p
  up_now p = fly true p ∙ fly_same w.node.own true p done i w.frames f place (inl refl)

  down_now : (y : ℕ) → (y ≡ q → ⊥) → flying v now false y ≡ flying w done false y
  down_now y n = fly false y ∙ fly_same w.server.own false y done i w.frames f place (inl (ap (λ b. b && nat_eq to w.server.own) (ne_eqb q y (λ z. n (sym z)))))

  here : v.server.circuit_at x ≡ c'
  here = upd_same w.server.circuit_at x c'

  there : (p : ℕ) → (p ≡ x → ⊥) → v.server.circuit_at p ≡ w.server.circuit_at p
  there p n = upd_other w.server.circuit_at x c' p n

  addresses : (p : ℕ) → (v.server.circuit_at p).address ≡ (w.server.circuit_at p).address
  addresses = upd_field (λ (z : CircuitEntry). z.address) w.server.circuit_at x c' refl

  lived : (p : ℕ) → lives (server_end v p) ≡ lives (server_end w p)
  lived = upd_field (λ (z : CircuitEntry). lives z.end) w.server.circuit_at x c' refl

  -- the slave's frames are all in flight: this is its first
  offer : Offered (node_end w q) (flying w done false q)
  offer = k.offered q drawn own (ap (λ z. (w.server.circuit_at z).address) peer ∙ address) (ap (λ z. lives (server_end w z)) peer ∙ l) (ap (λ z. (server_end w z).running) peer ∙ waits)

  rest : flying w now false q ≡ offer.rest
  rest = ⊎_elim {C = flying w now false q ≡ offer.rest}
      (λ o. absurd (true≢false (sym (k.came i f place o home address l) ∙ waits)))
      (λ n. let y : ReplyStart ∷ flying w now false q ≡ ReplyStart ∷ offer.rest = sym (fly_first w.server.own false q done i w.frames f place (line_down w.server.own q f refl refl home) n.0 (front_down w done f i q w.server.own refl home n.1)) ∙ offer.parts in cc)
      turn

  -- neither end has formed or taken anything
  alone : Together e.half (void_half false) []
  alone = subst (λ r. Together e.half (cond r (w.node.circuit_at e.peer).end.half (void_half false)) []) waits (ok.matched x address)

  idle : Idle (node_end w q)
  idle = ok.idle q own (λ j. false≢true (sym waits ∙ ap (λ z. (server_end w z).running) (sym peer) ∙ j.running))

  nil_front : (xs ys : List (List Slot)) → xs ++ ys ≡ [] → xs ≡ []
  nil_front [] ys h = refl
  nil_front (y ∷ xs) ys h = cc

  no_came : e.half.link.came ≡ []
  no_came = nil_front e.half.link.came alone.way_down.came_first.0 alone.way_down.came_first.1

  no_known : e.half.link.known ≡ 0
  no_known = omega (arith, alone.way_up.known_taken)

  first_up : Flow (note_empty e st).end.half.link (node_end w q).half.link (flying w done true x)
  first_up = subst (λ z. Flow e.half.link z (flying w done true x)) (sym idle.link) (k.calling x address l waits)

  first_down : Flow (node_end w q).half.link (note_empty e st).end.half.link (flying w now false q)
  first_down = receiver_flow (node_end w q).half.link fresh e.half.link (flying w now false q) no_came no_known (subst (λ z. Flow (node_end w q).half.link fresh z) (sym rest) offer.flow)

  coupled : Coupled (note_empty e st).end (node_end w q) (flying w done true x) (flying w now false q)
  coupled = record {
    alive = λ a. record {
      up = first_up;
      down = first_down;
      shows = inl refl;
      clear = offer.clear;
    };
    dead = λ a. ap has_stop_sent rest ∙ offer.dead a;
  }

  calling : (p : ℕ) → (v.server.circuit_at p).address ≡ w.node.own → lives (server_end v p) ≡ true → (server_end v p).running ≡ false → Flow (server_end v p).half.link fresh (flying v now true p)
  calling p a h r = go (nat_eq p x) refl a h r
    where
      go : (b : Bool) → nat_eq p x ≡ b → (cond b c' (w.server.circuit_at p)).address ≡ w.node.own → lives (cond b c' (w.server.circuit_at p)).end ≡ true → (cond b c' (w.server.circuit_at p)).end.running ≡ false → Flow (cond b c' (w.server.circuit_at p)).end.half.link fresh (flying v now true p)
      go true y a h r = absurd (true≢false r)
      go false y a h r = subst (λ z. Flow (server_end w p).half.link fresh z) (sym (up_now p)) (k.calling p a h r)

  runs : (p : ℕ) → (v.server.circuit_at p).address ≡ w.node.own → lives (server_end v p) ≡ true → (server_end v p).running ≡ true → Coupled (server_end v p) (node_end w (server_end v p).peer) (flying v now true p) (flying v now false (server_end v p).peer)
  runs p a h r = go (nat_eq p x) refl
    where
      go : (b : Bool) → nat_eq p x ≡ b → Coupled (server_end v p) (node_end w (server_end v p).peer) (flying v now true p) (flying v now false (server_end v p).peer)
      go true y =
          subst (λ z. Coupled (server_end v z) (node_end w (server_end v z).peer) (flying v now true z) (flying v now false (server_end v z).peer)) (sym (eqb-true p x y))
          (subst (λ (z : CircuitEntry). Coupled z.end (node_end w z.end.peer) (flying v now true x) (flying v now false z.end.peer)) (sym here)
          (subst (λ z. Coupled (note_empty e st).end (node_end w q) z (flying v now false q)) (sym (up_now x)) (subst (λ z. Coupled (note_empty e st).end (node_end w q) (flying w done true x) z) (sym (fly false q)) coupled)))
      go false y =
          let n : p ≡ x → ⊥ = eqb-false p x y in
          let z : v.server.circuit_at p ≡ w.server.circuit_at p = there p n in
          let a0 : (w.server.circuit_at p).address ≡ w.node.own = ap (λ (u : CircuitEntry). u.address) (sym z) ∙ a in
          let r0 : (server_end w p).running ≡ true = ap (λ (u : CircuitEntry). u.end.running) (sym z) ∙ r in
          let m : (server_end w p).peer ≡ q → ⊥ = λ u. n (sym (ok.replied p a0 r0).peer ∙ ap (λ d. (node_end w d).peer) u ∙ peer) in
          let o : Coupled (server_end w p) (node_end w (server_end w p).peer) (flying w done true p) (flying w done false (server_end w p).peer) = k.runs p a0 (ap (λ (u : CircuitEntry). lives u.end) (sym z) ∙ h) r0 in
          subst (λ (u : CircuitEntry). Coupled u.end (node_end w u.end.peer) (flying v now true p) (flying v now false u.end.peer)) (sym z)
          (subst (λ u. Coupled (server_end w p) (node_end w (server_end w p).peer) u (flying v now false (server_end w p).peer)) (sym (up_now p)) (subst (λ u. Coupled (server_end w p) (node_end w (server_end w p).peer) (flying w done true p) u) (sym (down_now (server_end w p).peer m)) o))

  ups : (p : ℕ) → (v.server.circuit_at p).address ≡ w.node.own → (server_end v p).running ≡ true → lives (node_end w (server_end v p).peer) ≡ true → Flow (server_end v p).half.link (node_end w (server_end v p).peer).half.link (flying v now true p)
  ups p a r n = go (nat_eq p x) refl
    where
      go : (b : Bool) → nat_eq p x ≡ b → Flow (server_end v p).half.link (node_end w (server_end v p).peer).half.link (flying v now true p)
      go true y =
          subst (λ z. Flow (server_end v z).half.link (node_end w (server_end v z).peer).half.link (flying v now true z)) (sym (eqb-true p x y))
          (subst (λ (z : CircuitEntry). Flow z.end.half.link (node_end w z.end.peer).half.link (flying v now true x)) (sym here) (subst (λ z. Flow (note_empty e st).end.half.link (node_end w q).half.link z) (sym (up_now x)) first_up))
      go false y =
          let m : p ≡ x → ⊥ = eqb-false p x y in
          let z : v.server.circuit_at p ≡ w.server.circuit_at p = there p m in
          subst (λ (u : CircuitEntry). Flow u.end.half.link (node_end w u.end.peer).half.link (flying v now true p)) (sym z)
          (subst (λ u. Flow (server_end w p).half.link (node_end w (server_end w p).peer).half.link u) (sym (up_now p)) (k.ups p (ap (λ (u : CircuitEntry). u.address) (sym z) ∙ a) (ap (λ (u : CircuitEntry). u.end.running) (sym z) ∙ r) (ap (λ (u : CircuitEntry). lives (node_end w u.end.peer)) (sym z) ∙ n)))

  downs : (p : ℕ) → (v.server.circuit_at p).address ≡ w.node.own → lives (server_end v p) ≡ true → (server_end v p).running ≡ true → Flow (node_end w (server_end v p).peer).half.link (server_end v p).half.link (flying v now false (server_end v p).peer)
  downs p a h r = go (nat_eq p x) refl
    where
      go : (b : Bool) → nat_eq p x ≡ b → Flow (node_end w (server_end v p).peer).half.link (server_end v p).half.link (flying v now false (server_end v p).peer)
      go true y =
          subst (λ z. Flow (node_end w (server_end v z).peer).half.link (server_end v z).half.link (flying v now false (server_end v z).peer)) (sym (eqb-true p x y))
          (subst (λ (z : CircuitEntry). Flow (node_end w z.end.peer).half.link z.end.half.link (flying v now false z.end.peer)) (sym here) (subst (λ z. Flow (node_end w q).half.link (note_empty e st).end.half.link z) (sym (fly false q)) first_down))
      go false y =
          let n : p ≡ x → ⊥ = eqb-false p x y in
          let z : v.server.circuit_at p ≡ w.server.circuit_at p = there p n in
          let a0 : (w.server.circuit_at p).address ≡ w.node.own = ap (λ (u : CircuitEntry). u.address) (sym z) ∙ a in
          let r0 : (server_end w p).running ≡ true = ap (λ (u : CircuitEntry). u.end.running) (sym z) ∙ r in
          let m : (server_end w p).peer ≡ q → ⊥ = λ u. n (sym (ok.replied p a0 r0).peer ∙ ap (λ d. (node_end w d).peer) u ∙ peer) in
          subst (λ (u : CircuitEntry). Flow (node_end w u.end.peer).half.link u.end.half.link (flying v now false u.end.peer)) (sym z)
          (subst (λ u. Flow (node_end w (server_end w p).peer).half.link (server_end w p).half.link u) (sym (down_now (server_end w p).peer m)) (k.downs p a0 (ap (λ (u : CircuitEntry). lives u.end) (sym z) ∙ h) r0))

  offered : (y : ℕ) → is_drawn w.node y ≡ true → (w.node.circuit_at y).address ≡ w.server.own → (v.server.circuit_at (node_end w y).peer).address ≡ w.node.own → lives (server_end v (node_end w y).peer) ≡ true → (server_end v (node_end w y).peer).running ≡ false → Offered (node_end w y) (flying v now false y)
  offered y d a b h r =
      let p : ℕ = (node_end w y).peer in
      let m : p ≡ x → ⊥ = λ u. true≢false (sym (ap (λ z. (server_end v z).running) u ∙ ap (λ (z : CircuitEntry). z.end.running) here) ∙ r) in
      let z : v.server.circuit_at p ≡ w.server.circuit_at p = there p m in
      subst (λ u. Offered (node_end w y) u) (sym (down_now y (λ u. m (ap (λ d. (node_end w d).peer) u ∙ peer)))) (k.offered y d a (ap (λ (u : CircuitEntry). u.address) (sym z) ∙ b) (ap (λ (u : CircuitEntry). lives u.end) (sym z) ∙ h) (ap (λ (u : CircuitEntry). u.end.running) (sym z) ∙ r))

  tells : (b : Bool) (y u d o : ℕ) (m : Sent) → NamesSender w b y u d o m → NamesSender v b y u d o m
  tells true y u d o (Run mark ask h) z = λ a. go (nat_eq y x) refl (z a)
    where
      go : (b : Bool) → nat_eq y x ≡ b → ((server_end w y).running ≡ true) × (d ≡ (server_end w y).peer) → ((cond b c' (w.server.circuit_at y)).end.running ≡ true) × (d ≡ (cond b c' (w.server.circuit_at y)).end.peer)
      go true n p = absurd (true≢false (sym p.0 ∙ ap (λ e. (server_end w e).running) (eqb-true y x n) ∙ waits))
      go false n p = p
  tells true y u d o (Stopped r) z = (lived y ∙ z.0, z.1, z.2)
  tells false y u d o (Stopped r) z = z
  tells false y u d o (Run mark ask h) z = tt
  tells true y u d o CallStart z = z
  tells false y u d o CallStart z = tt
  tells true y u d o ReplyStart z = tt
  tells false y u d o ReplyStart z = tt

  -- a slave that is idle has sent no message: its frames are old to all
  came : (b : Bool) (y u d o : ℕ) (m : Sent) → FromSender w b y u d o m → Came w b y u d m → Came v b y u d m
  came true y u d o (Run mark ask h) sy z = z
  came false y u d o (Run mark ask h) sy z = λ a b r n p. go (nat_eq d x) refl a b r n p
    where
      nothing : u ≡ w.server.own → y ≡ q → Old (note_empty e st).end h
      nothing a p =
          let fr : FrameOf (List Slot) (node_end w y).half.link h = (sy a).1 in
          let no : (node_end w y).half.link ≡ fresh = subst (λ z. (node_end w z).half.link ≡ fresh) (sym p) idle.link in
          let n0 : length (node_end w y).half.link.sent ≡ 0 = ap (λ (z : Link (List Slot)). length z.sent) no in
          let a0 : (node_end w y).half.link.shown ≡ 0 = ap (λ (z : Link (List Slot)). z.shown) no in
          record { number = omega (arith, fr.number, n0); acknowledgement = omega (arith, fr.shown, a0) }

      go : (b : Bool) → nat_eq d x ≡ b → u ≡ w.server.own → (cond b c' (w.server.circuit_at d)).address ≡ w.node.own → lives (cond b c' (w.server.circuit_at d)).end ≡ true → (cond b c' (w.server.circuit_at d)).end.running ≡ true → (cond b c' (w.server.circuit_at d)).end.peer ≡ y → Old (cond b c' (w.server.circuit_at d)).end h
      go true i a b r n p = nothing a (sym p)
      go false i a b r n p = z a b r n p
  came false y u d o ReplyStart sy z = λ a b r. go (nat_eq d x) a b r
    where
      go : (b : Bool) → u ≡ w.server.own → (cond b c' (w.server.circuit_at d)).address ≡ w.node.own → lives (cond b c' (w.server.circuit_at d)).end ≡ true → (cond b c' (w.server.circuit_at d)).end.running ≡ true
      go true a b r = refl
      go false a b r = z a b r
  came true y u d o CallStart sy z = tt
  came false y u d o CallStart sy z = tt
  came true y u d o ReplyStart sy z = tt
  came true y u d o (Stopped r) sy z = tt
  came false y u d o (Stopped r) sy z = tt

  same : (j : ℕ) (u : Wired) → j ≡ i → slice_get w.frames j ≡ Some u → f ≡ u
  same j u z h = let r : Some f ≡ Some u = sym place ∙ ap (slice_get w.frames) (sym z) ∙ h in cc

  old_place : (j : ℕ) (u : Wired) → slice_get v.frames j ≡ Some u → slice_get w.frames j ≡ Some u
  old_place j u h = ap (λ z. slice_get z j) (sym frames) ∙ h

  pub first_reply_carried : Carried (at_end w true x (record { end = reply_end t q g (w.server.circuit_at x).end; sent = [] })) (i ∷ done)
  first_reply_carried = record {
    below = λ j h. below_more w done i (place_low w.frames i f place) k.below j (omega (arith, h, ap length frames));
    low = subst (λ z. Each (λ (u : Wired). is_known (table v u.by_server) u.circuit ≡ true) z) (sym frames) (each_imp (λ (u : Wired). is_known (table w u.by_server) u.circuit ≡ true) (λ (u : Wired). is_known (table v u.by_server) u.circuit ≡ true) (λ u. drawn_same u.circuit u.by_server) w.frames k.low);
    calling = calling;
    runs = runs;
    ups = ups;
    downs = downs;
    offered = offered;
    peers = k.peers;
    tells = subst (λ z. Each (λ (u : Wired). NamesSender v u.by_server u.circuit u.to u.destination u.source u.sent) z) (sym frames) (each_imp (λ (u : Wired). NamesSender w u.by_server u.circuit u.to u.destination u.source u.sent) (λ (u : Wired). NamesSender v u.by_server u.circuit u.to u.destination u.source u.sent) (λ u. tells u.by_server u.circuit u.to u.destination u.source u.sent) w.frames k.tells);
    came = λ j u h d. ⊎_elim {C = Came v u.by_server u.circuit u.to u.destination u.sent} (λ z. subst (λ (y : Wired). Came v y.by_server y.circuit y.to y.destination y.sent) (same j u z (old_place j u h)) mine) (λ z. came u.by_server u.circuit u.to u.destination u.source u.sent (each_at (λ (y : Wired). FromSender w y.by_server y.circuit y.to y.destination y.source y.sent) w.frames j u ok.says (old_place j u h)) (k.came j u (old_place j u h) z)) (in_cases i j done d);
  }
    where
      drawn_same : (y : ℕ) (b : Bool) → is_known (table w b) y ≡ true → is_known (table v b) y ≡ true
      drawn_same y true h = h
      drawn_same y false h = h

      mine : Came v false q to x ReplyStart
      mine = λ a b r. ap (λ (z : CircuitEntry). z.end.running) here
