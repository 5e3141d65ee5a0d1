-- A RUN that is delivered in its turn, or again, keeps what is in flight.
use Rattle.std.proofs.Common.{◌≡◌, ◌≢◌, ℕ, zero, suc, ◌+◌, ◌<◌, ◌≤◌, ◌⊎◌, inl, inr, ⊎_elim, sym, ap, ◌∙◌, refl, subst, arith, Bool, true, false, ◌&&◌, ◌||◌, List, [], ◌∷◌, length, Some, nat_eq, slice_get, eqb-true, eq-eqb, ne_eqb, zero-add}
use Rattle.std.proofs.lemmas.Bool.{true≢false, and_parts, and_from}
use Rattle.lat_model.specs.sessions.Slots.{Slot}
use Rattle.lat_model.specs.numbers.Link.{Link, Frame}
use Rattle.lat_model.specs.ends.End.{Mark, Run, End, Step, lives}
use Rattle.lat_model.specs.ends.Timers.{note_empty}
use Rattle.lat_model.specs.ends.Run.{RunBroke, run_end}
use Rattle.lat_model.specs.circuits.World.{CircuitEntry, Wired, World, at_end}
use Rattle.lat_model.specs.circuits.WorldOk.{WorldOk}
use Rattle.lat_model.proofs.sessions.Words.{upd_same}
use Rattle.lat_model.proofs.circuits.Kin.{kin_run}
use Rattle.lat_laws.specs.rounds.Lossless.{is_in}
use Rattle.lat_laws.specs.rounds.Flight.{Flow, Old}
use Rattle.lat_laws.specs.rounds.Carried.{is_of_line, flying, flying_from, IsNext, server_end, node_end, Came, Carried, Kinds}
use Rattle.lat_laws.proofs.rounds.flight.Hearing.{Hears, run_hears, first_flow, first_old, again_flow, next_more, known_least}
use Rattle.lat_laws.proofs.rounds.carried.Flying.{flying-same, flying-first}
use Rattle.lat_laws.proofs.rounds.carried.Times.{node_sound}
use Rattle.lat_laws.proofs.rounds.carried.Nodes as Nodes

-- flights, with a delivery

pub fly_same : (other : ℕ) (b : Bool) (x : ℕ) (done : List ℕ) (i : ℕ) (vs : List Wired) (v : Wired) → slice_get vs i ≡ Some v → (is_of_line other b x v ≡ false) ⊎ (is_in i done ≡ true) → flying_from other b x (i ∷ done) 0 vs ≡ flying_from other b x done 0 vs
fly_same other b x done i vs v e h = subst (λ z. flying_from other b x (z ∷ done) 0 vs ≡ flying_from other b x done 0 vs) (zero-add i) (flying-same other b x done 0 i vs v e (⊎_elim {C = (is_of_line other b x v ≡ false) ⊎ (is_in (0 + i) done ≡ true)} (λ z. inl z) (λ z. inr (ap (λ y. is_in y done) (zero-add i) ∙ z)) h))

pub fly_first : (other : ℕ) (b : Bool) (x : ℕ) (done : List ℕ) (i : ℕ) (vs : List Wired) (v : Wired) → slice_get vs i ≡ Some v → is_of_line other b x v ≡ true → is_in i done ≡ false → ((j : ℕ) (u : Wired) → j < i → slice_get vs j ≡ Some u → is_of_line other b x u ≡ true → is_in j done ≡ true) → flying_from other b x done 0 vs ≡ v.sent ∷ flying_from other b x (i ∷ done) 0 vs
fly_first other b x done i vs v e m d h = subst (λ z. flying_from other b x done 0 vs ≡ v.sent ∷ flying_from other b x (z ∷ done) 0 vs) (zero-add i) (flying-first other b x done 0 i vs v e m (ap (λ y. is_in y done) (zero-add i) ∙ d) (λ j u l g w. ap (λ y. is_in y done) (zero-add j) ∙ h j u l g w))

-- the frame is of this line
pub line_of : (other p : ℕ) (v : Wired) → v.by_server ≡ true → v.circuit ≡ p → v.to ≡ other → is_of_line other true p v ≡ true
line_of other p v b c t = and_from v.by_server (nat_eq v.circuit p && nat_eq v.to other) b (and_from (nat_eq v.circuit p) (nat_eq v.to other) (eq-eqb v.circuit p c) (eq-eqb v.to other t))

-- and those before it of the line were delivered
pub front_of : (w : World) (done : List ℕ) (v : Wired) (i p other : ℕ) → v.by_server ≡ true → v.to ≡ other → IsNext w done v i → (j : ℕ) (u : Wired) → j < i → slice_get w.frames j ≡ Some u → is_of_line other true p u ≡ true → is_in j done ≡ true
front_of w done v i p other b t n j u l g m =
    let q : (u.by_server ≡ true) × ((nat_eq u.circuit p && nat_eq u.to other) ≡ true) = and_parts u.by_server (nat_eq u.circuit p && nat_eq u.to other) m in
    let r : (nat_eq u.circuit p ≡ true) × (nat_eq u.to other ≡ true) = and_parts (nat_eq u.circuit p) (nat_eq u.to other) q.1 in
    n j u l g (q.0 ∙ sym b) (eqb-true u.to other r.1 ∙ sym t)

pub place_low : {X : Type 0} (xs : List X) (i : ℕ) (v : X) → slice_get xs i ≡ Some v → i < length xs
place_low [] i v e = cc
place_low (x ∷ xs) zero v e = omega arith
place_low (x ∷ xs) (suc i) v e = let h : i < length xs = place_low xs i v e in omega arith

pub below_more : (w : World) (done : List ℕ) (i : ℕ) → i < length w.frames → ((j : ℕ) → length w.frames ≤ j → is_in j done ≡ false) → (j : ℕ) → length w.frames ≤ j → is_in j (i ∷ done) ≡ false
below_more w done i l h j m = ap (λ z. z || is_in j done) (ne_eqb j i (λ q. absurd (omega (arith, q, l, m)))) ∙ h j m

-- an index among those delivered now is this one, or was among them before
pub in_cases : (i j : ℕ) (done : List ℕ) → is_in j (i ∷ done) ≡ true → (j ≡ i) ⊎ (is_in j done ≡ true)
in_cases i j done h = go (nat_eq j i) refl h
  where
    go : (b : Bool) → nat_eq j i ≡ b → (b || is_in j done) ≡ true → (j ≡ i) ⊎ (is_in j done ≡ true)
    go true q h = inl (eqb-true j i q)
    go false q h = inr h

-- A RUN of the server's circuit p that names the slave x, which hears it
module _ (w : World) (done : List ℕ) (i p to x s t : ℕ) (mark : Mark) (ask : Bool) (f : Frame (List Slot)) (ok : WorldOk w) (kd : Kinds w) (k : Carried w done)
    (place : slice_get w.frames i ≡ Some (record { by_server = true; circuit = p; to = to; destination = x; source = s; sent = Run mark ask f }))
    (home : to ≡ w.node.own)
    (turn : (is_in i done ≡ true) ⊎ ((is_in i done ≡ false) × IsNext w done (record { by_server = true; circuit = p; to = to; destination = x; source = s; sent = Run mark ask f }) i))
    (l : lives (w.node.circuit_at x).end ≡ true)
    (address : (w.server.circuit_at p).address ≡ w.node.own)
    (running : (server_end w p).running ≡ true)
    (peer : (server_end w p).peer ≡ x)
    (whole : (run_end t ask f (w.node.circuit_at x).end).answer ≢ RunBroke) where
  abbrev v : Wired
  v = record { by_server = true; circuit = p; to = to; destination = x; source = s; sent = Run mark ask f }

  abbrev e : End
  e = (w.node.circuit_at x).end

  abbrev st : Step
  st = (run_end t ask f e).step

  abbrev now : List ℕ
  now = i ∷ done

  hears : Hears e f st
  hears = run_hears t ask f e l whole

  low : i < length w.frames
  low = place_low w.frames i v place

  -- the master that runs with this slave is p
  only : (y : ℕ) → (w.server.circuit_at y).address ≡ w.node.own → (server_end w y).running ≡ true → (server_end w y).peer ≡ x → y ≡ p
  only y a r q = sym (ok.replied y a r).peer ∙ ap (λ z. (node_end w z).peer) (q ∙ sym peer) ∙ (ok.replied p address running).peer

  down_now : (q : ℕ) → flying w now false q ≡ flying w done false q
  down_now q = fly_same w.server.own false q done i w.frames v place (inl refl)

  other_line : (y : ℕ) → (y ≡ p → ⊥) → is_of_line w.node.own true y v ≡ false
  other_line y n = ap (λ b. b && nat_eq to w.node.own) (ne_eqb p y (λ z. n (sym z)))

  up_same : (y : ℕ) → ((server_end w y).running ≡ true → (server_end w y).peer ≡ x → ⊥) → flying w now true y ≡ flying w done true y
  up_same y n = fly_same w.node.own true y done i w.frames v place (inl (other_line y (λ q. n (ap (λ z. (server_end w z).running) q ∙ running) (ap (λ z. (server_end w z).peer) q ∙ peer))))

  up_now : (y : ℕ) → ((server_end w y).running ≡ true → (server_end w y).peer ≡ x → ⊥) → (b : Link (List Slot)) → Flow (server_end w y).half.link b (flying w done true y) → Flow (server_end w y).half.link b (flying w now true y)
  up_now y n b g = subst (λ z. Flow (server_end w y).half.link b z) (sym (up_same y n)) g

  flow_now : Flow (server_end w p).half.link e.half.link (flying w done true p) → Flow (server_end w p).half.link st.end.half.link (flying w now true p)
  flow_now g = ⊎_elim {C = Flow (server_end w p).half.link st.end.half.link (flying w now true p)}
      (λ o. subst (λ z. Flow (server_end w p).half.link st.end.half.link z) (sym (fly_same w.node.own true p done i w.frames v place (inr o))) (again_flow e (server_end w p).half.link f (flying w done true p) st hears (k.came i v place o home l) g))
      (λ n. first_flow e (server_end w p).half.link mark ask f (flying w now true p) st hears (subst (λ z. Flow (server_end w p).half.link e.half.link z) (fly_first w.node.own true p done i w.frames v place (line_of w.node.own p v refl refl home) n.0 (front_of w done v i p w.node.own refl home n.1)) g))
      turn

  takes : (y : ℕ) → (w.server.circuit_at y).address ≡ w.node.own → (server_end w y).running ≡ true → (server_end w y).peer ≡ x → Flow (server_end w y).half.link e.half.link (flying w done true y) → Flow (server_end w y).half.link st.end.half.link (flying w now true y)
  takes y a r q g =
      let z : y ≡ p = only y a r q in
      subst (λ u. Flow (server_end w u).half.link st.end.half.link (flying w now true u)) (sym z) (flow_now (subst (λ u. Flow (server_end w u).half.link e.half.link (flying w done true u)) z g))

  more : Nodes.More e st.end
  more = record { came = omega (arith, hears.came, next_more (length e.half.link.came) f); known = omega (arith, hears.known, known_least e.half.link.known f.acknowledgement) }

  before : Flow (server_end w p).half.link e.half.link (flying w done true p)
  before = subst (λ z. Flow (server_end w p).half.link (node_end w z).half.link (flying w done true p)) peer (k.ups p address running (subst (λ z. lives (node_end w z) ≡ true) (sym peer) l))

  old_now : Old st.end f
  old_now = ⊎_elim {C = Old st.end f}
      (λ o. let z : Old e f = k.came i v place o home l in record { number = omega (arith, z.number, more.came); acknowledgement = omega (arith, z.acknowledgement, more.known) })
      (λ n. first_old e (server_end w p).half.link mark ask f (flying w now true p) st hears (subst (λ z. Flow (server_end w p).half.link e.half.link z) (fly_first w.node.own true p done i w.frames v place (line_of w.node.own p v refl refl home) n.0 (front_of w done v i p w.node.own refl home n.1)) before))
      turn

  here : (at_end w false x st).node.circuit_at x ≡ record { address = (w.node.circuit_at x).address; end = (note_empty e st).end }
  here = upd_same w.node.circuit_at x (record { address = (w.node.circuit_at x).address; end = (note_empty e st).end })

  came_now : (j : ℕ) (g : Wired) → slice_get w.frames j ≡ Some g → is_in j now ≡ true → (is_in j done ≡ true) ⊎ Came (at_end w false x st) g.by_server g.circuit g.to g.destination g.sent
  came_now j g q h = ⊎_elim {C = (is_in j done ≡ true) ⊎ Came (at_end w false x st) g.by_server g.circuit g.to g.destination g.sent} (λ z. inr (this (same z q))) (λ z. inl z) (in_cases i j done h)
    where
      same : j ≡ i → slice_get w.frames j ≡ Some g → v ≡ g
      same z q = let r : Some v ≡ Some g = sym place ∙ ap (slice_get w.frames) (sym z) ∙ q in cc

      mine : Came (at_end w false x st) true p to x (Run mark ask f)
      mine = λ u b. let o : Old st.end f = old_now in subst (λ (z : CircuitEntry). Old z.end f) (sym here) (record { number = o.number; acknowledgement = o.acknowledgement })

      this : v ≡ g → Came (at_end w false x st) g.by_server g.circuit g.to g.destination g.sent
      this z = subst (λ (u : Wired). Came (at_end w false x st) u.by_server u.circuit u.to u.destination u.sent) z mine

  pub node_hears_carried : Carried (at_end w false x st) now
  node_hears_carried = Nodes.node_step_carried w done now x st ok l (kin_run t ask f e)
      (λ h. record { flow = λ b fs g. hears.flow b fs (node_sound w x ok h) g; clear = λ z. hears.clear (kd.slaves x) (inr z.1) })
      more (λ h a d. absurd (true≢false (sym ((hears.goes (kd.runs x l)).lives ∙ l) ∙ d))) k
      (below_more w done i low k.below) down_now up_now takes came_now
