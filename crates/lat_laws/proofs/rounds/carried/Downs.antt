-- A RUN of the node that is delivered in its turn, or again, keeps what is in flight.
use Rattle.std.proofs.Common.{◌≡◌, ◌≢◌, ℕ, ◌<◌, ◌⊎◌, inl, inr, ⊎_elim, sym, ap, ◌∙◌, refl, subst, arith, Bool, true, false, not, ◌&&◌, List, ◌∷◌, length, Some, nat_eq, slice_get, eqb-true, eq-eqb, ne_eqb}
use Rattle.std.proofs.lemmas.Bool.{and_parts, and_from, not-true}
use Rattle.lat_model.specs.sessions.Slots.{Slot}
use Rattle.lat_model.specs.numbers.Link.{Frame}
use Rattle.lat_model.specs.ends.End.{Mark, Run, End, Step, lives}
use Rattle.lat_model.specs.ends.Timers.{note_empty}
use Rattle.lat_model.specs.ends.Run.{RunBroke, run_end}
use Rattle.lat_model.specs.circuits.World.{CircuitEntry, Wired, World, at_end}
use Rattle.lat_model.specs.circuits.WorldOk.{WorldOk}
use Rattle.lat_model.proofs.sessions.Words.{upd_same}
use Rattle.lat_model.proofs.circuits.Kin.{kin_run}
use Rattle.lat_laws.specs.rounds.Lossless.{is_in}
use Rattle.lat_laws.specs.rounds.Flight.{Flow, Old}
use Rattle.lat_laws.specs.rounds.Carried.{is_of_line, flying, has_stop_sent, IsNext, node_end, Came, Carried}
use Rattle.lat_laws.proofs.rounds.flight.Hearing.{Hears, run_hears, first_flow, first_old, again_flow, next_more, known_least}
use Rattle.lat_laws.proofs.rounds.carried.Ends.{goes_true}
use Rattle.lat_laws.proofs.rounds.carried.Runs.{fly_same, fly_first, place_low, below_more, in_cases}
use Rattle.lat_laws.proofs.rounds.carried.Servers as Servers

-- the frame is of this line
pub line_down : (other q : ℕ) (v : Wired) → v.by_server ≡ false → v.circuit ≡ q → v.to ≡ other → is_of_line other false q v ≡ true
line_down other q v b c t = and_from (not v.by_server) (nat_eq v.circuit q && nat_eq v.to other) (ap not b) (and_from (nat_eq v.circuit q) (nat_eq v.to other) (eq-eqb v.circuit q c) (eq-eqb v.to other t))

pub front_down : (w : World) (done : List ℕ) (v : Wired) (i q other : ℕ) → v.by_server ≡ false → v.to ≡ other → IsNext w done v i → (j : ℕ) (u : Wired) → j < i → slice_get w.frames j ≡ Some u → is_of_line other false q u ≡ true → is_in j done ≡ true
front_down w done v i q other b t n j u l g m =
    let x : (not u.by_server ≡ true) × ((nat_eq u.circuit q && nat_eq u.to other) ≡ true) = and_parts (not u.by_server) (nat_eq u.circuit q && nat_eq u.to other) m in
    let r : (nat_eq u.circuit q ≡ true) × (nat_eq u.to other ≡ true) = and_parts (nat_eq u.circuit q) (nat_eq u.to other) x.1 in
    n j u l g (not-true u.by_server x.0 ∙ sym b) (eqb-true u.to other r.1 ∙ sym t)

-- A RUN of the node's circuit q that names the master x, which hears it
module _ (w : World) (done : List ℕ) (i q to x s t : ℕ) (mark : Mark) (ask : Bool) (f : Frame (List Slot)) (ok : WorldOk w) (k : Carried w done)
    (place : slice_get w.frames i ≡ Some (record { by_server = false; circuit = q; to = to; destination = x; source = s; sent = Run mark ask f }))
    (home : to ≡ w.server.own)
    (turn : (is_in i done ≡ true) ⊎ ((is_in i done ≡ false) × IsNext w done (record { by_server = false; circuit = q; to = to; destination = x; source = s; sent = Run mark ask f }) i))
    (l : lives (w.server.circuit_at x).end ≡ true)
    (address : (w.server.circuit_at x).address ≡ w.node.own)
    (running : (w.server.circuit_at x).end.running ≡ true)
    (peer : (w.server.circuit_at x).end.peer ≡ q)
    (whole : (run_end t ask f (w.server.circuit_at x).end).answer ≢ RunBroke) where
  abbrev v : Wired
  v = record { by_server = false; circuit = q; to = to; destination = x; source = s; sent = Run mark ask f }

  abbrev e : End
  e = (w.server.circuit_at x).end

  abbrev st : Step
  st = (run_end t ask f e).step

  abbrev now : List ℕ
  now = i ∷ done

  hears : Hears e f st
  hears = run_hears t ask f e l whole

  low : i < length w.frames
  low = place_low w.frames i v place

  up_now : (p : ℕ) → flying w now true p ≡ flying w done true p
  up_now p = fly_same w.node.own true p done i w.frames v place (inl refl)

  other_line : (y : ℕ) → (y ≡ q → ⊥) → is_of_line w.server.own false y v ≡ false
  other_line y n = ap (λ b. b && nat_eq to w.server.own) (ne_eqb q y (λ z. n (sym z)))

  down_now : (y : ℕ) → y ≢ 0 → ((w.server.circuit_at x).address ≡ w.node.own → e.running ≡ true → e.peer ≡ y → ⊥) → flying w now false y ≡ flying w done false y
  down_now y z n = fly_same w.server.own false y done i w.frames v place (inl (other_line y (λ z. n address running (peer ∙ sym z))))

  slave : End
  slave = node_end w e.peer

  -- where it is the first, it was the first in flight
  split : (is_in i done ≡ false) × IsNext w done v i → flying w done false e.peer ≡ Run mark ask f ∷ flying w now false e.peer
  split n = subst (λ z. flying w done false z ≡ Run mark ask f ∷ flying w now false z) (sym peer) (fly_first w.server.own false q done i w.frames v place (line_down w.server.own q v refl refl home) n.0 (front_down w done v i q w.server.own refl home n.1))

  again : is_in i done ≡ true → flying w now false e.peer ≡ flying w done false e.peer
  again o = fly_same w.server.own false e.peer done i w.frames v place (inr o)

  takes : (w.server.circuit_at x).address ≡ w.node.own → e.running ≡ true → lives st.end ≡ true → Flow (node_end w e.peer).half.link e.half.link (flying w done false e.peer) → Flow (node_end w e.peer).half.link st.end.half.link (flying w now false e.peer)
  takes a r y g = ⊎_elim {C = Flow (node_end w e.peer).half.link st.end.half.link (flying w now false e.peer)}
      (λ o. subst (λ z. Flow (node_end w e.peer).half.link st.end.half.link z) (sym (again o)) (again_flow e (node_end w e.peer).half.link f (flying w done false e.peer) st hears (k.came i v place o home address l running peer) g))
      (λ n. first_flow e (node_end w e.peer).half.link mark ask f (flying w now false e.peer) st hears (subst (λ z. Flow (node_end w e.peer).half.link e.half.link z) (split n) g))
      turn

  stops_now : (w.server.circuit_at x).address ≡ w.node.own → e.running ≡ true → lives st.end ≡ true → lives (node_end w e.peer) ≡ false → has_stop_sent (flying w done false e.peer) ≡ true → has_stop_sent (flying w now false e.peer) ≡ true
  stops_now a r h d g = ⊎_elim {C = has_stop_sent (flying w now false e.peer) ≡ true} (λ o. ap has_stop_sent (again o) ∙ g) (λ n. sym (ap has_stop_sent (split n)) ∙ g) turn

  more : Servers.More e st.end
  more = record { came = omega (arith, hears.came, next_more (length e.half.link.came) f); known = omega (arith, hears.known, known_least e.half.link.known f.acknowledgement) }

  old_now : Old st.end f
  old_now = ⊎_elim {C = Old st.end f}
      (λ o. let z : Old e f = k.came i v place o home address l running peer in record { number = omega (arith, z.number, more.came); acknowledgement = omega (arith, z.acknowledgement, more.known) })
      (λ n. first_old e (node_end w e.peer).half.link mark ask f (flying w now false e.peer) st hears (subst (λ z. Flow (node_end w e.peer).half.link e.half.link z) (split n) (k.downs x address l running)))
      turn

  here : (at_end w true x st).server.circuit_at x ≡ record { address = (w.server.circuit_at x).address; end = (note_empty e st).end }
  here = upd_same w.server.circuit_at x (record { address = (w.server.circuit_at x).address; end = (note_empty e st).end })

  came_now : (j : ℕ) (g : Wired) → slice_get w.frames j ≡ Some g → is_in j now ≡ true → (is_in j done ≡ true) ⊎ Came (at_end w true x st) g.by_server g.circuit g.to g.destination g.sent
  came_now j g y h = ⊎_elim {C = (is_in j done ≡ true) ⊎ Came (at_end w true x st) g.by_server g.circuit g.to g.destination g.sent} (λ z. inr (this (same z y))) (λ z. inl z) (in_cases i j done h)
    where
      same : j ≡ i → slice_get w.frames j ≡ Some g → v ≡ g
      same z y = let r : Some v ≡ Some g = sym place ∙ ap (slice_get w.frames) (sym z) ∙ y in cc

      mine : Came (at_end w true x st) false q to x (Run mark ask f)
      mine = λ u a b c d. let o : Old st.end f = old_now in subst (λ (z : CircuitEntry). Old z.end f) (sym here) (record { number = o.number; acknowledgement = o.acknowledgement })

      this : v ≡ g → Came (at_end w true x st) g.by_server g.circuit g.to g.destination g.sent
      this z = subst (λ (u : Wired). Came (at_end w true x st) u.by_server u.circuit u.to u.destination u.sent) z mine

  pub server_hears_carried : Carried (at_end w true x st) now
  server_hears_carried = Servers.server_step_carried w done now x st ok l (kin_run t ask f e)
      (λ h. record { flow = λ b fs g. hears.flow b fs (Servers.server_sound w x ok h) g; shows = hears.shows })
      more (goes_true e st (hears.goes running)).truly k
      (below_more w done i low k.below) up_now down_now takes stops_now came_now
