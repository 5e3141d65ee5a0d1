-- Frames of foreign addresses keep what is in flight between the two ends.
use Rattle.std.proofs.Common.{◌≡◌, ◌≢◌, ℕ, zero, suc, ◌+◌, ◌<◌, inl, ⊎_elim, sym, ap, ◌∙◌, refl, subst, arith, Bool, true, false, not, cond, ◌&&◌, ◌||◌, List, [], ◌∷◌, ◌++◌, length, Option, Some, None, nat_eq, nat_lt, slice_get, eqb-true, append-nil, length-append}
use Rattle.std.proofs.lemmas.Bool.{true≢false, false≢true, and_parts, eqb-false, cases_lt}
use Rattle.lat_model.specs.sessions.Slots.{Slot}
use Rattle.lat_model.specs.sessions.Hearing.{hear_all}
use Rattle.lat_model.specs.Lists.{Each}
use Rattle.lat_model.specs.numbers.Link.{Link, Frame, fresh, is_unsent, is_next, ack_in}
use Rattle.lat_model.specs.ends.End.{Sent, Run, CallStart, ReplyStart, Stopped, End, Step, still, lives, finish, occasion}
use Rattle.lat_model.specs.ends.Timers.{note_empty}
use Rattle.lat_model.specs.ends.Timers as Timers
use Rattle.lat_model.specs.ends.Starting as Starting
use Rattle.lat_model.specs.circuits.Arriving as Arriving
use Rattle.lat_model.specs.ends.Run.{RunRepeated, RunBroke, RunStep, ack_end, taken_end, broken_end, body_end, after_run, run_end}
use Rattle.lat_model.specs.ends.Starting.{Agreed, again_start, make_slave, hear_reply, hear_stop}
use Rattle.lat_model.specs.circuits.World.{CircuitEntry, Wired, World, table, with_table, put_circuit, at_end, wire_all, first_end}
use Rattle.lat_model.specs.circuits.Arriving.{is_of, slave_of, run_in, stop_in, reply_in, start_in, arrive}
use Rattle.lat_model.specs.circuits.WorldOk.{WorldOk, FromSender}
use Rattle.lat_model.proofs.sessions.Words.{upd_same, upd_other}
use Rattle.lat_model.proofs.numbers.Net.{each_imp, each_append, each_at}
use Rattle.lat_model.proofs.circuits.Kin.{Kin, kin_run, kin_again, kin_stop}
use Rattle.lat_model.proofs.circuits.Begins.{server_alive}
use Rattle.lat_model.specs.circuits.Ids.{next_id, ids, is_known}
use Rattle.lat_model.proofs.circuits.Ids.{drawn_known, drawn_some}
use Rattle.lat_laws.specs.rounds.Lossless.{is_in}
use Rattle.lat_laws.specs.rounds.Flight.{Flow, Old}
use Rattle.lat_laws.specs.rounds.Carried.{flying, server_end, node_end, Coupled, Offered, NamesSender, Came, Carried, Kinds}
use Rattle.lat_laws.proofs.rounds.flight.Hearing.{known_with, known_least}
use Rattle.lat_laws.proofs.rounds.flight.Sending.{Sends, occasion_sends}
use Rattle.lat_laws.proofs.rounds.carried.Flying.{flying-append, flying-other}
use Rattle.lat_laws.proofs.rounds.carried.Kinds.{least_passes}
use Rattle.lat_laws.proofs.rounds.carried.Makes.{make_carried, refuse_carried}
use Rattle.lat_laws.proofs.rounds.carried.Nodes as Nodes

-- a RUN, whatever it is, takes nothing back

known_ack : (a : ℕ) (e : End) → (ack_end a e).half.link.known ≡ known_with e.half.link.known a
known_ack a e = go (nat_lt e.half.link.known a)
  where
    go : (b : Bool) → (cond b (record e { half = record (e.half) { link = ack_in e.half.link a }; rounds = 0; since = e.moment }) (record e { half = record (e.half) { link = ack_in e.half.link a } })).half.link.known ≡ known_with e.half.link.known a
    go true = refl
    go false = refl

came_ack : (a : ℕ) (e : End) → (ack_end a e).half.link.came ≡ e.half.link.came
came_ack a e = go (nat_lt e.half.link.known a)
  where
    go : (b : Bool) → (cond b (record e { half = record (e.half) { link = ack_in e.half.link a }; rounds = 0; since = e.moment }) (record e { half = record (e.half) { link = ack_in e.half.link a } })).half.link.came ≡ e.half.link.came
    go true = refl
    go false = refl

more_same : (e d : End) → d.half.link ≡ e.half.link → Nodes.More e d
more_same e d l = record { came = omega (arith, ap (λ (z : Link (List Slot)). length z.came) l); known = omega (arith, ap (λ (z : Link (List Slot)). z.known) l) }

body_more : (n : ℕ) (ask : Bool) (o : Option (List Slot)) (e : End) → Nodes.More e (body_end n ask o e).step.end
body_more n ask None e = more_same e (record e { owed = e.owed || ask }) refl
body_more n ask (Some []) e = more_same e (record e { owed = e.owed || ask }) refl
body_more n ask (Some (x ∷ xs)) e = go (is_next e.half.link n) (hear_all (x ∷ xs) e.half.sessions).good
  where
    go : (b c : Bool) → Nodes.More e (cond b (cond c (taken_end (x ∷ xs) (hear_all (x ∷ xs) e.half.sessions).after e) (broken_end (hear_all (x ∷ xs) e.half.sessions).after e)) (record { step = still (record e { owed = true }); answer = RunRepeated })).step.end
    go true true = record { came = omega (arith, length-append e.half.link.came ((x ∷ xs) ∷ [])); known = omega arith }
    go true false = record { came = omega arith; known = omega arith }
    go false c = record { came = omega arith; known = omega arith }

run_more : (t : ℕ) (ask : Bool) (f : Frame (List Slot)) (e : End) → Nodes.More e (run_end t ask f e).step.end
run_more t ask f e = go (is_unsent e.half.link f.acknowledgement)
  where
    d : End
    d = record e { moment = t; heard_at = t; heard_run = true }

    k : End
    k = ack_end f.acknowledgement d

    r : RunStep
    r = body_end f.number ask f.body k

    b : Nodes.More k r.step.end
    b = body_more f.number ask f.body k

    slave : Sends r.step.end (occasion r.step.end)
    slave = occasion_sends r.step.end

    end : (x y : Bool) → Nodes.More r.step.end (cond x (cond y (still r.step.end) (occasion r.step.end)) (still r.step.end)).end
    end true true = more_same r.step.end r.step.end refl
    end true false = record { came = omega (arith, ap length slave.came); known = omega (arith, slave.known) }
    end false y = more_same r.step.end r.step.end refl

    go : (u : Bool) → Nodes.More e (cond u (record { step = finish 2 d; answer = RunBroke }) (after_run r)).step.end
    go true = record { came = omega arith; known = omega arith }
    go false = let z : Nodes.More r.step.end (Timers.living (λ e. cond e.master (still e) (occasion e)) r.step.end).end = end (lives r.step.end) r.step.end.master in
        record { came = omega (arith, ap length (came_ack f.acknowledgement d), b.came, z.came); known = omega (arith, known_ack f.acknowledgement d, known_least e.half.link.known f.acknowledgement, b.known, z.known) }

carried_cond : (c : Bool) (done : List ℕ) (v w : World) → (c ≡ true → Carried v done) → Carried w done → Carried (cond c v w) done
carried_cond true done v w p q = p refl
carried_cond false done v w p q = q

-- a circuit of the node to a foreign address
node_foreign : (w : World) (done : List ℕ) (x : ℕ) (st : Step) → WorldOk w → Carried w done → lives (node_end w x) ≡ true → ((w.node.circuit_at x).address ≡ w.server.own → ⊥) → Kin (node_end w x) st.end → Nodes.More (node_end w x) st.end → Carried (at_end w false x st) done
node_foreign w done x st ok k l n kin more = Nodes.node_step_carried w done done x st ok l kin (λ h. absurd (n h)) more (λ h a d. absurd (n h)) k k.below (λ q. refl) (λ p m b f. f)
    (λ p a r i f. absurd (n (ap (λ z. (w.node.circuit_at z).address) (sym i) ∙ (ok.replied p a r).address)))
    (λ j f g i. inl i)

-- and one of the server, whose peer may be told just now
module _ (w : World) (done : List ℕ) (x : ℕ) (st : Step) (ok : WorldOk w) (k : Carried w done) (low : is_known w.server x ≡ true) (l : lives (server_end w x) ≡ true) (n : (w.server.circuit_at x).address ≡ w.node.own → ⊥)
    (some : x ≢ 0)
    (truly : Each (λ s. (r : ℕ) → s ≡ Stopped r → lives st.end ≡ false) st.sent)
    (no_call : Each (λ s. s ≡ CallStart → ⊥) st.sent) where
  abbrev c' : CircuitEntry
  c' = record { address = (w.server.circuit_at x).address; end = (note_empty (server_end w x) st).end }

  abbrev v : World
  v = at_end w true x st

  abbrev news : List Wired
  news = wire_all true x (w.server.circuit_at x).address st.end.peer st.sent

  here : v.server.circuit_at x ≡ c'
  here = upd_same w.server.circuit_at x c'

  there : (p : ℕ) → (p ≡ x → ⊥) → v.server.circuit_at p ≡ w.server.circuit_at p
  there p m = upd_other w.server.circuit_at x c' p m

  -- a circuit to the node is another one
  other : (p : ℕ) → (v.server.circuit_at p).address ≡ w.node.own → p ≡ x → ⊥
  other p a i = n (ap (λ (z : CircuitEntry). z.address) (sym here) ∙ ap (λ z. (v.server.circuit_at z).address) (sym i) ∙ a)

  up : (p : ℕ) → (p ≡ x → ⊥) → flying v done true p ≡ flying w done true p
  up p m = flying-append w.node.own true p done 0 w.frames news ∙ ap (λ z. flying w done true p ++ z) (flying-other w.node.own true p done (0 + length w.frames) true x (w.server.circuit_at x).address st.end.peer st.sent (λ i j. absurd (m (sym j)))) ∙ append-nil (flying w done true p)

  down : (q : ℕ) → flying v done false q ≡ flying w done false q
  down q = flying-append w.server.own false q done 0 w.frames news ∙ ap (λ z. flying w done false q ++ z) (flying-other w.server.own false q done (0 + length w.frames) true x (w.server.circuit_at x).address st.end.peer st.sent (λ i. absurd (false≢true i))) ∙ append-nil (flying w done false q)

  dies : (p : ℕ) → lives (server_end w p) ≡ false → lives (server_end v p) ≡ false
  dies p h = go (nat_eq p x) refl
    where
      go : (b : Bool) → nat_eq p x ≡ b → lives (cond b c' (w.server.circuit_at p)).end ≡ false
      go true q = absurd (true≢false (sym (ap (λ z. lives (server_end w z)) (eqb-true p x q) ∙ l) ∙ h))
      go false q = h

  tells : (b : Bool) (y to d o : ℕ) (m : Sent) → FromSender w b y to d o m → NamesSender w b y to d o m → NamesSender v b y to d o m
  tells true y to d o (Run mark ask h) s z = λ a. (let e : y ≡ x → ⊥ = λ i. n (ap (λ u. (w.server.circuit_at u).address) (sym i) ∙ (s a).0) in (ap (λ (u : CircuitEntry). u.end.running) (there y e) ∙ (z a).0, (z a).1 ∙ sym (ap (λ (u : CircuitEntry). u.end.peer) (there y e))))
  tells true y to d o (Stopped r) s z = (dies y z.0, z.1, z.2)
  tells false y to d o (Stopped r) s z = z
  tells false y to d o (Run mark ask h) s z = tt
  tells true y to d o CallStart s z = z
  tells false y to d o CallStart s z = tt
  tells true y to d o ReplyStart s z = tt
  tells false y to d o ReplyStart s z = tt

  new_tells : (ss : List Sent) → Each (λ s. (r : ℕ) → s ≡ Stopped r → lives st.end ≡ false) ss → Each (λ s. s ≡ CallStart → ⊥) ss → Each (λ (f : Wired). NamesSender v f.by_server f.circuit f.to f.destination f.source f.sent) (wire_all true x (w.server.circuit_at x).address st.end.peer ss)
  new_tells [] h c = tt
  new_tells (Run mark ask f ∷ ss) h c = (λ a. absurd (n a), new_tells ss h.1 c.1)
  new_tells (Stopped r ∷ ss) h c = ((ap (λ (z : CircuitEntry). lives z.end) here ∙ h.0 r refl, refl, some), new_tells ss h.1 c.1)
  new_tells (CallStart ∷ ss) h c = absurd (c.0 refl)
  new_tells (ReplyStart ∷ ss) h c = (tt, new_tells ss h.1 c.1)

  came : (b : Bool) (y to d o : ℕ) (m : Sent) → FromSender w b y to d o m → Came w b y to d m → Came v b y to d m
  came true y to d o (Run mark ask h) s z = z
  came false y to d o (Run mark ask h) s z = λ a b r q p. (let e : v.server.circuit_at d ≡ w.server.circuit_at d = there d (other d b) in
      subst (λ (u : CircuitEntry). Old u.end h) (sym e) (z a (ap (λ (u : CircuitEntry). u.address) (sym e) ∙ b) (ap (λ (u : CircuitEntry). lives u.end) (sym e) ∙ r) (ap (λ (u : CircuitEntry). u.end.running) (sym e) ∙ q) (ap (λ (u : CircuitEntry). u.end.peer) (sym e) ∙ p)))
  came false y to d o ReplyStart s z = λ a b r. (let e : v.server.circuit_at d ≡ w.server.circuit_at d = there d (other d b) in ap (λ (u : CircuitEntry). u.end.running) e ∙ z a (ap (λ (u : CircuitEntry). u.address) (sym e) ∙ b) (ap (λ (u : CircuitEntry). lives u.end) (sym e) ∙ r))
  came true y to d o CallStart s z = tt
  came false y to d o CallStart s z = tt
  came true y to d o ReplyStart s z = tt
  came true y to d o (Stopped r) s z = tt
  came false y to d o (Stopped r) s z = tt

  pub server_foreign : Carried (at_end w true x st) done
  server_foreign = record {
    below = λ j h. k.below j (omega (arith, h, length-append w.frames news));
    low = each_append (λ (f : Wired). is_known (table v f.by_server) f.circuit ≡ true) w.frames news (each_imp (λ (f : Wired). is_known (table w f.by_server) f.circuit ≡ true) (λ (f : Wired). is_known (table v f.by_server) f.circuit ≡ true) (λ f. drawn f.circuit f.by_server) w.frames k.low) (new_low st.sent);
    calling = λ p a h r. (let e : v.server.circuit_at p ≡ w.server.circuit_at p = there p (other p a) in
        subst (λ (u : CircuitEntry). Flow u.end.half.link fresh (flying v done true p)) (sym e) (subst (λ u. Flow (server_end w p).half.link fresh u) (sym (up p (other p a))) (k.calling p (ap (λ (u : CircuitEntry). u.address) (sym e) ∙ a) (ap (λ (u : CircuitEntry). lives u.end) (sym e) ∙ h) (ap (λ (u : CircuitEntry). u.end.running) (sym e) ∙ r))));
    runs = λ p a h r. (let e : v.server.circuit_at p ≡ w.server.circuit_at p = there p (other p a) in
        subst (λ (u : CircuitEntry). Coupled u.end (node_end w u.end.peer) (flying v done true p) (flying v done false u.end.peer)) (sym e)
        (subst (λ u. Coupled (server_end w p) (node_end w (server_end w p).peer) u (flying v done false (server_end w p).peer)) (sym (up p (other p a))) (subst (λ u. Coupled (server_end w p) (node_end w (server_end w p).peer) (flying w done true p) u) (sym (down (server_end w p).peer))
        (k.runs p (ap (λ (u : CircuitEntry). u.address) (sym e) ∙ a) (ap (λ (u : CircuitEntry). lives u.end) (sym e) ∙ h) (ap (λ (u : CircuitEntry). u.end.running) (sym e) ∙ r)))));
    ups = λ p a r m. (let e : v.server.circuit_at p ≡ w.server.circuit_at p = there p (other p a) in
        subst (λ (u : CircuitEntry). Flow u.end.half.link (node_end w u.end.peer).half.link (flying v done true p)) (sym e)
        (subst (λ u. Flow (server_end w p).half.link (node_end w (server_end w p).peer).half.link u) (sym (up p (other p a))) (k.ups p (ap (λ (u : CircuitEntry). u.address) (sym e) ∙ a) (ap (λ (u : CircuitEntry). u.end.running) (sym e) ∙ r) (ap (λ (u : CircuitEntry). lives (node_end w u.end.peer)) (sym e) ∙ m))));
    downs = λ p a h r. (let e : v.server.circuit_at p ≡ w.server.circuit_at p = there p (other p a) in
        subst (λ (u : CircuitEntry). Flow (node_end w u.end.peer).half.link u.end.half.link (flying v done false u.end.peer)) (sym e)
        (subst (λ u. Flow (node_end w (server_end w p).peer).half.link (server_end w p).half.link u) (sym (down (server_end w p).peer)) (k.downs p (ap (λ (u : CircuitEntry). u.address) (sym e) ∙ a) (ap (λ (u : CircuitEntry). lives u.end) (sym e) ∙ h) (ap (λ (u : CircuitEntry). u.end.running) (sym e) ∙ r))));
    offered = λ q d a b h r. (let e : v.server.circuit_at (node_end w q).peer ≡ w.server.circuit_at (node_end w q).peer = there (node_end w q).peer (other (node_end w q).peer b) in
        subst (λ u. Offered (node_end w q) u) (sym (down q)) (k.offered q d a (ap (λ (u : CircuitEntry). u.address) (sym e) ∙ b) (ap (λ (u : CircuitEntry). lives u.end) (sym e) ∙ h) (ap (λ (u : CircuitEntry). u.end.running) (sym e) ∙ r)));
    peers = k.peers;
    tells = each_append (λ (f : Wired). NamesSender v f.by_server f.circuit f.to f.destination f.source f.sent) w.frames news (both_tells w.frames ok.says k.tells) (new_tells st.sent truly no_call);
    came = λ j f h i. let q : slice_get w.frames j ≡ Some f = place w.frames j f (short j i) h in came f.by_server f.circuit f.to f.destination f.source f.sent (each_at (λ (y : Wired). FromSender w y.by_server y.circuit y.to y.destination y.source y.sent) w.frames j f ok.says q) (k.came j f q i);
  }
    where
      drawn : (y : ℕ) (b : Bool) → is_known (table w b) y ≡ true → is_known (table v b) y ≡ true
      drawn y true h = h
      drawn y false h = h

      new_low : (ss : List Sent) → Each (λ (f : Wired). is_known (table v f.by_server) f.circuit ≡ true) (wire_all true x (w.server.circuit_at x).address st.end.peer ss)
      new_low [] = tt
      new_low (s ∷ ss) = (low, new_low ss)

      both_tells : (fs : List Wired) → Each (λ (f : Wired). FromSender w f.by_server f.circuit f.to f.destination f.source f.sent) fs → Each (λ (f : Wired). NamesSender w f.by_server f.circuit f.to f.destination f.source f.sent) fs → Each (λ (f : Wired). NamesSender v f.by_server f.circuit f.to f.destination f.source f.sent) fs
      both_tells [] a b = tt
      both_tells (f ∷ fs) a b = (tells f.by_server f.circuit f.to f.destination f.source f.sent a.0 b.0, both_tells fs a.1 b.1)

      place : (xs : List Wired) (j : ℕ) (f : Wired) → j < length xs → slice_get (xs ++ news) j ≡ Some f → slice_get xs j ≡ Some f
      place [] j f l e = absurd (omega arith)
      place (y ∷ xs) zero f l e = e
      place (y ∷ xs) (suc j) f l e = place xs j f (omega arith) e

      short : (j : ℕ) → is_in j done ≡ true → j < length w.frames
      short j i = ⊎_elim {C = j < length w.frames} (λ z. z) (λ z. absurd (true≢false (sym i ∙ k.below j z))) (cases_lt j (length w.frames))

-- what a master sends at a RUN: a STOP, where it breaks

record Breaks (st : Step) : Type 0 where
  truly : Each (λ s. (r : ℕ) → s ≡ Stopped r → lives st.end ≡ false) st.sent
  no_call : Each (λ s. s ≡ CallStart → ⊥) st.sent

still_breaks : (e : End) → Breaks (still e)
still_breaks e = record { truly = tt; no_call = tt }

finish_breaks : (e : End) → Breaks (finish 2 e)
finish_breaks e = go (nat_eq e.peer 0)
  where
    d : End
    d = record e { ended = Some 2 }

    go : (b : Bool) → Breaks (record { end = record e { ended = Some 2 }; sent = cond b [] (Stopped 2 ∷ []) })
    go true = record { truly = tt; no_call = tt }
    go false = record { truly = (λ r q. refl, tt); no_call = (λ q. cc, tt) }

record Body_breaks (e : End) (r : RunStep) : Type 0 where
  breaks : Breaks r.step
  master : r.step.end.master ≡ e.master

body_breaks : (n : ℕ) (ask : Bool) (o : Option (List Slot)) (e : End) → Body_breaks e (body_end n ask o e)
body_breaks n ask None e = record { breaks = still_breaks (record e { owed = e.owed || ask }); master = refl }
body_breaks n ask (Some []) e = record { breaks = still_breaks (record e { owed = e.owed || ask }); master = refl }
body_breaks n ask (Some (x ∷ xs)) e = go (is_next e.half.link n) (hear_all (x ∷ xs) e.half.sessions).good
  where
    go : (b c : Bool) → Body_breaks e (cond b (cond c (taken_end (x ∷ xs) (hear_all (x ∷ xs) e.half.sessions).after e) (broken_end (hear_all (x ∷ xs) e.half.sessions).after e)) (record { step = still (record e { owed = true }); answer = RunRepeated }))
    go true true = record { breaks = record { truly = tt; no_call = tt }; master = refl }
    go true false = record { breaks = finish_breaks (record e { half = record (e.half) { sessions = (hear_all (x ∷ xs) e.half.sessions).after } }); master = refl }
    go false c = record { breaks = record { truly = tt; no_call = tt }; master = refl }

master_ack : (a : ℕ) (e : End) → (ack_end a e).master ≡ e.master
master_ack a e = go (nat_lt e.half.link.known a)
  where
    go : (b : Bool) → (cond b (record e { half = record (e.half) { link = ack_in e.half.link a }; rounds = 0; since = e.moment }) (record e { half = record (e.half) { link = ack_in e.half.link a } })).master ≡ e.master
    go true = refl
    go false = refl

run_breaks : (t : ℕ) (ask : Bool) (f : Frame (List Slot)) (e : End) → e.master ≡ true → Breaks (run_end t ask f e).step
run_breaks t ask f e m = go (is_unsent e.half.link f.acknowledgement)
  where
    d : End
    d = record e { moment = t; heard_at = t; heard_run = true }

    r : RunStep
    r = body_end f.number ask f.body (ack_end f.acknowledgement d)

    b : Body_breaks (ack_end f.acknowledgement d) r
    b = body_breaks f.number ask f.body (ack_end f.acknowledgement d)

    quiet : (x y : Bool) → y ≡ true → Breaks (record { end = (cond x (cond y (still r.step.end) (occasion r.step.end)) (still r.step.end)).end; sent = r.step.sent ++ (cond x (cond y (still r.step.end) (occasion r.step.end)) (still r.step.end)).sent })
    quiet true true q = record { truly = each_append (λ s. (r0 : ℕ) → s ≡ Stopped r0 → lives r.step.end ≡ false) r.step.sent [] b.breaks.truly tt; no_call = each_append (λ s. s ≡ CallStart → ⊥) r.step.sent [] b.breaks.no_call tt }
    quiet true false q = absurd (false≢true q)
    quiet false y q = record { truly = each_append (λ s. (r0 : ℕ) → s ≡ Stopped r0 → lives r.step.end ≡ false) r.step.sent [] b.breaks.truly tt; no_call = each_append (λ s. s ≡ CallStart → ⊥) r.step.sent [] b.breaks.no_call tt }

    go : (u : Bool) → Breaks (cond u (record { step = finish 2 d; answer = RunBroke }) (after_run r)).step
    go true = finish_breaks d
    go false = quiet (lives r.step.end) r.step.end.master (b.master ∙ master_ack f.acknowledgement d ∙ m)

reply_none : (t s : ℕ) (g : Agreed) (e : End) → (hear_reply t s g e).sent ≡ []
reply_none t s g e = go (lives e) e.running
  where
    go : (a b : Bool) → (cond {A = Step} a (cond b (still (record e { moment = t; heard_at = t })) (still (Starting.reply_end t s g e))) (still e)).sent ≡ []
    go true true = refl
    go true false = refl
    go false b = refl

stop_none : (t r : ℕ) (e : End) → (hear_stop t r e).sent ≡ []
stop_none t r e = go (lives e)
  where
    go : (b : Bool) → (cond {A = Step} b (record { end = record e { ended = Some r; moment = t }; sent = [] }) (record { end = e; sent = [] })).sent ≡ []
    go true = refl
    go false = refl

stop_link : (t r : ℕ) (e : End) → (hear_stop t r e).end.half.link ≡ e.half.link
stop_link t r e = go (lives e)
  where
    go : (b : Bool) → (cond {A = Step} b (record { end = record e { ended = Some r; moment = t }; sent = [] }) (record { end = e; sent = [] })).end.half.link ≡ e.half.link
    go true = refl
    go false = refl

again_link : (t : ℕ) (e : End) → (again_start t e).end.half.link ≡ e.half.link
again_link t e = go (lives e && not e.heard_run) (lives e)
  where
    go : (b c : Bool) → (cond {A = Step} b (record { end = record e { moment = t; heard_at = t; sent_at = t; owed = false }; sent = ReplyStart ∷ [] }) (cond c (record { end = record e { moment = t; heard_at = t }; sent = [] }) (record { end = e; sent = [] }))).end.half.link ≡ e.half.link
    go true c = refl
    go false true = refl
    go false false = refl

silent_foreign : (w : World) (done : List ℕ) (x : ℕ) (st : Step) → WorldOk w → Carried w done → lives (server_end w x) ≡ true → ((w.server.circuit_at x).address ≡ w.node.own → ⊥) → st.sent ≡ [] → Carried (at_end w true x st) done
silent_foreign w done x st ok k l n q = server_foreign w done x st ok k (drawn_known w.server x (server_alive w x ok l)) l n (drawn_some w.server.first w.server.drawn x (server_alive w x ok l)) (subst (λ z. Each (λ s. (r : ℕ) → s ≡ Stopped r → lives st.end ≡ false) z) (sym q) tt) (subst (λ z. Each (λ s. s ≡ CallStart → ⊥) z) (sym q) tt)

start_foreign : (w : World) (done : List ℕ) (from s t : ℕ) (g : Agreed) → WorldOk w → Carried w done → (from ≡ w.server.own → ⊥) → Carried (start_in w from s t g) done
start_foreign w done from s t g ok k n = go (nat_eq x 0) refl (nat_lt (Arriving.living w.node) 8 && nat_lt w.node.drawn 65535)
  where
    x : ℕ
    x = slave_of w.node from s

    test : ℕ → Bool
    test j = is_of (w.node.circuit_at j) from s && lives (w.node.circuit_at j).end

    go : (b : Bool) → nat_eq x 0 ≡ b → (c : Bool) → Carried (cond b (cond c (put_circuit w false (suc w.node.drawn) (next_id w.node) from (make_slave t s g (first_end false false w.other))) (with_table w false w.node (wire_all false 0 from s (Stopped 7 ∷ [])))) (at_end w false x (again_start t (node_end w x)))) done
    go true q true = make_carried w done done from s t g ok k k.below (λ p b f. f) (λ q. refl) k.came (λ h. absurd (n h))
    go true q false = refuse_carried w done done from s ok k k.below (λ p b f. f) (λ q. refl) k.came
    go false q c =
        let h : (is_of (w.node.circuit_at x) from s ≡ true) × (lives (node_end w x) ≡ true) = and_parts (is_of (w.node.circuit_at x) from s) (lives (node_end w x)) (least_passes test (ids w.node) (eqb-false x 0 q)) in
        let a : (nat_eq (w.node.circuit_at x).address from ≡ true) × (nat_eq (node_end w x).peer s ≡ true) = and_parts (nat_eq (w.node.circuit_at x).address from) (nat_eq (node_end w x).peer s) h.0 in
        node_foreign w done x (again_start t (node_end w x)) ok k h.1 (λ o. n (sym (eqb-true (w.node.circuit_at x).address from a.0) ∙ o)) (kin_again t (node_end w x)) (more_same (node_end w x) (again_start t (node_end w x)).end (again_link t (node_end w x)))

-- any frame of a foreign address
pub arrive_foreign : (w : World) (done : List ℕ) → WorldOk w → Kinds w → Carried w done → (b : Bool) (from : ℕ) (bit : Bool) (d s t : ℕ) (g : Agreed) (m : Sent) → (from ≡ w.server.own → ⊥) → (from ≡ w.node.own → ⊥) → Carried (arrive w b from bit d s t g m) done
arrive_foreign w done ok kd k true from bit d s t g (Run mark ask f) n o =
    let c : CircuitEntry = w.server.circuit_at d in
    let st : Step = (run_end t ask f c.end).step in
    carried_cond (is_of c from s && lives c.end && c.end.running && cond bit (not c.end.master) c.end.master) done (at_end w true d st) w
    (λ h. (let a : ((is_of c from s && lives c.end && c.end.running) ≡ true) × (cond bit (not c.end.master) c.end.master ≡ true) = and_parts (is_of c from s && lives c.end && c.end.running) (cond bit (not c.end.master) c.end.master) h in
    let b : ((is_of c from s && lives c.end) ≡ true) × (c.end.running ≡ true) = and_parts (is_of c from s && lives c.end) c.end.running a.0 in
    let l : (is_of c from s ≡ true) × (lives c.end ≡ true) = and_parts (is_of c from s) (lives c.end) b.0 in
    let i : (nat_eq c.address from ≡ true) × (nat_eq c.end.peer s ≡ true) = and_parts (nat_eq c.address from) (nat_eq c.end.peer s) l.0 in
    let z : Breaks st = run_breaks t ask f c.end (kd.masters d) in
    server_foreign w done d st ok k (drawn_known w.server d (server_alive w d ok l.1)) l.1 (λ y. o (sym (eqb-true c.address from i.0) ∙ y)) (drawn_some w.server.first w.server.drawn d (server_alive w d ok l.1)) z.truly z.no_call)) k
arrive_foreign w done ok kd k false from bit d s t g (Run mark ask f) n o =
    let c : CircuitEntry = w.node.circuit_at d in
    let st : Step = (run_end t ask f c.end).step in
    carried_cond (is_of c from s && lives c.end && c.end.running && cond bit (not c.end.master) c.end.master) done (at_end w false d st) w
    (λ h. (let a : ((is_of c from s && lives c.end && c.end.running) ≡ true) × (cond bit (not c.end.master) c.end.master ≡ true) = and_parts (is_of c from s && lives c.end && c.end.running) (cond bit (not c.end.master) c.end.master) h in
    let b : ((is_of c from s && lives c.end) ≡ true) × (c.end.running ≡ true) = and_parts (is_of c from s && lives c.end) c.end.running a.0 in
    let l : (is_of c from s ≡ true) × (lives c.end ≡ true) = and_parts (is_of c from s) (lives c.end) b.0 in
    let i : (nat_eq c.address from ≡ true) × (nat_eq c.end.peer s ≡ true) = and_parts (nat_eq c.address from) (nat_eq c.end.peer s) l.0 in
    node_foreign w done d st ok k l.1 (λ y. n (sym (eqb-true c.address from i.0) ∙ y)) (kin_run t ask f c.end) (run_more t ask f c.end))) k
arrive_foreign w done ok kd k true from bit d s t g CallStart n o = k
arrive_foreign w done ok kd k false from bit d s t g CallStart n o = start_foreign w done from s t g ok k n
arrive_foreign w done ok kd k true from bit d s t g ReplyStart n o =
    let c : CircuitEntry = w.server.circuit_at d in
    carried_cond (nat_eq c.address from && lives c.end && (not c.end.running || nat_eq c.end.peer s)) done (at_end w true d (hear_reply t s g c.end)) w
    (λ h. (let a : ((nat_eq c.address from && lives c.end) ≡ true) × ((not c.end.running || nat_eq c.end.peer s) ≡ true) = and_parts (nat_eq c.address from && lives c.end) (not c.end.running || nat_eq c.end.peer s) h in
    let b : (nat_eq c.address from ≡ true) × (lives c.end ≡ true) = and_parts (nat_eq c.address from) (lives c.end) a.0 in
    silent_foreign w done d (hear_reply t s g c.end) ok k b.1 (λ y. o (sym (eqb-true c.address from b.0) ∙ y)) (reply_none t s g c.end))) k
arrive_foreign w done ok kd k false from bit d s t g ReplyStart n o = k
arrive_foreign w done ok kd k true from bit d s t g (Stopped r) n o =
    let c : CircuitEntry = w.server.circuit_at d in
    carried_cond (nat_eq c.address from && (nat_eq c.end.peer s || nat_eq s 0) && lives c.end) done (at_end w true d (hear_stop t r c.end)) w
    (λ h. (let a : ((nat_eq c.address from && (nat_eq c.end.peer s || nat_eq s 0)) ≡ true) × (lives c.end ≡ true) = and_parts (nat_eq c.address from && (nat_eq c.end.peer s || nat_eq s 0)) (lives c.end) h in
    let b : (nat_eq c.address from ≡ true) × ((nat_eq c.end.peer s || nat_eq s 0) ≡ true) = and_parts (nat_eq c.address from) (nat_eq c.end.peer s || nat_eq s 0) a.0 in
    silent_foreign w done d (hear_stop t r c.end) ok k a.1 (λ y. o (sym (eqb-true c.address from b.0) ∙ y)) (stop_none t r c.end))) k
arrive_foreign w done ok kd k false from bit d s t g (Stopped r) n o =
    let c : CircuitEntry = w.node.circuit_at d in
    carried_cond (nat_eq c.address from && (nat_eq c.end.peer s || nat_eq s 0) && lives c.end) done (at_end w false d (hear_stop t r c.end)) w
    (λ h. (let a : ((nat_eq c.address from && (nat_eq c.end.peer s || nat_eq s 0)) ≡ true) × (lives c.end ≡ true) = and_parts (nat_eq c.address from && (nat_eq c.end.peer s || nat_eq s 0)) (lives c.end) h in
    let b : (nat_eq c.address from ≡ true) × ((nat_eq c.end.peer s || nat_eq s 0) ≡ true) = and_parts (nat_eq c.address from) (nat_eq c.end.peer s || nat_eq s 0) a.0 in
    node_foreign w done d (hear_stop t r c.end) ok k a.1 (λ y. n (sym (eqb-true c.address from b.0) ∙ y)) (kin_stop t r c.end) (more_same c.end (hear_stop t r c.end).end (stop_link t r c.end)))) k
