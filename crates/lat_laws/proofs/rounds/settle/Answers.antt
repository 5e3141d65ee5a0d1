-- The first RUN of a round is heard by its slave as it was behind its time.
use Rattle.std.proofs.Common.{◌≡◌, ◌≢◌, ℕ, ◌+◌, ◌<◌, ◌≤◌, ◌⊎◌, inl, inr, ⊎_elim, sym, ap, ◌∙◌, refl, subst, arith, Bool, true, false, not, cond, ◌&&◌, ◌||◌, List, [], ◌∷◌, ◌++◌, length, Option, Some, None, nat_eq, slice_get, eqb-true, eq-eqb, ne_eqb}
use Rattle.std.proofs.lemmas.Bool.{true≢false, false≢true, and_from, or_left, cases_lt, eqb-false}
use Rattle.std.proofs.lemmas.List.{append_assoc}
use Rattle.lat_model.specs.sessions.Slots.{Slot}
use Rattle.lat_model.specs.sessions.EndOk.{EndOk}
use Rattle.lat_model.specs.numbers.Link.{Link, bare_frame}
use Rattle.lat_model.specs.ends.End.{Bare, Run, lives}
use Rattle.lat_model.specs.ends.Run.{run_end}
use Rattle.lat_model.specs.circuits.World.{CircuitEntry}
use Rattle.lat_model.specs.circuits.Arriving.{is_of}
use Rattle.lat_machines.specs.values.Addresses.{everyone}
use Rattle.lat_machines.specs.values.Messages.{RunMessage, WideMessage}
use Rattle.lat_machines.specs.values.Frames.{OfCircuit}
use Rattle.lat_machines.specs.values.Runs.{run_head}
use Rattle.lat_machines.specs.values.Events.{Event}
use Rattle.lat_machines.specs.cores.Cores.{Side, Core, sent_frame}
use Rattle.lat_machines.specs.cores.Hearing.{names, fits_kind}
use Rattle.lat_machines.specs.node.Node.{node_step}
use Rattle.lat_machines.specs.server.Server.{server_step}
use Rattle.lat_machines.specs.world.Machines.{Setups, Posted, Machines, HearsFrame, own_of, post_all, tell, is_for_other, heard_as, counted, marked_delivered, comes, happens}
use Rattle.lat_machines.specs.world.Safe.{Fit}
use Rattle.lat_machines.specs.world.Spans.{both_wide, IsOfSpan}
use Rattle.lat_laws.specs.rounds.Lossless.{is_in}
use Rattle.lat_laws.specs.rounds.Rounds.{undelivered, deliver_one, deliveries}
use Rattle.lat_laws.specs.rounds.Settles.{Usual}
use Rattle.lat_laws.specs.rounds.Measure.{weights}
use Rattle.lat_laws.specs.rounds.Counting.{sessions_in}
use Rattle.lat_laws.proofs.rounds.rounds.Moves.{Moved, Reached, moved_deliver}
use Rattle.lat_laws.proofs.rounds.rounds.Delivers.{deliver_keeps}
use Rattle.lat_laws.proofs.rounds.rounds.Nexts.{NextOf, next_of, in_append}
use Rattle.lat_laws.proofs.rounds.rounds.Done.{get_front}
use Rattle.lat_laws.proofs.rounds.rounds.Empty.{none_undelivered}
use Rattle.lat_laws.proofs.rounds.rounds.Beside.{Follows}
use Rattle.lat_laws.proofs.rounds.rounds.Youngs.{reached_follows, reached_within, reached_then}
use Rattle.lat_laws.proofs.rounds.counting.Most.{Matched, matched_at}
use Rattle.lat_laws.proofs.rounds.counting.Stays.{Onto}
use Rattle.lat_laws.proofs.rounds.counting.Forth.{Forth, forth_same, deliveries_forth}
use Rattle.lat_laws.proofs.rounds.settle.Steady.{HasEnd, RunsTo, SlaveOf}
use Rattle.lat_laws.proofs.rounds.settle.Walks.{runs_on, slave_on}
use Rattle.lat_laws.proofs.rounds.settle.Others.{node_else, speaks_of}
use Rattle.lat_laws.proofs.rounds.settle.Bares.{hears_bare}

-- a delivery is a hearing

deliver_is : (u : Setups) (m : Machines) (i now : ℕ) (r : List ℕ) (f : Posted) → slice_get m.posts i ≡ Some f → is_for_other u f ≡ true → happens u m (HearsFrame i now r) ≡ tell u (marked_delivered i m) (not f.by_server) (heard_as u f now) r
deliver_is u m i now r f e other = ap (comes u m i now r) e ∙ ap (λ b. cond b (tell u (marked_delivered i m) (not f.by_server) (heard_as u f now) r) (counted (marked_delivered i m))) other

record More (w : Machines) (v : Machines) : Type 0 where
  more : List Posted
  posts : v.posts ≡ w.posts ++ more
  delivered : v.delivered ≡ w.delivered

tell_more : (u : Setups) (w : Machines) (b : Bool) (e : Event) (r : List ℕ) → More w (tell u w b e r)
tell_more u w true e r = record { more = post_all true (server_step u.server w.server e).frames; posts = refl; delivered = refl }
tell_more u w false e r = record { more = post_all false (node_step u.node r w.node e).frames; posts = refl; delivered = refl }

in_more : (k : ℕ) (xs ys : List ℕ) → is_in k xs ≡ true → is_in k (xs ++ ys) ≡ true
in_more k [] ys h = absurd (false≢true h)
in_more k (x ∷ xs) ys h = go (nat_eq k x) h (λ r. in_more k xs ys r)
  where
    go : (b : Bool) → (b || is_in k xs) ≡ true → (is_in k xs ≡ true → is_in k (xs ++ ys) ≡ true) → (b || is_in k (xs ++ ys)) ≡ true
    go true r f = refl
    go false r f = f r

in_not : (k i : ℕ) (xs : List ℕ) → is_in k xs ≡ false → k ≢ i → is_in k (xs ++ i ∷ []) ≡ false
in_not k i xs h n = go (is_in k (xs ++ i ∷ [])) refl
  where
    last : (b : Bool) → nat_eq k i ≡ b → (b || false) ≡ true → ⊥
    last true q r = n (eqb-true k i q)
    last false q r = false≢true r

    go : (b : Bool) → is_in k (xs ++ i ∷ []) ≡ b → is_in k (xs ++ i ∷ []) ≡ false
    go false q = q
    go true q = ⊎_elim {C = is_in k (xs ++ i ∷ []) ≡ false} (λ a. absurd (true≢false (sym a ∙ h))) (λ a. absurd (last (nat_eq k i) refl a)) (in_append k xs (i ∷ []) q)

pub get_at : {A : Type 0} → (xs : List A) (x : A) (ys : List A) → slice_get (xs ++ x ∷ ys) (length xs) ≡ Some x
get_at [] x ys = refl
get_at (z ∷ xs) x ys = get_at xs x ys

-- the slave, as it is behind its time
pub record Slave (u : Setups) (p : ℕ) (c : CircuitEntry) : Type 0 where
  pub address : c.address ≡ u.server.own
  pub peer : c.end.peer ≡ p
  pub master : c.end.master ≡ false
  pub running : c.end.running ≡ true
  pub alive : lives c.end ≡ true
  pub wide : c.end.wide ≡ both_wide u

-- the frame on its way
abbrev pub bare_post : Side → Core → ℕ → ℕ → ℕ → Link (List Slot) → Posted
bare_post k c p to q l = record { by_server = true; frame = sent_frame k c (record { by_server = true; circuit = p; to = to; destination = q; source = p; sent = Run Bare false (bare_frame l) }) }

-- none of its circuit that was posted before it waits, and the slave is as it was
pub record Waits (u : Setups) (p : ℕ) (q : ℕ) (slave : CircuitEntry) (post : Posted) (m : Machines) : Type 0 where
  pub reached : Reached u m
  pub runs : HasEnd p u.node.own (RunsTo q) m.server.core
  pub has : HasEnd q u.server.own (SlaveOf p) m.node.core
  pub before : List Posted
  pub behind : List Posted
  pub posts : m.posts ≡ before ++ post ∷ behind
  pub new : is_in (length before) m.delivered ≡ false
  pub others :
      (k : ℕ) (f : Posted) →
      slice_get before k ≡ Some f →
      is_for_other u f ≡ true →
      f.by_server ≡ true →
      f.frame.circuit ≡ p →
      is_in k m.delivered ≡ true
  pub same : m.node.core.circuits.circuit_at q ≡ slave

module _ (u : Setups) (fit : Fit u) (usual : Usual u) (p q : ℕ) (c : CircuitEntry) (s : Slave u p c) (side : Side) (core : Core) (to : ℕ) (l : Link (List Slot)) (home : to ≡ u.node.own) (span : IsOfSpan (both_wide u) (bare_post side core p to q l).frame.value) (W : ℕ) (brings : (t : ℕ) → W ≤ weights (run_end t false (bare_frame l) c.end).step.end.half.sessions) where
  abbrev post : Posted
  post = bare_post side core p to q l

  abbrev Wait : Machines → Type 0
  Wait m = Waits u p q c (bare_post side core p to q l) m

  for_other : is_for_other u post ≡ true
  for_other = or_left (nat_eq to u.node.own) (nat_eq to everyone) (ap (nat_eq to) (sym home) ∙ same_eq to)
    where
      same_eq : (n : ℕ) → nat_eq n n ≡ true
      same_eq n = go (nat_eq n n) refl
        where
          go : (b : Bool) → nat_eq n n ≡ b → nat_eq n n ≡ true
          go true h = h
          go false h = absurd (eqb-false n n h refl)

  good : (m : Machines) → Reached u m → HasEnd p u.node.own (RunsTo q) m.server.core → EndOk (sessions_in m.node.core q)
  good m r h = let x : Matched u m p = matched_at u m p fit usual r h.address h.end.0 in subst (λ z. EndOk (sessions_in m.node.core z)) h.end.1 x.paired.good

  -- one more frame is heard, and the slave stays
  waits_on : (m : Machines) (i now : ℕ) (r : List ℕ) (f : Posted) (w : Wait m) → undelivered u m ≡ Some i → slice_get m.posts i ≡ Some f → is_for_other u f ≡ true → i < length w.before →
      (tell u (marked_delivered i m) (not f.by_server) (heard_as u f now) r).node.core.circuits.circuit_at q ≡ m.node.core.circuits.circuit_at q →
      Wait (happens u m (HearsFrame i now r))
  waits_on m i now r f w n e other lower keeps =
      let v : Machines = happens u m (HearsFrame i now r) in
      let moved : Moved u m v = moved_deliver u m now r (Some i) in
      let is : v ≡ tell u (marked_delivered i m) (not f.by_server) (heard_as u f now) r = deliver_is u m i now r f e other in
      let t : More (marked_delivered i m) (tell u (marked_delivered i m) (not f.by_server) (heard_as u f now) r) = tell_more u (marked_delivered i m) (not f.by_server) (heard_as u f now) r in
      let delivered : v.delivered ≡ m.delivered ++ i ∷ [] = ap (λ (z : Machines). z.delivered) is ∙ t.delivered in
      record {
        reached = reached_then u m v w.reached moved (deliver_keeps u m now r (Some i) n (reached_within u m w.reached) w.reached.lossless).lossless;
        runs = runs_on u p u.node.own q m v moved w.runs;
        has = slave_on u q u.server.own p m v moved w.has;
        before = w.before;
        behind = w.behind ++ t.more;
        posts = ap (λ (z : Machines). z.posts) is ∙ (t.posts ∙ (ap (λ z. z ++ t.more) w.posts ∙ append_assoc w.before (bare_post side core p to q l ∷ w.behind) t.more));
        new = subst (λ z. is_in (length w.before) z ≡ false) (sym delivered) (in_not (length w.before) i m.delivered w.new (λ z. absurd (omega (arith, z, lower))));
        others = λ k g a b d x. subst (λ z. is_in k z ≡ true) (sym delivered) (in_more k m.delivered (i ∷ []) (w.others k g a b d x));
        same = ap (λ (z : Machines). z.node.core.circuits.circuit_at q) is ∙ (keeps ∙ w.same);
      }

  -- a frame of another circuit, or of the node
  other_stays : (m : Machines) (i now : ℕ) (r : List ℕ) (f : Posted) (w : Wait m) → slice_get m.posts i ≡ Some f → is_for_other u f ≡ true → (b : Bool) → f.by_server ≡ b → (b ≡ true → f.frame.circuit ≢ p) → (tell u (marked_delivered i m) (not b) (heard_as u f now) r).node.core.circuits.circuit_at q ≡ m.node.core.circuits.circuit_at q
  other_stays m i now r f w e other false by n = refl
  other_stays m i now r f w e other true by n =
      let k : Follows u m = reached_follows u m fit usual w.reached in
      node_else u.node r m.node q f.frame.circuit (own_of u f.by_server) now f.frame.value (Some (record { number = f.frame.number; acknowledgement = f.frame.acknowledgement })) w.reached.calm.patient.node w.has.drawn (λ z. n refl (sym z ∙ w.has.end.1)) (speaks_of u m k.world i f k.beside e by other)

  -- the frame itself
  named : (m : Machines) → Wait m → names m.node.core.circuits u.server.own q p ≡ true
  named m w = subst (λ (z : CircuitEntry). (is_of z u.server.own p && lives z.end && z.end.running) ≡ true) (sym w.same) (and_from (is_of c u.server.own p && lives c.end) c.end.running (and_from (is_of c u.server.own p) (lives c.end) (and_from (nat_eq c.address u.server.own) (nat_eq c.end.peer p) (eq-eqb c.address u.server.own s.address) (eq-eqb c.end.peer p s.peer)) s.alive) s.running)

  fits : (z : Bool) → IsOfSpan (both_wide u) (OfCircuit (cond z (WideMessage (run_head true z false q p (bare_frame l)) []) (RunMessage (run_head true z false q p (bare_frame l)) []))) → fits_kind c.end true z ≡ true
  fits true i = and_from (not c.end.master) c.end.wide (ap not s.master) (s.wide ∙ i)
  fits false i = and_from (not c.end.master) (not c.end.wide) (ap not s.master) (ap not (s.wide ∙ i))

  apart : nat_eq u.server.own everyone ≡ false
  apart = ne_eqb u.server.own everyone fit.server_own

  heard_now : (m : Machines) (now : ℕ) (r : List ℕ) (w : Wait m) → W ≤ weights (sessions_in (happens u m (HearsFrame (length w.before) now r)).node.core q)
  heard_now m now r w =
      let e : slice_get m.posts (length w.before) ≡ Some (bare_post side core p to q l) = ap (λ z. slice_get z (length w.before)) w.posts ∙ get_at w.before (bare_post side core p to q l) w.behind in
      let is : happens u m (HearsFrame (length w.before) now r) ≡ tell u (marked_delivered (length w.before) m) false (heard_as u (bare_post side core p to q l) now) r = deliver_is u m (length w.before) now r (bare_post side core p to q l) e for_other in
      let ok : EndOk (sessions_in m.node.core q) = good m w.reached w.runs in
      let z : Bool = (core.circuits.circuit_at p).end.wide in
      subst (λ (v : Machines). W ≤ weights (sessions_in v.node.core q)) (sym is)
      (hears_bare u.node r m.node q p u.server.own now W z z l apart (named m w)
      (subst (λ (x : CircuitEntry). fits_kind x.end true z ≡ true) (sym w.same) (fits z span)) w.has.drawn ok.past ok.serial_made
      (λ t. subst (λ (x : CircuitEntry). W ≤ weights (run_end t false (bare_frame l) x.end).step.end.half.sessions) (sym w.same) (brings t)))

  abbrev Stepped : Machines → ℕ → List ℕ → Option ℕ → Type 0
  Stepped m now r o = Wait (deliver_one u now r o m) ⊎ (W ≤ weights (sessions_in (deliver_one u now r o m).node.core q))

  -- one delivery: the slave still waits, or it has heard the frame
  step : (m : Machines) (now : ℕ) (r : List ℕ) → Wait m → (o : Option ℕ) → undelivered u m ≡ o → Stepped m now r o
  step m now r w None n = inl w
  step m now r w (Some i) n = ⊎_elim {C = Stepped m now r (Some i)} lower (λ h. ⊎_elim {C = Stepped m now r (Some i)} higher (λ g. equal (omega (arith, h, g))) (cases_lt (length w.before) i)) (cases_lt i (length w.before))
    where
      x : NextOf u m.delivered 0 m.posts i
      x = next_of u m.delivered 0 m.posts i n

      there : slice_get m.posts i ≡ Some x.post
      there = subst (λ z. slice_get m.posts z ≡ Some x.post) (omega (arith, x.at)) x.there

      lower : i < length w.before → Stepped m now r (Some i)
      lower h = inl (waits_on m i now r x.post w n there x.other h (other_stays m i now r x.post w there x.other x.post.by_server refl another))
        where
          another : x.post.by_server ≡ true → x.post.frame.circuit ≢ p
          another b z = true≢false (sym (w.others i x.post (sym (get_front w.before (bare_post side core p to q l ∷ w.behind) i h) ∙ (ap (λ y. slice_get y i) (sym w.posts) ∙ there)) x.other b z) ∙ x.new)

      higher : length w.before < i → Stepped m now r (Some i)
      higher h =
          let e : slice_get m.posts (length w.before) ≡ Some (bare_post side core p to q l) = ap (λ z. slice_get z (length w.before)) w.posts ∙ get_at w.before (bare_post side core p to q l) w.behind in
          let d : is_in (length w.before + 0) m.delivered ≡ true = x.before (length w.before) (bare_post side core p to q l) (omega (arith, h, x.at)) e for_other in
          absurd (true≢false (sym d ∙ (ap (λ z. is_in z m.delivered) (omega arith) ∙ w.new)))

      equal : i ≡ length w.before → Stepped m now r (Some i)
      equal h = inr (subst (λ z. W ≤ weights (sessions_in (happens u m (HearsFrame z now r)).node.core q)) (sym h) (heard_now m now r w))

  -- behind all deliveries it has
  answers : (now : ℕ) (rs : List (List ℕ)) (m : Machines) → Wait m → undelivered u (deliveries u now rs m) ≡ None → W ≤ weights (sessions_in (deliveries u now rs m).node.core q)
  answers now [] m w n =
      let e : slice_get m.posts (length w.before) ≡ Some (bare_post side core p to q l) = ap (λ z. slice_get z (length w.before)) w.posts ∙ get_at w.before (bare_post side core p to q l) w.behind in
      absurd (true≢false (sym (none_undelivered u m true (bare_post side core p to q l).frame.circuit n (length w.before) (bare_post side core p to q l) e for_other refl refl) ∙ w.new))
  answers now (r ∷ rs) m w n = go (step m now r w (undelivered u m) refl) (λ y. answers now rs (deliver_one u now r (undelivered u m) m) y n)
    where
      moved : Moved u m (deliver_one u now r (undelivered u m) m)
      moved = moved_deliver u m now r (undelivered u m)

      go : Stepped m now r (undelivered u m) → (Wait (deliver_one u now r (undelivered u m) m) → W ≤ weights (sessions_in (deliveries u now rs (deliver_one u now r (undelivered u m) m)).node.core q)) → W ≤ weights (sessions_in (deliveries u now rs (deliver_one u now r (undelivered u m) m)).node.core q)
      go (inl y) k = k y
      go (inr y) k =
          let reached : Reached u (deliver_one u now r (undelivered u m) m) = reached_then u m (deliver_one u now r (undelivered u m) m) w.reached moved (deliver_keeps u m now r (undelivered u m) refl (reached_within u m w.reached) w.reached.lossless).lossless in
          let ok : EndOk (sessions_in (deliver_one u now r (undelivered u m) m).node.core q) = good (deliver_one u now r (undelivered u m) m) reached (runs_on u p u.node.own q m (deliver_one u now r (undelivered u m) m) moved w.runs) in
          let has : HasEnd q u.server.own (SlaveOf p) (deliver_one u now r (undelivered u m) m).node.core = slave_on u q u.server.own p m (deliver_one u now r (undelivered u m) m) moved w.has in
          let f : Forth (deliver_one u now r (undelivered u m) m) (deliveries u now rs (deliver_one u now r (undelivered u m) m)) = deliveries_forth u (deliver_one u now r (undelivered u m) m) now rs (deliver_one u now r (undelivered u m) m) (forth_same (deliver_one u now r (undelivered u m) m)) in
          let g : Onto (sessions_in (deliver_one u now r (undelivered u m) m).node.core q) (sessions_in (deliveries u now rs (deliver_one u now r (undelivered u m) m)).node.core q) = f.node.at q has.drawn ok.past in
          omega (arith, y, (g.rises ok.serial_made).1)

-- The same for what the round brings
pub bare_answers : (u : Setups) (p q now W : ℕ) (rs : List (List ℕ)) (m : Machines) (c : CircuitEntry) (side : Side) (core : Core) (to : ℕ) (l : Link (List Slot)) → Fit u → Usual u → Slave u p c → to ≡ u.node.own → IsOfSpan (both_wide u) (bare_post side core p to q l).frame.value → ((t : ℕ) → W ≤ weights (run_end t false (bare_frame l) c.end).step.end.half.sessions) → Waits u p q c (bare_post side core p to q l) m → undelivered u (deliveries u now rs m) ≡ None → W ≤ weights (sessions_in (deliveries u now rs m).node.core q)
bare_answers u p q now W rs m c side core to l fit usual s home span brings w n = answers u fit usual p q c s side core to l home span W brings now rs m w n
