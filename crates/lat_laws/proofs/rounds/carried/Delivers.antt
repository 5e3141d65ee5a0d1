-- A frame that is delivered in its turn, or again, keeps what is in flight.
use Rattle.std.proofs.Common.{◌≡◌, ◌≢◌, ℕ, suc, ◌≤◌, inl, ⊎_elim, sym, ap, ap₂, ◌∙◌, refl, subst, Bool, true, false, not, cond, ◌&&◌, ◌||◌, List, [], ◌∷◌, length, Option, Some, None, nat_eq, nat_lt, slice_get, eqb-true, eq-eqb, ne_eqb}
use Rattle.std.proofs.lemmas.Bool.{true≢false, false≢true, and_parts, and_from, or_left, eqb-false}
use Rattle.lat_model.specs.sessions.Slots.{Slot}
use Rattle.lat_model.specs.numbers.Link.{Link, Frame, fresh}
use Rattle.lat_model.specs.numbers.NetOk.{FrameOf}
use Rattle.lat_model.specs.ends.End.{Mark, Sent, Run, CallStart, ReplyStart, Stopped, End, Step, lives}
use Rattle.lat_model.specs.ends.Run.{run_end}
use Rattle.lat_model.specs.ends.Starting.{Agreed, again_start, make_slave, reply_end, hear_reply, hear_stop}
use Rattle.lat_model.specs.circuits.World.{CircuitEntry, Wired, World, table, with_table, put_circuit, at_end, wire_all, first_end}
use Rattle.lat_model.specs.circuits.Arriving.{is_of, living, slave_of, run_in, stop_in, reply_in, start_in, arrive}
use Rattle.lat_model.specs.circuits.Events.{deliver_in}
use Rattle.lat_model.specs.circuits.WorldOk.{WorldOk, Replied, ByNode, ByServer, FromSender}
use Rattle.lat_model.proofs.numbers.Net.{each_at}
use Rattle.lat_model.proofs.circuits.Follows.{world_whole}
use Rattle.lat_model.specs.circuits.Ids.{is_known, next_id, ids}
use Rattle.lat_laws.specs.rounds.Lossless.{is_side, is_in}
use Rattle.lat_laws.specs.rounds.Flight.{Flow}
use Rattle.lat_laws.specs.rounds.Carried.{flying, server_end, node_end, Coupled, Offered, NamesSender, Came, Carried, Kinds, done_with}
use Rattle.lat_laws.proofs.rounds.carried.Runs.{fly_same, place_low, below_more, in_cases, node_hears_carried}
use Rattle.lat_laws.proofs.rounds.carried.Downs.{server_hears_carried}
use Rattle.lat_laws.proofs.rounds.carried.Unheard.{Turn, flies, flow_after, relabel}
use Rattle.lat_laws.proofs.rounds.carried.Stops.{node_stops, server_stops, reply_noted, again_carried}
use Rattle.lat_laws.proofs.rounds.carried.News.{first_reply_carried}
use Rattle.lat_laws.proofs.rounds.carried.Makes.{make_carried, refuse_carried}
use Rattle.lat_laws.proofs.rounds.carried.Kinds.{least_passes}

carried_cond : (c : Bool) (done : List ℕ) (v w : World) → (c ≡ true → Carried v done) → (c ≡ false → Carried w done) → Carried (cond c v w) done
carried_cond true done v w p q = p refl
carried_cond false done v w p q = q refl

-- the tests of a frame that names a circuit

four : (a b c d : Bool) → a ≡ true → b ≡ true → c ≡ true → d ≡ true → (a && b && c && d) ≡ true
four a b c d p q r s = and_from (a && b && c) d (and_from (a && b) c (and_from a b p q) r) s

record Four (a b c d : Bool) : Type 0 where
  first : a ≡ true
  second : b ≡ true
  third : c ≡ true
  fourth : d ≡ true

four_parts : (a b c d : Bool) → (a && b && c && d) ≡ true → Four a b c d
four_parts a b c d h =
    let p : ((a && b && c) ≡ true) × (d ≡ true) = and_parts (a && b && c) d h in
    let q : ((a && b) ≡ true) × (c ≡ true) = and_parts (a && b) c p.0 in
    let r : (a ≡ true) × (b ≡ true) = and_parts a b q.0 in
    record { first = r.0; second = r.1; third = q.1; fourth = p.1 }

no_way : (b : Bool) → b ≡ true → b ≡ false → ⊥
no_way b p q = true≢false (sym p ∙ q)

module _ (w : World) (done : List ℕ) (i t : ℕ) (g : Agreed) (ok : WorldOk w) (kd : Kinds w) (k : Carried w done) where
  -- a RUN of the server
  run_up : (p to d s : ℕ) (mark : Mark) (ask : Bool) (f : Frame (List Slot)) → slice_get w.frames i ≡ Some (record { by_server = true; circuit = p; to = to; destination = d; source = s; sent = Run mark ask f }) → Turn w done (record { by_server = true; circuit = p; to = to; destination = d; source = s; sent = Run mark ask f }) i → to ≡ w.node.own → Carried (run_in w false w.server.own true d s t ask f) (i ∷ done)
  run_up p to d s mark ask f e turn home = carried_cond test (i ∷ done) (at_end w false d (run_end t ask f c.end).step) w yes no
    where
      v : Wired
      v = record { by_server = true; circuit = p; to = to; destination = d; source = s; sent = Run mark ask f }

      c : CircuitEntry
      c = w.node.circuit_at d

      test : Bool
      test = is_of c w.server.own s && lives c.end && c.end.running && not c.end.master

      says : ((w.server.circuit_at p).address ≡ w.node.own) × ByServer w p d s f
      says = each_at (λ (y : Wired). FromSender w y.by_server y.circuit y.to y.destination y.source y.sent) w.frames i (record { by_server = true; circuit = p; to = to; destination = d; source = s; sent = Run mark ask f }) ok.says e home

      tells : ((server_end w p).running ≡ true) × (d ≡ (server_end w p).peer)
      tells = each_at (λ (y : Wired). NamesSender w y.by_server y.circuit y.to y.destination y.source y.sent) w.frames i (record { by_server = true; circuit = p; to = to; destination = d; source = s; sent = Run mark ask f }) k.tells e home

      rep : Replied w p
      rep = ok.replied p says.0 tells.0

      yes : (is_of (w.node.circuit_at d) w.server.own s && lives (node_end w d) && (node_end w d).running && not (node_end w d).master) ≡ true → Carried (at_end w false d (run_end t ask f (node_end w d)).step) (i ∷ done)
      yes h =
          let r : Four (is_of (w.node.circuit_at d) w.server.own s) (lives (node_end w d)) (node_end w d).running (not (node_end w d).master) = four_parts _ _ _ _ h in
          node_hears_carried w done i p to d s t mark ask f ok kd k e home turn r.second says.0 tells.0 (sym tells.1) (world_whole w ok i t (record { by_server = true; circuit = p; to = to; destination = d; source = s; sent = Run mark ask f }) ask f e (record { to = home; mark = mark; run = refl; names = h }))

      -- a slave that lives is named
      named : lives (node_end w d) ≡ true → (is_of (w.node.circuit_at d) w.server.own s && lives (node_end w d) && (node_end w d).running && not (node_end w d).master) ≡ true
      named l = four _ _ _ _ (and_from _ _ (eq-eqb (w.node.circuit_at d).address w.server.own (ap (λ z. (w.node.circuit_at z).address) tells.1 ∙ rep.address)) (eq-eqb (node_end w d).peer s (ap (λ z. (node_end w z).peer) tells.1 ∙ rep.peer ∙ sym says.1.source))) l (kd.runs d l) (ap not (kd.slaves d))

      no : (is_of (w.node.circuit_at d) w.server.own s && lives (node_end w d) && (node_end w d).running && not (node_end w d).master) ≡ false → Carried w (i ∷ done)
      no h = relabel w done i (record { by_server = true; circuit = p; to = to; destination = d; source = s; sent = Run mark ask f }) k e turn
          (λ y a l r b q z. absurd (true≢false (sym (ap (λ u. (server_end w u).running) (sym q) ∙ tells.0) ∙ r)))
          (λ y a r n b q z. absurd (no_way _ (named (subst (λ u. lives (node_end w u) ≡ true) (ap (λ u. (server_end w u).peer) (sym q) ∙ sym tells.1) n)) h))
          (λ y a l r b q z. absurd (false≢true b))
          (λ y m a c l r b q z. absurd (false≢true b))
          (λ z l. absurd (no_way _ (named l) h))

  -- a RUN of the node
  run_down : (q to d s : ℕ) (mark : Mark) (ask : Bool) (f : Frame (List Slot)) → slice_get w.frames i ≡ Some (record { by_server = false; circuit = q; to = to; destination = d; source = s; sent = Run mark ask f }) → Turn w done (record { by_server = false; circuit = q; to = to; destination = d; source = s; sent = Run mark ask f }) i → to ≡ w.server.own → Carried (run_in w true w.node.own false d s t ask f) (i ∷ done)
  run_down q to d s mark ask f e turn home = carried_cond (is_of (w.server.circuit_at d) w.node.own s && lives (server_end w d) && (server_end w d).running && (server_end w d).master) (i ∷ done) (at_end w true d (run_end t ask f (server_end w d)).step) w yes no
    where
      says : ByNode w q d s × FrameOf (List Slot) (node_end w q).half.link f
      says = each_at (λ (y : Wired). FromSender w y.by_server y.circuit y.to y.destination y.source y.sent) w.frames i (record { by_server = false; circuit = q; to = to; destination = d; source = s; sent = Run mark ask f }) ok.says e home

      yes : (is_of (w.server.circuit_at d) w.node.own s && lives (server_end w d) && (server_end w d).running && (server_end w d).master) ≡ true → Carried (at_end w true d (run_end t ask f (server_end w d)).step) (i ∷ done)
      yes h =
          let r : Four (is_of (w.server.circuit_at d) w.node.own s) (lives (server_end w d)) (server_end w d).running (server_end w d).master = four_parts _ _ _ _ h in
          let a : (nat_eq (w.server.circuit_at d).address w.node.own ≡ true) × (nat_eq (server_end w d).peer s ≡ true) = and_parts _ _ r.first in
          server_hears_carried w done i q to d s t mark ask f ok k e home turn r.second (eqb-true _ _ a.0) r.third (eqb-true _ _ a.1 ∙ says.0.source) (world_whole w ok i t (record { by_server = false; circuit = q; to = to; destination = d; source = s; sent = Run mark ask f }) ask f e (record { to = home; mark = mark; run = refl; names = h }))

      -- a master that runs with its sender is named
      named : (w.server.circuit_at d).address ≡ w.node.own → lives (server_end w d) ≡ true → (server_end w d).running ≡ true → (server_end w d).peer ≡ q → (is_of (w.server.circuit_at d) w.node.own s && lives (server_end w d) && (server_end w d).running && (server_end w d).master) ≡ true
      named a l r p = four _ _ _ _ (and_from _ _ (eq-eqb _ _ a) (eq-eqb _ _ (p ∙ sym says.0.source))) l r (kd.masters d)

      no : (is_of (w.server.circuit_at d) w.node.own s && lives (server_end w d) && (server_end w d).running && (server_end w d).master) ≡ false → Carried w (i ∷ done)
      no h = relabel w done i (record { by_server = false; circuit = q; to = to; destination = d; source = s; sent = Run mark ask f }) k e turn
          (λ y a l r b c z. absurd (false≢true b))
          (λ y a r n b c z. absurd (false≢true b))
          (λ y a l r b c z. let same : d ≡ y = says.0.destination ∙ ap (λ u. (node_end w u).peer) c ∙ (ok.replied y a r).peer in
          absurd (no_way _ (named (ap (λ u. (w.server.circuit_at u).address) same ∙ a) (ap (λ u. lives (server_end w u)) same ∙ l) (ap (λ u. (server_end w u).running) same ∙ r) (ap (λ u. (server_end w u).peer) same ∙ sym c)) h))
          (λ y m a c l r b z u x. cc)
          (λ z a l r p. absurd (no_way _ (named a l r p) h))

  -- a STOP of the server
  stop_up : (p to d s r : ℕ) → slice_get w.frames i ≡ Some (record { by_server = true; circuit = p; to = to; destination = d; source = s; sent = Stopped r }) → Turn w done (record { by_server = true; circuit = p; to = to; destination = d; source = s; sent = Stopped r }) i → Carried (stop_in w false w.server.own d s t r) (i ∷ done)
  stop_up p to d s r e turn = carried_cond (nat_eq (w.node.circuit_at d).address w.server.own && (nat_eq (node_end w d).peer s || nat_eq s 0) && lives (node_end w d)) (i ∷ done) (at_end w false d (hear_stop t r (node_end w d))) w yes no
    where
      tells : (lives (server_end w p) ≡ false) × (s ≡ p) × (p ≢ 0)
      tells = each_at (λ (y : Wired). NamesSender w y.by_server y.circuit y.to y.destination y.source y.sent) w.frames i (record { by_server = true; circuit = p; to = to; destination = d; source = s; sent = Stopped r }) k.tells e

      yes : (nat_eq (w.node.circuit_at d).address w.server.own && (nat_eq (node_end w d).peer s || nat_eq s 0) && lives (node_end w d)) ≡ true → Carried (at_end w false d (hear_stop t r (node_end w d))) (i ∷ done)
      yes h =
          let a : ((nat_eq (w.node.circuit_at d).address w.server.own && (nat_eq (node_end w d).peer s || nat_eq s 0)) ≡ true) × (lives (node_end w d) ≡ true) = and_parts _ _ h in
          let b : (nat_eq (w.node.circuit_at d).address w.server.own ≡ true) × ((nat_eq (node_end w d).peer s || nat_eq s 0) ≡ true) = and_parts _ _ a.0 in
          node_stops w done i d t r p to s ok k e turn a.1 tells.0 (peer_is (nat_eq (node_end w d).peer s) (nat_eq s 0) refl refl b.1)
        where
          peer_is : (x y : Bool) → nat_eq (node_end w d).peer s ≡ x → nat_eq s 0 ≡ y → (x || y) ≡ true → (node_end w d).peer ≡ p
          peer_is true y m n o = eqb-true _ _ m ∙ tells.1
          peer_is false true m n o = absurd (tells.2 (sym tells.1 ∙ eqb-true s 0 n))
          peer_is false false m n o = absurd (false≢true o)

      no : (nat_eq (w.node.circuit_at d).address w.server.own && (nat_eq (node_end w d).peer s || nat_eq s 0) && lives (node_end w d)) ≡ false → Carried w (i ∷ done)
      no h = relabel w done i (record { by_server = true; circuit = p; to = to; destination = d; source = s; sent = Stopped r }) k e turn
          (λ y a l q b c z. refl)
          (λ y a q n b c z. refl)
          (λ y a l q b c z. absurd (false≢true b))
          (λ y m a c l q b z. absurd (false≢true b))
          tt

  -- a STOP of the node
  stop_down : (q to d s r : ℕ) → slice_get w.frames i ≡ Some (record { by_server = false; circuit = q; to = to; destination = d; source = s; sent = Stopped r }) → Turn w done (record { by_server = false; circuit = q; to = to; destination = d; source = s; sent = Stopped r }) i → to ≡ w.server.own → Carried (stop_in w true w.node.own d s t r) (i ∷ done)
  stop_down q to d s r e turn home = carried_cond (nat_eq (w.server.circuit_at d).address w.node.own && (nat_eq (server_end w d).peer s || nat_eq s 0) && lives (server_end w d)) (i ∷ done) (at_end w true d (hear_stop t r (server_end w d))) w yes no
    where
      tells : q ≢ 0 → (s ≡ q) × (d ≡ (node_end w q).peer)
      tells n = each_at (λ (y : Wired). NamesSender w y.by_server y.circuit y.to y.destination y.source y.sent) w.frames i (record { by_server = false; circuit = q; to = to; destination = d; source = s; sent = Stopped r }) k.tells e home n

      yes : (nat_eq (w.server.circuit_at d).address w.node.own && (nat_eq (server_end w d).peer s || nat_eq s 0) && lives (server_end w d)) ≡ true → Carried (at_end w true d (hear_stop t r (server_end w d))) (i ∷ done)
      yes h =
          let a : ((nat_eq (w.server.circuit_at d).address w.node.own && (nat_eq (server_end w d).peer s || nat_eq s 0)) ≡ true) × (lives (server_end w d) ≡ true) = and_parts _ _ h in
          let b : (nat_eq (w.server.circuit_at d).address w.node.own ≡ true) × ((nat_eq (server_end w d).peer s || nat_eq s 0) ≡ true) = and_parts _ _ a.0 in
          server_stops w done i d t r q to s ok k e turn a.1 (λ n u. (let p : (server_end w d).peer ≡ q = peer_is n (nat_eq (server_end w d).peer s) (nat_eq s 0) refl refl b.1 in (eqb-true _ _ b.0, runs (server_end w d).running refl n p, p)))
        where
          peer_is : q ≢ 0 → (x y : Bool) → nat_eq (server_end w d).peer s ≡ x → nat_eq s 0 ≡ y → (x || y) ≡ true → (server_end w d).peer ≡ q
          peer_is z true y m n o = eqb-true _ _ m ∙ (tells z).0
          peer_is z false true m n o = absurd (z (sym (tells z).0 ∙ eqb-true s 0 n))
          peer_is z false false m n o = absurd (false≢true o)

          runs : (x : Bool) → (server_end w d).running ≡ x → q ≢ 0 → (server_end w d).peer ≡ q → (server_end w d).running ≡ true
          runs true m n p = m
          runs false m n p = absurd (n (sym p ∙ ok.calling d m))

      no : (nat_eq (w.server.circuit_at d).address w.node.own && (nat_eq (server_end w d).peer s || nat_eq s 0) && lives (server_end w d)) ≡ false → Carried w (i ∷ done)
      no h = relabel w done i (record { by_server = false; circuit = q; to = to; destination = d; source = s; sent = Stopped r }) k e turn
          (λ y a l x b c z. refl)
          (λ y a x n b c z. refl)
          (λ y a l x b c z. (
            refl,
            λ u v. (let n : q ≢ 0 = λ o. (ok.replied y a x).some (sym c ∙ o) in
                let same : d ≡ y = (tells n).1 ∙ ap (λ j. (node_end w j).peer) c ∙ (ok.replied y a x).peer in
                no_way _ (and_from _ _ (and_from _ _ (eq-eqb _ _ (ap (λ j. (w.server.circuit_at j).address) same ∙ a)) (or_left _ _ (eq-eqb _ _ (ap (λ j. (server_end w j).peer) same ∙ sym c ∙ sym (tells n).0)))) (ap (λ j. lives (server_end w j)) same ∙ l)) h),
          ))
          (λ y m a c l x b z u v. cc)
          tt

  -- a reply
  reply_down : (q to d s : ℕ) → slice_get w.frames i ≡ Some (record { by_server = false; circuit = q; to = to; destination = d; source = s; sent = ReplyStart }) → Turn w done (record { by_server = false; circuit = q; to = to; destination = d; source = s; sent = ReplyStart }) i → to ≡ w.server.own → Carried (reply_in w w.node.own d s t g) (i ∷ done)
  reply_down q to d s e turn home = carried_cond (nat_eq (w.server.circuit_at d).address w.node.own && lives (server_end w d) && (not (server_end w d).running || nat_eq (server_end w d).peer s)) (i ∷ done) (at_end w true d (hear_reply t s g (server_end w d))) w yes no
    where
      c : End
      c = server_end w d

      says : ByNode w q d s
      says = each_at (λ (y : Wired). FromSender w y.by_server y.circuit y.to y.destination y.source y.sent) w.frames i (record { by_server = false; circuit = q; to = to; destination = d; source = s; sent = ReplyStart }) ok.says e home

      yes : (nat_eq (w.server.circuit_at d).address w.node.own && lives (server_end w d) && (not (server_end w d).running || nat_eq (server_end w d).peer s)) ≡ true → Carried (at_end w true d (hear_reply t s g (server_end w d))) (i ∷ done)
      yes h =
          let a : ((nat_eq (w.server.circuit_at d).address w.node.own && lives (server_end w d)) ≡ true) × ((not (server_end w d).running || nat_eq (server_end w d).peer s) ≡ true) = and_parts _ _ h in
          let b : (nat_eq (w.server.circuit_at d).address w.node.own ≡ true) × (lives (server_end w d) ≡ true) = and_parts _ _ a.0 in
          by (server_end w d).running refl (eqb-true _ _ b.0) b.1 a.1
        where
          noted : Step
          noted = record { end = record (server_end w d) { moment = t; heard_at = t }; sent = [] }

          first : Step
          first = record { end = reply_end t s g (server_end w d); sent = [] }

          none : Step
          none = record { end = server_end w d; sent = [] }

          by : (r : Bool) → (server_end w d).running ≡ r → (w.server.circuit_at d).address ≡ w.node.own → lives (server_end w d) ≡ true → (not (server_end w d).running || nat_eq (server_end w d).peer s) ≡ true → Carried (at_end w true d (hear_reply t s g (server_end w d))) (i ∷ done)
          by true r a l o =
              subst (λ z. Carried (at_end w true d z) (i ∷ done)) (sym (ap₂ (λ u v. cond u (cond v noted first) none) l r))
              (reply_noted w done i d t q to s ok k e turn l a r (eqb-true _ _ (sym (ap (λ z. not z || nat_eq (server_end w d).peer s) r) ∙ o) ∙ says.source))
          by false r a l o =
              subst (λ z. Carried (at_end w true d z) (i ∷ done)) (sym (ap₂ (λ u v. cond u (cond v noted first) none) l r))
              (subst (λ z. Carried (at_end w true d (record { end = reply_end t z g (server_end w d); sent = [] })) (i ∷ done)) (sym says.source)
              (first_reply_carried w done i d q to s t g ok k e home turn l a r says.some says.drawn says.address (sym says.destination)))

      -- a master that waits is named
      named : (w.server.circuit_at d).address ≡ w.node.own → lives (server_end w d) ≡ true → (server_end w d).running ≡ false → (nat_eq (w.server.circuit_at d).address w.node.own && lives (server_end w d) && (not (server_end w d).running || nat_eq (server_end w d).peer s)) ≡ true
      named a l r = and_from _ _ (and_from _ _ (eq-eqb _ _ a) l) (or_left _ _ (ap not r))

      no : (nat_eq (w.server.circuit_at d).address w.node.own && lives (server_end w d) && (not (server_end w d).running || nat_eq (server_end w d).peer s)) ≡ false → Carried w (i ∷ done)
      no h = relabel w done i (record { by_server = false; circuit = q; to = to; destination = d; source = s; sent = ReplyStart }) k e turn
          (λ y a l x b c z. refl)
          (λ y a x n b c z. refl)
          (λ y a l x b c z. (refl, λ u v. cc))
          (λ y m a c l x b z u v. (let same : d ≡ (node_end w y).peer = says.destination ∙ ap (λ j. (node_end w j).peer) z in
          no_way _ (named (ap (λ j. (w.server.circuit_at j).address) same ∙ c) (ap (λ j. lives (server_end w j)) same ∙ l) (ap (λ j. (server_end w j).running) same ∙ x)) h))
          (λ u a l. running_then a l (server_end w d).running refl)
        where
          running_then : (w.server.circuit_at d).address ≡ w.node.own → lives (server_end w d) ≡ true → (r : Bool) → (server_end w d).running ≡ r → (server_end w d).running ≡ true
          running_then a l true r = r
          running_then a l false r = absurd (no_way _ (named a l r) h)

  -- a START
  start_up : (p to d s : ℕ) → slice_get w.frames i ≡ Some (record { by_server = true; circuit = p; to = to; destination = d; source = s; sent = CallStart }) → Turn w done (record { by_server = true; circuit = p; to = to; destination = d; source = s; sent = CallStart }) i → Carried (start_in w w.server.own s t g) (i ∷ done)
  start_up p to d s e turn = go (nat_eq x 0) refl (nat_lt (living w.node) 8 && nat_lt w.node.drawn 65535)
    where
      v : Wired
      v = record { by_server = true; circuit = p; to = to; destination = d; source = s; sent = CallStart }

      x : ℕ
      x = slave_of w.node w.server.own s

      test : ℕ → Bool
      test j = is_of (w.node.circuit_at j) w.server.own s && lives (w.node.circuit_at j).end

      source : s ≡ p
      source = each_at (λ (y : Wired). NamesSender w y.by_server y.circuit y.to y.destination y.source y.sent) w.frames i (record { by_server = true; circuit = p; to = to; destination = d; source = s; sent = CallStart }) k.tells e

      low : is_known w.server p ≡ true
      low = each_at (λ (y : Wired). is_known (table w y.by_server) y.circuit ≡ true) w.frames i (record { by_server = true; circuit = p; to = to; destination = d; source = s; sent = CallStart }) k.low e

      below : (j : ℕ) → length w.frames ≤ j → is_in j (i ∷ done) ≡ false
      below = below_more w done i (place_low w.frames i (record { by_server = true; circuit = p; to = to; destination = d; source = s; sent = CallStart }) e) k.below

      up_now : (y : ℕ) (b : Link (List Slot)) → Flow (server_end w y).half.link b (flying w done true y) → Flow (server_end w y).half.link b (flying w (i ∷ done) true y)
      up_now y b h = flow_after w.node.own true y (record { by_server = true; circuit = p; to = to; destination = d; source = s; sent = CallStart }) (flying w done true y) (flying w (i ∷ done) true y) (server_end w y).half.link b (flies w done i (record { by_server = true; circuit = p; to = to; destination = d; source = s; sent = CallStart }) w.node.own true y e turn) (λ m n o. refl) h

      down_now : (q : ℕ) → flying w (i ∷ done) false q ≡ flying w done false q
      down_now q = fly_same w.server.own false q done i w.frames (record { by_server = true; circuit = p; to = to; destination = d; source = s; sent = CallStart }) e (inl refl)

      came_now : (j : ℕ) (f : Wired) → slice_get w.frames j ≡ Some f → is_in j (i ∷ done) ≡ true → Came w f.by_server f.circuit f.to f.destination f.sent
      came_now j f q h = ⊎_elim {C = Came w f.by_server f.circuit f.to f.destination f.sent} (λ z. subst (λ (y : Wired). Came w y.by_server y.circuit y.to y.destination y.sent) (same z q) tt) (λ z. k.came j f q z) (in_cases i j done h)
        where
          same : j ≡ i → slice_get w.frames j ≡ Some f → record { by_server = true; circuit = p; to = to; destination = d; source = s; sent = CallStart } ≡ f
          same z q = let r : Some (record { by_server = true; circuit = p; to = to; destination = d; source = s; sent = CallStart }) ≡ Some f = sym e ∙ ap (slice_get w.frames) (sym z) ∙ q in cc

      go : (b : Bool) → nat_eq (slave_of w.node w.server.own s) 0 ≡ b → (c : Bool) → Carried (cond b (cond c (put_circuit w false (suc w.node.drawn) (next_id w.node) w.server.own (make_slave t s g (first_end false false w.other))) (with_table w false w.node (wire_all false 0 w.server.own s (Stopped 7 ∷ [])))) (at_end w false (slave_of w.node w.server.own s) (again_start t (node_end w (slave_of w.node w.server.own s))))) (i ∷ done)
      go true q true = make_carried w done (i ∷ done) w.server.own s t g ok k below up_now down_now came_now (λ h. subst (λ z. is_known w.server z ≡ true) (sym source) low)
      go true q false = refuse_carried w done (i ∷ done) w.server.own s ok k below up_now down_now came_now
      go false q c = again_carried w done i (slave_of w.node w.server.own s) t p to d s ok k e turn (and_parts _ _ (least_passes (λ j. is_of (w.node.circuit_at j) w.server.own s && lives (w.node.circuit_at j).end) (ids w.node) (eqb-false _ 0 q))).1

  -- a frame that was sent elsewhere
  elsewhere : (v : Wired) → slice_get w.frames i ≡ Some v → (v.to ≡ (table w (not v.by_server)).own → ⊥) → Carried w (i ∷ done)
  elsewhere v e n = record {
    below = below_more w done i (place_low w.frames i v e) k.below;
    low = k.low;
    calling = λ p a l r. subst (λ z. Flow (server_end w p).half.link fresh z) (sym (same true p)) (k.calling p a l r);
    runs = λ p a l r. subst (λ z. Coupled (server_end w p) (node_end w (server_end w p).peer) z (flying w (i ∷ done) false (server_end w p).peer)) (sym (same true p)) (subst (λ z. Coupled (server_end w p) (node_end w (server_end w p).peer) (flying w done true p) z) (sym (same false (server_end w p).peer)) (k.runs p a l r));
    ups = λ p a r n. subst (λ z. Flow (server_end w p).half.link (node_end w (server_end w p).peer).half.link z) (sym (same true p)) (k.ups p a r n);
    downs = λ p a l r. subst (λ z. Flow (node_end w (server_end w p).peer).half.link (server_end w p).half.link z) (sym (same false (server_end w p).peer)) (k.downs p a l r);
    offered = λ q d a b l r. subst (λ y. Offered (node_end w q) y) (sym (same false q)) (k.offered q d a b l r);
    peers = k.peers;
    tells = k.tells;
    came = λ j u h d. ⊎_elim {C = Came w u.by_server u.circuit u.to u.destination u.sent} (λ z. subst (λ (y : Wired). Came w y.by_server y.circuit y.to y.destination y.sent) (this j u z h) (mine v.by_server v.sent n)) (λ z. k.came j u h z) (in_cases i j done d);
  }
    where
      this : (j : ℕ) (u : Wired) → j ≡ i → slice_get w.frames j ≡ Some u → v ≡ u
      this j u z h = let r : Some v ≡ Some u = sym e ∙ ap (slice_get w.frames) (sym z) ∙ h in cc

      line : (b : Bool) (x : ℕ) (c : Bool) → (v.to ≡ (table w (not c)).own → ⊥) → (is_side b c && (nat_eq v.circuit x && nat_eq v.to (table w (not b)).own)) ≡ false
      line true x true n = none (nat_eq v.circuit x) (ne_eqb v.to w.node.own n)
        where
          none : (p : Bool) {r : Bool} → r ≡ false → (true && (p && r)) ≡ false
          none true h = h
          none false h = refl
      line true x false n = refl
      line false x true n = refl
      line false x false n = none (nat_eq v.circuit x) (ne_eqb v.to w.server.own n)
        where
          none : (p : Bool) {r : Bool} → r ≡ false → (true && (p && r)) ≡ false
          none true h = h
          none false h = refl

      same : (b : Bool) (x : ℕ) → flying w (i ∷ done) b x ≡ flying w done b x
      same b x = fly_same (table w (not b)).own b x done i w.frames v e (inl (line b x v.by_server n))

      mine : (b : Bool) (m : Sent) → (v.to ≡ (table w (not b)).own → ⊥) → Came w b v.circuit v.to v.destination m
      mine true (Run mark ask f) n = λ a. absurd (n a)
      mine false (Run mark ask f) n = λ a. absurd (n a)
      mine false ReplyStart n = λ a. absurd (n a)
      mine true CallStart n = tt
      mine false CallStart n = tt
      mine true ReplyStart n = tt
      mine true (Stopped r) n = tt
      mine false (Stopped r) n = tt

  -- a reply of the server, or a START of the node: nobody hears it
  unheard_up : (p to d s : ℕ) → slice_get w.frames i ≡ Some (record { by_server = true; circuit = p; to = to; destination = d; source = s; sent = ReplyStart }) → Turn w done (record { by_server = true; circuit = p; to = to; destination = d; source = s; sent = ReplyStart }) i → Carried w (i ∷ done)
  unheard_up p to d s e turn = relabel w done i (record { by_server = true; circuit = p; to = to; destination = d; source = s; sent = ReplyStart }) k e turn (λ y a l x b c z. refl) (λ y a x n b c z. refl) (λ y a l x b c z. absurd (false≢true b)) (λ y m a c l x b z. absurd (false≢true b)) tt

  unheard_down : (q to d s : ℕ) → slice_get w.frames i ≡ Some (record { by_server = false; circuit = q; to = to; destination = d; source = s; sent = CallStart }) → Turn w done (record { by_server = false; circuit = q; to = to; destination = d; source = s; sent = CallStart }) i → Carried w (i ∷ done)
  unheard_down q to d s e turn = relabel w done i (record { by_server = false; circuit = q; to = to; destination = d; source = s; sent = CallStart }) k e turn (λ y a l x b c z. refl) (λ y a x n b c z. refl) (λ y a l x b c z. (refl, λ u v. cc)) (λ y m a c l x b z u v. cc) tt

  -- a frame to the other end
  home_carried : (b : Bool) (p to d s : ℕ) (m : Sent) → slice_get w.frames i ≡ Some (record { by_server = b; circuit = p; to = to; destination = d; source = s; sent = m }) → Turn w done (record { by_server = b; circuit = p; to = to; destination = d; source = s; sent = m }) i → to ≡ (table w (not b)).own → Carried (arrive w (not b) (table w b).own b d s t g m) (i ∷ done)
  home_carried true p to d s (Run mark ask f) e u h = run_up p to d s mark ask f e u h
  home_carried false p to d s (Run mark ask f) e u h = run_down p to d s mark ask f e u h
  home_carried true p to d s CallStart e u h = start_up p to d s e u
  home_carried false p to d s CallStart e u h = unheard_down p to d s e u
  home_carried true p to d s ReplyStart e u h = unheard_up p to d s e u
  home_carried false p to d s ReplyStart e u h = reply_down p to d s e u h
  home_carried true p to d s (Stopped r) e u h = stop_up p to d s r e u
  home_carried false p to d s (Stopped r) e u h = stop_down p to d s r e u h

  pub deliver_carried : ((v : Wired) → slice_get w.frames i ≡ Some v → v.to ≡ (table w (not v.by_server)).own → Turn w done v i) → Carried (deliver_in w t g (slice_get w.frames i)) (done_with done i (slice_get w.frames i))
  deliver_carried turn = go (slice_get w.frames i) refl
    where
      go : (o : Option Wired) → slice_get w.frames i ≡ o → Carried (deliver_in w t g o) (done_with done i o)
      go None e = k
      go (Some v) e = carried_cond (nat_eq v.to (table w (not v.by_server)).own) (i ∷ done) (arrive w (not v.by_server) (table w v.by_server).own v.by_server v.destination v.source t g v.sent) w
          (λ q. let h : v.to ≡ (table w (not v.by_server)).own = eqb-true v.to (table w (not v.by_server)).own q in home_carried v.by_server v.circuit v.to v.destination v.source v.sent e (turn v e h) h)
          (λ q. elsewhere v e (eqb-false v.to (table w (not v.by_server)).own q))
