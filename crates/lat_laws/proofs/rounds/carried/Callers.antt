-- A circuit that the server calls.
use Rattle.std.proofs.Common.{◌≡◌, ℕ, ◌+◌, ◌<◌, ◌⊎◌, inl, inr, ⊎_elim, sym, ap, ap₂, ◌∙◌, refl, subst, arith, Bool, true, false, List, [], ◌∷◌, ◌++◌, length, Some, nat_eq, slice_get, eqb-true, append-nil, length-append}
use Rattle.std.proofs.lemmas.Bool.{true≢false, false≢true, eqb-false, cases_lt}
use Rattle.lat_model.specs.numbers.Link.{fresh}
use Rattle.lat_model.specs.ends.End.{Sent, Run, CallStart, ReplyStart, Stopped, Step, lives}
use Rattle.lat_model.specs.ends.Starting.{make_master}
use Rattle.lat_model.specs.circuits.World.{CircuitEntry, Wired, World, table, wire_all, first_end}
use Rattle.lat_model.specs.circuits.Events.{Calls, occurs}
use Rattle.lat_model.specs.circuits.WorldOk.{WorldOk, ByNode, FromSender}
use Rattle.lat_model.proofs.sessions.Words.{upd_same, upd_other}
use Rattle.lat_model.proofs.numbers.Net.{each_imp, each_append, each_at}
use Rattle.lat_model.proofs.circuits.Ids.{drawn_behind, drawn_known, known_apart, known_stays, next_drawn, next_unknown}
use Rattle.lat_model.specs.circuits.Ids.{is_drawn, next_id, is_known}
use Rattle.lat_laws.specs.rounds.Lossless.{is_in}
use Rattle.lat_laws.specs.rounds.Flight.{Flow, Old}
use Rattle.lat_laws.specs.rounds.Carried.{flying, flying_from, server_end, node_end, Coupled, Offered, NamesSender, Came, Carried}
use Rattle.lat_laws.proofs.rounds.carried.Flying.{flying-append, flying-new, flying-other}
use Rattle.lat_laws.proofs.rounds.carried.Servers.{front_place}
use Rattle.lat_laws.proofs.rounds.carried.Makes.{flying_none, undrawn, both_each}

module _ (w : World) (done : List ℕ) (address t : ℕ) (ok : WorldOk w) (k : Carried w done) where
  abbrev x : ℕ
  x = next_id w.server

  abbrev made : Step
  made = make_master t (first_end true true w.setup)

  abbrev c' : CircuitEntry
  c' = record { address = address; end = made.end }

  abbrev v : World
  v = occurs w (Calls address t)

  abbrev news : List Wired
  news = wire_all true x address 0 (CallStart ∷ [])

  here : v.server.circuit_at x ≡ c'
  here = upd_same w.server.circuit_at x c'

  there : (p : ℕ) → (p ≡ x → ⊥) → v.server.circuit_at p ≡ w.server.circuit_at p
  there p n = upd_other w.server.circuit_at x c' p n

  low_there : (p : ℕ) → is_known w.server p ≡ true → v.server.circuit_at p ≡ w.server.circuit_at p
  low_there p h = there p (known_apart w.server p h)

  down : (q : ℕ) → flying v done false q ≡ flying w done false q
  down q = flying-append w.server.own false q done 0 w.frames news ∙ ap (λ z. flying w done false q ++ z) (flying-other w.server.own false q done (0 + length w.frames) true x address 0 (CallStart ∷ []) (λ i. absurd (false≢true i))) ∙ append-nil (flying w done false q)

  up : (p : ℕ) → (p ≡ x → ⊥) → flying v done true p ≡ flying w done true p
  up p n = flying-append w.node.own true p done 0 w.frames news ∙ ap (λ z. flying w done true p ++ z) (flying-other w.node.own true p done (0 + length w.frames) true x address 0 (CallStart ∷ []) (λ i j. absurd (n (sym j)))) ∙ append-nil (flying w done true p)

  up_new : address ≡ w.node.own → flying v done true x ≡ CallStart ∷ []
  up_new h = flying-append w.node.own true x done 0 w.frames news
      ∙ ap₂ (λ y z. y ++ z) (flying_none w.node.own true x done 0 w.frames (undrawn w w.node.own true x w.frames (next_unknown w.server) k.low)) (subst (λ a. flying_from w.node.own true x done (0 + length w.frames) (wire_all true x a 0 (CallStart ∷ [])) ≡ CallStart ∷ []) (sym h) (flying-new w.node.own true x 0 done (0 + length w.frames) (CallStart ∷ []) (λ j i. k.below j (omega arith))))

  calling : (p : ℕ) → (v.server.circuit_at p).address ≡ w.node.own → lives (server_end v p) ≡ true → (server_end v p).running ≡ false → Flow (server_end v p).half.link fresh (flying v done true p)
  calling p a h r = go (nat_eq p x) refl
    where
      go : (b : Bool) → nat_eq p x ≡ b → Flow (server_end v p).half.link fresh (flying v done true p)
      go true y =
          let i : p ≡ x = eqb-true p x y in
          let own : address ≡ w.node.own = ap (λ (z : CircuitEntry). z.address) (sym here) ∙ ap (λ z. (v.server.circuit_at z).address) (sym i) ∙ a in
          subst (λ z. Flow (server_end v z).half.link fresh (flying v done true z)) (sym i) (subst (λ (z : CircuitEntry). Flow z.end.half.link fresh (flying v done true x)) (sym here) (subst (λ z. Flow made.end.half.link fresh z) (sym (up_new own)) (record { brings = refl; rises = refl })))
      go false y =
          let n : p ≡ x → ⊥ = eqb-false p x y in
          let z : v.server.circuit_at p ≡ w.server.circuit_at p = there p n in
          subst (λ (u : CircuitEntry). Flow u.end.half.link fresh (flying v done true p)) (sym z) (subst (λ u. Flow (server_end w p).half.link fresh u) (sym (up p n)) (k.calling p (ap (λ (u : CircuitEntry). u.address) (sym z) ∙ a) (ap (λ (u : CircuitEntry). lives u.end) (sym z) ∙ h) (ap (λ (u : CircuitEntry). u.end.running) (sym z) ∙ r)))

  runs : (p : ℕ) → (v.server.circuit_at p).address ≡ w.node.own → lives (server_end v p) ≡ true → (server_end v p).running ≡ true → Coupled (server_end v p) (node_end w (server_end v p).peer) (flying v done true p) (flying v done false (server_end v p).peer)
  runs p a h r =
      let n : p ≡ x → ⊥ = λ i. false≢true (ap (λ (z : CircuitEntry). z.end.running) (sym here) ∙ ap (λ z. (server_end v z).running) (sym i) ∙ r) in
      let z : v.server.circuit_at p ≡ w.server.circuit_at p = there p n in
      subst (λ (u : CircuitEntry). Coupled u.end (node_end w u.end.peer) (flying v done true p) (flying v done false u.end.peer)) (sym z)
      (subst (λ u. Coupled (server_end w p) (node_end w (server_end w p).peer) u (flying v done false (server_end w p).peer)) (sym (up p n)) (subst (λ u. Coupled (server_end w p) (node_end w (server_end w p).peer) (flying w done true p) u) (sym (down (server_end w p).peer))
      (k.runs p (ap (λ (u : CircuitEntry). u.address) (sym z) ∙ a) (ap (λ (u : CircuitEntry). lives u.end) (sym z) ∙ h) (ap (λ (u : CircuitEntry). u.end.running) (sym z) ∙ r))))

  -- a circuit that runs is none of the new one
  runs_before : (p : ℕ) → (server_end v p).running ≡ true → p ≡ x → ⊥
  runs_before p r i = false≢true (ap (λ (z : CircuitEntry). z.end.running) (sym here) ∙ ap (λ z. (server_end v z).running) (sym i) ∙ r)

  ups : (p : ℕ) → (v.server.circuit_at p).address ≡ w.node.own → (server_end v p).running ≡ true → lives (node_end w (server_end v p).peer) ≡ true → Flow (server_end v p).half.link (node_end w (server_end v p).peer).half.link (flying v done true p)
  ups p a r n =
      let m : p ≡ x → ⊥ = runs_before p r in
      let z : v.server.circuit_at p ≡ w.server.circuit_at p = there p m in
      subst (λ (u : CircuitEntry). Flow u.end.half.link (node_end w u.end.peer).half.link (flying v done true p)) (sym z)
      (subst (λ u. Flow (server_end w p).half.link (node_end w (server_end w p).peer).half.link u) (sym (up p m)) (k.ups p (ap (λ (u : CircuitEntry). u.address) (sym z) ∙ a) (ap (λ (u : CircuitEntry). u.end.running) (sym z) ∙ r) (ap (λ (u : CircuitEntry). lives (node_end w u.end.peer)) (sym z) ∙ n)))

  downs : (p : ℕ) → (v.server.circuit_at p).address ≡ w.node.own → lives (server_end v p) ≡ true → (server_end v p).running ≡ true → Flow (node_end w (server_end v p).peer).half.link (server_end v p).half.link (flying v done false (server_end v p).peer)
  downs p a h r =
      let z : v.server.circuit_at p ≡ w.server.circuit_at p = there p (runs_before p r) in
      subst (λ (u : CircuitEntry). Flow (node_end w u.end.peer).half.link u.end.half.link (flying v done false u.end.peer)) (sym z)
      (subst (λ u. Flow (node_end w (server_end w p).peer).half.link (server_end w p).half.link u) (sym (down (server_end w p).peer)) (k.downs p (ap (λ (u : CircuitEntry). u.address) (sym z) ∙ a) (ap (λ (u : CircuitEntry). lives u.end) (sym z) ∙ h) (ap (λ (u : CircuitEntry). u.end.running) (sym z) ∙ r)))

  offered : (q : ℕ) → is_drawn w.node q ≡ true → (w.node.circuit_at q).address ≡ w.server.own → (v.server.circuit_at (node_end w q).peer).address ≡ w.node.own → lives (server_end v (node_end w q).peer) ≡ true → (server_end v (node_end w q).peer).running ≡ false → Offered (node_end w q) (flying v done false q)
  offered q d a b h r =
      let z : v.server.circuit_at (node_end w q).peer ≡ w.server.circuit_at (node_end w q).peer = low_there (node_end w q).peer (k.peers q d a) in
      subst (λ u. Offered (node_end w q) u) (sym (down q)) (k.offered q d a (ap (λ (u : CircuitEntry). u.address) (sym z) ∙ b) (ap (λ (u : CircuitEntry). lives u.end) (sym z) ∙ h) (ap (λ (u : CircuitEntry). u.end.running) (sym z) ∙ r))

  tells : (b : Bool) (y to d o : ℕ) (m : Sent) → is_known (table w b) y ≡ true → NamesSender w b y to d o m → NamesSender v b y to d o m
  tells true y to d o (Run mark ask h) l z = λ a. (ap (λ (u : CircuitEntry). u.end.running) (low_there y l) ∙ (z a).0, (z a).1 ∙ sym (ap (λ (u : CircuitEntry). u.end.peer) (low_there y l)))
  tells true y to d o (Stopped r) l z = (ap (λ (u : CircuitEntry). lives u.end) (low_there y l) ∙ z.0, z.1, z.2)
  tells false y to d o (Stopped r) l z = z
  tells false y to d o (Run mark ask h) l z = tt
  tells true y to d o CallStart l z = z
  tells false y to d o CallStart l z = tt
  tells true y to d o ReplyStart l z = tt
  tells false y to d o ReplyStart l z = tt

  came : (b : Bool) (y to d : ℕ) (m : Sent) → is_known (table w b) y ≡ true → ((b ≡ false) → to ≡ w.server.own → (d ≡ x → ⊥) ⊎ ((m ≡ CallStart) ⊎ ((r : ℕ) × (m ≡ Stopped r)))) → Came w b y to d m → Came v b y to d m
  came true y to d (Run mark ask h) l f z = z
  came false y to d (Run mark ask h) l f z = λ a b r n p. ⊎_elim {C = Old (server_end v d) h}
      (λ e. let q : v.server.circuit_at d ≡ w.server.circuit_at d = there d e in
      subst (λ (u : CircuitEntry). Old u.end h) (sym q) (z a (ap (λ (u : CircuitEntry). u.address) (sym q) ∙ b) (ap (λ (u : CircuitEntry). lives u.end) (sym q) ∙ r) (ap (λ (u : CircuitEntry). u.end.running) (sym q) ∙ n) (ap (λ (u : CircuitEntry). u.end.peer) (sym q) ∙ p)))
      (λ e. ⊎_elim {C = Old (server_end v d) h} (λ i. cc) (λ i. no_stop i.0 i.1) e) (f refl a)
    where
      no_stop : (r : ℕ) → Run mark ask h ≡ Stopped r → Old (server_end v d) h
      no_stop r i = cc
  came false y to d ReplyStart l f z = λ a b r. ⊎_elim {C = (server_end v d).running ≡ true}
      (λ e. let q : v.server.circuit_at d ≡ w.server.circuit_at d = there d e in ap (λ (u : CircuitEntry). u.end.running) q ∙ z a (ap (λ (u : CircuitEntry). u.address) (sym q) ∙ b) (ap (λ (u : CircuitEntry). lives u.end) (sym q) ∙ r))
      (λ e. ⊎_elim {C = (server_end v d).running ≡ true} (λ i. cc) (λ i. no_stop i.0 i.1) e) (f refl a)
    where
      no_stop : (r : ℕ) → ReplyStart ≡ Stopped r → (server_end v d).running ≡ true
      no_stop r i = cc
  came true y to d CallStart l f z = tt
  came false y to d CallStart l f z = tt
  came true y to d ReplyStart l f z = tt
  came true y to d (Stopped r) l f z = tt
  came false y to d (Stopped r) l f z = tt

  -- a frame of the node names a circuit that was drawn
  aims : (y to d o : ℕ) (m : Sent) → FromSender w false y to d o m → to ≡ w.server.own → (d ≡ x → ⊥) ⊎ ((m ≡ CallStart) ⊎ ((r : ℕ) × (m ≡ Stopped r)))
  aims y to d o (Run mark ask h) s a = let b : ByNode w y d o = (s a).0 in inl (λ i. known_apart w.server (node_end w y).peer (k.peers y b.drawn b.address) (sym b.destination ∙ i))
  aims y to d o ReplyStart s a = let b : ByNode w y d o = s a in inl (λ i. known_apart w.server (node_end w y).peer (k.peers y b.drawn b.address) (sym b.destination ∙ i))
  aims y to d o CallStart s a = inr (inl refl)
  aims y to d o (Stopped r) s a = inr (inr (r, refl))

  pub calls_carried : Carried (occurs w (Calls address t)) done
  calls_carried = record {
    below = λ j h. k.below j (omega (arith, h, length-append w.frames news));
    low = each_append (λ (f : Wired). is_known (table v f.by_server) f.circuit ≡ true) w.frames news (each_imp (λ (f : Wired). is_known (table w f.by_server) f.circuit ≡ true) (λ (f : Wired). is_known (table v f.by_server) f.circuit ≡ true) (λ f. drawn f.circuit f.by_server) w.frames k.low) (drawn_known v.server x (next_drawn w.server.first w.server.drawn), tt);
    calling = calling;
    runs = runs;
    ups = ups;
    downs = downs;
    offered = offered;
    peers = λ q d a. drawn (node_end w q).peer true (k.peers q d a);
    tells = each_append (λ (f : Wired). NamesSender v f.by_server f.circuit f.to f.destination f.source f.sent) w.frames news (each_imp (λ (f : Wired). (is_known (table w f.by_server) f.circuit ≡ true) × NamesSender w f.by_server f.circuit f.to f.destination f.source f.sent) (λ (f : Wired). NamesSender v f.by_server f.circuit f.to f.destination f.source f.sent) (λ f z. tells f.by_server f.circuit f.to f.destination f.source f.sent z.0 z.1) w.frames (both_each (λ (f : Wired). is_known (table w f.by_server) f.circuit ≡ true) (λ (f : Wired). NamesSender w f.by_server f.circuit f.to f.destination f.source f.sent) w.frames k.low k.tells)) (refl, tt);
    came = λ j f h i. let q : slice_get w.frames j ≡ Some f = front_place w.frames news j f (short j i) h in
        came f.by_server f.circuit f.to f.destination f.sent (each_at (λ (y : Wired). is_known (table w y.by_server) y.circuit ≡ true) w.frames j f k.low q)
        (λ b a. aims f.circuit f.to f.destination f.source f.sent (subst (λ z. FromSender w z f.circuit f.to f.destination f.source f.sent) b (each_at (λ (y : Wired). FromSender w y.by_server y.circuit y.to y.destination y.source y.sent) w.frames j f ok.says q)) a) (k.came j f q i);
  }
    where
      drawn : (y : ℕ) (b : Bool) → is_known (table w b) y ≡ true → is_known (table v b) y ≡ true
      drawn y true h = known_stays w.server v.server y (drawn_behind w.server.first w.server.drawn) h
      drawn y false h = h

      short : (j : ℕ) → is_in j done ≡ true → j < length w.frames
      short j i = ⊎_elim {C = j < length w.frames} (λ z. z) (λ z. absurd (true≢false (sym i ∙ k.below j z))) (cases_lt j (length w.frames))
