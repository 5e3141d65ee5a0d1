-- A frame that is delivered and changes no circuit keeps what is in flight.
use Rattle.std.proofs.Common.{◌≡◌, ℕ, ◌⊎◌, inl, inr, ⊎_elim, sym, ap, ◌∙◌, refl, subst, Bool, true, false, ◌&&◌, List, ◌∷◌, Some, nat_eq, slice_get, eqb-true}
use Rattle.std.proofs.lemmas.Bool.{true≢false, false≢true, and_parts}
use Rattle.lat_model.specs.sessions.Slots.{Slot}
use Rattle.lat_model.specs.numbers.Link.{Link, fresh}
use Rattle.lat_model.specs.ends.End.{Sent, Run, CallStart, ReplyStart, Stopped, End, lives}
use Rattle.lat_model.specs.circuits.World.{Wired, World}
use Rattle.lat_model.specs.circuits.Ids.{is_drawn}
use Rattle.lat_laws.specs.rounds.Lossless.{is_side, is_in}
use Rattle.lat_laws.specs.rounds.Flight.{Flow}
use Rattle.lat_laws.specs.rounds.Carried.{is_of_line, flying, flying_from, has_stop_sent, IsNext, server_end, node_end, Both, Offered, Came, Carried}
use Rattle.lat_laws.proofs.rounds.carried.Runs.{fly_same, fly_first, place_low, below_more, in_cases}

abbrev pub Turn : World → List ℕ → Wired → ℕ → Type 0
Turn w done v i = (is_in i done ≡ true) ⊎ ((is_in i done ≡ false) × IsNext w done v i)

side_is : (b c d : Bool) → is_side b c ≡ true → is_side b d ≡ true → c ≡ d
side_is true c d p q = p ∙ sym q
side_is false true d p q = absurd (false≢true p)
side_is false false true p q = absurd (false≢true q)
side_is false false false p q = refl

record Line (other : ℕ) (b : Bool) (x : ℕ) (v : Wired) : Type 0 where
  side : is_side b v.by_server ≡ true
  circuit : v.circuit ≡ x
  to : v.to ≡ other

line_parts : (other : ℕ) (b : Bool) (x : ℕ) (v : Wired) → is_of_line other b x v ≡ true → Line other b x v
line_parts other b x v h =
    let p : (is_side b v.by_server ≡ true) × ((nat_eq v.circuit x && nat_eq v.to other) ≡ true) = and_parts (is_side b v.by_server) (nat_eq v.circuit x && nat_eq v.to other) h in
    let q : (nat_eq v.circuit x ≡ true) × (nat_eq v.to other ≡ true) = and_parts (nat_eq v.circuit x) (nat_eq v.to other) p.1 in
    record { side = p.0; circuit = eqb-true v.circuit x q.0; to = eqb-true v.to other q.1 }

-- a line is as it was, or it has lost this frame, its first
pub data Flies (other : ℕ) (b : Bool) (x : ℕ) (v : Wired) (before : List Sent) (after : List Sent) : Type 0 where
  Same : after ≡ before → Flies other b x v before after
  Lost : is_side b v.by_server ≡ true → v.circuit ≡ x → v.to ≡ other → before ≡ v.sent ∷ after → Flies other b x v before after

pub flies : (w : World) (done : List ℕ) (i : ℕ) (v : Wired) (other : ℕ) (b : Bool) (x : ℕ) → slice_get w.frames i ≡ Some v → Turn w done v i → Flies other b x v (flying_from other b x done 0 w.frames) (flying_from other b x (i ∷ done) 0 w.frames)
flies w done i v other b x e t = go (is_of_line other b x v) refl
  where
    go : (m : Bool) → is_of_line other b x v ≡ m → Flies other b x v (flying_from other b x done 0 w.frames) (flying_from other b x (i ∷ done) 0 w.frames)
    go false q = Same (fly_same other b x done i w.frames v e (inl q))
    go true q = ⊎_elim {C = Flies other b x v (flying_from other b x done 0 w.frames) (flying_from other b x (i ∷ done) 0 w.frames)}
        (λ o. Same (fly_same other b x done i w.frames v e (inr o)))
        (λ n. let p : Line other b x v = line_parts other b x v q in
        Lost p.side p.circuit p.to (fly_first other b x done i w.frames v e q n.0 (λ j u l g h. let r : Line other b x u = line_parts other b x u h in n.1 j u l g (side_is b u.by_server v.by_server r.side p.side) (r.to ∙ sym p.to))))
        t

abbrev pub is_run : Sent → Bool
is_run (Run mark ask f) = true
is_run _ = false

-- a flow without its first frame, where that is no RUN
pub drop_flow : (a b : Link (List Slot)) (s : Sent) (fs : List Sent) → is_run s ≡ false → Flow a b (s ∷ fs) → Flow a b fs
drop_flow a b (Run mark ask f) fs h g = absurd (true≢false h)
drop_flow a b CallStart fs h g = record { brings = g.brings; rises = g.rises }
drop_flow a b ReplyStart fs h g = record { brings = g.brings; rises = g.rises }
drop_flow a b (Stopped r) fs h g = record { brings = g.brings; rises = g.rises }

pub flow_after : (other : ℕ) (b : Bool) (x : ℕ) (v : Wired) (before after : List Sent) (a c : Link (List Slot)) → Flies other b x v before after → (is_side b v.by_server ≡ true → v.circuit ≡ x → v.to ≡ other → is_run v.sent ≡ false) → Flow a c before → Flow a c after
flow_after other b x v before after a c (Same e) h g = subst (λ z. Flow a c z) (sym e) g
flow_after other b x v before after a c (Lost s i t e) h g = drop_flow a c v.sent after (h s i t) (subst (λ z. Flow a c z) e g)

-- a STOP in flight stays, where this frame is none
pub stop_after : (other : ℕ) (b : Bool) (x : ℕ) (v : Wired) (before after : List Sent) → Flies other b x v before after → (is_side b v.by_server ≡ true → v.circuit ≡ x → v.to ≡ other → (r : ℕ) → v.sent ≡ Stopped r → ⊥) → has_stop_sent before ≡ true → has_stop_sent after ≡ true
stop_after other b x v before after (Same e) h g = ap has_stop_sent e ∙ g
stop_after other b x v before after (Lost s i t e) h g = go v.sent refl (sym (ap has_stop_sent e) ∙ g)
  where
    go : (m : Sent) → v.sent ≡ m → has_stop_sent (v.sent ∷ after) ≡ true → has_stop_sent after ≡ true
    go (Run mark ask f) q g = sym (ap (λ z. has_stop_sent (z ∷ after)) q) ∙ g
    go CallStart q g = sym (ap (λ z. has_stop_sent (z ∷ after)) q) ∙ g
    go ReplyStart q g = sym (ap (λ z. has_stop_sent (z ∷ after)) q) ∙ g
    go (Stopped r) q g = absurd (h s i t r q)

-- The world stays, and a frame was delivered
pub relabel : (w : World) (done : List ℕ) (i : ℕ) (v : Wired) → Carried w done → slice_get w.frames i ≡ Some v → Turn w done v i →
    -- of a living circuit of the server: this frame is no RUN of it, or comes to a slave that has ended
    ((p : ℕ) → (w.server.circuit_at p).address ≡ w.node.own → lives (server_end w p) ≡ true → (server_end w p).running ≡ false → is_side true v.by_server ≡ true → v.circuit ≡ p → v.to ≡ w.node.own → is_run v.sent ≡ false) →
    ((p : ℕ) → (w.server.circuit_at p).address ≡ w.node.own → (server_end w p).running ≡ true → lives (node_end w (server_end w p).peer) ≡ true → is_side true v.by_server ≡ true → v.circuit ≡ p → v.to ≡ w.node.own → is_run v.sent ≡ false) →
    -- of its slave: it is no frame of it
    ((p : ℕ) → (w.server.circuit_at p).address ≡ w.node.own → lives (server_end w p) ≡ true → (server_end w p).running ≡ true → is_side false v.by_server ≡ true → v.circuit ≡ (server_end w p).peer → v.to ≡ w.server.own → (is_run v.sent ≡ false) × ((r : ℕ) → v.sent ≡ Stopped r → ⊥)) →
    -- of a slave whose master waits
    ((q : ℕ) → is_drawn w.node q ≡ true → (w.node.circuit_at q).address ≡ w.server.own → (w.server.circuit_at (node_end w q).peer).address ≡ w.node.own → lives (server_end w (node_end w q).peer) ≡ true → (server_end w (node_end w q).peer).running ≡ false → is_side false v.by_server ≡ true → v.circuit ≡ q → v.to ≡ w.server.own → v.sent ≡ ReplyStart → ⊥) →
    Came w v.by_server v.circuit v.to v.destination v.sent →
    Carried w (i ∷ done)
relabel w done i v k e t hc hu hd ho hm = record {
  below = below_more w done i (place_low w.frames i v e) k.below;
  low = k.low;
  calling = λ p a l r. flow_after w.node.own true p v (flying w done true p) (flying w (i ∷ done) true p) (server_end w p).half.link fresh (flies w done i v w.node.own true p e t) (hc p a l r) (k.calling p a l r);
  runs = λ p a l r. record {
    alive = λ s. (let b : Both (server_end w p) (node_end w (server_end w p).peer) (flying w done true p) (flying w done false (server_end w p).peer) = (k.runs p a l r).alive s in record {
      up = flow_after w.node.own true p v (flying w done true p) (flying w (i ∷ done) true p) (server_end w p).half.link (node_end w (server_end w p).peer).half.link (flies w done i v w.node.own true p e t) (hu p a r s) b.up;
      down = flow_after w.server.own false (server_end w p).peer v (flying w done false (server_end w p).peer) (flying w (i ∷ done) false (server_end w p).peer) (node_end w (server_end w p).peer).half.link (server_end w p).half.link (flies w done i v w.server.own false (server_end w p).peer e t) (λ x y z. (hd p a l r x y z).0) b.down;
      shows = b.shows;
      clear = b.clear;
    });
    dead = λ s. stop_after w.server.own false (server_end w p).peer v (flying w done false (server_end w p).peer) (flying w (i ∷ done) false (server_end w p).peer) (flies w done i v w.server.own false (server_end w p).peer e t) (λ x y z. (hd p a l r x y z).1) ((k.runs p a l r).dead s);
  };
  ups = λ p a r s. flow_after w.node.own true p v (flying w done true p) (flying w (i ∷ done) true p) (server_end w p).half.link (node_end w (server_end w p).peer).half.link (flies w done i v w.node.own true p e t) (hu p a r s) (k.ups p a r s);
  downs = λ p a l r. flow_after w.server.own false (server_end w p).peer v (flying w done false (server_end w p).peer) (flying w (i ∷ done) false (server_end w p).peer) (node_end w (server_end w p).peer).half.link (server_end w p).half.link (flies w done i v w.server.own false (server_end w p).peer e t) (λ x y z. (hd p a l r x y z).0) (k.downs p a l r);
  offered = λ q d a b l r. offers (flying w done false q) (flying w (i ∷ done) false q) (node_end w q) (flies w done i v w.server.own false q e t) (ho q d a b l r) (k.offered q d a b l r);
  peers = k.peers;
  tells = k.tells;
  came = λ j u g h. ⊎_elim {C = Came w u.by_server u.circuit u.to u.destination u.sent} (λ z. subst (λ (x : Wired). Came w x.by_server x.circuit x.to x.destination x.sent) (same j u z g) hm) (λ z. k.came j u g z) (in_cases i j done h);
}
  where
    same : (j : ℕ) (u : Wired) → j ≡ i → slice_get w.frames j ≡ Some u → v ≡ u
    same j u z g = let r : Some v ≡ Some u = sym e ∙ ap (slice_get w.frames) (sym z) ∙ g in cc

    -- the first frame in flight of such a slave is its reply
    offers : {q : ℕ} (before after : List Sent) (s : End) → Flies w.server.own false q v before after → (is_side false v.by_server ≡ true → v.circuit ≡ q → v.to ≡ w.server.own → v.sent ≡ ReplyStart → ⊥) → Offered s before → Offered s after
    offers before after s (Same e) n o = subst (λ z. Offered s z) (sym e) o
    offers before after s (Lost x y z e) n o = absurd (n x y z (let c : v.sent ∷ after ≡ ReplyStart ∷ o.rest = sym e ∙ o.parts in cc))
