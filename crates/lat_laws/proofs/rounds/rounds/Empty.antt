-- Where each frame was delivered, nothing is in flight.
use Rattle.std.proofs.Common.{◌≡◌, ℕ, zero, suc, ◌+◌, sym, ap, ap₂, ◌∙◌, refl, subst, arith, Bool, true, false, not, cond, ◌&&◌, List, [], ◌∷◌, Some, None, nat_eq, slice_get, eqb-true, eq-eqb}
use Rattle.std.proofs.lemmas.Bool.{and_parts, or_left}
use Rattle.lat_model.specs.ends.End.{Sent, Run, CallStart, ReplyStart, Stopped, End, lives}
use Rattle.lat_model.specs.circuits.World.{Table, Wired, World, table}
use Rattle.lat_model.specs.circuits.Together.{Together}
use Rattle.lat_model.specs.circuits.WorldOk.{void_half}
use Rattle.lat_machines.specs.world.Safe.{Fit}
use Rattle.lat_laws.specs.rounds.Plain.{BothPlain}
use Rattle.lat_laws.specs.rounds.Settles.{Usual}
use Rattle.lat_laws.proofs.rounds.rounds.Moves.{Reached}
use Rattle.lat_laws.proofs.rounds.rounds.Youngs.{reached_follows}
use Rattle.lat_machines.specs.world.Machines.{Setups, Posted, Machines, own_of, is_for_other}
use Rattle.lat_machines.specs.values.Frames.{OutFrame}
use Rattle.lat_machines.specs.cores.Cores.{Side, Core, sent_frame}
use Rattle.lat_machines.proofs.events.Tied.{own_tied}
use Rattle.lat_laws.specs.rounds.Lossless.{is_side, is_in}
use Rattle.lat_laws.specs.rounds.Rounds.{undelivered, undelivered_from}
use Rattle.lat_laws.specs.rounds.Carried.{is_of_line, flying, flying_from, server_end, node_end}
use Rattle.lat_laws.specs.rounds.Progress.{Still}
use Rattle.lat_laws.proofs.rounds.carried.Runnings.{still_ends}
use Rattle.lat_laws.proofs.rounds.rounds.Places.{Placed, placed, shown_to, shown_circuit}
use Rattle.lat_laws.proofs.rounds.rounds.Done.{done_of, done_has}
use Rattle.lat_laws.proofs.rounds.rounds.Beside.{Beside, Follows}

-- each frame to the other end was delivered
none_left : (u : Setups) (done : List ℕ) (n : ℕ) (ps : List Posted) → undelivered_from u done n ps ≡ None → (k : ℕ) (q : Posted) → slice_get ps k ≡ Some q → is_for_other u q ≡ true → is_in (k + n) done ≡ true
none_left u done n [] e k q there other = let z : ⊥ = cc in absurd z
none_left u done n (p ∷ ps) e k q there other = go (is_for_other u p) (is_in n done) refl refl e k there (λ r j t. none_left u done (suc n) ps r j q t other)
  where
    go : (c d : Bool) → is_for_other u p ≡ c → is_in n done ≡ d → cond (c && not d) (Some n) (undelivered_from u done (suc n) ps) ≡ None → (k : ℕ) → slice_get (p ∷ ps) k ≡ Some q → (undelivered_from u done (suc n) ps ≡ None → (j : ℕ) → slice_get ps j ≡ Some q → is_in (j + suc n) done ≡ true) → is_in (k + n) done ≡ true
    go true false x y r k t f = let z : ⊥ = cc in absurd z
    go true true x y r zero t f = subst (λ z. is_in z done ≡ true) (omega arith) y
    go true true x y r (suc k) t f = subst (λ z. is_in z done ≡ true) (omega arith) (f r k t)
    go false d x y r zero t f = let z : ⊥ = (let same : p ≡ q = cc in let w : false ≡ true = sym x ∙ (ap (is_for_other u) same ∙ other) in cc) in absurd z
    go false d x y r (suc k) t f = subst (λ z. is_in z done ≡ true) (omega arith) (f r k t)

-- and so no line has any in flight
none_flies : (other : ℕ) (b : Bool) (x : ℕ) (done : List ℕ) (n : ℕ) (vs : List Wired) → ((j : ℕ) (v : Wired) → slice_get vs j ≡ Some v → is_of_line other b x v ≡ true → is_in (j + n) done ≡ true) → flying_from other b x done n vs ≡ []
none_flies other b x done n [] h = refl
none_flies other b x done n (v ∷ vs) h = go (is_of_line other b x v) refl (none_flies other b x done (suc n) vs (λ j y e l. subst (λ z. is_in z done ≡ true) (omega arith) (h (suc j) y e l)))
  where
    go : (c : Bool) → is_of_line other b x v ≡ c → flying_from other b x done (suc n) vs ≡ [] → flying_from other b x done n (v ∷ vs) ≡ []
    go false q r = ap (λ c. cond (c && not (is_in n done)) (v.sent ∷ flying_from other b x done (suc n) vs) (flying_from other b x done (suc n) vs)) q ∙ r
    go true q r = ap₂ (λ c d. cond (c && not d) (v.sent ∷ flying_from other b x done (suc n) vs) (flying_from other b x done (suc n) vs)) q (subst (λ z. is_in z done ≡ true) (omega arith) (h 0 v refl q)) ∙ r

side_same : (b c : Bool) → is_side b c ≡ true → c ≡ b
side_same true c h = h
side_same false true h = sym h
side_same false false h = refl

-- each frame of this circuit of this side to the other end was delivered
abbrev pub Emptied : Setups → Machines → Bool → ℕ → Type 0
Emptied u m b x =
    (k : ℕ) (f : Posted) →
    slice_get m.posts k ≡ Some f →
    is_for_other u f ≡ true →
    f.by_server ≡ b →
    f.frame.circuit ≡ x →
    is_in k m.delivered ≡ true

pub sent_circuit : (k : Side) (c : Core) (v : Wired) → (sent_frame k c v).circuit ≡ v.circuit
sent_circuit k c v = go v.by_server v.circuit v.to v.destination v.source v.sent
  where
    go : (b : Bool) (x to d s : ℕ) (t : Sent) → (sent_frame k c (record { by_server = b; circuit = x; to = to; destination = d; source = s; sent = t })).circuit ≡ x
    go b x to d s (Run m ask f) = refl
    go b x to d s CallStart = refl
    go b x to d s ReplyStart = refl
    go b x to d s (Stopped r) = refl

pub none_undelivered : (u : Setups) (m : Machines) (b : Bool) (x : ℕ) → undelivered u m ≡ None → Emptied u m b x
none_undelivered u m b x e k f there other by circuit = subst (λ z. is_in z m.delivered ≡ true) (omega arith) (none_left u m.delivered 0 m.posts e k f there other)

pub emptied_flies : (u : Setups) (m : Machines) (w : World) → Beside u m w → (b : Bool) (x : ℕ) → Emptied u m b x → flying w (done_of u m) b x ≡ []
emptied_flies u m w h b x e = none_flies (table w (not b)).own b x (done_of u m) 0 w.frames came
  where
    came : (j : ℕ) (v : Wired) → slice_get w.frames j ≡ Some v → is_of_line (table w (not b)).own b x v ≡ true → is_in (j + 0) (done_of u m) ≡ true
    came j v q l = subst (λ z. is_in z (done_of u m) ≡ true) (omega (arith, r.at)) (done_has u m r.index r.post r.there other (shown_circuit r.post v r.shown) (e r.index r.post r.there other by circuit))
      where
        r : Placed m.posts j v
        r = placed m.posts w.frames j v h.ties.shows q

        parts : (is_side b v.by_server ≡ true) × ((nat_eq v.circuit x && nat_eq v.to (table w (not b)).own) ≡ true)
        parts = and_parts (is_side b v.by_server) (nat_eq v.circuit x && nat_eq v.to (table w (not b)).own) l

        to : v.to ≡ (table w (not b)).own
        to = eqb-true v.to (table w (not b)).own (and_parts (nat_eq v.circuit x) (nat_eq v.to (table w (not b)).own) parts.1).1

        by : r.post.by_server ≡ b
        by = r.shown.by_server ∙ side_same b v.by_server parts.0

        circuit : r.post.frame.circuit ≡ x
        circuit = ap (λ (f : OutFrame). f.circuit) r.shown.frame ∙ (sent_circuit r.shown.side r.shown.core v ∙ eqb-true v.circuit x (and_parts (nat_eq v.circuit x) (nat_eq v.to (table w (not b)).own) parts.1).0)

        other : is_for_other u r.post ≡ true
        other = or_left _ _ (eq-eqb r.post.frame.to (own_of u (not r.post.by_server)) (shown_to r.post v r.shown ∙ (to ∙ (own_tied u m w (not b) h.ties ∙ ap (λ c. own_of u (not c)) (sym by)))))

pub nothing_flies : (u : Setups) (m : Machines) (w : World) → Beside u m w → undelivered u m ≡ None → (b : Bool) (x : ℕ) → flying w (done_of u m) b x ≡ []
nothing_flies u m w h e b x = emptied_flies u m w h b x (none_undelivered u m b x e)

-- so the ends of each circuit that runs are still
pub still_at : (u : Setups) (m : Machines) (w : World) (p : ℕ) → Beside u m w → undelivered u m ≡ None → (w.server.circuit_at p).address ≡ w.node.own → lives (server_end w p) ≡ true → (server_end w p).running ≡ true → (lives (node_end w (server_end w p).peer) ≡ true) × Still (server_end w p) (node_end w (server_end w p).peer)
still_at u m w p h e a l r = still_ends w (done_of u m) p h.good h.kinds h.carried a l r (nothing_flies u m w h e true p) (nothing_flies u m w h e false (server_end w p).peer)

-- The same of the two cores: what `Ready` asks of the ends of a circuit that runs, as far as it doesn't speak of time and takes
pub record Joins (m : End) (s : End) : Type 0 where
  pub alive : lives s ≡ true
  pub still : Still m s
  pub together : Together m.half s.half []
  pub plain : BothPlain m.half.sessions s.half.sessions
  pub slave_runs : s.running ≡ true

pub joins_at : (u : Setups) (m : Machines) (p : ℕ) → Fit u → Usual u → Reached u m → undelivered u m ≡ None → (m.server.core.circuits.circuit_at p).address ≡ u.node.own → lives (m.server.core.circuits.circuit_at p).end ≡ true → (m.server.core.circuits.circuit_at p).end.running ≡ true → Joins (m.server.core.circuits.circuit_at p).end (m.node.core.circuits.circuit_at (m.server.core.circuits.circuit_at p).end.peer).end
joins_at u m p f s r e a l n = subst (λ (t : Table). Asks t m.node.core.circuits) k.beside.ties.server (subst (λ (t : Table). Asks k.world.server t) k.beside.ties.node here) a l n
  where
    k : Follows u m
    k = reached_follows u m f s r

    Asks : Table → Table → Type 0
    Asks x y = (x.circuit_at p).address ≡ u.node.own → lives (x.circuit_at p).end ≡ true → (x.circuit_at p).end.running ≡ true → Joins (x.circuit_at p).end (y.circuit_at (x.circuit_at p).end.peer).end

    here : (k.world.server.circuit_at p).address ≡ u.node.own → lives (server_end k.world p) ≡ true → (server_end k.world p).running ≡ true → Joins (server_end k.world p) (node_end k.world (server_end k.world p).peer)
    here b i j =
        let home : (k.world.server.circuit_at p).address ≡ k.world.node.own = b ∙ sym k.beside.ties.node_own in
        let z : (lives (node_end k.world (server_end k.world p).peer) ≡ true) × Still (server_end k.world p) (node_end k.world (server_end k.world p).peer) = still_at u m k.world p k.beside e home i j in
        record {
          alive = z.0;
          still = z.1;
          together = subst (λ c. Together (server_end k.world p).half (cond c (node_end k.world (server_end k.world p).peer).half (void_half false)) []) j (k.beside.good.matched p home);
          plain = subst (λ c. BothPlain (server_end k.world p).half.sessions (cond c (node_end k.world (server_end k.world p).peer).half (void_half false)).sessions) j (k.beside.plain p home);
          slave_runs = k.beside.kinds.runs (server_end k.world p).peer z.0;
        }
