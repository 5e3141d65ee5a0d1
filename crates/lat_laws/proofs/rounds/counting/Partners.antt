-- The partner of a seat: the session of its generation at the slave, or none has a seat.
use Rattle.std.proofs.Common.{◌≡◌, ◌≢◌, ℕ, zero, suc, ◌⊎◌, inl, inr, ⊎_elim, refl, sym, ap, ap₂, ◌∙◌, arith, Bool, true, false, cond, ◌&&◌, ◌||◌, List, [], ◌∷◌, nat_eq, eqb-true, eq-eqb}
use Rattle.std.proofs.lemmas.Bool.{and_parts, true≢false, eqb-false, cases_lt}
use Rattle.lat_model.specs.sessions.Session.{Session, blank}
use Rattle.lat_model.specs.sessions.Sessions.{Sessions, of_generation}
use Rattle.lat_model.specs.sessions.EndOk.{EndOk}
use Rattle.lat_model.specs.ends.End.{End}
use Rattle.lat_machines.specs.cores.Cores.{Seat, no_seat}
use Rattle.lat_machines.specs.cores.Lines.{end_of, session_of}
use Rattle.lat_machines.specs.world.Machines.{Setups, Machines}
use Rattle.lat_machines.specs.world.Reports.{is_partner, partner_in, partner}
use Rattle.lat_laws.specs.rounds.Lossless.{is_in}
use Rattle.lat_laws.specs.rounds.Counting.{sessions_in, sessions_at, peer_at, serials_on, Unseen, NodeSeated, Paired}

-- some seat is the partner, or none of this circuit has this serial
found_or : (u : Setups) (w : Machines) (s : Seat) (q k : ℕ) → ((t : Seat) → t.circuit ≡ q → t.serial ≡ k → is_partner u w s t ≡ true) → (ts : List Seat) → (is_partner u w s (partner_in u w s ts) ≡ true) ⊎ ((partner_in u w s ts ≡ no_seat) × (is_in k (serials_on q ts) ≡ false))
found_or u w s q k h [] = inr (refl, refl)
found_or u w s q k h (t ∷ ts) = go (is_partner u w s t) refl (found_or u w s q k h ts)
  where
    rest : Seat
    rest = partner_in u w s ts

    picked : (b : Bool) → is_partner u w s t ≡ b → cond (is_partner u w s t) t rest ≡ cond b t rest
    picked b i = ap (λ c. cond c t rest) i

    other : is_partner u w s t ≡ false → is_in k (serials_on q ts) ≡ false → is_in k (serials_on q (t ∷ ts)) ≡ false
    other i n = by (nat_eq t.circuit q) refl
      where
        at : (b : Bool) → nat_eq k t.serial ≡ b → nat_eq t.circuit q ≡ true → (b || is_in k (serials_on q ts)) ≡ false
        at true e c = absurd (true≢false (sym (h t (eqb-true t.circuit q c) (sym (eqb-true k t.serial e))) ∙ i))
        at false e c = n

        by : (b : Bool) → nat_eq t.circuit q ≡ b → is_in k (cond b (t.serial ∷ serials_on q ts) (serials_on q ts)) ≡ false
        by true c = at (nat_eq k t.serial) refl c
        by false c = n

    go : (b : Bool) → is_partner u w s t ≡ b → (is_partner u w s rest ≡ true) ⊎ ((rest ≡ no_seat) × (is_in k (serials_on q ts) ≡ false)) → (is_partner u w s (partner_in u w s (t ∷ ts)) ≡ true) ⊎ ((partner_in u w s (t ∷ ts) ≡ no_seat) × (is_in k (serials_on q (t ∷ ts)) ≡ false))
    go true i f = inl (ap (is_partner u w s) (picked true i) ∙ i)
    go false i (inl f) = inl (ap (is_partner u w s) (picked false i) ∙ f)
    go false i (inr f) = inr (picked false i ∙ f.0, other i f.1)

-- what the test of a partner says
record Parts (u : Setups) (w : Machines) (s : Seat) (t : Seat) : Type 0 where
  circuit : t.circuit ≡ (end_of w.server.core s).peer
  generation : (session_of w.node.core t).generation ≡ (session_of w.server.core s).generation

parts : (u : Setups) (w : Machines) (s t : Seat) → is_partner u w s t ≡ true → Parts u w s t
parts u w s t h =
    let m : End = end_of w.server.core s in
    let a : Bool = nat_eq (w.server.core.circuits.circuit_at s.circuit).address u.node.own in
    let b : Bool = nat_eq (w.node.core.circuits.circuit_at t.circuit).address u.server.own in
    let c : Bool = nat_eq (end_of w.node.core t).peer s.circuit in
    let d : Bool = nat_eq (session_of w.node.core t).generation (session_of w.server.core s).generation in
    let x : (nat_eq t.circuit m.peer ≡ true) × ((m.running && (a && (b && (c && d)))) ≡ true) = and_parts (nat_eq t.circuit m.peer) (m.running && (a && (b && (c && d)))) h in
    let y : (c && d) ≡ true = (and_parts b (c && d) (and_parts a (b && (c && d)) (and_parts m.running (a && (b && (c && d))) x.1).1).1).1 in
    record {
      circuit = eqb-true t.circuit m.peer x.0;
      generation = eqb-true (session_of w.node.core t).generation (session_of w.server.core s).generation (and_parts c d y).1;
    }

and_true : (a b : Bool) → a ≡ true → b ≡ true → (a && b) ≡ true
and_true a b p q = ap₂ (λ x y. x && y) p q

blank_unseen : (s : Session) → s ≡ blank → Unseen s
blank_unseen s e = record { accepted = ap (λ (x : Session). x.accepted) e; put = ap (λ (x : Session). x.put) e; taken = ap (λ (x : Session). x.taken) e; closed = ap (λ (x : Session). x.closed) e }

-- a session at a slave is the one of its generation, or the blank one as it is
of_own : (e : Sessions) → EndOk e → e.master ≡ false → (k g : ℕ) → (e.session k).generation ≡ g → of_generation e g ≡ e.session k
of_own e ok m k g h = go (nat_eq g 0) refl
  where
    low : (k : ℕ) → e.session k ≡ blank → of_generation e 0 ≡ e.session k
    low k q = ap e.session ok.serial_zero ∙ (ok.none ∙ sym q)

    blank_at : (k : ℕ) → (e.session k).generation ≡ 0 → e.session k ≡ blank
    blank_at zero z = ok.none
    blank_at (suc k) z = ⊎_elim {C = e.session (suc k) ≡ blank} (λ l. ok.past (suc k) l) (λ l. absurd (ok.all_named m (suc k) (omega arith) (omega (arith, l)) z)) (cases_lt e.made (suc k))

    go : (b : Bool) → nat_eq g 0 ≡ b → of_generation e g ≡ e.session k
    go true q = let z : g ≡ 0 = eqb-true g 0 q in ap (of_generation e) z ∙ low k (blank_at k (h ∙ z))
    go false q = ap e.session (ap e.serial_of (sym h) ∙ ok.serial_found k (λ z. eqb-false g 0 q (sym h ∙ z)))

pub partner_or : (u : Setups) (w : Machines) (s : Seat) (ts : List Seat) → (is_partner u w s (partner_in u w s ts) ≡ true) ⊎ (partner_in u w s ts ≡ no_seat)
partner_or u w s [] = inr refl
partner_or u w s (t ∷ ts) = go (is_partner u w s t) refl (partner_or u w s ts)
  where
    rest : Seat
    rest = partner_in u w s ts

    picked : (b : Bool) → is_partner u w s t ≡ b → cond (is_partner u w s t) t rest ≡ cond b t rest
    picked b i = ap (λ c. cond c t rest) i

    go : (b : Bool) → is_partner u w s t ≡ b → (is_partner u w s rest ≡ true) ⊎ (rest ≡ no_seat) → (is_partner u w s (partner_in u w s (t ∷ ts)) ≡ true) ⊎ (partner_in u w s (t ∷ ts) ≡ no_seat)
    go true i f = inl (ap (is_partner u w s) (picked true i) ∙ i)
    go false i (inl f) = inl (ap (is_partner u w s) (picked false i) ∙ f)
    go false i (inr f) = inr (picked false i ∙ f)

abbrev pub mate_of : Machines → Seat → Session
mate_of w s = of_generation (sessions_at w false (peer_at w s.circuit)) (session_of w.server.core s).generation

pub partner_is : (u : Setups) (w : Machines) (s : Seat) → Paired u w s.circuit → NodeSeated w.node.core → (session_of w.node.core (partner u w s) ≡ mate_of w s) ⊎ ((partner u w s ≡ no_seat) × Unseen (mate_of w s))
partner_is u w s c n = go (nat_eq (e.serial_of g) 0) refl
  where
    q : ℕ
    q = peer_at w s.circuit

    e : Sessions
    e = sessions_at w false q

    g : ℕ
    g = (session_of w.server.core s).generation

    here : (t : Seat) → Parts u w s t → session_of w.node.core t ≡ of_generation e g
    here t p =
        let a : session_of w.node.core t ≡ e.session t.serial = ap (λ x. (sessions_in w.node.core x).session t.serial) p.circuit in
        a ∙ sym (of_own e c.good c.slave t.serial g (sym (ap (λ (x : Session). x.generation) a) ∙ p.generation))

    is : (t : Seat) → e.serial_of g ≢ 0 → t.circuit ≡ q → t.serial ≡ e.serial_of g → is_partner u w s t ≡ true
    is t z a b =
        let y : session_of w.node.core t ≡ e.session (e.serial_of g) = ap₂ (λ x k. (sessions_in w.node.core x).session k) a b in
        and_true _ _ (eq-eqb t.circuit q a) (and_true _ _ c.runs (and_true _ _ (eq-eqb _ _ c.home) (and_true _ _ (eq-eqb _ _ (ap (λ x. (w.node.core.circuits.circuit_at x).address) a ∙ c.address)) (and_true _ _ (eq-eqb _ _ (ap (λ x. (w.node.core.circuits.circuit_at x).end.peer) a ∙ c.peer)) (eq-eqb _ _ (ap (λ (x : Session). x.generation) y ∙ c.good.generation_found g z))))))

    go : (b : Bool) → nat_eq (e.serial_of g) 0 ≡ b → (session_of w.node.core (partner u w s) ≡ of_generation e g) ⊎ ((partner u w s ≡ no_seat) × Unseen (of_generation e g))
    go true z = ⊎_elim {C = (session_of w.node.core (partner u w s) ≡ of_generation e g) ⊎ ((partner u w s ≡ no_seat) × Unseen (of_generation e g))} (λ h. inl (here (partner u w s) (parts u w s (partner u w s) h))) (λ h. inr (h, blank_unseen (of_generation e g) (ap e.session (eqb-true (e.serial_of g) 0 z) ∙ c.good.none))) (partner_or u w s w.node.core.seats)
    go false z = ⊎_elim {C = (session_of w.node.core (partner u w s) ≡ of_generation e g) ⊎ ((partner u w s ≡ no_seat) × Unseen (of_generation e g))} (λ h. inl (here (partner u w s) (parts u w s (partner u w s) h))) (λ h. inr (h.0, n q (e.serial_of g) h.1)) (found_or u w s q (e.serial_of g) (λ t. is t (eqb-false (e.serial_of g) 0 z)) w.node.core.seats)
