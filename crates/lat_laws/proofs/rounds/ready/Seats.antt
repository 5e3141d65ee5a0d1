-- Line sessions stay the last ones of their lines, and each session that is accepted gets one.
use Rattle.std.proofs.Common.{◌≡◌, ℕ, ◌<◌, ◌≤◌, ◌⊎◌, inl, inr, ⊎_elim, sym, ap, ap₂, ◌∙◌, refl, subst, arith, Bool, true, false, not, cond, ◌||◌, List, [], ◌∷◌, ◌++◌, nat_eq, eqb-true}
use Rattle.std.proofs.lemmas.Bool.{or_parts, true≢false, not-false, eqb-false}
use Rattle.lat_model.specs.sessions.Session.{Session, free}
use Rattle.lat_model.specs.sessions.Sessions.{Sessions}
use Rattle.lat_model.specs.ends.End.{lives}
use Rattle.lat_model.specs.circuits.World.{Table}
use Rattle.lat_model.specs.circuits.Ids.{is_drawn, IdsStay}
use Rattle.lat_machines.specs.cores.Cores.{Seat, no_seat, Core}
use Rattle.lat_machines.specs.cores.Lines.{end_of, session_of, over, last_on, seat_at, has_session}
use Rattle.lat_laws.specs.rounds.Seated.{SessionsLater, Drawn, LaterTable, IsSeat, HasSeat, Placed, Seated}

abbrev sess : Table → ℕ → Sessions
sess t x = (t.circuit_at x).end.half.sessions

pub over_parts : (c : Core) (s : Seat) → over c s ≡ false → (lives (end_of c s) ≡ true) × (free (session_of c s) ≡ false)
over_parts c s h =
    let o : (not (lives (end_of c s)) ≡ false) × (free (session_of c s) ≡ false) = or_parts (not (lives (end_of c s))) (free (session_of c s)) h in
    (not-false (lives (end_of c s)) o.0, o.1)

pub over_none : (c : Core) (s : Seat) → lives (end_of c s) ≡ true → free (session_of c s) ≡ false → over c s ≡ false
over_none c s l f = ap₂ (λ a b. not a || b) l f

pub holds_seat : (c : Core) (line : ℕ) → has_session c line ≡ false → over c (seat_at c line) ≡ true
holds_seat c line h = not-false (over c (seat_at c line)) h

-- what an event keeps that makes no line session
pub seated_later : (m : Bool) (lines : ℕ) (c d : Core) → d.seats ≡ c.seats → LaterTable m c.circuits d.circuits → Seated m lines c → Seated m lines d
seated_later m lines c d q l s = record {
  good = l.good s.good;
  seat = λ x k lv fr ac.
      let a : ((sess c.circuits x).session k).accepted ≡ true = l.accepts x k ac in
      let xd : is_drawn c.circuits x ≡ true = s.good.held x k a in
      let h : HasSeat c x k = s.seat x k (l.live x xd lv) ((l.sessions x xd).frees k ((s.good.found x).held k a) fr) a in
      record { seat = h.seat; is_seat = subst (IsSeat h.seat) (sym q) h.is_seat; circuit = h.circuit; serial = h.serial };
  placed = λ t i. placed t (s.placed t (subst (IsSeat t) q i));
  last = λ t i o. last t (subst (IsSeat t) q i) o;
  every = λ x k a. (let h : HasSeat c x k = s.every x k (l.accepts x k a) in record { seat = h.seat; is_seat = subst (IsSeat h.seat) (sym q) h.is_seat; circuit = h.circuit; serial = h.serial });
  all = λ e x k a b. (let h : HasSeat c x k = s.all e x k a (omega (arith, b, l.alone e s.good x)) in record { seat = h.seat; is_seat = subst (IsSeat h.seat) (sym q) h.is_seat; circuit = h.circuit; serial = h.serial });
}
  where
    placed : (t : Seat) → Placed lines c t → Placed lines d t
    placed t p =
        let k : SessionsLater (sess c.circuits t.circuit) (sess d.circuits t.circuit) = l.sessions t.circuit p.drawn in
        record {
          drawn = l.drawn t.circuit p.drawn;
          made = omega (arith, p.made, k.made);
          id = k.ids t.serial p.made ∙ p.id;
          accepted = k.keeps t.serial p.made p.accepted;
          line = p.line;
        }

    last : (t : Seat) → IsSeat t c.seats → over d t ≡ false → seat_at d t.line ≡ t
    last t i o =
        let p : Placed lines c t = s.placed t i in
        let r : (lives (end_of d t) ≡ true) × (free (session_of d t) ≡ false) = over_parts d t o in
        ap (last_on t.line no_seat) q ∙ s.last t i (over_none c t (l.live t.circuit p.drawn r.0) ((l.sessions t.circuit p.drawn).frees t.serial p.made r.1))

pub is_more : (s t : Seat) (xs : List Seat) → IsSeat s xs → IsSeat s (xs ++ t ∷ [])
is_more s t [] h = absurd h
is_more s t (x ∷ xs) h = ⊎_elim {C = IsSeat s (x ∷ xs ++ t ∷ [])} (λ q. inl q) (λ q. inr (is_more s t xs q)) h

pub is_last : (t : Seat) (xs : List Seat) → IsSeat t (xs ++ t ∷ [])
is_last t [] = inl refl
is_last t (x ∷ xs) = inr (is_last t xs)

pub is_either : (s t : Seat) (xs : List Seat) → IsSeat s (xs ++ t ∷ []) → IsSeat s xs ⊎ (s ≡ t)
is_either s t [] h = ⊎_elim {C = ⊥ ⊎ (s ≡ t)} (λ q. inr q) (λ q. absurd q) h
is_either s t (x ∷ xs) h = ⊎_elim {C = IsSeat s (x ∷ xs) ⊎ (s ≡ t)} (λ q. inl (inl q)) (λ q. ⊎_elim {C = IsSeat s (x ∷ xs) ⊎ (s ≡ t)} (λ r. inl (inr r)) (λ r. inr r) (is_either s t xs q)) h

pub last_more : (line : ℕ) (s : Seat) (xs : List Seat) (y : Seat) → last_on line s (xs ++ y ∷ []) ≡ cond (nat_eq y.line line) y (last_on line s xs)
last_more line s [] y = refl
last_more line s (x ∷ xs) y = last_more line (cond (nat_eq x.line line) x s) xs y

-- what a step is that accepts one session and seats it on a line without one
pub record Seats (m : Bool) (lines : ℕ) (c : Core) (d : Core) (s : Seat) : Type 0 where
  pub seats : d.seats ≡ c.seats ++ s ∷ []
  pub good : Drawn m d.circuits
  pub drawn : IdsStay c.circuits d.circuits
  pub alive : (y : ℕ) → lives (d.circuits.circuit_at y).end ≡ lives (c.circuits.circuit_at y).end
  pub made : (y : ℕ) → (sess c.circuits y).made ≤ (sess d.circuits y).made
  pub old : (y k : ℕ) → (y ≡ s.circuit → k ≡ s.serial → ⊥) → (sess d.circuits y).session k ≡ (sess c.circuits y).session k
  pub grows : (y k : ℕ) → (y ≡ s.circuit → k ≡ s.serial → ⊥) → k ≤ (sess d.circuits y).made → k ≤ (sess c.circuits y).made
  pub fresh : (t : Seat) → Placed lines c t → t.circuit ≡ s.circuit → t.serial ≡ s.serial → ⊥
  pub placed : Placed lines d s
  pub free_line : has_session c s.line ≡ false

pub seats_more : (m : Bool) (lines : ℕ) (c d : Core) (s : Seat) → Seats m lines c d s → Seated m lines c → Seated m lines d
seats_more m lines c d s r h = record {
  good = r.good;
  seat = λ x k lv fr ac. seat x k (nat_eq x s.circuit) (nat_eq k s.serial) refl refl lv fr ac;
  placed = λ t i. ⊎_elim {C = Placed lines d t} (λ q. placed t (h.placed t q)) (λ q. subst (Placed lines d) (sym q) r.placed) (is_either t s c.seats (subst (IsSeat t) r.seats i));
  last = λ t i o. ap (last_on t.line no_seat) r.seats ∙ (last_more t.line no_seat c.seats s ∙ ⊎_elim {C = cond (nat_eq s.line t.line) s (seat_at c t.line) ≡ t} (λ q. last t q o (nat_eq s.line t.line) refl) (λ q. new t q (nat_eq s.line t.line) refl) (is_either t s c.seats (subst (IsSeat t) r.seats i)));
  every = λ x k a. every x k (nat_eq x s.circuit) (nat_eq k s.serial) refl refl a;
  all = λ e x k a b. all e x k (nat_eq x s.circuit) (nat_eq k s.serial) refl refl a b;
}
  where
    held_seat : (x k : ℕ) → (x ≡ s.circuit → k ≡ s.serial → ⊥) → lives (d.circuits.circuit_at x).end ≡ true → free ((sess d.circuits x).session k) ≡ false → ((sess d.circuits x).session k).accepted ≡ true → HasSeat d x k
    held_seat x k n lv fr ac =
        let o : (sess d.circuits x).session k ≡ (sess c.circuits x).session k = r.old x k n in
        let g : HasSeat c x k = h.seat x k (sym (r.alive x) ∙ lv) (sym (ap free o) ∙ fr) (sym (ap (λ (z : Session). z.accepted) o) ∙ ac) in
        record { seat = g.seat; is_seat = subst (IsSeat g.seat) (sym r.seats) (is_more g.seat s c.seats g.is_seat); circuit = g.circuit; serial = g.serial }

    seat : (x k : ℕ) (a b : Bool) → nat_eq x s.circuit ≡ a → nat_eq k s.serial ≡ b → lives (d.circuits.circuit_at x).end ≡ true → free ((sess d.circuits x).session k) ≡ false → ((sess d.circuits x).session k).accepted ≡ true → HasSeat d x k
    seat x k true true p q lv fr ac = record { seat = s; is_seat = subst (IsSeat s) (sym r.seats) (is_last s c.seats); circuit = sym (eqb-true x s.circuit p); serial = sym (eqb-true k s.serial q) }
    seat x k true false p q lv fr ac = held_seat x k (λ i j. eqb-false k s.serial q j) lv fr ac
    seat x k false b p q lv fr ac = held_seat x k (λ i j. eqb-false x s.circuit p i) lv fr ac

    accepted_seat : (x k : ℕ) → (x ≡ s.circuit → k ≡ s.serial → ⊥) → ((sess d.circuits x).session k).accepted ≡ true → HasSeat d x k
    accepted_seat x k n a =
        let g : HasSeat c x k = h.every x k (sym (ap (λ (z : Session). z.accepted) (r.old x k n)) ∙ a) in
        record { seat = g.seat; is_seat = subst (IsSeat g.seat) (sym r.seats) (is_more g.seat s c.seats g.is_seat); circuit = g.circuit; serial = g.serial }

    every : (x k : ℕ) (a b : Bool) → nat_eq x s.circuit ≡ a → nat_eq k s.serial ≡ b → ((sess d.circuits x).session k).accepted ≡ true → HasSeat d x k
    every x k true true p q a = record { seat = s; is_seat = subst (IsSeat s) (sym r.seats) (is_last s c.seats); circuit = sym (eqb-true x s.circuit p); serial = sym (eqb-true k s.serial q) }
    every x k true false p q a = accepted_seat x k (λ i j. eqb-false k s.serial q j) a
    every x k false b p q a = accepted_seat x k (λ i j. eqb-false x s.circuit p i) a

    old_seat : m ≡ true → (x k : ℕ) → (x ≡ s.circuit → k ≡ s.serial → ⊥) → 0 < k → k ≤ (sess d.circuits x).made → HasSeat d x k
    old_seat e x k n a b =
        let g : HasSeat c x k = h.all e x k a (r.grows x k n b) in
        record { seat = g.seat; is_seat = subst (IsSeat g.seat) (sym r.seats) (is_more g.seat s c.seats g.is_seat); circuit = g.circuit; serial = g.serial }

    all : m ≡ true → (x k : ℕ) (a b : Bool) → nat_eq x s.circuit ≡ a → nat_eq k s.serial ≡ b → 0 < k → k ≤ (sess d.circuits x).made → HasSeat d x k
    all e x k true true p q a b = record { seat = s; is_seat = subst (IsSeat s) (sym r.seats) (is_last s c.seats); circuit = sym (eqb-true x s.circuit p); serial = sym (eqb-true k s.serial q) }
    all e x k true false p q a b = old_seat e x k (λ i j. eqb-false k s.serial q j) a b
    all e x k false c' p q a b = old_seat e x k (λ i j. eqb-false x s.circuit p i) a b

    same : (t : Seat) → Placed lines c t → session_of d t ≡ session_of c t
    same t p = r.old t.circuit t.serial (r.fresh t p)

    placed : (t : Seat) → Placed lines c t → Placed lines d t
    placed t p = record {
      drawn = r.drawn t.circuit p.drawn;
      made = omega (arith, p.made, r.made t.circuit);
      id = ap (λ (z : Session). z.id) (same t p) ∙ p.id;
      accepted = ap (λ (z : Session). z.accepted) (same t p) ∙ p.accepted;
      line = p.line;
    }

    last : (t : Seat) → IsSeat t c.seats → over d t ≡ false → (b : Bool) → nat_eq s.line t.line ≡ b → cond b s (seat_at c t.line) ≡ t
    last t i o b q =
        let p : (lives (end_of d t) ≡ true) × (free (session_of d t) ≡ false) = over_parts d t o in
        let w : over c t ≡ false = over_none c t (sym (r.alive t.circuit) ∙ p.0) (sym (ap free (same t (h.placed t i))) ∙ p.1) in
        go b q w (h.last t i w)
      where
        go : (b : Bool) → nat_eq s.line t.line ≡ b → over c t ≡ false → seat_at c t.line ≡ t → cond b s (seat_at c t.line) ≡ t
        go false q w l = l
        go true q w l = absurd (true≢false (sym (holds_seat c s.line r.free_line) ∙ (ap (λ z. over c (seat_at c z)) (eqb-true s.line t.line q) ∙ (ap (over c) l ∙ w))))

    new : (t : Seat) → t ≡ s → (b : Bool) → nat_eq s.line t.line ≡ b → cond b s (seat_at c t.line) ≡ t
    new t e true q = sym e
    new t e false q = absurd (eqb-false s.line t.line q (ap (λ (z : Seat). z.line) (sym e)))
