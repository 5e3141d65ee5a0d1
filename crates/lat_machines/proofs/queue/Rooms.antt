-- What the opening of a session leaves of the circuits: what is held stays held, and no room comes.
use Rattle.std.proofs.Common.{zero, ◌≡◌, ◌≢◌, ℕ, suc, ◌<◌, arith, refl, sym, ap, ap₂, ◌∙◌, subst, Bool, true, false, cond, ◌&&◌, [], ◌∷◌, length, min, Option, nat_eq, nat_lt, eqb-true, List, ◌++◌, ◌≤◌, ◌+◌}
use Rattle.std.proofs.lemmas.Bool.{true≢false, eqb-false, lt-ltb, and_parts}
use Rattle.lat_model.specs.sessions.Session.{Session, free}
use Rattle.lat_model.specs.sessions.Sessions.{Sessions, held}
use Rattle.lat_model.specs.Lists.{keep, least, Each, upwards}
use Rattle.lat_model.specs.sessions.Calls.{Connect, connect, new_call, call}
use Rattle.lat_model.specs.ends.End.{End, Step, lives}
use Rattle.lat_model.specs.ends.Timers.{note_empty}
use Rattle.lat_model.specs.ends.Starting.{Setup}
use Rattle.lat_model.specs.circuits.World.{CircuitEntry, Table}
use Rattle.lat_model.proofs.sessions.Words.{upd_same, upd_other}
use Rattle.lat_model.specs.circuits.Ids.{ids, is_drawn, next_id}
use Rattle.lat_model.proofs.circuits.Ids.{drawn_apart, drawn_some, next_new, undrawn_before, undrawn_other}
use Rattle.lat_model.proofs.circuits.IdLists.{Draw, each_id, draw}
use Rattle.lat_machines.specs.values.Names.{Name}
use Rattle.lat_machines.specs.cores.Acts.{idle, steps_at, call_at, called, local_at}
use Rattle.lat_machines.specs.cores.Cores.{Core, with_circuits, circuit_to}
use Rattle.lat_machines.specs.server.Server.{has_room, may_call, can_open}

-- lists of numbers

least_same : (p q : ℕ → Bool) (xs : List ℕ) → Each (λ i. p i ≡ q i) xs → least p xs ≡ least q xs
least_same p q [] h = refl
least_same p q (x ∷ xs) h = ap₂ (λ b r. cond b x r) h.0 (least_same p q xs h.1)

keep_same : (p q : ℕ → Bool) (xs : List ℕ) → ((i : ℕ) → p i ≡ q i) → keep p xs ≡ keep q xs
keep_same p q [] h = refl
keep_same p q (x ∷ xs) h = ap₂ (λ b r. cond b (x ∷ r) r) (h x) (keep_same p q xs h)

-- one number more, which passes where no other does
least_new : (p : ℕ → Bool) (x : ℕ) (front back : List ℕ) → p x ≡ true → least p (front ++ back) ≡ 0 → Each (λ i. i ≢ 0) (front ++ back) → least p (front ++ x ∷ back) ≡ x
least_new p x [] back h z n = ap (λ b. cond b x (least p back)) h
least_new p x (y ∷ front) back h z n = go (p y) z (λ q. least_new p x front back h q n.1)
  where
    go : (b : Bool) → cond b y (least p (front ++ back)) ≡ 0 → (least p (front ++ back) ≡ 0 → least p (front ++ x ∷ back) ≡ x) → cond b y (least p (front ++ x ∷ back)) ≡ x
    go true q r = absurd (n.0 q)
    go false q r = r q

-- and one that doesn't pass
least_old : (p : ℕ → Bool) (x : ℕ) (front back : List ℕ) → p x ≡ false → least p (front ++ x ∷ back) ≡ least p (front ++ back)
least_old p x [] back h = ap (λ b. cond b x (least p back)) h
least_old p x (y ∷ front) back h = ap (λ r. cond (p y) y r) (least_old p x front back h)

pub least_each : (p : ℕ → Bool) (P : ℕ → Type 0) (xs : List ℕ) → Each P xs → least p xs ≢ 0 → P (least p xs)
least_each p P [] h n = absurd (n refl)
least_each p P (x ∷ xs) h n = go (p x) (least_each p P xs h.1) n
  where
    go : (b : Bool) → (least p xs ≢ 0 → P (least p xs)) → cond b x (least p xs) ≢ 0 → P (cond b x (least p xs))
    go true r n = h.0
    go false r n = r n

pub least_drawn : (p : ℕ → Bool) (t : Table) → least p (ids t) ≢ 0 → is_drawn t (least p (ids t)) ≡ true
least_drawn p t n = least_each p (λ i. is_drawn t i ≡ true) (ids t) (each_id (λ i. is_drawn t i ≡ true) t.first t.drawn (λ x h. h)) n

pub least_in : (p : ℕ → Bool) (n k : ℕ) → least p (upwards n k) ≤ n + k
least_in p n zero = omega arith
least_in p n (suc k) = go (p (suc n)) (least_in p (suc n) k)
  where
    go : (b : Bool) → least p (upwards (suc n) k) ≤ suc n + k → cond b (suc n) (least p (upwards (suc n) k)) ≤ n + suc k
    go true l = omega arith
    go false l = omega (arith, l)

pub least_true : (p : ℕ → Bool) (xs : List ℕ) → least p xs ≢ 0 → p (least p xs) ≡ true
least_true p [] h = absurd (h refl)
least_true p (x ∷ xs) h = go (p x) refl (least_true p xs) h
  where
    go : (b : Bool) → p x ≡ b → (least p xs ≢ 0 → p (least p xs) ≡ true) → cond b x (least p xs) ≢ 0 → p (cond b x (least p xs)) ≡ true
    go true e r h = e
    go false e r h = r h

-- what the pass asks of the circuits of a server

pub record Ready (c : Core) : Type 0 where
  pub masters : (x : ℕ) → (c.circuits.circuit_at x).end.half.sessions.master ≡ true
  pub new : (k : ℕ) → is_drawn c.circuits k ≡ false → lives (c.circuits.circuit_at k).end ≡ false

pub record Grown (c : Core) (d : Core) : Type 0 where
  pub kept : (x k : ℕ) → lives (c.circuits.circuit_at x).end ≡ true → free ((c.circuits.circuit_at x).end.half.sessions.session k) ≡ false → (lives (d.circuits.circuit_at x).end ≡ true) × (free ((d.circuits.circuit_at x).end.half.sessions.session k) ≡ false)
  pub room : (a : ℕ) → can_open c a ≡ false → can_open d a ≡ false
  pub ready : Ready d

-- a new circuit

pub record Called (c : Core) (address : ℕ) (d : Core) : Type 0 where
  pub grown : Grown c d
  pub at : circuit_to d address ≡ next_id c.circuits
  pub some : has_room d (next_id c.circuits) ≡ true
  pub alive : lives (d.circuits.circuit_at (next_id c.circuits)).end ≡ true

abbrev pub test_of : Table → ℕ → ℕ → Bool
test_of t a i = nat_eq (t.circuit_at i).address a && lives (t.circuit_at i).end

eqb_refl : (n : ℕ) → nat_eq n n ≡ true
eqb_refl n = go (nat_eq n n) refl
  where
    go : (b : Bool) → nat_eq n n ≡ b → b ≡ true
    go true q = refl
    go false q = absurd (eqb-false n n q refl)

pub call_opens : (u : Setup) (c : Core) (address now : ℕ) → 0 < u.sessions → Ready c → circuit_to c address ≡ 0 → may_call c ≡ true → Called c address (with_circuits c (call_at u c.circuits address now).table)
call_opens u c address now pos r z may = record {
  grown = record {
    kept = λ x k l g. kept x k l g (nat_eq x n) refl;
    room = λ a h. room a h;
    ready = record { masters = λ x. masters (nat_eq x n) x; new = λ k l. ap (λ (z : CircuitEntry). lives z.end) (other k (undrawn_other f m k l)) ∙ r.new k (undrawn_before f m k l) };
  };
  at =
      ap (least (test_of d.circuits address)) p.behind
      ∙ least_new (test_of d.circuits address) n p.front p.back found (ap (least (test_of d.circuits address)) (sym p.before) ∙ (same address ∙ z))
      (subst (Each (λ i. i ≢ 0)) p.before (each_id (λ i. i ≢ 0) f m (drawn_some f m)));
  some = ap (λ (z : CircuitEntry). nat_lt (held z.end.half.sessions) z.end.half.sessions.agreed) (upd_same c.circuits.circuit_at n new) ∙ pos_room;
  alive = ap (λ (z : CircuitEntry). lives z.end) (upd_same c.circuits.circuit_at n new);
}
  where
    f : ℕ
    f = c.circuits.first

    m : ℕ
    m = c.circuits.drawn

    n : ℕ
    n = next_id c.circuits

    p : Draw f m
    p = draw f m

    new : CircuitEntry
    new = record { address = address; end = (called u now).end }

    d : Core
    d = with_circuits c (call_at u c.circuits address now).table

    other : (x : ℕ) → x ≢ n → d.circuits.circuit_at x ≡ c.circuits.circuit_at x
    other x q = upd_other c.circuits.circuit_at n new x q

    pos_room : nat_lt (held (called u now).end.half.sessions) (min u.sessions 64) ≡ true
    pos_room = lt-ltb 0 (min u.sessions 64) (omega (arith, pos))

    found : test_of d.circuits address n ≡ true
    found = ap (λ (z : CircuitEntry). nat_eq z.address address && lives z.end) (upd_same c.circuits.circuit_at n new) ∙ ap (λ b. b && true) (eqb_refl address)

    same : (a : ℕ) → least (test_of d.circuits a) (ids c.circuits) ≡ circuit_to c a
    same a =
        least_same (test_of d.circuits a) (test_of c.circuits a) (ids c.circuits)
        (each_id (λ i. test_of d.circuits a i ≡ test_of c.circuits a i) f m (λ i l. ap (λ (z : CircuitEntry). nat_eq z.address a && lives z.end) (other i (drawn_apart f m i l))))

    -- the new circuit passes for its own address alone, to which none lived
    elsewhere : (a : ℕ) → circuit_to c a ≢ 0 → (b : Bool) → test_of d.circuits a n ≡ b → b ≡ false
    elsewhere a q true e =
        let e' : (nat_eq address a && true) ≡ true = ap (λ (z : CircuitEntry). nat_eq z.address a && lives z.end) (sym (upd_same c.circuits.circuit_at n new)) ∙ e in
        absurd (q (ap (circuit_to c) (sym (eqb-true address a (and_parts (nat_eq address a) true e').0)) ∙ z))
    elsewhere a q false e = refl

    kept : (x k : ℕ) → lives (c.circuits.circuit_at x).end ≡ true → free ((c.circuits.circuit_at x).end.half.sessions.session k) ≡ false → (b : Bool) → nat_eq x n ≡ b → (lives (cond b new (c.circuits.circuit_at x)).end ≡ true) × (free ((cond b new (c.circuits.circuit_at x)).end.half.sessions.session k) ≡ false)
    kept x k l g true i = absurd (true≢false (sym l ∙ (ap (λ z. lives (c.circuits.circuit_at z).end) (eqb-true x n i) ∙ r.new n (next_new f m))))
    kept x k l g false i = (l, g)

    masters : (b : Bool) (x : ℕ) → (cond b new (c.circuits.circuit_at x)).end.half.sessions.master ≡ true
    masters true x = refl
    masters false x = r.masters x

    room : (a : ℕ) → can_open c a ≡ false → can_open d a ≡ false
    room a h = go (nat_eq (circuit_to c a) 0) refl h
      where
        go : (b : Bool) → nat_eq (circuit_to c a) 0 ≡ b → cond b (may_call c) (has_room c (circuit_to c a)) ≡ false → can_open d a ≡ false
        go true i h = absurd (true≢false (sym may ∙ h))
        go false i h =
            let e : circuit_to d a ≡ circuit_to c a = ap (least (test_of d.circuits a)) p.behind ∙ (least_old (test_of d.circuits a) n p.front p.back (elsewhere a (eqb-false (circuit_to c a) 0 i) (test_of d.circuits a n) refl) ∙ (ap (least (test_of d.circuits a)) (sym p.before) ∙ same a)) in
            let o : d.circuits.circuit_at (circuit_to c a) ≡ c.circuits.circuit_at (circuit_to c a) = other (circuit_to c a) (drawn_apart f m (circuit_to c a) (least_drawn (test_of c.circuits a) c.circuits (eqb-false (circuit_to c a) 0 i))) in
            ap (λ y. cond (nat_eq y 0) (may_call d) (has_room d y)) e ∙ (ap (λ b. cond b (may_call d) (has_room d (circuit_to c a))) i ∙ (ap (λ (z : CircuitEntry). nat_lt (held z.end.half.sessions) z.end.half.sessions.agreed) o ∙ h))

-- a session more at a circuit that has room

pub record Connected_at (c : Core) (x : ℕ) (d : Core) : Type 0 where
  pub grown : Grown c d
  pub alive : lives (d.circuits.circuit_at x).end ≡ true
  pub session : free ((d.circuits.circuit_at x).end.half.sessions.session (suc (c.circuits.circuit_at x).end.half.sessions.made)) ≡ false

pub connect_opens : (c : Core) (x : ℕ) (service : Name) (request : Option ℕ) → Ready c → lives (c.circuits.circuit_at x).end ≡ true → has_room c x ≡ true → Connected_at c x (with_circuits c (local_at true c.circuits x (Connect service request)).table)
connect_opens c x service request r l room = subst (λ (t : Table). Connected_at c x (with_circuits c t)) (sym table_is) opened
  where
    t : Table
    t = c.circuits

    e : End
    e = (t.circuit_at x).end

    s : Sessions
    s = e.half.sessions

    with_sess : Sessions → Step
    with_sess z = record { end = record e { half = record (e.half) { sessions = z } }; sent = [] }

    is_connect : call s (Connect service request) ≡ connect s service request
    is_connect = ap₂ (λ a b. cond (a && b) (connect s service request) s) (r.masters x) room

    table_is : (local_at true t x (Connect service request)).table ≡ (steps_at true t x (with_sess (connect s service request))).table
    table_is = ap (λ b. (cond b (steps_at true t x (with_sess (call s (Connect service request)))) (idle t)).table) l ∙ ap (λ z. (steps_at true t x (with_sess z)).table) is_connect

    new : CircuitEntry
    new = record { address = (t.circuit_at x).address; end = (note_empty e (with_sess (connect s service request))).end }

    d : Core
    d = with_circuits c (steps_at true t x (with_sess (connect s service request))).table

    at_x : d.circuits.circuit_at x ≡ new
    at_x = upd_same t.circuit_at x new

    other : (y : ℕ) → y ≢ x → d.circuits.circuit_at y ≡ t.circuit_at y
    other y q = upd_other t.circuit_at x new y q

    still_held : (b : Bool) (z : Session) → free z ≡ false → free (cond b (new_call s service request) z) ≡ false
    still_held true z f = refl
    still_held false z f = f

    kept : (y k : ℕ) → lives (t.circuit_at y).end ≡ true → free ((t.circuit_at y).end.half.sessions.session k) ≡ false → (b : Bool) → nat_eq y x ≡ b → (lives (cond b new (t.circuit_at y)).end ≡ true) × (free ((cond b new (t.circuit_at y)).end.half.sessions.session k) ≡ false)
    kept y k m f true i = (l, still_held (nat_eq k (suc s.made)) (s.session k) (ap (λ z. free ((t.circuit_at z).end.half.sessions.session k)) (sym (eqb-true y x i)) ∙ f))
    kept y k m f false i = (m, f)

    masters : (b : Bool) (y : ℕ) → (cond b new (t.circuit_at y)).end.half.sessions.master ≡ true
    masters true y = r.masters x
    masters false y = r.masters y

    alive : (y : ℕ) (b : Bool) → nat_eq y x ≡ b → lives (cond b new (t.circuit_at y)).end ≡ lives (t.circuit_at y).end
    alive y true i = ap (λ z. lives (t.circuit_at z).end) (sym (eqb-true y x i))
    alive y false i = refl

    tests : (a y : ℕ) (b : Bool) → nat_eq y x ≡ b → (nat_eq (cond b new (t.circuit_at y)).address a && lives (cond b new (t.circuit_at y)).end) ≡ test_of t a y
    tests a y true i = ap (λ z. nat_eq (t.circuit_at z).address a && lives (t.circuit_at z).end) (sym (eqb-true y x i))
    tests a y false i = refl

    to_same : (a : ℕ) → circuit_to d a ≡ circuit_to c a
    to_same a = least_same (test_of d.circuits a) (test_of t a) (ids t) (each_id (λ i. test_of d.circuits a i ≡ test_of t a i) t.first t.drawn (λ i m. tests a i (nat_eq i x) refl))

    may_same : may_call d ≡ may_call c
    may_same = ap (λ z. nat_lt (length z) 8 && nat_lt t.drawn 65535) (keep_same (λ i. lives (d.circuits.circuit_at i).end) (λ i. lives (t.circuit_at i).end) (ids t) (λ i. alive i (nat_eq i x) refl))

    no_room : (y : ℕ) → has_room c y ≡ false → (b : Bool) → nat_eq y x ≡ b → nat_lt (held (cond b new (t.circuit_at y)).end.half.sessions) (cond b new (t.circuit_at y)).end.half.sessions.agreed ≡ false
    no_room y h true i = absurd (true≢false (sym room ∙ (ap (has_room c) (sym (eqb-true y x i)) ∙ h)))
    no_room y h false i = h

    rooms : (a : ℕ) → can_open c a ≡ false → can_open d a ≡ false
    rooms a h = ap (λ y. cond (nat_eq y 0) (may_call d) (has_room d y)) (to_same a) ∙ go (nat_eq (circuit_to c a) 0) h
      where
        go : (b : Bool) → cond b (may_call c) (has_room c (circuit_to c a)) ≡ false → cond b (may_call d) (has_room d (circuit_to c a)) ≡ false
        go true h = may_same ∙ h
        go false h = no_room (circuit_to c a) h (nat_eq (circuit_to c a) x) refl

    opened : Connected_at c x d
    opened = record {
      grown = record {
        kept = λ y k m f. kept y k m f (nat_eq y x) refl;
        room = rooms;
        ready = record { masters = λ y. masters (nat_eq y x) y; new = λ k m. alive k (nat_eq k x) refl ∙ r.new k m };
      };
      alive = ap (λ (z : CircuitEntry). lives z.end) at_x ∙ l;
      session = ap (λ (z : CircuitEntry). free (z.end.half.sessions.session (suc s.made))) at_x ∙ ap free (upd_same s.session (suc s.made) (new_call s service request));
    }

pub grown_then : (c d e : Core) → Grown c d → Grown d e → Grown c e
grown_then c d e p q = record {
  kept = λ x k l f. (let h : (lives (d.circuits.circuit_at x).end ≡ true) × (free ((d.circuits.circuit_at x).end.half.sessions.session k) ≡ false) = p.kept x k l f in q.kept x k h.0 h.1);
  room = λ a h. q.room a (p.room a h);
  ready = q.ready;
}

pub grown_none : (c : Core) → Ready c → Grown c c
grown_none c r = record { kept = λ x k l f. (l, f); room = λ a h. h; ready = r }
