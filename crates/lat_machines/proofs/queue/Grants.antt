-- After the grant pass no line could grant a request.
use Rattle.std.proofs.Common.{◌≡◌, ◌≢◌, ℕ, zero, suc, ◌+◌, ◌<◌, ◌≤◌, arith, refl, sym, ap, ap₂, ◌∙◌, subst, Bool, true, false, not, cond, ◌&&◌, ◌||◌, List, [], ◌∷◌, ◌++◌, map, Option, Some, None, nat_eq, eqb-true, filter}
use Rattle.std.proofs.lemmas.Bool.{and_parts, or_parts, true≢false, false≢true, eqb-false, not-false}
use Rattle.std.specs.List.{list_any}
use Rattle.std.specs.Prelude.{bytes_eq}
use Rattle.lat_model.specs.sessions.Sessions.{Sessions, least_free}
use Rattle.lat_model.specs.Lists.{updated, upwards, Each}
use Rattle.lat_model.specs.sessions.Session.{free}
use Rattle.lat_model.specs.sessions.Calls.{Connect}
use Rattle.lat_model.specs.ends.End.{lives}
use Rattle.lat_model.specs.circuits.Ids.{next_id, ids}
use Rattle.lat_machines.specs.values.Names.{Name, folded, same}
use Rattle.lat_machines.specs.values.Keys.{Key, same_key}
use Rattle.lat_machines.specs.server.Queue.{QueueEvent, Asks, Cancels, Grants, Finishes, Request, cancels, grants, first_asks, is_waiting, is_overfull, records, waits, first, next_request}
use Rattle.lat_machines.specs.cores.Acts.{call_at, local_at}
use Rattle.lat_machines.specs.cores.Cores.{Seat, no_seat, Core, Doing, rests, with_circuits, acts, setup_of, circuit_to}
use Rattle.lat_machines.specs.cores.Lines.{end_of, session_of, over, last_on, seat_at, has_session}
use Rattle.lat_machines.specs.server.Server.{ServerConfig, Server, Passing, server_side, offer_on, has_room, may_call, can_open, connects_on, opens, granting, fitting, grantable_on, grantable, grants_by, grant_line, grant_lines, grant_pass, may_grant}
use Rattle.lat_machines.specs.world.Safe.{NoGrant}
use Rattle.lat_machines.proofs.events.Servers.{each_filter}
use Rattle.lat_machines.proofs.queue.Legal.{grantable_ready, grantable_next}
use Rattle.lat_machines.proofs.queue.Rooms.{Ready, Grown, Called, call_opens, Connected_at, connect_opens, grown_then, test_of, least_true}

-- opening a session

pub record Opened (c : Core) (line : ℕ) (key : Option Key) (d : Core) : Type 0 where
  pub grown : Grown c d
  pub seat : Seat
  pub seats : d.seats ≡ c.seats ++ seat ∷ []
  pub here : seat.line ≡ line
  pub has_key : seat.key ≡ key
  pub held : over d seat ≡ false

connect_at : (config : ServerConfig) (line x : ℕ) (service : Name) (key : Option Key) (request : Option ℕ) (c : Core) → Ready c → lives (c.circuits.circuit_at x).end ≡ true → has_room c x ≡ true → Opened c line key (connects_on config line x service key request c).core
connect_at config line x service key request c r l room =
    let e : Sessions = (c.circuits.circuit_at x).end.half.sessions in
    let s : Seat = record { line = line; circuit = x; id = least_free e; serial = suc e.made; key = key } in
    let d : Core = record c { seats = c.seats ++ s ∷ [] } in
    let o : Connected_at d x (with_circuits d (local_at true d.circuits x (Connect service request)).table) = connect_opens d x service request (record { masters = r.masters; new = r.new }) l room in
    record {
      grown = record { kept = o.grown.kept; room = o.grown.room; ready = record { masters = o.grown.ready.masters; new = o.grown.ready.new } };
      seat = s;
      seats = refl;
      here = refl;
      has_key = refl;
      held = ap₂ (λ a b. not a || b) o.alive o.session;
    }

pub opens_at : (config : ServerConfig) (line address : ℕ) (node service : Name) (key : Option Key) (request : Option ℕ) (c : Core) → 0 < config.timing.sessions → Ready c → can_open c address ≡ true → Opened c line key (opens config line address node service key request c).core
opens_at config line address node service key request c pos r can = go (nat_eq (circuit_to c address) 0) refl can
  where
    named : Core
    named = record c { names = updated c.names (next_id c.circuits) node }

    made : Doing
    made = acts (server_side config) named (call_at (setup_of config.timing) named.circuits address named.moment)

    after : Doing → Core
    after d = (connects_on config line (circuit_to d.core address) service key request d.core).core

    go : (b : Bool) → nat_eq (circuit_to c address) 0 ≡ b → cond b (may_call c) (has_room c (circuit_to c address)) ≡ true → Opened c line key (after (cond b made (rests c)))
    go false i can = connect_at config line (circuit_to c address) service key request c r (and_parts (nat_eq (c.circuits.circuit_at (circuit_to c address)).address address) (lives (c.circuits.circuit_at (circuit_to c address)).end) (least_true (test_of c.circuits address) (ids c.circuits) (eqb-false (circuit_to c address) 0 i))).1 can
    go true i can =
        let k : Called named address (with_circuits named (call_at (setup_of config.timing) named.circuits address named.moment).table) = call_opens (setup_of config.timing) named address named.moment pos (record { masters = r.masters; new = r.new }) (eqb-true (circuit_to c address) 0 i) can in
        let g : Grown c made.core = record { kept = k.grown.kept; room = k.grown.room; ready = record { masters = k.grown.ready.masters; new = k.grown.ready.new } } in
        let o : Opened made.core line key (after made) = connect_at config line (circuit_to made.core address) service key request made.core g.ready (ap (λ z. lives (made.core.circuits.circuit_at z).end) k.at ∙ k.alive) (ap (has_room made.core) k.at ∙ k.some) in
        record { grown = grown_then c made.core (after made) g o.grown; seat = o.seat; seats = o.seats; here = o.here; has_key = o.has_key; held = o.held }

last_more : (line : ℕ) (s : Seat) (xs : List Seat) (y : Seat) → last_on line s (xs ++ y ∷ []) ≡ cond (nat_eq y.line line) y (last_on line s xs)
last_more line s [] y = refl
last_more line s (x ∷ xs) y = last_more line (cond (nat_eq x.line line) x s) xs y

pub over_kept : (c d : Core) (s : Seat) → Grown c d → over c s ≡ false → over d s ≡ false
over_kept c d s g h =
    let o : (not (lives (end_of c s)) ≡ false) × (free (session_of c s) ≡ false) = or_parts (not (lives (end_of c s))) (free (session_of c s)) h in
    let k : (lives (end_of d s) ≡ true) × (free (session_of d s) ≡ false) = g.kept s.circuit s.serial (not-false (lives (end_of c s)) o.0) o.1 in
    ap₂ (λ a b. not a || b) k.0 k.1

-- after an opening the line has a session, and those that had one have one still
holds_opened : (c d : Core) (line other : ℕ) (key : Option Key) → Opened c line key d → (nat_eq line other || has_session c other) ≡ true → has_session d other ≡ true
holds_opened c d line other key o h = ap (λ z. not (over d (last_on other no_seat z))) o.seats ∙ (ap (λ z. not (over d z)) (last_more other no_seat c.seats o.seat) ∙ go (nat_eq o.seat.line other) (ap (λ z. nat_eq z other || has_session c other) o.here ∙ h))
  where
    go : (b : Bool) → (b || has_session c other) ≡ true → not (over d (cond b o.seat (seat_at c other))) ≡ true
    go true h = ap not o.held
    go false h = ap not (over_kept c d (seat_at c other) o.grown (not_true (over c (seat_at c other)) h))
      where
        not_true : (b : Bool) → not b ≡ true → b ≡ false
        not_true true q = absurd (false≢true q)
        not_true false q = refl

-- the queue with one more grant

abbrev pub extend : QueueEvent → Request → Request
extend g r = record r { later = r.later ++ g ∷ [] }

first_more : (seen : List Key) (h : List QueueEvent) (k : Key) (s : Name) → first_asks seen (h ++ Grants k s ∷ []) ≡ map (extend (Grants k s)) (first_asks seen h)
first_more seen [] k s = refl
first_more seen (Asks j from service answer ∷ h) k s = go (list_any (same_key j) seen) (first_more seen h k s) (first_more (j ∷ seen) h k s)
  where
    go : (b : Bool) → first_asks seen (h ++ Grants k s ∷ []) ≡ map (extend (Grants k s)) (first_asks seen h) → first_asks (j ∷ seen) (h ++ Grants k s ∷ []) ≡ map (extend (Grants k s)) (first_asks (j ∷ seen) h) → cond b (first_asks seen (h ++ Grants k s ∷ [])) (record { key = j; from = from; service = service; answer = answer; later = h ++ Grants k s ∷ [] } ∷ first_asks (j ∷ seen) (h ++ Grants k s ∷ [])) ≡ map (extend (Grants k s)) (cond b (first_asks seen h) (record { key = j; from = from; service = service; answer = answer; later = h } ∷ first_asks (j ∷ seen) h))
    go true p q = p
    go false p q = ap (λ z. record { key = j; from = from; service = service; answer = answer; later = h ++ Grants k s ∷ [] } ∷ z) q
first_more seen (Cancels j ∷ h) k s = first_more seen h k s
first_more seen (Grants j t ∷ h) k s = first_more seen h k s
first_more seen (Finishes j ∷ h) k s = first_more seen h k s

filter_map_same : (g : QueueEvent) (test : Request → Bool) (xs : List Request) → ((x : Request) → test (extend g x) ≡ test x) → filter test (map (extend g) xs) ≡ map (extend g) (filter test xs)
filter_map_same g test [] h = refl
filter_map_same g test (x ∷ xs) h = ap (λ b. cond b (extend g x ∷ filter test (map (extend g) xs)) (filter test (map (extend g) xs))) (h x) ∙ go (test x) (filter_map_same g test xs h)
  where
    go : (b : Bool) → filter test (map (extend g) xs) ≡ map (extend g) (filter test xs) → cond b (extend g x ∷ filter test (map (extend g) xs)) (filter test (map (extend g) xs)) ≡ map (extend g) (cond b (x ∷ filter test xs) (filter test xs))
    go true q = ap (λ z. extend g x ∷ z) q
    go false q = q

records_more : (h : List QueueEvent) (k : Key) (s : Name) → records (h ++ Grants k s ∷ []) ≡ map (extend (Grants k s)) (records h)
records_more h k s = ap (filter (λ (r : Request). not (is_overfull r.answer))) (first_more [] h k s) ∙ filter_map_same (Grants k s) (λ r. not (is_overfull r.answer)) (first_asks [] h) (λ x. refl)

-- keys

pub text_eq : (xs ys : List ℕ) → bytes_eq xs ys ≡ true → xs ≡ ys
text_eq [] [] q = refl
text_eq [] (y ∷ ys) q = absurd (false≢true q)
text_eq (x ∷ xs) [] q = absurd (false≢true q)
text_eq (x ∷ xs) (y ∷ ys) q = let p : (nat_eq x y ≡ true) × (bytes_eq xs ys ≡ true) = and_parts (nat_eq x y) (bytes_eq xs ys) q in ap₂ (λ a b. a ∷ b) (eqb-true x y p.0) (text_eq xs ys p.1)

same_sym : (a b : Key) → same_key a b ≡ true → same_key b a ≡ true
same_sym a b q =
    let p : (same a.node b.node ≡ true) × ((nat_eq a.incarnation b.incarnation && nat_eq a.request b.request) ≡ true) = and_parts (same a.node b.node) (nat_eq a.incarnation b.incarnation && nat_eq a.request b.request) q in
    let r : (nat_eq a.incarnation b.incarnation ≡ true) × (nat_eq a.request b.request ≡ true) = and_parts (nat_eq a.incarnation b.incarnation) (nat_eq a.request b.request) p.1 in
    let n : folded a.node ≡ folded b.node = text_eq (folded a.node) (folded b.node) p.0 in
    let i : a.incarnation ≡ b.incarnation = eqb-true a.incarnation b.incarnation r.0 in
    let j : a.request ≡ b.request = eqb-true a.request b.request r.1 in
    turn n i j q
  where
    turn : folded a.node ≡ folded b.node → a.incarnation ≡ b.incarnation → a.request ≡ b.request → (bytes_eq (folded a.node) (folded b.node) && (nat_eq a.incarnation b.incarnation && nat_eq a.request b.request)) ≡ true → (bytes_eq (folded b.node) (folded a.node) && (nat_eq b.incarnation a.incarnation && nat_eq b.request a.request)) ≡ true
    turn n i j q =
        subst (λ z. (bytes_eq (folded b.node) (folded a.node) && (nat_eq b.incarnation a.incarnation && nat_eq b.request z)) ≡ true) (sym j)
        (subst (λ z. (bytes_eq (folded b.node) (folded a.node) && (nat_eq b.incarnation z && nat_eq b.request b.request)) ≡ true) (sym i)
        (subst (λ z. (bytes_eq (folded b.node) z && (nat_eq b.incarnation b.incarnation && nat_eq b.request b.request)) ≡ true) (sym n)
        (subst (λ z. (bytes_eq z (folded b.node) && (nat_eq b.incarnation b.incarnation && nat_eq b.request b.request)) ≡ true) n
        (subst (λ z. (bytes_eq (folded a.node) (folded b.node) && (nat_eq z b.incarnation && nat_eq b.request b.request)) ≡ true) i
        (subst (λ z. (bytes_eq (folded a.node) (folded b.node) && (nat_eq a.incarnation b.incarnation && nat_eq z b.request)) ≡ true) j q)))))

-- no two first asks have one key

abbrev pub Distinct : List Request → Type 0
Distinct [] = Unit {0}
Distinct (x ∷ xs) = Each (λ (y : Request). same_key y.key x.key ≡ false) xs × Distinct xs

each_all : {A : Type 0} (P Q : A → Type 0) (xs : List A) → ((x : A) → P x → Q x) → Each P xs → Each Q xs
each_all P Q [] f p = tt
each_all P Q (x ∷ xs) f p = (f x p.0, each_all P Q xs f p.1)

unseen : (seen : List Key) (h : List QueueEvent) → Each (λ (y : Request). list_any (same_key y.key) seen ≡ false) (first_asks seen h)
unseen seen [] = tt
unseen seen (Asks k from service answer ∷ h) = go (list_any (same_key k) seen) refl (unseen seen h) (unseen (k ∷ seen) h)
  where
    go : (b : Bool) → list_any (same_key k) seen ≡ b → Each (λ (y : Request). list_any (same_key y.key) seen ≡ false) (first_asks seen h) → Each (λ (y : Request). list_any (same_key y.key) (k ∷ seen) ≡ false) (first_asks (k ∷ seen) h) → Each (λ (y : Request). list_any (same_key y.key) seen ≡ false) (cond b (first_asks seen h) (record { key = k; from = from; service = service; answer = answer; later = h } ∷ first_asks (k ∷ seen) h))
    go true q p r = p
    go false q p r = (q, each_all (λ (y : Request). list_any (same_key y.key) (k ∷ seen) ≡ false) (λ (y : Request). list_any (same_key y.key) seen ≡ false) (first_asks (k ∷ seen) h) (λ y o. (or_parts (same_key y.key k) (list_any (same_key y.key) seen) o).1) r)
unseen seen (Cancels k ∷ h) = unseen seen h
unseen seen (Grants k s ∷ h) = unseen seen h
unseen seen (Finishes k ∷ h) = unseen seen h

pub distinct_asks : (seen : List Key) (h : List QueueEvent) → Distinct (first_asks seen h)
distinct_asks seen [] = tt
distinct_asks seen (Asks k from service answer ∷ h) = go (list_any (same_key k) seen) (distinct_asks seen h) (distinct_asks (k ∷ seen) h)
  where
    go : (b : Bool) → Distinct (first_asks seen h) → Distinct (first_asks (k ∷ seen) h) → Distinct (cond b (first_asks seen h) (record { key = k; from = from; service = service; answer = answer; later = h } ∷ first_asks (k ∷ seen) h))
    go true p q = p
    go false p q = (each_all (λ (y : Request). list_any (same_key y.key) (k ∷ seen) ≡ false) (λ (y : Request). same_key y.key k ≡ false) (first_asks (k ∷ seen) h) (λ y o. (or_parts (same_key y.key k) (list_any (same_key y.key) seen) o).0) (unseen (k ∷ seen) h), q)
distinct_asks seen (Cancels k ∷ h) = distinct_asks seen h
distinct_asks seen (Grants k s ∷ h) = distinct_asks seen h
distinct_asks seen (Finishes k ∷ h) = distinct_asks seen h

pub distinct_filter : (test : Request → Bool) (xs : List Request) → Distinct xs → Distinct (filter test xs)
distinct_filter test [] d = tt
distinct_filter test (x ∷ xs) d = go (test x) (distinct_filter test xs d.1)
  where
    go : (b : Bool) → Distinct (filter test xs) → Distinct (cond b (x ∷ filter test xs) (filter test xs))
    go true i = (each_filter (λ (y : Request). same_key y.key x.key ≡ false) test xs d.0, i)
    go false i = i

first_has : (P : Request → Type 0) (test : Request → Bool) (xs : List Request) (r : Request) → Each P xs → first (filter test xs) ≡ Some r → P r
first_has P test [] r p q = let z : ⊥ = cc in absurd z
first_has P test (x ∷ xs) r p q = go (test x) (first_has P test xs r p.1) q
  where
    go : (b : Bool) → (first (filter test xs) ≡ Some r → P r) → first (cond b (x ∷ filter test xs) (filter test xs)) ≡ Some r → P r
    go true i q = let e : x ≡ r = cc in subst P e p.0
    go false i q = i q

-- whoever has the key of the first that passes is that one
pub only_one : (test : Request → Bool) (xs : List Request) (r : Request) → Distinct xs → first (filter test xs) ≡ Some r → Each (λ (x : Request). same_key x.key r.key ≡ true → x ≡ r) xs
only_one test [] r d q = tt
only_one test (x ∷ xs) r d q = go (test x) (only_one test xs r d.1) q
  where
    go : (b : Bool) → (first (filter test xs) ≡ Some r → Each (λ (y : Request). same_key y.key r.key ≡ true → y ≡ r) xs) → first (cond b (x ∷ filter test xs) (filter test xs)) ≡ Some r → Each (λ (y : Request). same_key y.key r.key ≡ true → y ≡ r) (x ∷ xs)
    go true i q =
        let e : x ≡ r = cc in
        (λ s. e, each_all (λ (y : Request). same_key y.key x.key ≡ false) (λ (y : Request). same_key y.key r.key ≡ true → y ≡ r) xs (λ y n s. absurd (true≢false (sym s ∙ (ap (λ (z : Request). same_key y.key z.key) (sym e) ∙ n)))) d.0)
    go false i q =
        (λ s. absurd (true≢false (sym (same_sym x.key r.key s) ∙ first_has (λ (y : Request). same_key y.key x.key ≡ false) test xs r d.0 q)), i q)

-- what waits after one more grant

test_for : Name → Request → Bool
test_for service r = waits r && same r.service service

pub any_more : (f : QueueEvent → Bool) (xs : List QueueEvent) (g : QueueEvent) → list_any f (xs ++ g ∷ []) ≡ list_any f xs || f g
any_more f [] g = or_false (f g)
  where
    or_false : (b : Bool) → b || false ≡ b
    or_false true = refl
    or_false false = refl
any_more f (x ∷ xs) g = go (f x) (any_more f xs g)
  where
    go : (b : Bool) → list_any f (xs ++ g ∷ []) ≡ list_any f xs || f g → b || list_any f (xs ++ g ∷ []) ≡ (b || list_any f xs) || f g
    go true p = refl
    go false p = p

-- it waits on where it waited, and the grant wasn't its own
test_more : (service s : Name) (k : Key) (r : Request) → test_for service (extend (Grants k s) r) ≡ test_for service r && not (same_key r.key k)
unfolding test_for
test_more service s k r = ap (λ z. (is_waiting r.answer && not z) && same r.service service) (any_more (λ e. cancels r.key e || grants r.key e) r.later (Grants k s)) ∙ go (is_waiting r.answer) (list_any (λ e. cancels r.key e || grants r.key e) r.later) (same_key r.key k) (same r.service service)
  where
    go : (a b c d : Bool) → (a && not (b || c)) && d ≡ ((a && not b) && d) && not c
    go true true c true = refl
    go true true c false = refl
    go true false true true = refl
    go true false true false = refl
    go true false false true = refl
    go true false false false = refl
    go false b c true = refl
    go false b c false = refl

none_fits : (c d : Core) (g : Grown c d) (service s : Name) (k : Key) (xs : List Request) → Each (λ (x : Request). same_key x.key k ≡ true → can_open c x.from ≡ true) xs → fitting c (first (filter (test_for service) xs)) ≡ None → fitting d (first (filter (test_for service) (map (extend (Grants k s)) xs))) ≡ None
none_fits c d g service s k [] o h = refl
none_fits c d g service s k (x ∷ xs) o h = ap (λ b. fitting d (first (cond b (extend (Grants k s) x ∷ filter (test_for service) (map (extend (Grants k s)) xs)) (filter (test_for service) (map (extend (Grants k s)) xs))))) (test_more service s k x) ∙ go (none_fits c d g service s k xs o.1) (test_for service x) (same_key x.key k) refl h
  where
    closed : (b : Bool) → can_open c x.from ≡ b → cond b (Some x) None ≡ None → b ≡ false
    closed true q z = let y : ⊥ = cc in absurd y
    closed false q z = refl

    go : (fitting c (first (filter (test_for service) xs)) ≡ None → fitting d (first (filter (test_for service) (map (extend (Grants k s)) xs))) ≡ None) → (a b : Bool) → same_key x.key k ≡ b → fitting c (first (cond a (x ∷ filter (test_for service) xs) (filter (test_for service) xs))) ≡ None → fitting d (first (cond (a && not b) (extend (Grants k s) x ∷ filter (test_for service) (map (extend (Grants k s)) xs)) (filter (test_for service) (map (extend (Grants k s)) xs)))) ≡ None
    go rest false b i h = rest h
    go rest true true i h = absurd (true≢false (sym (o.0 i) ∙ closed (can_open c x.from) refl h))
    go rest true false i h = ap (λ b. cond b (Some (extend (Grants k s) x)) None) (g.room x.from (closed (can_open c x.from) refl h))

-- a line that could grant nothing goes on so while another grants

next_none : (c d : Core) (g : Grown c d) (h : List QueueEvent) (r : Request) (s service : Name) → next_request s h ≡ Some r → can_open c r.from ≡ true → fitting c (next_request service h) ≡ None → fitting d (next_request service (h ++ Grants r.key s ∷ [])) ≡ None
unfolding test_for
next_none c d g h r s service q can n =
    ap (λ z. fitting d (first (filter (test_for service) z))) (records_more h r.key s)
    ∙ none_fits c d g service s r.key (records h)
    (each_all (λ (x : Request). same_key x.key r.key ≡ true → x ≡ r) (λ (x : Request). same_key x.key r.key ≡ true → can_open c x.from ≡ true) (records h) (λ x f k. ap (λ (z : Request). can_open c z.from) (f k) ∙ can) (only_one (test_for s) (records h) r (distinct_filter (λ (x : Request). not (is_overfull x.answer)) (first_asks [] h) (distinct_asks [] h)) q))
    n

pub grant_can : (st : Server) (line : ℕ) (service : Name) (r : Request) → grantable st line (Some service) ≡ Some r → can_open st.core r.from ≡ true
grant_can st line service r q = go (has_session st.core line) (next_request service st.queue) (grantable_ready st line service r q)
  where
    fit : (b : Bool) (x : Request) → can_open st.core x.from ≡ b → cond b (Some x) None ≡ Some r → can_open st.core r.from ≡ true
    fit true x i q = let e : x ≡ r = cc in ap (λ (z : Request). can_open st.core z.from) (sym e) ∙ i
    fit false x i q = let z : ⊥ = cc in absurd z

    go : (n : Bool) (o : Option Request) → cond n None (fitting st.core o) ≡ Some r → can_open st.core r.from ≡ true
    go true o q = let z : ⊥ = cc in absurd z
    go false None q = let z : ⊥ = cc in absurd z
    go false (Some x) q = fit (can_open st.core x.from) x refl q

-- a line that has a session, or whose first waiting request can't be opened
abbrev Quiet : Server → ℕ → Option Name → Type 0
Quiet st line o = grantable st line o ≡ None

quiet_after : (config : ServerConfig) (p : Passing) (line other : ℕ) (s : Name) (r : Request) (o : Option Name) → 0 < config.timing.sessions → Ready p.state.core → grantable p.state line (Some s) ≡ Some r → Quiet p.state other o → Quiet (granting config line s p r).state other o
quiet_after config p line other s r None pos rd q n = refl
quiet_after config p line other s r (Some service) pos rd q n = by (may_grant p.state other) refl
  where
    c : Core
    c = p.state.core

    st : Server
    st = (granting config line s p r).state

    o : Opened c line (Some r.key) st.core
    o = opens_at config line r.from r.key.node s (Some r.key) (Some r.key.request) c pos rd (grant_can p.state line s r q)

    On : Type 0
    On = grantable_on st.core st.queue other service ≡ None

    held_still : (nat_eq line other || has_session c other) ≡ true → On
    held_still h = ap (λ b. cond b None (fitting st.core (next_request service st.queue))) (holds_opened c st.core line other (Some r.key) o h)

    or_true : (b : Bool) → b || true ≡ true
    or_true true = refl
    or_true false = refl

    either : (b : Bool) (x : Option Request) → x ≡ None → cond b None x ≡ None
    either true x q = refl
    either false x q = q

    go : (b : Bool) → has_session c other ≡ b → cond b None (fitting c (next_request service p.state.queue)) ≡ None → On
    go true i n = held_still (ap (λ b. nat_eq line other || b) i ∙ or_true (nat_eq line other))
    go false i n = either (has_session st.core other) (fitting st.core (next_request service st.queue)) (next_none c st.core o.grown p.state.queue r s service (grantable_next p.state line s r q) (grant_can p.state line s r q) n)

    by : (b : Bool) → may_grant p.state other ≡ b → Quiet st other (Some service)
    by true i = ap (λ z. cond z (grantable_on st.core st.queue other service) None) i ∙ go (has_session c other) refl (sym (ap (λ z. cond z (grantable_on c p.state.queue other service) None) i) ∙ n)
    by false i = ap (λ z. cond z (grantable_on st.core st.queue other service) None) i

-- the line itself has a session then
quiet_own : (config : ServerConfig) (p : Passing) (line : ℕ) (s : Name) (r : Request) → 0 < config.timing.sessions → Ready p.state.core → grantable p.state line (Some s) ≡ Some r → Quiet (granting config line s p r).state line (Some s)
quiet_own config p line s r pos rd q =
    let st : Server = (granting config line s p r).state in
    let o : Opened p.state.core line (Some r.key) st.core = opens_at config line r.from r.key.node s (Some r.key) (Some r.key.request) p.state.core pos rd (grant_can p.state line s r q) in
    by (may_grant st line) (grantable_on st.core st.queue line s) (ap (λ b. cond b None (fitting st.core (next_request s st.queue))) (holds_opened p.state.core st.core line line (Some r.key) o (ap (λ b. b || has_session p.state.core line) (eqb_same line))))
  where
    by : (b : Bool) (x : Option Request) → x ≡ None → cond b x None ≡ None
    by true x q = q
    by false x q = refl

    eqb_same : (n : ℕ) → nat_eq n n ≡ true
    eqb_same n = go (nat_eq n n) refl
      where
        go : (b : Bool) → nat_eq n n ≡ b → b ≡ true
        go true q = refl
        go false q = absurd (eqb-false n n q refl)

record Passes (config : ServerConfig) (p : Passing) (line : ℕ) (v : Passing) : Type 0 where
  pub ready : Ready v.state.core
  pub own : Quiet v.state line (offer_on line config.offers)
  pub others : (other : ℕ) → Quiet p.state other (offer_on other config.offers) → Quiet v.state other (offer_on other config.offers)

line_passes : (config : ServerConfig) (p : Passing) (line : ℕ) → 0 < config.timing.sessions → Ready p.state.core → Passes config p line (grant_line config p line)
line_passes config p line pos rd = go (offer_on line config.offers) refl (grantable p.state line (offer_on line config.offers)) refl
  where
    go : (o : Option Name) → offer_on line config.offers ≡ o → (r : Option Request) → grantable p.state line o ≡ r → Passes config p line (grants_by config line o r p)
    go None i r q = record { ready = rd; own = subst (Quiet p.state line) (sym i) refl; others = λ other n. n }
    go (Some s) i None q = record { ready = rd; own = subst (Quiet p.state line) (sym i) q; others = λ other n. n }
    go (Some s) i (Some r) q = record {
      ready = (opens_at config line r.from r.key.node s (Some r.key) (Some r.key.request) p.state.core pos rd (grant_can p.state line s r q)).grown.ready;
      own = subst (Quiet (granting config line s p r).state line) (sym i) (quiet_own config p line s r pos rd q);
      others = λ other n. quiet_after config p line other s r (offer_on other config.offers) pos rd q n;
    }

lines_pass : (config : ServerConfig) (n k : ℕ) (p : Passing) → 0 < config.timing.sessions → Ready p.state.core → ((line : ℕ) → 0 < line → line ≤ n → Quiet p.state line (offer_on line config.offers)) → (line : ℕ) → 0 < line → line ≤ n + k → Quiet (grant_lines config (upwards n k) p).state line (offer_on line config.offers)
lines_pass config n zero p pos rd h line a b = h line a (omega (arith, b))
lines_pass config n (suc k) p pos rd h line a b =
    let v : Passes config p (suc n) (grant_line config p (suc n)) = line_passes config p (suc n) pos rd in
    lines_pass config (suc n) k (grant_line config p (suc n)) pos v.ready (λ i x y. step v i x y (nat_eq i (suc n)) refl) line a (omega (arith, b))
  where
    step : Passes config p (suc n) (grant_line config p (suc n)) → (i : ℕ) → 0 < i → i ≤ suc n → (b : Bool) → nat_eq i (suc n) ≡ b → Quiet (grant_line config p (suc n)).state i (offer_on i config.offers)
    step v i x y true e = subst (λ z. Quiet (grant_line config p (suc n)).state z (offer_on z config.offers)) (sym (eqb-true i (suc n) e)) v.own
    step v i x y false e = v.others i (h i x (let m : i ≢ suc n = eqb-false i (suc n) e in below i n y m))
      where
        below : (i n : ℕ) → i ≤ suc n → i ≢ suc n → i ≤ n
        below i n y m = omega (arith, y, m)

pub no_grant : (config : ServerConfig) (st : Server) → 0 < config.timing.sessions → Ready st.core → NoGrant config (grant_pass config st).state
no_grant config st pos rd line a b = lines_pass config 0 config.lines (record { state = st; frames = [] }) pos rd (λ i x y. absurd (omega (arith, x, y))) line a (omega (arith, b))
