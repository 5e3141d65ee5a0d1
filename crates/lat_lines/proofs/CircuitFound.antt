-- The circuit of an id among what is held, and that of the core.
use Rattle.std.proofs.Common.{◌≡◌, ℕ, Bool, true, false, cond, ◌&&◌, ◌||◌, nat_eq, eq-eqb, ne_eqb, nat_lt, ◌<◌, is_none, List, [], ◌∷◌, length, map, Option, Some, None, slice_get, position, refl, sym, ap, subst, ◌∙◌, MatchOption}
use Rattle.std.specs.List.{find, list_any, position_or_len}
use Rattle.std.specs.Borrow.{Bor}
use Rattle.std.specs.Option.{is_some, option_map, option_copied, IfSome}
use Rattle.std.proofs.lemmas.Bool.{true≢false, and_parts, false_from_ne_true, eqb-true, ltb-true, ltb-false}
use Rattle.std.proofs.lemmas.Option.{same_Some, none-some, slice_get_past}
use Rattle.std.proofs.lemmas.List.Folds.{find_at}
use Rattle.lat_model.specs.Lists.{Each}
use Rattle.lat_model.specs.ends.End.{End, lives}
use Rattle.lat_model.specs.circuits.Arriving.{is_of}
use Rattle.lat_machines.specs.values.Addresses.{address}
use Rattle.lat_machines.specs.cores.Cores.{Core}
use Rattle.lat_machines.specs.cores.Hearing.{names}
use Rattle.lat_session.specs.Table.{Table}
use Rattle.lat_circuit.specs.Kept as circuit
use Rattle.lat_circuit.specs.Stands as circuit_stands
use Rattle.lat_lines.specs.circuits.Kept.{Kept, Holds, IsOwn, has_id, is_drawn}
use Rattle.lat_lines.specs.circuits.Stands.{Stands, IsCircuit}
use Rattle.lat_lines.specs.circuits.Info.{held_circuit, is_of_circuit}
use Rattle.lat_lines.specs.circuits.Living.{lives_in, LivesAt}

-- what is found passes, and is one of them
pub each_found : {X : Type 0} (P : X → Type 0) (p : X → Bool) (xs : List X) (x : X) → Each P xs → find p xs ≡ Some x → P x × (p x ≡ true)
each_found P p [] x e h = absurd (none-some x h)
each_found {X} P p (y ∷ ys) x e h = by (p y) refl h (each_found P p ys x e.1)
  where
    by : (b : Bool) → p y ≡ b → cond b (Some y) (find p ys) ≡ Some x → (find p ys ≡ Some x → P x × (p x ≡ true)) → P x × (p x ≡ true)
    by true q i more = subst (λ z. P z × (p z ≡ true)) (same_Some y x i) (e.0, q)
    by false q i more = more i

abbrev pub has_same : ℕ → circuit.Kept → Bool
has_same x q = nat_eq q.facts.id x

eqb_turned : (a b : ℕ) → nat_eq a b ≡ nat_eq b a
eqb_turned a b = by (nat_eq b a) refl
  where
    by : (t : Bool) → nat_eq b a ≡ t → nat_eq a b ≡ t
    by true e = eq-eqb a b (sym (eqb-true b a e))
    by false e = ne_eqb a b (λ s. true≢false (sym (eq-eqb b a (sym s)) ∙ e))

found_any : (x : ℕ) (qs : List circuit.Kept) → is_some (find (has_same x) qs) ≡ list_any (nat_eq x) (map (λ (q : circuit.Kept). q.facts.id) qs)
found_any x [] = refl
found_any x (q ∷ qs) = by (nat_eq q.facts.id x) (eqb_turned x q.facts.id) (found_any x qs)
  where
    by : (b : Bool) → nat_eq x q.facts.id ≡ b → is_some (find (has_same x) qs) ≡ list_any (nat_eq x) (map (λ (q : circuit.Kept). q.facts.id) qs) → is_some (cond b (Some q) (find (has_same x) qs)) ≡ (nat_eq x q.facts.id || list_any (nat_eq x) (map (λ (q : circuit.Kept). q.facts.id) qs))
    by true e more = ap (λ b. b || list_any (nat_eq x) (map (λ (q : circuit.Kept). q.facts.id) qs)) (sym e)
    by false e more = more ∙ ap (λ b. b || list_any (nat_eq x) (map (λ (q : circuit.Kept). q.facts.id) qs)) (sym e)

-- what holds of each holds of the one that is found, wherever it is kept
pub if_found : {X B : Type 0} (P : X → Type 0) (p : X → Bool) (xs : List X) (now : B → X) (r : Option B) → Each P xs → option_map now r ≡ find p xs → IfSome r (λ b. P (now b))
if_found P p xs now None e h = tt
if_found P p xs now (Some b) e h = (each_found P p xs (now b) e (sym h)).0

-- a circuit is found exactly where one of the id is held
pub found_has : (k : Kept) (x : ℕ) (o : Option circuit.Kept) → held_circuit k x ≡ o → is_some o ≡ has_id x k
found_has k x o h = ap is_some (sym h) ∙ found_any x k.held

-- the held circuit of an id, which the core has too
pub record IsFound (c : Core) (x : ℕ) (q : circuit.Kept) : Type 0 where
  pub id : q.facts.id ≡ x
  pub is : IsCircuit c q
  pub end : circuit_stands.Stands q (c.circuits.circuit_at x).end

pub found_is : (k : Kept) (c : Core) (x : ℕ) (q : circuit.Kept) → held_circuit k x ≡ Some q → Stands k c → IsFound c x q
found_is k c x q h st =
    let f = each_found (IsCircuit c) (has_same x) k.held q st.each h in
    let id : q.facts.id ≡ x = eqb-true q.facts.id x f.1 in
    record { id = id; is = f.0; end = subst (λ i. circuit_stands.Stands q (c.circuits.circuit_at i).end) id f.0.end }

-- where none is held none lives
pub none_lives : (k : Kept) (c : Core) (x : ℕ) → held_circuit k x ≡ None → Stands k c → lives (c.circuits.circuit_at x).end ≡ false
none_lives k c x h st =
    false_from_ne_true (lives (c.circuits.circuit_at x).end) (λ l. true≢false (sym (st.all x l) ∙ sym (found_has k x None h)))

-- an end lives where its circuit hasn't ended
pub lives_told : (q : circuit.Kept) (e : End) → circuit_stands.Stands q e → lives e ≡ is_none q.ended
lives_told q e st = by q.ended refl
  where
    by : (o : Option ℕ) → q.ended ≡ o → lives e ≡ is_none o
    by None h = ap (λ o. elim o [ None ↦ e.exists | Some r ↦ false ]) (sym st.ended ∙ h) ∙ st.exists
    by (Some r) h = ap (λ o. elim o [ None ↦ e.exists | Some r ↦ false ]) (sym st.ended ∙ h)

-- what a core tells of a circuit, by what is held

pub cond_both : {A : Type 0} (a b : Bool) (x y : A) → cond a (cond b x y) y ≡ cond (a && b) x y
cond_both true b x y = refl
cond_both false b x y = refl

pub names_found : (c : Core) (x from source : ℕ) (q : circuit.Kept) → IsFound c x q → (is_of_circuit q from source && is_none q.ended && q.running) ≡ names c.circuits from x source
names_found c x from source q f =
    let e : End = (c.circuits.circuit_at x).end in
    ap (λ b. is_of_circuit q from source && b && q.running) (sym (lives_told q e f.end))
    ∙ ap (λ b. is_of_circuit q from source && lives e && b) f.end.running
    ∙ ap (λ n. nat_eq (address q.facts.config.peer.0) from && nat_eq n source && lives e && e.running) f.end.peer
    ∙ ap (λ n. nat_eq n from && nat_eq e.peer source && lives e && e.running) (f.is.address ∙ ap (λ i. (c.circuits.circuit_at i).address) f.id)

pub names_none : (c : Core) (x from source : ℕ) → lives (c.circuits.circuit_at x).end ≡ false → false ≡ names c.circuits from x source
names_none c x from source n =
    sym (ap (λ b. (is_of (c.circuits.circuit_at x) from source && b) && (c.circuits.circuit_at x).end.running) n
    ∙ ap (λ b. b && (c.circuits.circuit_at x).end.running) (and_false (is_of (c.circuits.circuit_at x) from source)))
  where
    and_false : (b : Bool) → (b && false) ≡ false
    and_false true = refl
    and_false false = refl

-- where a circuit is found

pub record FindsAt {X : Type 0} (p : X → Bool) (xs : List X) (at : ℕ) : Type 0 where
  pub within : at < length xs
  pub is : find p xs ≡ slice_get xs at

pub finds_at : {X : Type 0} (p : X → Bool) (xs : List X) (at : ℕ) → position p xs ≡ Some at → FindsAt p xs at
finds_at p xs at h = by (nat_lt (position_or_len p xs) (length xs)) refl h
  where
    by : (b : Bool) → nat_lt (position_or_len p xs) (length xs) ≡ b → cond b (Some (position_or_len p xs)) None ≡ Some at → FindsAt p xs at
    by true l e =
        let is : position_or_len p xs ≡ at = same_Some (position_or_len p xs) at e in
        record { within = subst (λ n. n < length xs) is (ltb-true (position_or_len p xs) (length xs) l); is = find_at p xs ∙ ap (slice_get xs) is }
    by false l e = absurd (none-some at e)

pub finds_none : {X : Type 0} (p : X → Bool) (xs : List X) → position p xs ≡ None → find p xs ≡ None
finds_none p xs h = by (nat_lt (position_or_len p xs) (length xs)) refl h
  where
    by : (b : Bool) → nat_lt (position_or_len p xs) (length xs) ≡ b → cond b (Some (position_or_len p xs)) None ≡ None → find p xs ≡ None
    by true l e = absurd (none-some (position_or_len p xs) (sym e))
    by false l e = find_at p xs ∙ slice_get_past xs (position_or_len p xs) (ltb-false (position_or_len p xs) (length xs) l)

-- whether a circuit lives
pub living_told : (k : Kept) (c : Core) (x : ℕ) (o : Option circuit.Kept) → held_circuit k x ≡ o → Stands k c → lives (c.circuits.circuit_at x).end ≡ lives_in o
living_told k c x None h st = none_lives k c x h st
living_told k c x (Some q) h st = lives_told q (c.circuits.circuit_at x).end (found_is k c x q h st).end

pub none_is : (o : Option ℕ) → is_none o ≡ true → o ≡ None
none_is None h = refl
none_is (Some n) h = absurd (true≢false (sym h))

-- who is asked for, at a slave

pub some_if : {A : Type 0} (b : Bool) (a : A) → is_some (cond b (Some a) None) ≡ b
some_if true a = refl
some_if false a = refl

pub same_ask : {A : Type 0} (b w : Bool) (r : Option A) (a : A) → r ≡ cond b (Some a) None → is_some r ≡ w → r ≡ cond w (Some a) None
same_ask b w r a h some = h ∙ ap (λ z. cond z (Some a) None) (sym (some_if b a) ∙ ap is_some (sym h) ∙ some)

-- a circuit that is found among those that haven't ended lives
pub alive_found : (k : Kept) (c : Core) (p : circuit.Kept → Bool) → Stands k c → IfSome (option_map (λ (q : circuit.Kept). q.facts.id) (find (λ (q : circuit.Kept). is_none q.ended && p q) k.held)) (λ x. lives (c.circuits.circuit_at x).end ≡ true)
alive_found k c p st = by (find (λ (q : circuit.Kept). is_none q.ended && p q) k.held) refl
  where
    by : (o : Option circuit.Kept) → find (λ (q : circuit.Kept). is_none q.ended && p q) k.held ≡ o → IfSome (option_map (λ (q : circuit.Kept). q.facts.id) o) (λ x. lives (c.circuits.circuit_at x).end ≡ true)
    by None e = tt
    by (Some q) e =
        let f = each_found (IsCircuit c) (λ (z : circuit.Kept). is_none z.ended && p z) k.held q st.each e in
        lives_told q (c.circuits.circuit_at q.facts.id).end f.0.end ∙ (and_parts (is_none q.ended) (p q) f.1).0

-- the ids that are held were drawn
pub if_held : {B : Type 0} (k : Kept) (x : ℕ) (now : B → circuit.Kept) (r : Option B) → Holds k → option_map now r ≡ find (has_same x) k.held → IfSome r (λ b. is_drawn k x ≡ true)
if_held k x now None h e = tt
if_held k x now (Some b) h e =
    let f = each_found (λ (q : circuit.Kept). is_drawn k q.facts.id ≡ true) (has_same x) k.held (now b) h.drawn (sym e) in
    subst (λ i. is_drawn k i ≡ true) (eqb-true (now b).facts.id x f.1) f.0

-- the side of a core's circuit
pub side_of_found : (k : Kept) (c : Core) (x : ℕ) (q : circuit.Kept) → held_circuit k x ≡ Some q → IsOwn k q → Stands k c → (c.circuits.circuit_at x).end.half.sessions.master ≡ k.server
side_of_found k c x q h own st = sym (ap (λ (t : Table). t.master) (found_is k c x q h st).end.sessions.is) ∙ own.side

pub slave_of : (q : circuit.Kept) (e : End) → circuit_stands.Stands q e → q.sessions.master ≡ false → e.half.sessions.master ≡ false
slave_of q e st slave = sym (ap (λ (t : Table). t.master) st.sessions.is) ∙ slave

-- what is told of an id: by a rule for a circuit that is held, and a default where none is

pub told : {R : Type 0} (r y d : R) (k : Kept) (id : ℕ) (o : Option (Bor circuit.Kept)) {Known : Bor circuit.Kept → Type 0} → option_copied o ≡ held_circuit k id → MatchOption o (r ≡ d) Known
    → (held_circuit k id ≡ None → d ≡ y) → ((q : Bor circuit.Kept) → held_circuit k id ≡ Some q.now → Known q → r ≡ y) → r ≡ y
told r y d k id None e h n s = h ∙ n (sym e)
told r y d k id (Some q) e h n s = s q (sym e) h

pub told_own : {R : Type 0} (r y d : R) (k : Kept) (id : ℕ) (o : Option (Bor circuit.Kept)) {Known : Bor circuit.Kept → Type 0} → option_copied o ≡ held_circuit k id → IfSome o (λ q. IsOwn k q.now) → MatchOption o (r ≡ d) Known
    → (held_circuit k id ≡ None → d ≡ y) → ((q : Bor circuit.Kept) → held_circuit k id ≡ Some q.now → IsOwn k q.now → Known q → r ≡ y) → r ≡ y
told_own r y d k id None e own h n s = h ∙ n (sym e)
told_own r y d k id (Some q) e own h n s = s q (sym e) own h

pub side_told : (k : Kept) (c : Core) (id : ℕ) (o : Option (Bor circuit.Kept)) → option_copied o ≡ held_circuit k id → IfSome o (λ q. IsOwn k q.now) → Stands k c → lives (c.circuits.circuit_at id).end ≡ true
    → (c.circuits.circuit_at id).end.half.sessions.master ≡ k.server
side_told k c id None e own st l = absurd (true≢false (sym l ∙ none_lives k c id (sym e) st))
side_told k c id (Some q) e own st l = side_of_found k c id q.now (sym e) own st

-- the place of the living circuit of an id, as it is looked for

pub place_found : (k : Kept) (id : ℕ) (o : Option ℕ) (at : ℕ) → MatchOption o (lives_in (held_circuit k id) ≡ false) (LivesAt k id) → o ≡ Some at → LivesAt k id at
place_found k id o at h e = subst (λ o. MatchOption o (lives_in (held_circuit k id) ≡ false) (LivesAt k id)) e h

pub place_none : (k : Kept) (id : ℕ) (o : Option ℕ) → MatchOption o (lives_in (held_circuit k id) ≡ false) (LivesAt k id) → o ≡ None → lives_in (held_circuit k id) ≡ false
place_none k id o h e = subst (λ o. MatchOption o (lives_in (held_circuit k id) ≡ false) (LivesAt k id)) e h
