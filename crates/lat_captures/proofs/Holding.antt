-- What is kept of sessions goes on as slots are acknowledged and formed.
use Rattle.std.proofs.Common.{◌≡◌, ◌≢◌, ℕ, zero, suc, ◌+◌, ◌<◌, ◌≤◌, le_trans, sym, ap, ap₂, ◌∙◌, refl, arith, subst, Bool, true, false, not, cond, ◌&&◌, List, [], ◌∷◌, ◌++◌, length, min, nat_eq, append_assoc, length-append, eqb-true}
use Rattle.std.specs.Prelude.{Some}
use Rattle.std.proofs.lemmas.Bool.{false≢true, eqb-false, eq-eqb}
use Rattle.lat_model.specs.Lists.{Each, updated, IsPrefixOf}
use Rattle.lat_model.specs.sessions.Slots.{Slot, destination, source, credits_of, cost_of, credits, costs, is_start, is_ask}
use Rattle.lat_captures.specs.Seen.{Both}
use Rattle.lat_captures.specs.Belonging.{place_on, last_place, word_at, asks_as, replies_as, ask_of, session_at, slave_session, Owned, of_session, slave_owned, ask_credits}
use Rattle.lat_captures.specs.declared.accounts.Account.{Account}
use Rattle.lat_captures.specs.Facts.{owned_slot_of}
use Rattle.lat_captures.specs.Sums.{greatest, Sums, credited, slave_takes}
use Rattle.lat_captures.proofs.Growing.{place_bound, word_more}
use Rattle.lat_captures.specs.Stands.{session_under, last_ask, AccountOf, Under, Holds}
use Rattle.lat_captures.proofs.Summing.{credits_push, costs_push, push_ask}

-- tests

pub same_true : (a b : ℕ) → a ≡ b → nat_eq a b ≡ true
same_true a b e = eq-eqb a b e

pub differ_false : (a b : ℕ) → a ≢ b → nat_eq a b ≡ false
differ_false a b n = go (nat_eq a b) refl
  where
    go : (c : Bool) → nat_eq a b ≡ c → c ≡ false
    go true e = absurd (n (eqb-true a b e))
    go false e = refl

pub under_more : (w : Slot → ℕ) (F G : List Slot) (o : Owned) → Under w F o → Under w (F ++ G) o
under_more w F G o u = record {
  bound = omega (arith, u.bound, length-append F G);
  word = λ n. word_more source F G o.session u.bound ∙ u.word n;
}

pub each_under_more : (w : Slot → ℕ) (F G : List Slot) (os : List Owned) → Each (Under w F) os → Each (Under w (F ++ G)) os
each_under_more w F G [] e = tt
each_under_more w F G (o ∷ os) e = (under_more w F G o e.0, each_under_more w F G os e.1)

pub each_push : {X : Type 0} (P : X → Type 0) (xs : List X) (x : X) → Each P xs → P x → Each P (xs ++ x ∷ [])
each_push P [] x e p = (p, tt)
each_push P (y ∷ xs) x e p = (e.0, each_push P xs x e.1 p)

pub each_append : {X : Type 0} (P : X → Type 0) (xs ys : List X) → Each P xs → Each P ys → Each P (xs ++ ys)
each_append P [] ys e f = f
each_append P (x ∷ xs) ys e f = (e.0, each_append P xs ys e.1 f)

-- no slot is of a session that begins later
pub none_yet : (w : Slot → ℕ) (F : List Slot) (r : ℕ) (os : List Owned) → Each (Under w F) os → length F < r → of_session r os ≡ []
none_yet w F r [] e l = refl
none_yet w F r (o ∷ os) e l = ap (λ c. cond c (o.slot ∷ of_session r os) (of_session r os)) (differ_false o.session r (λ q. omega (arith, q, e.0.bound, l))) ∙ none_yet w F r os e.1 l

-- the slot at the place of a last reply has its source

pub last_word : (y : ℕ) (xs : List Slot) → last_place (replies_as y) xs ≢ 0 → word_at source xs (last_place (replies_as y) xs) ≡ y
last_word y [] n = absurd (n refl)
last_word y (x ∷ xs) n = go (last_place (replies_as y) xs) refl (replies_as y x) refl n (last_word y xs)
  where
    go : (k : ℕ) → last_place (replies_as y) xs ≡ k → (c : Bool) → replies_as y x ≡ c → place_on c k ≢ 0
        → (last_place (replies_as y) xs ≢ 0 → word_at source xs (last_place (replies_as y) xs) ≡ y) → word_at source (x ∷ xs) (place_on c k) ≡ y
    go zero e true f n ih = eqb-true (source x) y (same (is_start x && not (is_ask x)) (nat_eq (source x) y) f)
      where
        same : (a b : Bool) → (a && b) ≡ true → b ≡ true
        same true b e = e
        same false b e = absurd (false≢true e)
    go zero e false f n ih = absurd (n refl)
    go (suc k) e c f n ih = ap (word_at source xs) (sym e) ∙ ih (λ z. omega (arith, z, e))

-- a session is no session, or its place
pub session_is : (b : Both) (r : ℕ) → session_at b r ≢ 0 → session_at b r ≡ r
session_is b r n = go (nat_eq (ask_of b r) 0) n
  where
    go : (c : Bool) → cond c 0 r ≢ 0 → cond c 0 r ≡ r
    go true n = absurd (n refl)
    go false n = refl

pub session_bound : (b : Both) (r : ℕ) → session_at b r ≤ r
session_bound b r = go (nat_eq (ask_of b r) 0)
  where
    go : (c : Bool) → cond c 0 r ≤ r
    go true = omega arith
    go false = omega arith

pub session_word : (b : Both) (y : ℕ) (F : List Slot) → session_under b y F ≢ 0 → word_at source F (session_under b y F) ≡ y
session_word b y F n =
    let e : session_under b y F ≡ last_place (replies_as y) F = session_is b (last_place (replies_as y) F) n in
    ap (word_at source F) e ∙ last_word y F (λ z. n (e ∙ z))

pub session_within : (b : Both) (y : ℕ) (F : List Slot) → session_under b y F ≤ length F
session_within b y F = le_trans (session_bound b (last_place (replies_as y) F)) (place_bound (replies_as y) F)

-- each slot of the slave is of a session under its source
pub slave_under : (b : Both) (front xs : List Slot) → Each (Under source (front ++ xs)) (slave_owned b front xs)
slave_under b front [] = tt
slave_under b front (x ∷ xs) =
    let whole : (front ++ x ∷ []) ++ xs ≡ front ++ x ∷ xs = append_assoc front (x ∷ []) xs in
    let here : Under source (front ++ x ∷ []) (record { session = slave_session b front x; slot = x }) =
    record { bound = session_within b (source x) (front ++ x ∷ []); word = session_word b (source x) (front ++ x ∷ []) } in (
      subst (λ F. Under source F (record { session = slave_session b front x; slot = x })) whole (under_more source (front ++ x ∷ []) xs (record { session = slave_session b front x; slot = x }) here),
      subst (λ F. Each (Under source F) (slave_owned b (front ++ x ∷ []) xs)) whole (slave_under b (front ++ x ∷ []) xs),
    )

-- a slot of the master bears one id with its session
word_within : (TM F : List Slot) (r : ℕ) → IsPrefixOf TM F → r ≤ length TM → word_at source F r ≡ word_at source TM r
word_within TM F r p l = ap (λ z. word_at source z r) (sym p.1) ∙ word_more source TM p.0 r l

pub other_session : (b : Both) (F TM : List Slot) (o : Owned) (y : ℕ) → IsPrefixOf TM F → Under destination TM o → session_under b y F ≢ 0 → destination o.slot ≢ y → o.session ≢ session_under b y F
other_session b F TM o y p u n d e =
    d (sym (u.word (λ z. n (sym e ∙ z))) ∙ sym (word_within TM F o.session p u.bound) ∙ ap (word_at source F) e ∙ session_word b y F n)

-- an ask bears no session
abbrev pub AskIsNone : Owned → Type 0
AskIsNone o = is_ask o.slot ≡ true → o.session ≡ 0

asks_apart : (x : ℕ) (s : Slot) → is_ask s ≡ false → asks_as x s ≡ false
asks_apart x s e = ap (λ c. c && nat_eq (source s) x) e

asks_here : (x : ℕ) (s : Slot) → is_ask s ≡ true → asks_as x s ≡ nat_eq (source s) x
asks_here x s e = ap (λ c. c && nat_eq (source s) x) e

nat_eq_comm : (a b : ℕ) → nat_eq a b ≡ nat_eq b a
nat_eq_comm a b = go (nat_eq a b) refl
  where
    go : (c : Bool) → nat_eq a b ≡ c → c ≡ nat_eq b a
    go true e = sym (same_true b a (sym (eqb-true a b e)))
    go false e = sym (differ_false b a (λ q. eqb-false a b e (sym q)))

-- what a session was given, and what it spent, with one more slot

pub credits_stay : (r : ℕ) (os : List Owned) (o : Owned) → o.session ≢ r → credits (of_session r (os ++ o ∷ [])) ≡ credits (of_session r os)
credits_stay r os o n =
    credits_push r os o ∙ ap (λ c. credits (of_session r os) + cond c (credits_of o.slot) 0) (differ_false o.session r n) ∙ omega arith

pub credits_come : (r : ℕ) (os : List Owned) (o : Owned) → o.session ≡ r → credits (of_session r (os ++ o ∷ [])) ≡ credits (of_session r os) + credits_of o.slot
credits_come r os o e = credits_push r os o ∙ ap (λ c. credits (of_session r os) + cond c (credits_of o.slot) 0) (same_true o.session r e)

pub costs_stay : (r : ℕ) (os : List Owned) (o : Owned) → o.session ≢ r → costs (of_session r (os ++ o ∷ [])) ≡ costs (of_session r os)
costs_stay r os o n =
    costs_push r os o ∙ ap (λ c. costs (of_session r os) + cond c (cost_of o.slot) 0) (differ_false o.session r n) ∙ omega arith

pub costs_come : (r : ℕ) (os : List Owned) (o : Owned) → o.session ≡ r → costs (of_session r (os ++ o ∷ [])) ≡ costs (of_session r os) + cost_of o.slot
costs_come r os o e = costs_push r os o ∙ ap (λ c. costs (of_session r os) + cond c (cost_of o.slot) 0) (same_true o.session r e)

-- an account with more credits, or of a session at another time

pub given_more : (a : Account) (r : ℕ) (gives more spends : ℕ → ℕ) → AccountOf a r gives spends → (r ≢ 0 → more r ≡ gives r) → AccountOf a r more spends
given_more a r gives more spends h e = record { session = h.session; given = λ n. h.given n ∙ sym (e n); spent = h.spent }

pub spent_more : (a : Account) (r : ℕ) (gives spends more : ℕ → ℕ) → AccountOf a r gives spends → (r ≢ 0 → more r ≡ spends r) → AccountOf a r gives more
spent_more a r gives spends more h e = record { session = h.session; given = h.given; spent = λ n. h.spent n ∙ sym (e n) }

-- a slot of the master is acknowledged

at_most : (x y m : ℕ) → x ≡ y → y ≤ m → min x m ≡ y
at_most x y m e l = omega arith

pub credited_is : (a : Account) (o : Owned) (r : ℕ) (gives more spends : ℕ → ℕ) → AccountOf a r gives spends → (o.session ≡ r → more r ≡ gives r + credits_of o.slot) → (o.session ≢ r → more r ≡ gives r)
    → more r ≤ greatest → AccountOf (credited a (owned_slot_of o)) r more spends
credited_is a o r gives more spends h same other fits = go (nat_eq o.session a.session) refl
  where
    go : (c : Bool) → nat_eq o.session a.session ≡ c → AccountOf (cond c (record a { given = min (a.given + credits_of o.slot) greatest }) a) r more spends
    go true e =
        let q : o.session ≡ r = eqb-true o.session a.session e ∙ h.session in
        record { session = h.session; given = λ n. at_most (a.given + credits_of o.slot) (more r) greatest (ap (λ g. g + credits_of o.slot) (h.given n) ∙ sym (same q)) fits; spent = h.spent }
    go false e = given_more a r gives more spends h (λ n. other (λ q. eqb-false o.session a.session e (q ∙ sym h.session)))

pub holds_slave_takes : (b : Both) (F TM : List Slot) (MO TS : List Owned) (s : Sums) (o : Owned) → Holds b F TM MO TS s → Under destination TM o → AskIsNone o
    → ((r : ℕ) → ask_credits b r + credits (of_session r (TS ++ o ∷ [])) ≤ greatest) → Holds b F TM MO (TS ++ o ∷ []) (slave_takes s (owned_slot_of o))
holds_slave_takes b F TM MO TS s o h u none fits = go (is_ask o.slot) refl
  where
    d : ℕ
    d = destination o.slot

    gives : ℕ → ℕ
    gives r = ask_credits b r + credits (of_session r TS)

    more : ℕ → ℕ
    more r = ask_credits b r + credits (of_session r (TS ++ o ∷ []))

    spends : ℕ → ℕ
    spends r = costs (of_session r (slave_owned b [] F))

    stay : (y : ℕ) → o.session ≢ session_under b y F → AccountOf (s.slave y) (session_under b y F) more spends
    stay y n = given_more (s.slave y) (session_under b y F) gives more spends (h.slave y) (λ m. ap (λ z. ask_credits b (session_under b y F) + z) (credits_stay (session_under b y F) TS o n))

    go : (c : Bool) → is_ask o.slot ≡ c → Holds b F TM MO (TS ++ o ∷ []) (cond c (record s { asked = updated s.asked (source o.slot) (Some (credits_of o.slot)) }) (record s { slave = updated s.slave d (credited (s.slave d) (owned_slot_of o)) }))
    go true e = record {
      asked = λ x. ap₂ (λ c z. cond c (Some (credits_of o.slot)) z) (nat_eq_comm x (source o.slot) ∙ sym (asks_here x o.slot e)) (h.asked x) ∙ sym (push_ask x TS o);
      slave = λ y. given_more (s.slave y) (session_under b y F) gives more spends (h.slave y)
          (λ n. ap (λ z. ask_credits b (session_under b y F) + z) (credits_stay (session_under b y F) TS o (λ q. n (sym q ∙ none e))));
      master = h.master;
      sent = h.sent;
      taken = each_push (Under destination TM) TS o h.taken u;
      first = h.first;
    }
    go false e = record {
      asked = λ x. h.asked x ∙ sym (push_ask x TS o ∙ ap (λ c. cond c (Some (credits_of o.slot)) (last_ask x TS)) (asks_apart x o.slot e));
      slave = λ y. at y (nat_eq y d) refl;
      master = h.master;
      sent = h.sent;
      taken = each_push (Under destination TM) TS o h.taken u;
      first = h.first;
    }
      where
        here : AccountOf (credited (s.slave d) (owned_slot_of o)) (session_under b d F) more spends
        here = credited_is (s.slave d) o (session_under b d F) gives more spends (h.slave d)
            (λ q. ap (λ z. ask_credits b (session_under b d F) + z) (credits_come (session_under b d F) TS o q) ∙ omega arith)
            (λ n. ap (λ z. ask_credits b (session_under b d F) + z) (credits_stay (session_under b d F) TS o n)) (fits (session_under b d F))

        at : (y : ℕ) (c : Bool) → nat_eq y d ≡ c → AccountOf (cond c (credited (s.slave d) (owned_slot_of o)) (s.slave y)) (session_under b y F) more spends
        at y true q = subst (λ z. AccountOf (credited (s.slave d) (owned_slot_of o)) (session_under b z F) more spends) (sym (eqb-true y d q)) here
        at y false q = by (nat_eq (session_under b y F) 0) refl
          where
            by : (c : Bool) → nat_eq (session_under b y F) 0 ≡ c → AccountOf (s.slave y) (session_under b y F) more spends
            by true z =
                let r : session_under b y F ≡ 0 = eqb-true (session_under b y F) 0 z in
                record { session = (h.slave y).session; given = λ n. absurd (n r); spent = (h.slave y).spent }
            by false z = stay y (other_session b F TM o y h.first u (eqb-false (session_under b y F) 0 z) (λ e. eqb-false y d q (sym e)))
