-- What is kept of sessions as an end forms slots.
use Rattle.std.proofs.Common.{◌≡◌, ◌≢◌, ℕ, suc, ◌+◌, ◌<◌, ◌≤◌, sym, ap, ap₂, ◌∙◌, refl, arith, subst, Bool, true, false, not, cond, ◌&&◌, ◌||◌, List, [], ◌∷◌, ◌++◌, length, nat_eq, nat_le, append_assoc, length-append, eqb-true}
use Rattle.std.specs.Prelude.{Option, Some, None, option_map}
use Rattle.std.proofs.lemmas.Bool.{eqb-false, false≢true}
use Rattle.lat_model.specs.Lists.{updated, IsPrefixOf}
use Rattle.lat_model.specs.sessions.Slots.{Slot, Start, DataA, DataB, Attention, Reject, Stop, destination, source, cost_of, credits, costs, is_ask}
use Rattle.lat_captures.specs.Seen.{Both}
use Rattle.lat_captures.specs.Belonging.{word_at, session_at, slave_session, Owned, of_session, slave_owned, ask_credits}
use Rattle.lat_captures.specs.declared.accounts.Account.{Account}
use Rattle.lat_captures.specs.declared.slot.OwnedSlot.{OwnedSlot}
use Rattle.lat_captures.specs.Facts.{is_reply, facts_of, owned_slot_of}
use Rattle.lat_captures.specs.Sums.{Sums, pays, opening, slave_account, slave_forms, master_forms}
use Rattle.lat_captures.specs.Stands.{Under, session_under, AccountOf, Holds}
use Rattle.lat_captures.proofs.Holding.{none_yet, each_push, slave_under, session_word, session_within, session_is, same_true, costs_stay, costs_come, spent_more}
use Rattle.lat_captures.proofs.Takings.{reply_here, same_under, no_reply, other_source, owned_push, apart}

-- whether a slot of this session is covered, behind others
abbrev pub covered : (ℕ → ℕ) → List Owned → Owned → Bool
covered gives os o = nat_eq (cost_of o.slot) 0 || (not (nat_eq o.session 0) && nat_le (costs (of_session o.session (os ++ o ∷ []))) (gives o.session))

-- an account pays where the slot is covered, and stands for the slots with this one then
abbrev pub PaysAs : Option Account → ℕ → (ℕ → ℕ) → List Owned → Slot → Type 0
PaysAs None r gives os x = covered gives os (record { session = r; slot = x }) ≡ false
PaysAs (Some a) r gives os x =
    (covered gives os (record { session = r; slot = x }) ≡ true)
    × AccountOf a r gives (λ q. costs (of_session q (os ++ record { session = r; slot = x } ∷ [])))

pub pays_as : (a : Account) (r : ℕ) (gives : ℕ → ℕ) (os : List Owned) (x : Slot) → AccountOf a r gives (λ q. costs (of_session q os)) → PaysAs (pays a (cost_of x)) r gives os x
pays_as a r gives os x h = go (nat_eq (cost_of x) 0) refl
  where
    o : Owned
    o = record { session = r; slot = x }

    spends : ℕ → ℕ
    spends q = costs (of_session q (os ++ o ∷ []))

    spent : r ≢ 0 → spends r ≡ a.spent + cost_of x
    spent n = costs_come r os o refl ∙ ap (λ z. z + cost_of x) (sym (h.spent n))

    is : (c : Bool) → nat_eq (cost_of x) 0 ≡ c → covered gives os o ≡ (c || (not (nat_eq r 0) && nat_le (spends r) (gives r)))
    is c e = ap (λ z. z || (not (nat_eq r 0) && nat_le (spends r) (gives r))) e

    same : (not (nat_eq r 0) && nat_le (spends r) (gives r)) ≡ (not (nat_eq a.session 0) && nat_le (a.spent + cost_of x) a.given)
    same = at (nat_eq r 0) refl
      where
        at : (c : Bool) → nat_eq r 0 ≡ c → (not (nat_eq r 0) && nat_le (spends r) (gives r)) ≡ (not (nat_eq a.session 0) && nat_le (a.spent + cost_of x) a.given)
        at true z = ap (λ c. not c && nat_le (spends r) (gives r)) z ∙ sym (ap (λ c. not c && nat_le (a.spent + cost_of x) a.given) (ap (λ c. nat_eq c 0) h.session ∙ z))
        at false z =
            let n : r ≢ 0 = eqb-false r 0 z in
            ap (λ c. not (nat_eq r 0) && c) (ap₂ nat_le (spent n) (sym (h.given n))) ∙ ap (λ c. not (nat_eq c 0) && nat_le (a.spent + cost_of x) a.given) (sym h.session)

    go : (c : Bool) → nat_eq (cost_of x) 0 ≡ c
        → PaysAs (cond c (Some a) (cond (not (nat_eq a.session 0) && nat_le (a.spent + cost_of x) a.given) (Some (record a { spent = a.spent + cost_of x })) None)) r gives os x
    go true e =
        let z : cost_of x ≡ 0 = eqb-true (cost_of x) 0 e in
        (is true e, spent_more a r gives (λ q. costs (of_session q os)) spends h (λ n. spent n ∙ omega (arith, z, h.spent n)))
    go false e = at (not (nat_eq a.session 0) && nat_le (a.spent + cost_of x) a.given) refl
      where
        at : (c : Bool) → (not (nat_eq a.session 0) && nat_le (a.spent + cost_of x) a.given) ≡ c → PaysAs (cond c (Some (record a { spent = a.spent + cost_of x })) None) r gives os x
        at true q = (is false e ∙ same ∙ q, record { session = h.session; given = h.given; spent = λ n. sym (spent n) })
        at false q = is false e ∙ same ∙ q

-- the slave

-- a reply's ask is known where its session is opened by it
pub record Opens (b : Both) (place : ℕ) (a : Account) : Type 0 where
  pub session : a.session ≡ session_at b place
  pub given : session_at b place ≢ 0 → a.given ≡ ask_credits b (session_at b place)
  pub spent : session_at b place ≢ 0 → a.spent ≡ 0

-- a slot is formed where it is covered, with its session
abbrev pub SlaveFormsAs : Both → List Slot → List Slot → List Owned → List Owned → Slot → Option (Sums × OwnedSlot) → Type 0
SlaveFormsAs b F TM MO TS x None = covered (λ r. ask_credits b r + credits (of_session r TS)) (slave_owned b [] F) (record { session = slave_session b F x; slot = x }) ≡ false
SlaveFormsAs b F TM MO TS x (Some r) =
    (covered (λ r. ask_credits b r + credits (of_session r TS)) (slave_owned b [] F) (record { session = slave_session b F x; slot = x }) ≡ true)
    × (r.1 ≡ owned_slot_of (record { session = slave_session b F x; slot = x })) × Holds b (F ++ x ∷ []) TM MO TS r.0

prefix_more : (TM F : List Slot) (x : Slot) → IsPrefixOf TM F → IsPrefixOf TM (F ++ x ∷ [])
prefix_more TM F x p = (p.0 ++ x ∷ [], sym (append_assoc TM p.0 (x ∷ [])) ∙ ap (λ z. z ++ x ∷ []) p.1)

pub prefix_short : (TM F : List Slot) → IsPrefixOf TM F → length TM ≤ length F
prefix_short TM F p = omega (arith, ap length p.1, length-append TM p.0)

pub holds_slave_forms : (b : Both) (F TM : List Slot) (MO TS : List Owned) (s : Sums) (x : Slot) → Holds b F TM MO TS s
    → (is_reply x ≡ true → Opens b (suc (length F)) (opening (suc (length F)) (s.asked (destination x)))) → SlaveFormsAs b F TM MO TS x (slave_forms (suc (length F)) s (facts_of x))
holds_slave_forms b F TM MO TS s x h opens = by (pays a (cost_of x)) (pays_as a o.session gives (slave_owned b [] F) x (first (is_reply x) refl))
  where
    o : Owned
    o = record { session = slave_session b F x; slot = x }

    d : ℕ
    d = source x

    a : Account
    a = slave_account (suc (length F)) s (facts_of x)

    gives : ℕ → ℕ
    gives r = ask_credits b r + credits (of_session r TS)

    spends : ℕ → ℕ
    spends r = costs (of_session r (slave_owned b [] F))

    more : ℕ → ℕ
    more r = costs (of_session r (slave_owned b [] (F ++ x ∷ [])))

    first : (c : Bool) → is_reply x ≡ c → AccountOf (cond c (opening (suc (length F)) (s.asked (destination x))) (s.slave d)) o.session gives spends
    first true e =
        let q : o.session ≡ session_at b (suc (length F)) = reply_here b F x e in
        let w = opens e in
        record {
          session = w.session ∙ sym q;
          given = λ n. w.given (λ z. n (q ∙ z)) ∙ ap (ask_credits b) (sym q) ∙ sym (ap (λ z. ask_credits b o.session + credits z) (none_yet destination TM o.session TS h.taken (late q n)) ∙ omega arith);
          spent = λ n. w.spent (λ z. n (q ∙ z)) ∙ sym (ap costs (none_yet source F o.session (slave_owned b [] F) (slave_under b [] F) (here q n)));
        }
      where
        here : o.session ≡ session_at b (suc (length F)) → o.session ≢ 0 → length F < o.session
        here q n = let k : session_at b (suc (length F)) ≡ suc (length F) = session_is b (suc (length F)) (λ z. n (q ∙ z)) in omega (arith, q, k)

        late : o.session ≡ session_at b (suc (length F)) → o.session ≢ 0 → length TM < o.session
        late q n = omega (arith, here q n, prefix_short TM F h.first)
    first false e = subst (λ r. AccountOf (s.slave d) r gives spends) (sym (same_under b F x d (no_reply x d e))) (h.slave d)

    push : (r : ℕ) → costs (of_session r (slave_owned b [] F ++ o ∷ [])) ≡ more r
    push r = sym (ap (λ z. costs (of_session r z)) (owned_push b F x))

    other : (y : ℕ) → d ≢ y → AccountOf (s.slave y) (session_under b y (F ++ x ∷ [])) gives more
    other y n =
        let old : AccountOf (s.slave y) (session_under b y (F ++ x ∷ [])) gives spends = subst (λ r. AccountOf (s.slave y) r gives spends) (sym (same_under b F x y (other_source x y n))) (h.slave y) in
        spent_more (s.slave y) (session_under b y (F ++ x ∷ [])) gives spends more old
        (λ m. sym (push (session_under b y (F ++ x ∷ []))) ∙ costs_stay (session_under b y (F ++ x ∷ [])) (slave_owned b [] F) o (apart b F x y n m))

    by : (p : Option Account) → PaysAs p o.session gives (slave_owned b [] F) x → SlaveFormsAs b F TM MO TS x (option_map (λ a. (record s { slave = updated s.slave d a }, record { session = a.session; slot = facts_of x })) p)
    by None w = w
    by (Some a) w = (
      w.0,
      ap (λ r. record { session = r; slot = facts_of x }) w.1.session,
      record {
        asked = h.asked;
        slave = λ y. at y (nat_eq y d) refl;
        master = h.master;
        sent = h.sent;
        taken = h.taken;
        first = prefix_more TM F x h.first;
      },
    )
      where
        here : AccountOf a o.session gives more
        here = spent_more a o.session gives (λ q. costs (of_session q (slave_owned b [] F ++ o ∷ []))) more w.1 (λ n. sym (push o.session))

        at : (y : ℕ) (c : Bool) → nat_eq y d ≡ c → AccountOf (cond c a (s.slave y)) (session_under b y (F ++ x ∷ [])) gives more
        at y true q = subst (λ z. AccountOf a (session_under b z (F ++ x ∷ [])) gives more) (sym (eqb-true y d q)) here
        at y false q = other y (λ e. eqb-false y d q (sym e))

-- the master

abbrev pub sent_as : Both → List Slot → Slot → Owned
sent_as b TM x = record { session = cond (is_ask x) 0 (session_under b (destination x) TM); slot = x }

abbrev pub MasterFormsAs : Both → List Slot → List Slot → List Owned → List Owned → Slot → Option (Sums × OwnedSlot) → Type 0
MasterFormsAs b F TM MO TS x None = covered (λ r. credits (of_session r (slave_owned b [] TM))) MO (sent_as b TM x) ≡ false
MasterFormsAs b F TM MO TS x (Some r) =
    (covered (λ r. credits (of_session r (slave_owned b [] TM))) MO (sent_as b TM x) ≡ true)
    × (r.1 ≡ owned_slot_of (sent_as b TM x)) × Holds b F TM (MO ++ sent_as b TM x ∷ []) TS r.0

asks_cost : (x : Slot) → is_ask x ≡ true → cost_of x ≡ 0
asks_cost (Start to from c size service request) e = refl
asks_cost (DataA to from c bytes) e = absurd (false≢true e)
asks_cost (DataB to from c setting) e = absurd (false≢true e)
asks_cost (Attention to from flag) e = absurd (false≢true e)
asks_cost (Reject to from reason) e = absurd (false≢true e)
asks_cost (Stop to from reason) e = absurd (false≢true e)

pub holds_master_forms : (b : Both) (F TM : List Slot) (MO TS : List Owned) (s : Sums) (x : Slot) → Holds b F TM MO TS s → MasterFormsAs b F TM MO TS x (master_forms s (facts_of x))
holds_master_forms b F TM MO TS s x h = by (pays (s.master d) (cost_of x)) (pays_as (s.master d) r gives MO x (h.master d))
  where
    d : ℕ
    d = destination x

    r : ℕ
    r = session_under b d TM

    o : Owned
    o = sent_as b TM x

    gives : ℕ → ℕ
    gives r = credits (of_session r (slave_owned b [] TM))

    spends : ℕ → ℕ
    spends r = costs (of_session r MO)

    more : ℕ → ℕ
    more r = costs (of_session r (MO ++ o ∷ []))

    -- an ask costs nothing, whatever its session
    same : (c : Bool) → is_ask x ≡ c → covered gives MO (record { session = r; slot = x }) ≡ covered gives MO (record { session = cond c 0 r; slot = x })
    same true e =
        let z : nat_eq (cost_of x) 0 ≡ true = same_true (cost_of x) 0 (asks_cost x e) in
        ap (λ c. c || (not (nat_eq r 0) && nat_le (costs (of_session r (MO ++ record { session = r; slot = x } ∷ []))) (gives r))) z
        ∙ sym (ap (λ c. c || (not (nat_eq 0 0) && nat_le (costs (of_session 0 (MO ++ record { session = 0; slot = x } ∷ []))) (gives 0))) z)
    same false e = refl

    paid : (c : Bool) → is_ask x ≡ c → r ≢ 0 → costs (of_session r (MO ++ record { session = cond c 0 r; slot = x } ∷ [])) ≡ costs (of_session r (MO ++ record { session = r; slot = x } ∷ []))
    paid true e n =
        costs_stay r MO (record { session = 0; slot = x }) (λ z. n (sym z))
        ∙ sym (costs_come r MO (record { session = r; slot = x }) refl ∙ ap (λ z. costs (of_session r MO) + z) (asks_cost x e) ∙ omega arith)
    paid false e n = refl

    under : (c : Bool) → Under destination TM (record { session = cond c 0 r; slot = x })
    under true = record { bound = omega arith; word = λ n. absurd (n refl) }
    under false = record { bound = session_within b d TM; word = session_word b d TM }

    away : (y : ℕ) → y ≢ d → session_under b y TM ≢ 0 → o.session ≢ session_under b y TM
    away y n m e = n (sym (session_word b y TM m) ∙ ap (word_at source TM) (sym e) ∙ (under (is_ask x)).word (λ z. m (sym e ∙ z)))

    other : (y : ℕ) → y ≢ d → AccountOf (s.master y) (session_under b y TM) gives more
    other y n = spent_more (s.master y) (session_under b y TM) gives spends more (h.master y) (λ m. costs_stay (session_under b y TM) MO o (away y n m))

    by : (p : Option Account) → PaysAs p r gives MO x
        → MasterFormsAs b F TM MO TS x (option_map (λ a. (record s { master = updated s.master d a }, record { session = cond (is_ask x) 0 a.session; slot = facts_of x })) p)
    by None w = sym (same (is_ask x) refl) ∙ w
    by (Some a) w = (
      sym (same (is_ask x) refl) ∙ w.0,
      ap (λ z. record { session = cond (is_ask x) 0 z; slot = facts_of x }) w.1.session,
      record {
        asked = h.asked;
        slave = h.slave;
        master = λ y. at y (nat_eq y d) refl;
        sent = each_push (Under destination TM) MO o h.sent (under (is_ask x));
        taken = h.taken;
        first = h.first;
      },
    )
      where
        here : AccountOf a r gives more
        here = spent_more a r gives (λ q. costs (of_session q (MO ++ record { session = r; slot = x } ∷ []))) more w.1 (paid (is_ask x) refl)

        at : (y : ℕ) (c : Bool) → nat_eq y d ≡ c → AccountOf (cond c a (s.master y)) (session_under b y TM) gives more
        at y true q = subst (λ z. AccountOf a (session_under b z TM) gives more) (sym (eqb-true y d q)) here
        at y false q = other y (eqb-false y d q)
