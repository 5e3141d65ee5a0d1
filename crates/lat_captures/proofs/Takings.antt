-- What is kept of sessions as the master acknowledges slots of the slave.
use Rattle.std.proofs.Common.{◌≡◌, ◌≢◌, ℕ, suc, ◌+◌, ◌<◌, ◌≤◌, sym, ap, ◌∙◌, refl, arith, subst, Bool, true, false, not, cond, ◌&&◌, List, [], ◌∷◌, ◌++◌, length, nat_eq, eqb-true}
use Rattle.std.proofs.lemmas.Bool.{eqb-false}
use Rattle.lat_model.specs.Lists.{IsPrefixOf}
use Rattle.lat_model.specs.sessions.Slots.{Slot, destination, source, credits_of, credits, costs, is_start, is_ask}
use Rattle.lat_captures.specs.Seen.{Both}
use Rattle.lat_captures.specs.Belonging.{last_place, word_at, replies_as, session_at, slave_session, Owned, of_session, slave_owned}
use Rattle.lat_captures.specs.declared.accounts.Account.{Account}
use Rattle.lat_captures.specs.Facts.{is_reply, owned_slot_of}
use Rattle.lat_captures.specs.Sums.{greatest, Sums, credited, taken_account, master_takes}
use Rattle.lat_captures.proofs.Growing.{slave_owned-append}
use Rattle.lat_captures.proofs.Summing.{push_place}
use Rattle.lat_captures.specs.Stands.{session_under, AccountOf, Holds}
use Rattle.lat_captures.proofs.Holding.{each_under_more, none_yet, slave_under, session_word, session_is, same_true, differ_false, credits_stay, credits_come, credited_is, given_more}

-- the session under a source with one more slot
pub reply_here : (b : Both) (F : List Slot) (x : Slot) → is_reply x ≡ true → session_under b (source x) (F ++ x ∷ []) ≡ session_at b (suc (length F))
reply_here b F x e =
    let p : replies_as (source x) x ≡ true = ap (λ c. c && nat_eq (source x) (source x)) e ∙ same_true (source x) (source x) refl in
    ap (session_at b) (push_place (replies_as (source x)) F x ∙ ap (λ c. cond c (suc (length F)) (last_place (replies_as (source x)) F)) p)

pub same_under : (b : Both) (F : List Slot) (x : Slot) (y : ℕ) → replies_as y x ≡ false → session_under b y (F ++ x ∷ []) ≡ session_under b y F
same_under b F x y e = ap (session_at b) (push_place (replies_as y) F x ∙ ap (λ c. cond c (suc (length F)) (last_place (replies_as y) F)) e)

pub no_reply : (x : Slot) (y : ℕ) → is_reply x ≡ false → replies_as y x ≡ false
no_reply x y e = ap (λ c. c && nat_eq (source x) y) e

pub other_source : (x : Slot) (y : ℕ) → source x ≢ y → replies_as y x ≡ false
other_source x y n = go (is_start x && not (is_ask x)) ∙ refl
  where
    go : (c : Bool) → (c && nat_eq (source x) y) ≡ false
    go true = differ_false (source x) y n
    go false = refl

-- the slots of the slave with their sessions, and one more
pub owned_push : (b : Both) (F : List Slot) (x : Slot) → slave_owned b [] (F ++ x ∷ []) ≡ slave_owned b [] F ++ record { session = slave_session b F x; slot = x } ∷ []
owned_push b F x = slave_owned-append b [] F (x ∷ [])

-- a slot under another source is of another session
pub apart : (b : Both) (F : List Slot) (x : Slot) (y : ℕ) → source x ≢ y → session_under b y (F ++ x ∷ []) ≢ 0 → slave_session b F x ≢ session_under b y (F ++ x ∷ [])
apart b F x y n m e =
    n (sym (session_word b (source x) (F ++ x ∷ []) (λ z. m (sym e ∙ z))) ∙ ap (word_at source (F ++ x ∷ [])) e ∙ session_word b y (F ++ x ∷ []) m)

-- cases of a session that may be none
pub where_some : (a : Account) (r : ℕ) (gives spends more costs : ℕ → ℕ) → AccountOf a r gives spends → (r ≢ 0 → AccountOf a r more costs) → AccountOf a r more costs
where_some a r gives spends more costs h f = go (nat_eq r 0) refl
  where
    go : (c : Bool) → nat_eq r 0 ≡ c → AccountOf a r more costs
    go true e = let z : r ≡ 0 = eqb-true r 0 e in record { session = h.session; given = λ n. absurd (n z); spent = λ n. absurd (n z) }
    go false e = f (eqb-false r 0 e)

pub holds_master_takes : (b : Both) (F TM : List Slot) (MO TS : List Owned) (s : Sums) (x : Slot) → Holds b F TM MO TS s → IsPrefixOf (TM ++ x ∷ []) F
    → ((r : ℕ) → credits (of_session r (slave_owned b [] (TM ++ x ∷ []))) ≤ greatest)
    → Holds b F (TM ++ x ∷ []) MO TS (master_takes s (owned_slot_of (record { session = slave_session b TM x; slot = x })))
holds_master_takes b F TM MO TS s x h p fits = record {
  asked = h.asked;
  slave = h.slave;
  master = λ y. at y (nat_eq y d) refl;
  sent = each_under_more destination TM (x ∷ []) MO h.sent;
  taken = each_under_more destination TM (x ∷ []) TS h.taken;
  first = p;
}
  where
    o : Owned
    o = record { session = slave_session b TM x; slot = x }

    d : ℕ
    d = source x

    gives : ℕ → ℕ
    gives r = credits (of_session r (slave_owned b [] TM))

    more : ℕ → ℕ
    more r = credits (of_session r (slave_owned b [] (TM ++ x ∷ [])))

    spends : ℕ → ℕ
    spends r = costs (of_session r MO)

    stays : (r : ℕ) → o.session ≢ r → more r ≡ gives r
    stays r n = ap (λ z. credits (of_session r z)) (owned_push b TM x) ∙ credits_stay r (slave_owned b [] TM) o n

    comes : (r : ℕ) → o.session ≡ r → more r ≡ gives r + credits_of x
    comes r e = ap (λ z. credits (of_session r z)) (owned_push b TM x) ∙ credits_come r (slave_owned b [] TM) o e

    other : (y : ℕ) → d ≢ y → AccountOf (s.master y) (session_under b y (TM ++ x ∷ [])) more spends
    other y n =
        let old : AccountOf (s.master y) (session_under b y (TM ++ x ∷ [])) gives spends = subst (λ r. AccountOf (s.master y) r gives spends) (sym (same_under b TM x y (other_source x y n))) (h.master y) in
        given_more (s.master y) (session_under b y (TM ++ x ∷ [])) gives more spends old (λ m. stays (session_under b y (TM ++ x ∷ [])) (apart b TM x y n m))

    opens : is_reply x ≡ true → AccountOf (record { session = o.session; given = credits_of x; spent = 0 }) o.session more spends
    opens e = record { session = refl; given = λ n. given n; spent = λ n. spent n }
      where
        here : o.session ≢ 0 → length TM < o.session
        here n = let q : o.session ≡ suc (length TM) = session_is b _ n ∙ push_reply in omega (arith, q)
          where
            push_reply : last_place (replies_as d) (TM ++ x ∷ []) ≡ suc (length TM)
            push_reply = push_place (replies_as d) TM x ∙ ap (λ c. cond c (suc (length TM)) (last_place (replies_as d) TM)) (ap (λ c. c && nat_eq d d) e ∙ same_true d d refl)

        given : o.session ≢ 0 → credits_of x ≡ more o.session
        given n = sym (comes o.session refl ∙ ap (λ z. credits z + credits_of x) (none_yet source TM o.session (slave_owned b [] TM) (slave_under b [] TM) (here n)) ∙ omega arith)

        spent : o.session ≢ 0 → 0 ≡ spends o.session
        spent n = sym (ap costs (none_yet destination TM o.session MO h.sent (here n)))

    here : (c : Bool) → is_reply x ≡ c → AccountOf (cond c (record { session = o.session; given = credits_of x; spent = 0 }) (credited (s.master d) (owned_slot_of o))) o.session more spends
    here true e = opens e
    here false e =
        let q : session_under b d TM ≡ o.session = sym (same_under b TM x d (no_reply x d e)) in
        let old : AccountOf (s.master d) o.session gives spends = subst (λ r. AccountOf (s.master d) r gives spends) q (h.master d) in
        credited_is (s.master d) o o.session gives more spends old (λ r. comes o.session refl) (λ n. absurd (n refl)) (fits o.session)

    at : (y : ℕ) (c : Bool) → nat_eq y d ≡ c → AccountOf (cond c (taken_account (s.master d) (owned_slot_of o)) (s.master y)) (session_under b y (TM ++ x ∷ [])) more spends
    at y true q = subst (λ z. AccountOf (taken_account (s.master d) (owned_slot_of o)) (session_under b z (TM ++ x ∷ [])) more spends) (sym (eqb-true y d q)) (here (is_reply x) refl)
    at y false q = other y (λ e. eqb-false y d q (sym e))
