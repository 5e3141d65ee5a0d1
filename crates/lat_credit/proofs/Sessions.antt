-- The account of a session of the model: its words are the session's, and it follows the slots that the session forms and
-- hears.
use Rattle.std.proofs.Common.{◌≡◌, ℕ, zero, suc, ◌+◌, ◌-◌, ◌≤◌, ap, ◌∙◌, refl, arith, Bool, true, false, cond, List, [], ◌∷◌, ◌++◌, length, map, nat_lt, nat_le, length-append}
use Rattle.std.proofs.lemmas.Bool.{lt-ltb}
use Rattle.lat_model.specs.sessions.Slots.{Byte, Slot, Start, DataA, DataB, Attention, Reject, Stop, items_of, items, credits_of, cost_of, credits, costs}
use Rattle.lat_model.specs.sessions.Session.{Session, held_from, held_slots}
use Rattle.lat_model.specs.sessions.Session as session
use Rattle.lat_model.specs.sessions.Packing.{formed}
use Rattle.lat_model.specs.sessions.Hearing.{heard}
use Rattle.lat_model.proofs.sessions.Words.{credits-append, costs-append}
use Rattle.lat_credit.specs.Account.{Kept, Holds, Account, Keeps, due, none}
use Rattle.lat_credit.specs.Sessions.{account_of, with_formed, with_heard}

pub due_is : (ceiling : ℕ) (s : Session) → session.due ceiling s ≡ due ceiling (account_of s)
due_is ceiling s = refl

abbrev account : ℕ → ℕ → ℕ → ℕ → ℕ → Account
account given granted used heard held = record { given = given; granted = granted; used = used; heard = heard; held = held }

same : (a b c d e p q r s t : ℕ) → a ≡ p → b ≡ q → c ≡ r → d ≡ s → e ≡ t → account a b c d e ≡ account p q r s t
same a b c d e p q r s t i j k l m =
    ap (λ z. account z b c d e) i ∙ ap (λ z. account p z c d e) j ∙ ap (λ z. account p q z d e) k
    ∙ ap (λ z. account p q r z e) l ∙ ap (λ z. account p q r s z) m

-- a session that has neither formed nor heard a slot
pub none_is : (s : Session) → s.out ≡ [] → s.came ≡ [] → account_of s ≡ none
none_is s o c = same _ _ _ _ _ 0 0 0 0 0 (ap credits o) (ap credits c) (ap costs o) (ap costs c) (ap (λ xs. cond s.closed 0 (held_from s.taken xs)) c ∙ go s.closed)
  where
    go : (b : Bool) → cond b 0 (held_from s.taken []) ≡ held_from s.taken []
    go true = refl
    go false = refl

-- after a slot that the session forms
pub formed_is : (s : Session) (x : Slot) → account_of (formed s x) ≡ with_formed (account_of s) x
formed_is s x =
    let k : costs (s.out ++ x ∷ []) ≡ costs s.out + (cost_of x + 0) = costs-append s.out (x ∷ []) in
    let l : credits (s.out ++ x ∷ []) ≡ credits s.out + (credits_of x + 0) = credits-append s.out (x ∷ []) in
    same _ _ _ _ _ (credits s.out + credits_of x) (credits s.came) (costs s.out + cost_of x) (costs s.came) (held_slots s) (omega arith) refl (omega arith) refl refl

positive : (n : ℕ) → cond (nat_lt 0 (suc n)) 1 0 + 0 ≡ suc 0
positive n = ap {B = ℕ} (λ b. cond b 1 0 + 0) (lt-ltb 0 (suc n) (omega arith))

-- none of a slot's items is taken, so it is held exactly where it has one
held_new : (x : Slot) → cond (nat_lt 0 (length (items_of x))) 1 0 + 0 ≡ cost_of x
held_new (Start to from c size service request) = refl
held_new (DataA to from c []) = refl
held_new (DataA to from c (b ∷ bs)) = positive (length (map Byte bs))
held_new (DataB to from c setting) = refl
held_new (Attention to from flag) = refl
held_new (Reject to from reason) = refl
held_new (Stop to from reason) = refl

held_behind : (n : ℕ) (xs : List Slot) (x : Slot) → n ≤ length (items xs) → held_from n (xs ++ x ∷ []) ≡ held_from n xs + cost_of x
held_behind zero [] x h = omega (arith, held_new x)
held_behind (suc n) [] x h = absurd (omega (arith, h))
held_behind n (y ∷ ys) x h =
    let l : length (items_of y ++ items ys) ≡ length (items_of y) + length (items ys) = length-append (items_of y) (items ys) in
    omega (arith, held_behind (n - length (items_of y)) ys x (omega (arith, h)))

-- after a slot that the session hears
pub heard_is : (s : Session) (x : Slot) → s.taken ≤ length (items s.came) → account_of (heard s x) ≡ with_heard (account_of s) s.closed x
heard_is s x h =
    let k : costs (s.came ++ x ∷ []) ≡ costs s.came + (cost_of x + 0) = costs-append s.came (x ∷ []) in
    let l : credits (s.came ++ x ∷ []) ≡ credits s.came + (credits_of x + 0) = credits-append s.came (x ∷ []) in
    same _ _ _ _ _ (credits s.out) (credits s.came + credits_of x) (costs s.out) (costs s.came + cost_of x) (held_slots s + cond s.closed 0 (cost_of x)) refl (omega arith) refl (omega arith) (go s.closed)
  where
    go : (b : Bool) → cond b 0 (held_from s.taken (s.came ++ x ∷ [])) ≡ cond b 0 (held_from s.taken s.came) + cond b 0 (cost_of x)
    go true = refl
    go false = held_behind s.taken s.came x h

-- a slot that costs a credit may be heard exactly where one is outstanding
pub one_more : (n m : ℕ) → nat_le (n + 1) m ≡ nat_lt n m
one_more n m =
    let e : n + 1 ≡ suc n = omega arith in
    ap (λ z. nat_le z m) e

-- what the counters say of the session
pub spends : (k : Kept) (s : Session) → Keeps k (account_of s) → costs s.out ≤ credits s.came
spends k s h = omega (arith, h.unused)

pub spent : (k : Kept) (s : Session) → Keeps k (account_of s) → costs s.came ≤ credits s.out
spent k s h = omega (arith, h.outstanding)

pub gives : (k : Kept) (s : Session) → Holds k.ceiling k.outstanding k.held → Keeps k (account_of s) → credits s.out + held_slots s ≤ k.ceiling + costs s.came
gives k s i h = omega (arith, h.outstanding, h.slots, i.within)
