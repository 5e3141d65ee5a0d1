-- The sides of a direction follow the numbered messages of an end of the model: what they stand for after each step of the
-- end, and what an answer of an acknowledgement says of the tests that the model makes.
use Rattle.std.proofs.Common.{◌≡◌, ℕ, suc, ◌+◌, ◌-◌, ◌<◌, sym, ap, ◌∙◌, refl, subst, arith, Bool, true, false, cond, List, [], ◌∷◌, ◌++◌, length, nat_lt, length-append}
use Rattle.std.proofs.lemmas.Bool.{ltb-true}
use Rattle.lat_model.specs.numbers.Link.{Link, form_message, ack_in, take_message}
use Rattle.lat_seq.specs.declared.sending.AckFact.TheVariants.{New, Old, Unsent}
use Rattle.lat_seq.specs.Acks.{by_numbers, known_after}
use Rattle.lat_seq.specs.Sides.{Sending, Receiving, Sends, Takes}

one_more : {M : Type 0} (xs : List M) (m : M) → length (xs ++ m ∷ []) ≡ suc (length xs)
one_more xs m = length-append xs (m ∷ []) ∙ (omega arith)

-- after a message that the end forms
pub formed : {M : Type 0} (k : Sending) (l : Link M) (m : M) → Sends k (suc (length l.sent)) l.known → Sends k (length (form_message l m).sent) (form_message l m).known
formed k l m h = subst (λ n. Sends k n l.known) (sym (one_more l.sent m)) h

-- after a message that the end takes
pub taken : {M : Type 0} (k : Receiving) (l : Link M) (m : M) → Takes k (suc (length l.came)) → Takes k (length (take_message l m).came)
taken k l m h = subst (λ n. Takes k n) (sym (one_more l.came m)) h

-- after an acknowledgement of what was sent
pub known : {M : Type 0} (l : Link M) (a : ℕ) → nat_lt (length l.sent) a ≡ false → known_after l.known (by_numbers (length l.sent) l.known a) ≡ (ack_in l a).known
known l a p = ap (λ b. known_after l.known (cond b Unsent (cond (nat_lt l.known a) (New (a - l.known)) Old))) p ∙ go (nat_lt l.known a) refl
  where
    go : (b : Bool) → nat_lt l.known a ≡ b → known_after l.known (cond b (New (a - l.known)) Old) ≡ cond b a l.known
    go true e = omega (arith, ltb-true l.known a e)
    go false e = refl

-- what each answer says of the number

pub unsent : (s k a : ℕ) → by_numbers s k a ≡ Unsent → nat_lt s a ≡ true
unsent s k a = go (nat_lt s a) (nat_lt k a)
  where
    go : (b c : Bool) → cond b Unsent (cond c (New (a - k)) Old) ≡ Unsent → b ≡ true
    go true c h = refl
    go false true h = absurd (cc)
    go false false h = absurd (cc)

pub old : (s k a : ℕ) → by_numbers s k a ≡ Old → (nat_lt s a ≡ false) × (nat_lt k a ≡ false)
old s k a = go (nat_lt s a) (nat_lt k a)
  where
    go : (b c : Bool) → cond b Unsent (cond c (New (a - k)) Old) ≡ Old → (b ≡ false) × (c ≡ false)
    go true c h = absurd (cc)
    go false true h = absurd (cc)
    go false false h = (refl, refl)

pub new : (s k a d : ℕ) → by_numbers s k a ≡ New d → (nat_lt s a ≡ false) × (nat_lt k a ≡ true) × (k + d ≡ a)
new s k a d = go (nat_lt s a) (nat_lt k a) refl
  where
    sum : k < a → k + (a - k) ≡ k + d → k + d ≡ a
    sum l e = omega arith

    go : (b c : Bool) → nat_lt k a ≡ c → cond b Unsent (cond c (New (a - k)) Old) ≡ New d → (b ≡ false) × (c ≡ true) × (k + d ≡ a)
    go true c q h = absurd (cc)
    go false true q h = (refl, refl, sum (ltb-true k a q) (ap (known_after k) h))
    go false false q h = absurd (cc)
