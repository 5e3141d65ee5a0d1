-- Lists of slots, and sessions by their serial.
use Rattle.std.proofs.Common.{◌≡◌, ℕ, ◌+◌, sym, ap, ◌∙◌, refl, subst, arith, Bool, true, false, cond, ◌||◌, List, [], ◌∷◌, ◌++◌, nat_eq, append_assoc, eqb-true, eq-eqb, ne_eqb}
use Rattle.lat_model.specs.sessions.Slots.{Slot, is_stop, items_of, items, credits, costs, has_stop}
use Rattle.lat_model.specs.sessions.Session.{Session, blank}
use Rattle.lat_model.specs.sessions.Sessions.{Sessions}
use Rattle.lat_model.specs.sessions.Packing.{TaggedSlot}
use Rattle.lat_model.specs.Lists.{updated}
use Rattle.lat_model.specs.sessions.Joined.{slots_of, asks}

pub upd_same {ℓ} : {A : Type ℓ} (f : ℕ → A) (k : ℕ) (a : A) → updated f k a k ≡ a
upd_same f k a = ap (λ b. cond b a (f k)) (eq-eqb k k refl)

pub upd_other {ℓ} : {A : Type ℓ} (f : ℕ → A) (k : ℕ) (a : A) (j : ℕ) → (j ≡ k → ⊥) → updated f k a j ≡ f j
upd_other f k a j h = ap (λ b. cond b a (f j)) (ne_eqb j k h)

-- a word that the new value has as the old one had it
pub upd_field : {A B : Type 0} (F : A → B) (f : ℕ → A) (k : ℕ) (a : A) → F a ≡ F (f k) → (j : ℕ) → F (updated f k a j) ≡ F (f j)
upd_field {A} F f k a e j = go (nat_eq j k) refl
  where
    go : (b : Bool) → nat_eq j k ≡ b → F (cond b a (f j)) ≡ F (f j)
    go true q = e ∙ ap (λ z. F (f z)) (sym (eqb-true j k q))
    go false q = refl

-- what holds of the new value and of the others
pub upd_all : {A : Type 0} (P : A → Type 0) (f : ℕ → A) (k : ℕ) (a : A) → P a → ((j : ℕ) → P (f j)) → (j : ℕ) → P (updated f k a j)
upd_all {A} P f k a h g j = go (nat_eq j k)
  where
    go : (b : Bool) → P (cond b a (f j))
    go true = h
    go false = g j

-- lists of slots end to end

pub items-append : (xs ys : List Slot) → items (xs ++ ys) ≡ items xs ++ items ys
items-append [] ys = refl
items-append (x ∷ xs) ys = ap (λ z. items_of x ++ z) (items-append xs ys) ∙ sym (append_assoc (items_of x) (items xs) (items ys))

pub credits-append : (xs ys : List Slot) → credits (xs ++ ys) ≡ credits xs + credits ys
credits-append [] ys = omega arith
credits-append (x ∷ xs) ys = omega (arith, credits-append xs ys)

pub costs-append : (xs ys : List Slot) → costs (xs ++ ys) ≡ costs xs + costs ys
costs-append [] ys = omega arith
costs-append (x ∷ xs) ys = omega (arith, costs-append xs ys)

or_assoc : (a b c : Bool) → ((a || b) || c) ≡ (a || (b || c))
or_assoc true b c = refl
or_assoc false b c = refl

pub has_stop-append : (xs ys : List Slot) → has_stop (xs ++ ys) ≡ (has_stop xs || has_stop ys)
has_stop-append [] ys = refl
has_stop-append (x ∷ xs) ys = ap (λ z. is_stop x || z) (has_stop-append xs ys) ∙ sym (or_assoc (is_stop x) (has_stop xs) (has_stop ys))

pub slots_of-append : (g : ℕ) (xs ys : List TaggedSlot) → slots_of g (xs ++ ys) ≡ slots_of g xs ++ slots_of g ys
slots_of-append g [] ys = refl
slots_of-append g (o ∷ xs) ys = go (nat_eq o.generation g) (slots_of-append g xs ys)
  where
    go : (b : Bool) → slots_of g (xs ++ ys) ≡ slots_of g xs ++ slots_of g ys → cond b (o.slot ∷ slots_of g (xs ++ ys)) (slots_of g (xs ++ ys)) ≡ cond b (o.slot ∷ slots_of g xs) (slots_of g xs) ++ slots_of g ys
    go true ih = ap (λ z. o.slot ∷ z) ih
    go false ih = ih

pub asks-append : (xs ys : List TaggedSlot) → asks (xs ++ ys) ≡ asks xs + asks ys
asks-append [] ys = omega arith
asks-append (x ∷ xs) ys = omega (arith, asks-append xs ys)

-- a session that isn't the blank one was made
pub not_blank : (e : Sessions) (P : Session → Type 0) → (P blank → ⊥) → e.session 0 ≡ blank → (k : ℕ) → P (e.session k) → k ≡ 0 → ⊥
not_blank e P n z k h q = n (subst P (ap e.session q ∙ z) h)
