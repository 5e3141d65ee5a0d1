-- Filtered lists.
use Rattle.std.proofs.Common.{◌≡◌, ℕ, ◌≤◌, Bool, true, false, not, List, [], ◌∷◌, ◌++◌, length, map, filter, refl, sym, ap, ◌∙◌, arith, true≢false}
use Rattle.std.specs.Prelude.{bytes_eq}
use Rattle.std.proofs.lemmas.Option.{none-some}
use Rattle.std.proofs.lemmas.Slice.Eq.{bytes_eq-Decides}
use Rattle.std.specs.Bool.{one_answer}
use Rattle.std.specs.Prelude.{None}
use Rattle.std.specs.Map.{lookup, remove_entry}
use Rattle.indexmap.specs.IndexMap.{insert_entry}

pub bytes_eq_sym : (xs ys : List ℕ) → bytes_eq xs ys ≡ bytes_eq ys xs
bytes_eq_sym xs ys =
    let d = bytes_eq-Decides ys xs in
    one_answer (bytes_eq xs ys) (bytes_eq ys xs) (bytes_eq-Decides xs ys) (λ h. sym (d.0 h), λ e. d.1 (sym e))

module _ {X : Type 0} where
  pub filter_map_is : {Y : Type 0} (p : Y → Bool) (f : X → Y) (xs : List X) → filter p (map f xs) ≡ map f (filter (λ x. p (f x)) xs)
  filter_map_is p f [] = refl
  filter_map_is p f (x ∷ xs) = by (p (f x)) refl (filter_map_is p f xs)
    where
      by : (b : Bool) → p (f x) ≡ b → filter p (map f xs) ≡ map f (filter (λ y. p (f y)) xs) → filter p (map f (x ∷ xs)) ≡ map f (filter (λ y. p (f y)) (x ∷ xs))
      by true e ih = rw e (ap (λ ys. f x ∷ ys) ih)
      by false e ih = rw e ih

  -- what passes the stronger test passes the weaker one
  pub filter_weaker : (p q : X → Bool) → ((x : X) → p x ≡ true → q x ≡ true) → (xs : List X) → filter p (filter q xs) ≡ filter p xs
  filter_weaker p q weaker [] = refl
  filter_weaker p q weaker (x ∷ xs) = by (q x) refl (p x) refl (filter_weaker p q weaker xs)
    where
      by : (b : Bool) → q x ≡ b → (a : Bool) → p x ≡ a → filter p (filter q xs) ≡ filter p xs → filter p (filter q (x ∷ xs)) ≡ filter p (x ∷ xs)
      by true e true g ih = rw (e, g) (ap (λ ys. x ∷ ys) ih)
      by true e false g ih = rw (e, g) ih
      by false e true g ih = absurd (true≢false (sym (weaker x g) ∙ e))
      by false e false g ih = rw (e, g) ih

  pub filter_swap : (p q : X → Bool) (xs : List X) → filter p (filter q xs) ≡ filter q (filter p xs)
  filter_swap p q [] = refl
  filter_swap p q (x ∷ xs) = by (q x) refl (p x) refl (filter_swap p q xs)
    where
      by : (b : Bool) → q x ≡ b → (a : Bool) → p x ≡ a → filter p (filter q xs) ≡ filter q (filter p xs) → filter p (filter q (x ∷ xs)) ≡ filter q (filter p (x ∷ xs))
      by true e true g ih = rw (e, g, e) (ap (λ ys. x ∷ ys) ih)
      by true e false g ih = rw (e, g) ih
      by false e true g ih = rw (e, g, e) ih
      by false e false g ih = rw (e, g) ih

  pub filter_shorter : (p : X → Bool) (xs : List X) → length (filter p xs) ≤ length xs
  filter_shorter p [] = omega arith
  filter_shorter p (x ∷ xs) = by (p x) refl (filter_shorter p xs)
    where
      by : (b : Bool) → p x ≡ b → length (filter p xs) ≤ length xs → length (filter p (x ∷ xs)) ≤ length (x ∷ xs)
      by true e ih = rw e (omega (arith, ih))
      by false e ih = rw e (omega (arith, ih))

  -- a filter that drops none leaves the list
  pub filter_whole : (p : X → Bool) (xs : List X) → length xs ≤ length (filter p xs) → filter p xs ≡ xs
  filter_whole p [] h = refl
  filter_whole p (x ∷ xs) h = by (p x) refl (filter_whole p xs) h
    where
      by : (b : Bool) → p x ≡ b → (length xs ≤ length (filter p xs) → filter p xs ≡ xs) → length (x ∷ xs) ≤ length (filter p (x ∷ xs)) → filter p (x ∷ xs) ≡ x ∷ xs
      by true e ih g = let l = rw e at g in rw e (ap (λ ys. x ∷ ys) (ih (omega (arith, l))))
      by false e ih g = let l = rw e at g in absurd (omega (arith, l, filter_shorter p xs))

-- a key goes behind those that are others
pub insert_other : {V : Type 0} (key : List ℕ) (v : V) (es : List (List ℕ × V)) → insert_entry bytes_eq (filter (λ e. not (bytes_eq e.0 key)) es) key v ≡ filter (λ e. not (bytes_eq e.0 key)) es ++ (key, v) ∷ []
insert_other key v [] = refl
insert_other {V} key v (e ∷ es) = by (bytes_eq e.0 key) refl (insert_other key v es)
  where
    by : (b : Bool) → bytes_eq e.0 key ≡ b → insert_entry bytes_eq (filter (λ x. not (bytes_eq x.0 key)) es) key v ≡ filter (λ x. not (bytes_eq x.0 key)) es ++ (key, v) ∷ [] → insert_entry bytes_eq (filter (λ x. not (bytes_eq x.0 key)) (e ∷ es)) key v ≡ filter (λ x. not (bytes_eq x.0 key)) (e ∷ es) ++ (key, v) ∷ []
    by true h ih = rw h ih
    by false h ih = rw (h, bytes_eq_sym key e.0 ∙ h) (ap (λ xs. e ∷ xs) ih)

-- where no key is this one, none is dropped
absent_whole : {V : Type 0} (key : List ℕ) (es : List (List ℕ × V)) → lookup (bytes_eq key) es ≡ None → es ≡ filter (λ e. not (bytes_eq e.0 key)) es
absent_whole key [] none = refl
absent_whole {V} key (e ∷ es) none = by (bytes_eq key e.0) refl (absent_whole key es) none
  where
    by : (b : Bool) → bytes_eq key e.0 ≡ b → (lookup (bytes_eq key) es ≡ None → es ≡ filter (λ x. not (bytes_eq x.0 key)) es)
        → lookup (bytes_eq key) (e ∷ es) ≡ None → e ∷ es ≡ filter (λ x. not (bytes_eq x.0 key)) (e ∷ es)
    by true h ih none = absurd (none-some e.1 (sym (rw h at none)))
    by false h ih none = rw (bytes_eq_sym e.0 key ∙ h) (ap (λ xs. e ∷ xs) (ih (rw h at none)))

-- the first entry of a key is dropped, and with it all of them
pub remove_all : {V : Type 0} (key : List ℕ) (es : List (List ℕ × V)) → lookup (bytes_eq key) (remove_entry (bytes_eq key) es) ≡ None
    → remove_entry (bytes_eq key) es ≡ filter (λ e. not (bytes_eq e.0 key)) es
remove_all key [] none = refl
remove_all {V} key (e ∷ es) none = by (bytes_eq key e.0) refl (remove_all key es) none
  where
    by : (b : Bool) → bytes_eq key e.0 ≡ b
        → (lookup (bytes_eq key) (remove_entry (bytes_eq key) es) ≡ None → remove_entry (bytes_eq key) es ≡ filter (λ x. not (bytes_eq x.0 key)) es)
        → lookup (bytes_eq key) (remove_entry (bytes_eq key) (e ∷ es)) ≡ None
        → remove_entry (bytes_eq key) (e ∷ es) ≡ filter (λ x. not (bytes_eq x.0 key)) (e ∷ es)
    by true h ih none = rw (h, bytes_eq_sym e.0 key ∙ h) (absent_whole key es (rw h at none))
    by false h ih none = let rest = rw (h, h) at none in rw (h, bytes_eq_sym e.0 key ∙ h) (ap (λ xs. e ∷ xs) (ih rest))
