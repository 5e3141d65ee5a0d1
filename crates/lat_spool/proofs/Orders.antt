-- The jobs stay in the order in which they came.
use Rattle.std.proofs.Common.{◌≡◌, ℕ, ◌<◌, List, [], ◌∷◌, ◌++◌, refl, sym, subst}
use Rattle.std.specs.Prelude.{zero, suc, Option, Some, None, remove, slice_get}
use Rattle.lat_mind.specs.Good.{Each}
use Rattle.lat_spool.specs.declared.job.Job.{Job}
use Rattle.lat_spool.specs.Laws.{KeysRise}
use Rattle.lat_spool.specs.Spools.{changed}

pub changed_next : {J : Type 0} (f : Job J → Job J) (j : Job J) (js : List (Job J)) (at : ℕ) (o : Option (Job J)) → changed o f (j ∷ js) (suc at) ≡ j ∷ changed o f js at
changed_next f j js at (Some k) = refl
changed_next f j js at None = refl

-- what keeps a job's key keeps what holds of keys, and their order
pub each_changed : {J : Type 0} (P : ℕ → Type 0) (f : Job J → Job J) → ((j : Job J) → (f j).key ≡ j.key) → (js : List (Job J)) (at : ℕ) →
    Each (λ j. P j.key) js → Each (λ j. P j.key) (changed (slice_get js at) f js at)
each_changed P f keeps [] at e = tt
each_changed P f keeps (j ∷ js) zero e = (subst P (sym (keeps j)) e.0, e.1)
each_changed {J} P f keeps (j ∷ js) (suc at) e =
    let Q : List (Job J) → Type 0 = λ ks. Each (λ k. P k.key) ks in
    subst Q (sym (changed_next f j js at (slice_get js at))) (e.0, each_changed P f keeps js at e.1)

pub rise_changed : {J : Type 0} (f : Job J → Job J) → ((j : Job J) → (f j).key ≡ j.key) → (js : List (Job J)) (at : ℕ) →
    KeysRise js → KeysRise (changed (slice_get js at) f js at)
rise_changed f keeps [] at r = tt
rise_changed {J} f keeps (j ∷ js) zero r =
    let Q : ℕ → Type 0 = λ n. Each (λ (k : Job J). n < k.key) js in
    (subst Q (sym (keeps j)) r.0, r.1)
rise_changed {J} f keeps (j ∷ js) (suc at) r =
    let Q : List (Job J) → Type 0 = λ ks. KeysRise ks in
    subst Q (sym (changed_next f j js at (slice_get js at))) (each_changed (λ n. j.key < n) f keeps js at r.0, rise_changed f keeps js at r.1)

-- who leaves changes nothing of the others
pub each_removed : {A : Type 0} (P : A → Type 0) (xs : List A) (at : ℕ) → Each P xs → Each P (remove xs at)
each_removed P [] zero e = tt
each_removed P [] (suc at) e = tt
each_removed P (x ∷ xs) zero e = e.1
each_removed P (x ∷ xs) (suc at) e = (e.0, each_removed P xs at e.1)

pub rise_removed : {J : Type 0} (js : List (Job J)) (at : ℕ) → KeysRise js → KeysRise (remove js at)
rise_removed [] zero r = tt
rise_removed [] (suc at) r = tt
rise_removed (j ∷ js) zero r = r.1
rise_removed {J} (j ∷ js) (suc at) r = (each_removed (λ (k : Job J). j.key < k.key) js at r.0, rise_removed js at r.1)

-- who comes is the last
pub each_last : {A : Type 0} (P : A → Type 0) (xs : List A) (x : A) → Each P xs → P x → Each P (xs ++ x ∷ [])
each_last P [] x e p = (p, tt)
each_last P (y ∷ ys) x e p = (e.0, each_last P ys x e.1 p)

pub rise_last : {J : Type 0} (js : List (Job J)) (j : Job J) → KeysRise js → Each (λ k. k.key < j.key) js → KeysRise (js ++ j ∷ [])
rise_last [] j r e = (tt, tt)
rise_last {J} (k ∷ ks) j r e = (each_last (λ (l : Job J). k.key < l.key) ks j r.0 e.0, rise_last ks j r.1 e.1)
