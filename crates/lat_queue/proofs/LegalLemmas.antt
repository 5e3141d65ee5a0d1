-- A legal history with one event more.
use Rattle.std.proofs.Common.{◌≡◌, ℕ, ◌⊎◌, inl, inr, ⊎_elim, refl, ap, ap₂, subst, List, [], ◌∷◌, ◌++◌, Some}
use Rattle.lat_machines.specs.values.Names.{Name}
use Rattle.lat_machines.specs.values.Notices.{Kept}
use Rattle.lat_machines.specs.values.Keys.{Key}
use Rattle.lat_machines.specs.server.Queue.{QueueEvent, Asks, Cancels, Grants, Finishes, Request, next_request, LegalQueue}

-- where a list with one more at its end is parted
abbrev Parted : {A : Type 0} → List A → A → List A → A → List A → Type 0
Parted {A} h e before g after = ((after ≡ []) × (e ≡ g) × (h ≡ before)) ⊎ ((rest : List A) × (h ≡ before ++ g ∷ rest))

parted : {A : Type 0} (h : List A) (e : A) (before : List A) (g : A) (after : List A) → h ++ e ∷ [] ≡ before ++ g ∷ after → Parted h e before g after
parted [] e [] g after q = let a : after ≡ [] = cc in let b : e ≡ g = cc in inl (a, b, refl)
parted [] e (b ∷ []) g after q = let z : ⊥ = cc in absurd z
parted [] e (b ∷ c ∷ bs) g after q = let z : ⊥ = cc in absurd z
parted (x ∷ xs) e [] g after q = let a : x ≡ g = cc in inr (xs, ap (λ z. z ∷ xs) a)
parted {A} (x ∷ xs) e (b ∷ bs) g after q =
    let a : x ≡ b = cc in
    let r : xs ++ e ∷ [] ≡ bs ++ g ∷ after = cc in
    ⊎_elim {C = Parted (x ∷ xs) e (b ∷ bs) g after} (λ n. inl (n.0, n.1, ap₂ (λ y z. y ∷ z) a n.2)) (λ n. inr (n.0, ap₂ (λ y z. y ∷ z) a n.1)) (parted xs e bs g after r)

abbrev IsNext : Key → Name → List QueueEvent → Type 0
IsNext k service before = (r : Request) × (next_request service before ≡ Some r) × (r.key ≡ k)

legal_more : (h : List QueueEvent) (e : QueueEvent) → LegalQueue h → ((k : Key) (service : Name) → e ≡ Grants k service → IsNext k service h) → LegalQueue (h ++ e ∷ [])
legal_more h e l n before after k service q =
    ⊎_elim {C = IsNext k service before} (λ p. subst (IsNext k service) p.2 (n k service p.1)) (λ p. l before p.0 k service p.1) (parted h e before (Grants k service) after q)

pub legal_finish : (h : List QueueEvent) (j : Key) → LegalQueue h → LegalQueue (h ++ Finishes j ∷ [])
legal_finish h j l = legal_more h (Finishes j) l (λ k service q. let z : ⊥ = cc in absurd z)

pub legal_cancel : (h : List QueueEvent) (j : Key) → LegalQueue h → LegalQueue (h ++ Cancels j ∷ [])
legal_cancel h j l = legal_more h (Cancels j) l (λ k service q. let z : ⊥ = cc in absurd z)

pub legal_ask : (h : List QueueEvent) (j : Key) (from : ℕ) (s : Name) (a : Kept) → LegalQueue h → LegalQueue (h ++ Asks j from s a ∷ [])
legal_ask h j from s a l = legal_more h (Asks j from s a) l (λ k service q. let z : ⊥ = cc in absurd z)

pub legal_grant : (h : List QueueEvent) (r : Request) (g : Key) (s : Name) → next_request s h ≡ Some r → r.key ≡ g → LegalQueue h → LegalQueue (h ++ Grants g s ∷ [])
legal_grant h r g s n i l = legal_more h (Grants g s) l (λ k service q. let a : g ≡ k = cc in let b : s ≡ service = cc in (r, subst (λ z. next_request z h ≡ Some r) b n, subst (λ z. r.key ≡ z) a i))
