-- What is through is settled in its row.
use Rattle.std.proofs.Common.{◌≡◌, ℕ, ◌≤◌, refl, sym, ap, ◌∙◌, arith, zero, suc, List, [], ◌∷◌, length, take}
use Rattle.lat_model.specs.sessions.Slots.{Item, items}
use Rattle.lat_model.specs.sessions.Session.{Session}
use Rattle.lat_machines.specs.world.Reports.{Row, direction}
use Rattle.lat_laws.specs.rounds.Idle.{Through}
use Rattle.lat_laws.specs.rounds.Settles.{IsSettled}

take_all : (n : ℕ) (xs : List Item) → length xs ≤ n → take n xs ≡ xs
take_all zero [] h = refl
take_all zero (x ∷ xs) h = absurd (omega (arith, h))
take_all (suc n) [] h = refl
take_all (suc n) (x ∷ xs) h = ap (λ z. x ∷ z) (take_all n xs (omega (arith, h)))

pub through_taken : (a b : Session) → Through a b → (direction a b).taken ≡ (direction a b).put
through_taken a b t = take_all b.taken (items b.came) t.taken ∙ t.heard

pub through_settled : (r : Row) (a b : Session) → r.up ≡ direction a b → r.down ≡ direction b a → Through a b → Through b a → IsSettled r
through_settled r a b p q s t = record {
  up = ap (λ d. d.taken) p ∙ (through_taken a b s ∙ ap (λ d. d.put) (sym p));
  down = ap (λ d. d.taken) q ∙ (through_taken b a t ∙ ap (λ d. d.put) (sym q));
}
