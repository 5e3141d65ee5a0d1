-- The verdict on one who asks.
use Rattle.std.proofs.Common.{◌≡◌, ℕ, suc, refl, sym, ap, subst, ◌∙◌, Bool, true, false, not, cond, ◌&&◌, List, [], ◌∷◌, Option, Some, None, position, is_some, nat_eq, arith, IfSome, zero, ◌+◌, ◌||◌}
use Rattle.std.specs.List.{list_any, position_from}
use Rattle.std.proofs.Math.Dec.{eqb-suc-zero}
use Rattle.std.proofs.lemmas.Iterator.Adapters.{position_from-zero}
use Rattle.std.specs.Option.{ok_or}
use Rattle.lat_machines.specs.values.Names.{Name, same}
use Rattle.lat_machines.specs.cores.Cores.{Core}
use Rattle.lat_machines.specs.node.Node.{NodeConfig, Node, Rejects, Accepts, Verdict, request_of, was_requested, verdict, free_line, on_free_line}
use Rattle.lat_slots.specs.declared.reason.RejectReason.TheVariants.{NoRoom}
use Rattle.lat_lines.specs.circuits.Opens.{id_or_zero}
use Rattle.lat_lines.specs.Kept.{IsLine}
use Rattle.lat_node.specs.Answering.{verdict_shown}

-- a place is found exactly where one passes

any_from : {X : Type 0} (p : X → Bool) (n : ℕ) (xs : List X) → is_some (position_from p n xs) ≡ list_any p xs
any_from p n [] = refl
any_from p n (x ∷ xs) = go (p x) (any_from p (n + 1) xs)
  where
    go : (b : Bool) → is_some (position_from p (n + 1) xs) ≡ list_any p xs → is_some (cond b (Some n) (position_from p (n + 1) xs)) ≡ (b || list_any p xs)
    go true e = refl
    go false e = e

pub position_any : {X : Type 0} (p : X → Bool) (xs : List X) → is_some (position p xs) ≡ list_any p xs
position_any p xs = ap is_some (position_from-zero p xs) ∙ any_from p 0 xs

-- the line that is free, or none

pub free_shown : (config : NodeConfig) (c : Core) (o : Option ℕ) → id_or_zero o ≡ free_line config c → IfSome o (IsLine config.lines) → verdict_shown (ok_or o NoRoom) ≡ on_free_line (free_line config c)
free_shown config c None e h = ap on_free_line e
free_shown config c (Some zero) e h = absurd (omega (arith, h.0))
free_shown config c (Some (suc n)) e h = ap (λ b. cond b (Rejects 7) (Accepts (suc n))) (sym (eqb-suc-zero n)) ∙ ap on_free_line e

-- the three cases

pub unoffered : (config : NodeConfig) (s : Node) (service : Name) (request : Option ℕ) → request ≡ None → is_some (position (λ n. same service n) config.services) ≡ false → Rejects 4 ≡ verdict config s service request
unoffered config s service request r e =
    subst (λ (o : Option ℕ). Rejects 4 ≡ verdict config s service o) (sym r)
    (sym (ap (λ b. cond b (on_free_line (free_line config s.core)) (Rejects 4)) (sym (position_any (λ n. same service n) config.services) ∙ e)))

pub offered : (config : NodeConfig) (s : Node) (service : Name) (request : Option ℕ) (v : Verdict) → request ≡ None → is_some (position (λ n. same service n) config.services) ≡ true → v ≡ on_free_line (free_line config s.core) → v ≡ verdict config s service request
offered config s service request v r e i =
    subst (λ (o : Option ℕ). v ≡ verdict config s service o) (sym r)
    (i ∙ sym (ap (λ b. cond b (on_free_line (free_line config s.core)) (Rejects 4)) (sym (position_any (λ n. same service n) config.services) ∙ e)))

pub requested : (config : NodeConfig) (s : Node) (service : Name) (request : Option ℕ) (id : ℕ) (v : Verdict) → request ≡ Some id → (was_requested service (request_of id s) && not (list_any (nat_eq id) s.accepted)) ≡ true →
    v ≡ on_free_line (free_line config s.core) → v ≡ verdict config s service request
requested config s service request id v r e i =
    subst (λ (o : Option ℕ). v ≡ verdict config s service o) (sym r)
    (i ∙ sym (ap (λ b. cond b (on_free_line (free_line config s.core)) (Rejects 5)) e))
