-- Room for each entry.
use Rattle.std.proofs.Common.{◌≡◌, ℕ, zero, suc, ◌+◌, ◌<◌, ◌≤◌, List, [], ◌∷◌, length, take, get_or, ap, arith, length-append}
use Rattle.std.specs.List.{flat_map}
use Rattle.lat_fields.specs.declared.params.Param.{Param}
use Rattle.lat_fields.specs.Params.{entry_text}

pub room_at : (ps : List Param) (i : ℕ) (p : Param) → i < length ps → p ≡ get_or ps i p → length (flat_map entry_text (take i ps)) + length (entry_text p) ≤ length (flat_map entry_text ps)
room_at [] i p lt is = absurd (omega arith)
room_at (q ∷ ps) zero p lt is = omega (arith, length-append (entry_text q) (flat_map entry_text ps), ap (λ (e : Param). length (entry_text e)) is)
room_at (q ∷ ps) (suc i) p lt is =
    omega (arith, length-append (entry_text q) (flat_map entry_text ps), length-append (entry_text q) (flat_map entry_text (take i ps)), room_at ps i p (omega arith) is)
