-- Room for each service.
use Rattle.std.proofs.Common.{◌≡◌, ℕ, zero, suc, ◌+◌, ◌<◌, ◌≤◌, List, [], ◌∷◌, length, take, get_or, ap, arith}
use Rattle.std.specs.List.{sum_by}
use Rattle.std.proofs.lemmas.List.Sums.{sum_by-cons}
use Rattle.lat_notices.specs.declared.services.Service.{Service}
use Rattle.lat_notices.specs.Writing.{service_len}

pub room_at : (ss : List Service) (i : ℕ) (s : Service) → i < length ss → s ≡ get_or ss i s
    → sum_by service_len (take i ss) + service_len s ≤ sum_by service_len ss
room_at [] i s lt is = absurd (omega arith)
room_at (t ∷ ss) zero s lt is = omega (arith, sum_by-cons service_len t ss, ap service_len is)
room_at (t ∷ ss) (suc i) s lt is =
    omega (arith, sum_by-cons service_len t ss, sum_by-cons service_len t (take i ss), room_at ss i s (omega arith) is)
