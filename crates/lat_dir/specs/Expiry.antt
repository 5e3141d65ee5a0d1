-- When what is kept expires.
use Rattle.std.specs.Prelude.{◌≡◌, ℕ, ◌<◌, min}
use Rattle.lat_dir.specs.declared.node.Node.{Node}
use Rattle.lat_dir.specs.Words.{Nodes, living}

-- all of them live below this moment
abbrev pub LiveUntil : ℕ → Nodes → Type 0
LiveUntil until nodes = (now : ℕ) → now < until → living now nodes ≡ nodes

-- the earlier of a moment and that at which the node expires
abbrev pub soonest_of : ℕ → Node → ℕ
soonest_of until n = min until n.until
