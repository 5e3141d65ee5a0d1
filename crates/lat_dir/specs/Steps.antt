-- What hearing an announcement and avoiding an address make of a directory.
use Rattle.std.specs.Prelude.{ℕ, Bool, true, List, [], ◌∷◌, ◌++◌, length, Result, Ok, Err, nat_le, if◌then◌else◌}
use Rattle.lat_dir.specs.declared.directory.DirFault.{DirFault}
use Rattle.lat_dir.specs.declared.directory.DirFault.TheVariants.{Full}
use Rattle.lat_dir.specs.declared.node.Node.{Node}
use Rattle.lat_dir.specs.Words.{Nodes, living, others, elsewhere}
use Rattle.lat_dir.specs.Stands.{Kept}

-- nothing of this name is kept
abbrev pub forgotten : ℕ → List ℕ → Kept → Kept
forgotten now name k = record { groups = k.groups; nodes = others name k.nodes; moment = now }

-- where 256 are kept, those that live are left
abbrev pub trimmed : ℕ → Nodes → Nodes
trimmed now nodes = if nat_le 256 (length nodes) then living now nodes else nodes

-- 256 nodes of other names live
abbrev pub is_full : ℕ → List ℕ → Nodes → Bool
is_full now name nodes = nat_le 256 (length (trimmed now (others name nodes)))

-- the answer to an announcement whose groups are met
abbrev pub answer_met : ℕ → List ℕ → Nodes → Result Bool DirFault
answer_met now name nodes = if is_full now name nodes then Err Full else Ok true

-- the node goes behind those of other names, where there is room
abbrev pub with_node : ℕ → List ℕ → Node → Nodes → Nodes
with_node now name node nodes = if is_full now name nodes then living now nodes else trimmed now (others name nodes) ++ (name, node) ∷ []

abbrev pub taken_in : ℕ → List ℕ → Node → Kept → Kept
taken_in now name node k = record { groups = k.groups; nodes = with_node now name node k.nodes; moment = now }

-- nothing from this address is kept
abbrev pub avoided : ℕ → Kept → Kept
avoided from k = record { groups = k.groups; nodes = elsewhere from k.nodes; moment = k.moment }
