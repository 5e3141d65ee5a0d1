-- Below which moment all that is kept lives.
use Rattle.std.proofs.Common.{◌≡◌, ℕ, ◌<◌, Bool, true, not, nat_eq, List, [], ◌∷◌, ◌++◌, map, filter, nat_lt, min, refl, ap, ◌∙◌, arith}
use Rattle.std.specs.Prelude.{bytes_eq, fold}
use Rattle.std.proofs.lemmas.List.Elements.{filter-append}
use Rattle.std.proofs.lemmas.Bool.Decides.{nat_tests}
use Rattle.lat_machines.specs.values.Addresses.{address}
use Rattle.lat_dir.specs.declared.node.Node.{Node}
use Rattle.lat_dir.specs.Words.{Nodes, living, others, elsewhere}
use Rattle.lat_dir.specs.Expiry.{LiveUntil, soonest_of}
use Rattle.lat_dir.proofs.Lists.{filter_swap}

-- without some of them
live_filter : (p : List ℕ × Node → Bool) (until : ℕ) (nodes : Nodes) → LiveUntil until nodes → LiveUntil until (filter p nodes)
live_filter p until nodes live now below = filter_swap (λ e. nat_lt now e.1.until) p nodes ∙ ap (filter p) (live now below)

pub live_others : (until : ℕ) (name : List ℕ) (nodes : Nodes) → LiveUntil until nodes → LiveUntil until (others name nodes)
live_others until name nodes live = live_filter (λ e. not (bytes_eq e.0 name)) until nodes live

pub live_elsewhere : (until from : ℕ) (nodes : Nodes) → LiveUntil until nodes → LiveUntil until (elsewhere from nodes)
live_elsewhere until from nodes live = live_filter (λ e. not (nat_eq (address e.1.from.0) from)) until nodes live

lives : (now until : ℕ) → now < until → nat_lt now until ≡ true
lives now until below = grind (arith, nat_tests)

-- with one more
pub live_push : (until : ℕ) (name : List ℕ) (node : Node) (nodes : Nodes) → LiveUntil until nodes → LiveUntil (min until node.until) (nodes ++ (name, node) ∷ [])
live_push until name node nodes live now below =
    let old : now < until = omega (arith, below) in
    let new : now < node.until = omega (arith, below) in
    let own : living now ((name, node) ∷ []) ≡ (name, node) ∷ [] = rw (lives now node.until new) refl in
    filter-append (λ e. nat_lt now e.1.until) nodes ((name, node) ∷ []) ∙ (λ j. live now old j ++ own j)

below_soonest : (now until : ℕ) (ns : List Node) → now < fold soonest_of until ns → now < until
below_soonest now until [] below = below
below_soonest now until (n ∷ ns) below = omega (arith, below_soonest now (min until n.until) ns below)

-- the soonest of them
pub live_soonest : (until : ℕ) (nodes : Nodes) → LiveUntil (fold soonest_of until (map (λ e. e.1) nodes)) nodes
live_soonest until [] now below = refl
live_soonest until (e ∷ es) now below =
    let here : now < min until e.1.until = below_soonest now (min until e.1.until) (map (λ x. x.1) es) below in
    let own : now < e.1.until = omega (arith, here) in
    rw (lives now e.1.until own) (ap (λ xs. e ∷ xs) (live_soonest (min until e.1.until) es now below))
