-- Keys that compare alike are hashed alike.
use Rattle.std.specs.Prelude.{◌≡◌, ℕ, List, ◌∷◌, ◌++◌, Bool, ◌&&◌, IsTrue, ◌==◌}
use Rattle.std.proofs.Common.{ap₂, eqb-true}
use Rattle.std.proofs.lemmas.Bool.{and_parts}
use Rattle.std.specs.Hash as fed
use Rattle.std.specs.Cmp.Lexicographic.{pointwise}
use Rattle.std.proofs.lemmas.Slice.Eq.{bytes_eq-Decides}
use Rattle.lat_base.specs.Names.{folded}
use Rattle.lat_queue.specs.declared.key.Key.{Key}

-- the name in upper case, and both numbers
abbrev pub key_writes : Key → List (List ℕ)
key_writes k = folded k.node ∷ fed.u16 k.incarnation ++ fed.u16 k.request

abbrev pub one_key : Key → Key → Bool
one_key a b = pointwise ◌==◌ (folded a.node) (folded b.node) && (a.incarnation == b.incarnation && a.request == b.request)

pub same_writes : (x y : Key) → IsTrue (one_key x y) → key_writes x ≡ key_writes y
same_writes x y h =
    let p = and_parts (pointwise ◌==◌ (folded x.node) (folded y.node)) (x.incarnation == y.incarnation && x.request == y.request) h in
    let q = and_parts (x.incarnation == y.incarnation) (x.request == y.request) p.1 in
    ap₂ (λ a b. a ∷ b) ((bytes_eq-Decides (folded x.node) (folded y.node)).0 p.0)
    (ap₂ (λ a b. fed.u16 a ++ fed.u16 b) (eqb-true x.incarnation y.incarnation q.0) (eqb-true x.request y.request q.1))
