-- What is left of the nodes where what isn't live is forgotten.
use Rattle.std.proofs.Common.{◌≡◌, ℕ, ◌≤◌, ◌<◌, Bool, true, false, not, nat_eq, List, [], ◌∷◌, ◌++◌, length, nat_lt, nat_le, refl, sym, ap, subst, ◌∙◌, arith, true≢false, if◌then◌else◌}
use Rattle.std.specs.Prelude.{bytes_eq}
use Rattle.std.proofs.lemmas.Bool.Decides.{nat_tests}
use Rattle.indexmap.specs.IndexMap.{insert_entry}
use Rattle.lat_machines.specs.values.Addresses.{address}
use Rattle.lat_dir.specs.declared.node.Node.{Node}
use Rattle.lat_dir.specs.Words.{Nodes, living, others, elsewhere}
use Rattle.lat_dir.specs.Steps.{trimmed, is_full, with_node}
use Rattle.lat_dir.proofs.Lists.{filter_weaker, filter_swap, filter_shorter, filter_whole, insert_other}

later : (now next until : ℕ) → now ≤ next → nat_lt next until ≡ true → nat_lt now until ≡ true
later now next until h e = grind (arith, nat_tests)

-- what lives later lives now
pub living_later : (now next : ℕ) (nodes : Nodes) → now ≤ next → living next (living now nodes) ≡ living next nodes
living_later now next nodes h = filter_weaker (λ e. nat_lt next e.1.until) (λ e. nat_lt now e.1.until) (λ e l. later now next e.1.until h l) nodes

pub living_shorter : (now : ℕ) (nodes : Nodes) → length (living now nodes) ≤ length nodes
living_shorter now nodes = filter_shorter (λ e. nat_lt now e.1.until) nodes

pub others_shorter : (name : List ℕ) (nodes : Nodes) → length (others name nodes) ≤ length nodes
others_shorter name nodes = filter_shorter (λ e. not (bytes_eq e.0 name)) nodes

pub elsewhere_shorter : (from : ℕ) (nodes : Nodes) → length (elsewhere from nodes) ≤ length nodes
elsewhere_shorter from nodes = filter_shorter (λ e. not (nat_eq (address e.1.from.0) from)) nodes

-- what lives later is left
pub living_trimmed : (now next : ℕ) (nodes : Nodes) → now ≤ next → living next (trimmed now nodes) ≡ living next nodes
living_trimmed now next nodes h = by (nat_le 256 (length nodes)) refl
  where
    by : (b : Bool) → nat_le 256 (length nodes) ≡ b → living next (trimmed now nodes) ≡ living next nodes
    by true e = rw e (living_later now next nodes h)
    by false e = rw e refl

-- 256 are left exactly where 256 live
pub trimmed_many : (now : ℕ) (nodes : Nodes) → nat_le 256 (length (trimmed now nodes)) ≡ nat_le 256 (length (living now nodes))
trimmed_many now nodes = by (nat_le 256 (length nodes)) refl
  where
    few : (n m : ℕ) → nat_le 256 n ≡ false → m ≤ n → nat_le 256 n ≡ nat_le 256 m
    few n m e le = grind (arith, nat_tests)

    by : (b : Bool) → nat_le 256 (length nodes) ≡ b → nat_le 256 (length (trimmed now nodes)) ≡ nat_le 256 (length (living now nodes))
    by true e = rw e refl
    by false e = few (length (trimmed now nodes)) (length (living now nodes)) (rw (e, e) refl) (rw e (living_shorter now nodes))

pub trimmed_shorter : (now : ℕ) (nodes : Nodes) → length (trimmed now nodes) ≤ length nodes
trimmed_shorter now nodes = by (nat_le 256 (length nodes)) refl
  where
    by : (b : Bool) → nat_le 256 (length nodes) ≡ b → length (trimmed now nodes) ≤ length nodes
    by true e = rw e (living_shorter now nodes)
    by false e = rw e (omega arith)

many : (n : ℕ) → 256 ≤ n → nat_le 256 n ≡ true
many n h = grind (arith, nat_tests)

few : (n : ℕ) → n < 256 → nat_le 256 n ≡ false
few n h = grind (arith, nat_tests)

pub long_of : (n : ℕ) → not (nat_le 256 n) ≡ false → 256 ≤ n
long_of n = by (nat_le 256 n) refl
  where
    by : (b : Bool) → nat_le 256 n ≡ b → not b ≡ false → 256 ≤ n
    by true h e = grind (arith, nat_tests)
    by false h e = absurd (true≢false e)

pub short_of : (n : ℕ) → not (nat_le 256 n) ≡ true → n < 256
short_of n = by (nat_le 256 n) refl
  where
    by : (b : Bool) → nat_le 256 n ≡ b → not b ≡ true → n < 256
    by true h e = absurd (true≢false (sym e))
    by false h e = grind (arith, nat_tests)

-- where 256 others are left of 256, there was none of this name
pub full_living : (now : ℕ) (name : List ℕ) (nodes rest : Nodes) → rest ≡ trimmed now (others name nodes) → length nodes ≤ 256 → 256 ≤ length rest → rest ≡ living now nodes
full_living now name nodes rest is most long =
    let left : 256 ≤ length (trimmed now (others name nodes)) = omega (arith, long, ap length is) in
    let shorter = trimmed_shorter now (others name nodes) in
    let whole : others name nodes ≡ nodes = filter_whole (λ e. not (bytes_eq e.0 name)) nodes (omega (arith, left, shorter, most)) in
    let fits : 256 ≤ length nodes = omega (arith, left, shorter, ap length whole) in
    let living_are : trimmed now nodes ≡ living now nodes = rw (many (length nodes) fits) refl in
    is ∙ ap (trimmed now) whole ∙ living_are

pub full_kept : (now : ℕ) (name : List ℕ) (node : Node) (nodes rest : Nodes) → rest ≡ trimmed now (others name nodes) → length nodes ≤ 256 → 256 ≤ length rest
    → rest ≡ with_node now name node nodes
full_kept now name node nodes rest is most long =
    let left : 256 ≤ length (trimmed now (others name nodes)) = omega (arith, long, ap length is) in
    let full : is_full now name nodes ≡ true = many (length (trimmed now (others name nodes))) left in
    full_living now name nodes rest is most long ∙ sym (ap (λ b. if b then living now nodes else trimmed now (others name nodes) ++ (name, node) ∷ []) full)

insert_trimmed : (now : ℕ) (name : List ℕ) (node : Node) (nodes : Nodes) → insert_entry bytes_eq (trimmed now (others name nodes)) name node ≡ trimmed now (others name nodes) ++ (name, node) ∷ []
insert_trimmed now name node nodes = by (nat_le 256 (length (others name nodes))) refl
  where
    swap : living now (others name nodes) ≡ others name (living now nodes)
    swap = filter_swap (λ e. nat_lt now e.1.until) (λ e. not (bytes_eq e.0 name)) nodes

    by : (b : Bool) → nat_le 256 (length (others name nodes)) ≡ b → insert_entry bytes_eq (trimmed now (others name nodes)) name node ≡ trimmed now (others name nodes) ++ (name, node) ∷ []
    by true e = rw e (subst (λ es. insert_entry bytes_eq es name node ≡ es ++ (name, node) ∷ []) (sym swap) (insert_other name node (living now nodes)))
    by false e = rw e (insert_other name node nodes)

-- else the node goes to the end
pub new_kept : (now : ℕ) (name : List ℕ) (node : Node) (nodes rest : Nodes) → rest ≡ trimmed now (others name nodes) → length rest < 256
    → (insert_entry bytes_eq rest name node ≡ rest ++ (name, node) ∷ []) × (rest ++ (name, node) ∷ [] ≡ with_node now name node nodes)
new_kept now name node nodes rest is short =
    let room : length (trimmed now (others name nodes)) < 256 = omega (arith, short, ap length is) in
    let left : is_full now name nodes ≡ false = few (length (trimmed now (others name nodes))) room in (
      subst (λ es. insert_entry bytes_eq es name node ≡ es ++ (name, node) ∷ []) (sym is) (insert_trimmed now name node nodes),
      ap (λ es. es ++ (name, node) ∷ []) is ∙ sym (ap (λ b. if b then living now nodes else trimmed now (others name nodes) ++ (name, node) ∷ []) left),
    )
