-- The lines of a node, one after another.
use Rattle.std.proofs.Common.{◌≡◌, ℕ, ◌+◌, ◌-◌, ◌≤◌, arith, ap, sym, ◌∙◌}
use Rattle.std.specs.Prelude.{Bool, true, suc, zero, Option, Some, None}
use Rattle.std.proofs.lemmas.Bool.{cond-true}
use Rattle.lat_base.specs.declared.look.Correspondent.{Correspondent}
use Rattle.lat_printing.specs.declared.post.JobPost.{JobPost}
use Rattle.lat_printing.specs.Posts.{first_of, is_of, line_in}

-- the next line has it, and so it is the first
found : (who : ℕ → Option Correspondent) (post : JobPost) (number k : ℕ) → line_in who post number k ≡ None → is_of post number (who (k + 1)) ≡ true → line_in who post number (k + 1) ≡ Some (k + 1)
found who post number k none is =
    let next : k + 1 ≡ suc k = omega arith in
    let here : is_of post number (who (suc k)) ≡ true = ap (λ n. is_of post number (who n)) (sym next) ∙ is in
    ap (line_in who post number) next ∙ ap (λ o. first_of o (is_of post number (who (suc k))) (suc k)) none ∙ cond-true _ _ _ here ∙ ap (λ n. Some n) (sym next)

kept_by : (o : Option ℕ) (line : ℕ) (is : Bool) (other : ℕ) → o ≡ Some line → first_of o is other ≡ Some line
kept_by o line is other e = ap (λ q. first_of q is other) e

-- the first of some lines is the first of more
further : (who : ℕ → Option Correspondent) (post : JobPost) (number line k n : ℕ) → line_in who post number k ≡ Some line → line_in who post number (n + k) ≡ Some line
further who post number line k zero e = let same : zero + k ≡ k = omega arith in ap (line_in who post number) same ∙ e
further who post number line k (suc n) e =
    let next : suc n + k ≡ suc (n + k) = omega arith in
    ap (line_in who post number) next ∙ kept_by (line_in who post number (n + k)) line (is_of post number (who (suc (n + k)))) (suc (n + k)) (further who post number line k n e)

pub first_line : (who : ℕ → Option Correspondent) (post : JobPost) (number k lines : ℕ) → line_in who post number k ≡ None → is_of post number (who (k + 1)) ≡ true → k + 1 ≤ lines → line_in who post number lines ≡ Some (k + 1)
first_line who post number k lines none is le =
    let n = lines - (k + 1) in
    let whole : n + (k + 1) ≡ lines = omega (arith, le) in
    ap (line_in who post number) (sym whole) ∙ further who post number (k + 1) (k + 1) n (found who post number k none is)
