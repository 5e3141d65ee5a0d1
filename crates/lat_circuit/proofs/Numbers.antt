-- Fields of numbers.
use Rattle.std.proofs.Common.{◌≡◌, ℕ, suc, ◌*◌, ◌<◌, true, nat_eq, sym, ap, subst, ◌∙◌, arith}
use Rattle.std.proofs.lemmas.Bool.{eq-eqb}
use Rattle.lat_seq.specs.declared.span.Span.{Span}
use Rattle.lat_seq.specs.declared.span.Span.TheVariants.{Byte, Word}
use Rattle.lat_seq.specs.Spans.{half, field}

pub field_small : (span : Span) (n : ℕ) → field span n < 2 * half span
field_small Byte n = omega arith
field_small Word n = omega arith

-- the field behind a field is that of the next number
pub field_next : (span : Span) (n : ℕ) → field span (suc (field span n)) ≡ field span (suc n)
field_next Byte n = omega arith
field_next Word n = omega arith

pub field_of_small : (span : Span) (n : ℕ) → n < 2 * half span → field span n ≡ n
field_of_small Byte n h = omega arith
field_of_small Word n h = omega arith

pub small : (s t : Span) (x n : ℕ) → s ≡ t → x ≡ field s n → x < 2 * half t
small s t x n e is = subst (λ u. x < 2 * half u) e (subst (λ y. y < 2 * half s) (sym is) (field_small s n))

-- the field of the next number is the one that is expected
pub offered : (s t : Span) (number last : ℕ) → s ≡ t → number ≡ field s (suc last) → nat_eq number (field t (suc last)) ≡ true
offered s t number last e is = eq-eqb number (field t (suc last)) (is ∙ ap (λ u. field u (suc last)) e)
