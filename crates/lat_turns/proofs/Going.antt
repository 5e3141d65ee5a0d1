-- A worker goes on.
use Rattle.std.proofs.Common.{ℕ, ◌+◌, [], ◌++◌, append_assoc, refl, sym, ap, ◌∙◌, arith}
use Rattle.std.proofs.lemmas.List.{append-nil}
use Rattle.std.proofs.lemmas.List.Sums.{sum_by-append}
use Rattle.lat_mind.specs.Runs.{Turn}
use Rattle.lat_turns.specs.Lives.{DeskView}
use Rattle.lat_turns.specs.Work.{WentOn, put_in, puts_of}

-- by no turn
pub went_nowhere : (d : DeskView) (n : ℕ) → WentOn d d n n
went_nowhere d n = record { more = []; kind = refl; turns = sym (append-nil d.turns); counted = omega arith }

-- by some turns, and then by others
pub went_further : (a b c : DeskView) (k m n : ℕ) → WentOn a b k m → WentOn b c m n → WentOn a c k n
went_further a b c k m n one two = record {
  more = one.more ++ two.more;
  kind = two.kind ∙ one.kind;
  turns = two.turns ∙ ap (λ xs. xs ++ two.more) one.turns ∙ append_assoc a.turns one.more two.more;
  counted = two.counted ∙ ap (λ j. j + puts_of two.more) one.counted ∙ grind (arith, sum_by-append (λ (x : Turn). put_in x.fact) one.more two.more);
}
