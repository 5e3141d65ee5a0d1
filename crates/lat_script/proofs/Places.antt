-- The way to a word of a line.
use Rattle.std.proofs.Common.{◌≡◌, ◌==◌, ◌-◌, ◌+◌, ◌<◌, ℕ, suc, List, ap, sym, arith}
use Rattle.std.specs.List.{after_first}
use Rattle.lat_script.specs.Words.{blank, word_at}

-- a word further on is the word behind the first blank that is one nearer
pub word_step : (end counter : ℕ) (line : List ℕ) → counter < end → word_at (end - (counter + 1)) (after_first (λ b. b == blank) line) ≡ word_at (end - counter) line
word_step end counter line within =
    let more : end - counter ≡ suc (end - (counter + 1)) = omega (arith, within) in
    sym (ap (λ n. word_at n line) more)
