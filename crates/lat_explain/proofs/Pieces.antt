-- Texts piece by piece.
use Rattle.std.proofs.Common.{◌≡◌, ℕ, List, ◌++◌, ◌∙◌, append_assoc}

-- a third piece behind two
pub three_pieces : (text one two a b c : List ℕ) → one ≡ text ++ a → two ≡ one ++ b → two ++ c ≡ text ++ (a ++ (b ++ c))
three_pieces text one two a b c first second = rw (second, first) (append_assoc (text ++ a) b c ∙ append_assoc text a (b ++ c))
