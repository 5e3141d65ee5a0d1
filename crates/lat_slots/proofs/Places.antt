-- Where the body of a slot lies.
use Rattle.std.proofs.Common.{◌≡◌, ℕ, ◌+◌, List, take, drop, sym, ap, ◌∙◌}
use Rattle.std.proofs.lemmas.List.{drop-take, drop-drop}

pub body_is : (bytes : List ℕ) (at n : ℕ) → drop (at + 4) (take (at + 4 + n) bytes) ≡ take n (drop 4 (drop at bytes))
body_is bytes at n = drop-take (at + 4) n bytes ∙ ap (take n) (sym (drop-drop 4 at bytes))
