-- Bytes are drawn one after another.
use Rattle.std.proofs.Common.{◌≡◌, ℕ, suc, ◌+◌, List, [], ◌∷◌, ◌++◌, sym, ap, ◌∙◌, append_assoc}
use Rattle.std.proofs.lemmas.List.{append-nil}
use Rattle.lat_cmd.specs.declared.generate.generator.Generator.{Generator}
use Rattle.lat_cmd.specs.generate.Draws.{Drawn, below, before, so_many, bytes}

-- behind bytes that were drawn already
abbrev pub behind : List ℕ → Drawn (List ℕ) → Drawn (List ℕ)
behind xs drawn = (xs ++ drawn.0, drawn.1)

-- one byte more
pub one_more : (xs : List ℕ) (n b : ℕ) (g h : Generator) → (b, h) ≡ below 256 g → behind xs (so_many (suc n) g) ≡ behind (xs ++ b ∷ []) (so_many n h)
unfolding so_many
one_more xs n b g h drawn =
    ap (λ (d : Drawn ℕ). behind xs (before d.0 (so_many n d.1))) (sym drawn)
    ∙ ap (λ ys. (ys, (so_many n h).1)) (sym (append_assoc xs (b ∷ []) (so_many n h).0))

-- none is left
pub none_left : (xs : List ℕ) (g : Generator) → behind xs (so_many 0 g) ≡ (xs, g)
unfolding so_many
none_left xs g = ap (λ ys. (ys, g)) (append-nil xs)

-- all are drawn
pub all_drawn : (m n left : ℕ) (g h now : Generator) (xs : List ℕ) → (n, h) ≡ below m g → so_many (1 + n) h ≡ behind xs (so_many left now) → left ≡ 0 → (xs, now) ≡ bytes m g
unfolding bytes
all_drawn m n left g h now xs drawn same none =
    sym (none_left xs now)
    ∙ ap (λ k. behind xs (so_many k now)) (sym none)
    ∙ sym same
    ∙ ap (λ (d : Drawn ℕ). so_many (1 + d.0) d.1) drawn
