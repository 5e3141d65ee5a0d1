-- What the bytes of a put say: keys, and the bytes between them.
use Rattle.std.specs.Prelude.{ℕ, ◌+◌, Bool, cond, ◌||◌, List, [], ◌∷◌, length, position, unwrap_or, nat_eq}
use Rattle.lat_switch.specs.declared.piece.Piece.{Piece}
use Rattle.lat_switch.specs.declared.piece.Piece.TheVariants as pieces

-- a byte in front: the longest runs
abbrev pub joined : ℕ → List Piece → List Piece
joined b (pieces.Run bytes ∷ ps) = pieces.Run (b ∷ bytes) ∷ ps
joined b ps = pieces.Run (b ∷ []) ∷ ps

-- 1d is the key for the next session, 1c for one more
abbrev pub pieces_of : List ℕ → List Piece
pieces_of [] = []
pieces_of (b ∷ bs) =
    cond (nat_eq b 0x1d) (pieces.Next ∷ pieces_of bs)
    (cond (nat_eq b 0x1c) (pieces.Connect ∷ pieces_of bs)
    (joined b (pieces_of bs)))

-- how many bytes at the front aren't keys
abbrev pub is_key : ℕ → Bool
is_key b = nat_eq b 0x1d || nat_eq b 0x1c

abbrev pub run_length : List ℕ → ℕ
run_length bs = unwrap_or (position is_key bs) (length bs)

-- how many bytes a piece has
abbrev pub size_of : Piece → ℕ
size_of (pieces.Run bytes) = length bytes
size_of _ = 1

abbrev pub sizes : List Piece → ℕ
sizes [] = 0
sizes (p ∷ ps) = size_of p + sizes ps
