use Rattle.std.proofs.Common.{◌≡◌, ◌++◌, string_bytes}
use Rattle.std.specs.Slice.Iter.{chunks_rest, chunks_size}
use Rattle.hex.specs.Hex.{encode_lower}
use Rattle.lat_text.proofs.digits.hex_onto.Given as goal

abbrev pub invariant-loop-piece : goal.invariant-loop-piece
invariant-loop-piece l =
    (string_bytes l.text ++ encode_lower (chunks_rest l.piece-iterator) ≡ string_bytes l.initial.text ++ encode_lower l.bytes)
    × (chunks_size l.piece-iterator ≡ 512)
