use Rattle.std.proofs.Common.{◌≡◌, ◌≤◌, ◌+◌, ◌*◌, ◌%◌, length, vec_len}
use Rattle.std.specs.Prelude.{vec_capacity}
use Rattle.std.specs.Slice.Iter.{chunks_exact_rest, chunks_exact_size}
use Rattle.lat_text.proofs.HexRead.{onto, pairs_of}
use Rattle.lat_text.proofs.bytes.bytes_of.Given as goal

abbrev pub invariant-loop-pair : goal.invariant-loop-pair
invariant-loop-pair l = record {
  read : onto l.bytes.items (pairs_of (chunks_exact_rest l.pair-iterator)) ≡ pairs_of l.text;
  size : chunks_exact_size l.pair-iterator ≡ 2;
  even : length (chunks_exact_rest l.pair-iterator) % 2 ≡ 0;
  count : 2 * vec_len l.bytes + length (chunks_exact_rest l.pair-iterator) ≡ length l.text;
  room : 2 * vec_len l.bytes + length (chunks_exact_rest l.pair-iterator) ≤ 2 * vec_capacity l.bytes;
}
