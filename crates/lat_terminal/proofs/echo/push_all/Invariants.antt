use Rattle.std.proofs.Common.{◌≡◌, ◌≤◌, ◌+◌, ◌++◌, length, take, vec_capacity, vec_len}
use Rattle.lat_terminal.proofs.echo.push_all.Given as goal

abbrev pub invariant-loop-byte : goal.invariant-loop-byte
invariant-loop-byte l =
    record {
      bytes : l.out.items ≡ l.initial.out.items ++ take l.byte-index l.bytes;
      len : vec_len l.out ≡ vec_len l.initial.out + l.byte-index;
      room : vec_capacity l.out ≡ vec_capacity l.initial.out;
      fits : vec_len l.initial.out + length l.bytes ≤ vec_capacity l.initial.out;
    }
