use Rattle.std.proofs.Common.{◌≡◌, ◌≤◌, ◌+◌, ◌++◌, length, take, vec_capacity, vec_len}
use Rattle.lat_terminal.specs.Telnets.{heard_all, telnet_after}
use Rattle.lat_terminal.proofs.telnet.Telnet.feed.Given as goal

abbrev pub invariant-loop-byte : goal.invariant-loop-byte
invariant-loop-byte l =
    record {
      state : l.self ≡ telnet_after l.initial.self (take l.byte-index l.bytes);
      heard : l.out.items ≡ l.initial.out.items ++ heard_all l.initial.self (take l.byte-index l.bytes);
      len : vec_len l.out ≤ vec_len l.initial.out + l.byte-index;
      room : vec_capacity l.out ≡ vec_capacity l.initial.out;
      fits : vec_len l.initial.out + length l.bytes ≤ vec_capacity l.initial.out;
    }
