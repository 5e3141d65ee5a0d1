use Rattle.std.proofs.Common.{◌≡◌, ◌++◌, [], take, vec_capacity}
use Rattle.lat_terminal.specs.Editors.{echo_all, lines_all, typing_after}
use Rattle.lat_terminal.proofs.editor.Editor.feed.Given as goal

abbrev pub invariant-loop-at : goal.invariant-loop-at
invariant-loop-at l =
    record {
      state : l.self ≡ typing_after l.initial.self (take l.at l.bytes);
      echo : l.out.items ≡ l.initial.out.items ++ echo_all l.prompt l.initial.self (take l.at l.bytes);
      lines : lines_all l.initial.self (take l.at l.bytes) ≡ [];
      room : vec_capacity l.out ≡ vec_capacity l.initial.out;
    }
