use Rattle.std.proofs.Common.{◌≡◌, ◌≤◌, length, take}
use Rattle.lat_control.specs.Answered.{AnsweredMore}
use Rattle.lat_control.specs.Lines.{begun_after, lines_after}
use Rattle.lat_control.proofs.session.Session.feed.Given as goal

abbrev pub invariant-loop-byte : goal.invariant-loop-byte
invariant-loop-byte g l =
    record {
      begun : l.self.begun ≡ begun_after l.initial.self.begun (take l.byte-index l.bytes);
      owed : AnsweredMore g.A.Answers.says (lines_after l.initial.self.begun (take l.byte-index l.bytes)) l.initial.self.owed l.self.owed;
      most : length l.initial.self.owed ≤ 1048576 → length l.self.owed ≤ 1048576;
    }
