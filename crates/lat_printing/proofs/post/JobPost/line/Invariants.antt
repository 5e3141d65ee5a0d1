use Rattle.std.proofs.Common.{◌≡◌}
use Rattle.std.specs.Prelude.{None}
use Rattle.lat_history.specs.History.{state_of}
use Rattle.lat_printing.specs.Posts.{line_in}
use Rattle.lat_printing.proofs.post.JobPost.line.Given as goal

-- none of the lines before has the job's session
abbrev pub invariant-loop-before : goal.invariant-loop-before
invariant-loop-before g l =
    let m = g.C.Core in
    (line_in (m.correspondent_of (state_of m.opening m.next l.fn.cell)) l.fn.self l.fn.number l.before ≡ None)
    × (l.before-end ≡ l.fn.self.lines)
