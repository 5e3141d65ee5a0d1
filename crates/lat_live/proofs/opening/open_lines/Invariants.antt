use Rattle.std.proofs.Common.{◌≡◌, ◌≤◌, length, take, vec_len, vec_capacity}
use Rattle.lat_mind.specs.Good.{Each}
use Rattle.lat_live.specs.Opened.{IsNew, with_lines}
use Rattle.lat_live.proofs.opening.open_lines.Given as goal

abbrev pub invariant-loop-k : goal.invariant-loop-k
invariant-loop-k g l =
    let o = g.O.PortOpener in
    record {
      len : vec_len l.opened ≡ l.k;
      room : length l.lines ≤ vec_capacity l.opened;
      asked : o.asked l.opener ≡ with_lines (take l.k l.lines) (o.asked l.initial.opener);
      fresh : Each (λ callers. IsNew (g.O.C.Callers.visits callers)) l.opened.items;
      later : o.faults l.initial.opener ≤ o.faults l.opener;
    }
