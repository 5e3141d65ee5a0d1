use Rattle.std.proofs.Common.{rules, subst, sym}
use Rattle.lat_mind.specs.Good.{Each}
use Rattle.lat_live.specs.Seating.{HasServed, callers_of, done_of}
use Rattle.lat_live.proofs.Seating.{all_back, each_may, many_back, served_back}
use Rattle.lat_live.proofs.Statuses.{printed_status, own_not_4}
use Rattle.lat_live.proofs.serving.run_started.Goals as goal

pub run_all-cell-requires-clause-may : goal.run_all-cell-requires-clause-may
run_all-cell-requires-clause-may g c κs within = each_may _ _ _ c.requires.fresh.posted

pub returns-clause-back : goal.returns-clause-back
returns-clause-back g c =
    let visits = g.L.Callers.visits in
    let opened = c.requires.fresh in
    let ran = c.run_all-cell.ensures in
    let given = c.filled-given.ensures in
    record {
      seats = all_back visits _ _ _ _ _ _ _ _ c.requires.plan.most (opened.around.0) (opened.around.1) opened.shares (ran.around.0) (ran.around.1) ran.lines given.shares;
      each_ended = many_back visits _ done_of _ _ _ opened.shares ran.lines given.ends;
      each_line = many_back visits _ callers_of _ _ _ opened.shares ran.lines given.lines;
      served = subst (λ ls. Each (λ callers. HasServed (visits callers)) ls) (sym given.lines) (served_back visits _ _ _ _ opened.posted opened.new ran.lines);
    }

pub returns-clause-ended : goal.returns-clause-ended
returns-clause-ended g c = search rules

pub returns-clause-own : goal.returns-clause-own
returns-clause-own g c = printed_status _ _ _ _ _ _ _ _ c.print_end-status.ensures

pub returns-clause-other : goal.returns-clause-other
returns-clause-other g c = own_not_4 _ (printed_status _ _ _ _ _ _ _ _ c.print_end-status.ensures)

pub returns-clause-sink : goal.returns-clause-sink
returns-clause-sink g c = c.print_end-status.ensures.fault

pub returns-clause-memory : goal.returns-clause-memory
returns-clause-memory g c = c.print_end-status.ensures.silent
