use Rattle.std.proofs.Common.{rules, subst, sym}
use Rattle.lat_mind.specs.Good.{Each}
use Rattle.lat_live.specs.Opened.{IsNew}
use Rattle.lat_live.specs.Seating.{callers_of}
use Rattle.lat_live.proofs.Seating.{each_of}
use Rattle.lat_live.proofs.serving.started.Goals as goal

pub returns-clause-fresh : goal.returns-clause-fresh
returns-clause-fresh g c =
    let visits = g.L.Callers.visits in
    record {
      around = search rules;
      shares = search rules;
      posted = c.in_ok-seated.ensures.posted;
      new = each_of callers_of (λ k. IsNew (visits k)) _ (subst (λ ls. Each (λ k. IsNew (visits k)) ls) (sym c.in_ok-seated.ensures.lines) c.requires.new);
      count = search rules;
      empty = search rules;
      room = search rules;
      rooms = search rules;
    }
