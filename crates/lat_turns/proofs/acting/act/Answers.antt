use Rattle.std.proofs.Common.{subst}
use Rattle.lat_outside.specs.Visits.{VisitsView}
use Rattle.lat_turns.specs.Acts.{Acted}
use Rattle.lat_turns.proofs.Acted.{acted_rose, acted_tied, acted_went, finishes}
use Rattle.lat_turns.proofs.acting.act.Goals as goal

pub returns-clause-tied : goal.returns-clause-tied
returns-clause-tied g c =
    let visits = g.K.Callers.visits in
    let P : VisitsView → Type 0 = λ vs. Acted c.args.go c.args.see.now c.args.port c.args.desk.now c.done.new.desk vs (visits c.done.new.callers) in
    acted_tied c.args.go c.args.see.now c.args.port c.args.desk.now c.done.new.desk (visits c.args.callers.now) (visits c.done.new.callers) c.lives.ensures c.requires.go
    (subst P c.turn_away.ensures c.done.ensures)

pub returns-clause-went : goal.returns-clause-went
returns-clause-went g c =
    let visits = g.K.Callers.visits in
    acted_went c.args.go c.args.see.now c.args.port c.args.desk.now c.done.new.desk (visits c.turn_away.new.callers) (visits c.done.new.callers) c.done.ensures

pub returns-clause-finished : goal.returns-clause-finished
returns-clause-finished g c =
    let visits = g.K.Callers.visits in
    finishes c.args.go c.args.see.now c.args.port c.args.desk.now c.done.new.desk (visits c.turn_away.new.callers) (visits c.done.new.callers) c.done.ensures

pub returns-clause-rose : goal.returns-clause-rose
returns-clause-rose g c =
    let visits = g.K.Callers.visits in
    acted_rose c.args.go c.args.see.now c.args.port c.args.desk.now c.done.new.desk (visits c.turn_away.new.callers) (visits c.done.new.callers) c.done.ensures
