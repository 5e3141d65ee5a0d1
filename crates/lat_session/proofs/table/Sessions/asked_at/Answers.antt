use Rattle.std.proofs.Common.{◌∙◌, sym, ap, Some, None, arith}
use Rattle.std.proofs.lemmas.Grind.{elements}
use Rattle.lat_session.specs.States.{is_asked}
use Rattle.lat_session.specs.Table.{Table, state_in, state_at}
use Rattle.lat_session.proofs.AskedIds.{is_asked_is, told_here, told_none, told_waits}
use Rattle.lat_session.proofs.Touch.{kept_is, read_here}
use Rattle.lat_session.proofs.table.Sessions.asked_at.Goals as goal

pub asked_here-requires-clause-asked : goal.asked_here-requires-clause-asked
asked_here-requires-clause-asked c =
    let here = ap state_in (read_here c.args.self.now c.self.inside.sessions c.in_ok-at.at c.args.id c.index.result.now (ap (λ (t : Table). t.sessions) c.self.view_is) c.in_ok-at.ensures.0 c.in_ok-at.ensures.1 c.index.ensures) in
    ap (state_at c.args.self.now) c.in_ok-at.ensures.0 ∙ here ∙ is_asked_is c.index.result.now.state (sym c.is_asked.ensures ∙ c.if-is_asked.true)

pub returns-then-is_asked-clause-model : goal.returns-then-is_asked-clause-model
returns-then-is_asked-clause-model c = λ e st.
    let was = kept_is c.args.self.now c.self.inside.sessions e c.in_ok-at.at c.args.id c.index.result.now (ap (λ (t : Table). t.sessions) c.self.view_is) c.in_ok-at.ensures.0 c.in_ok-at.ensures.1 c.index.ensures st in
    told_here e c.in_ok-at.at c.args.id c.index.result.now c.asked_here.result c.in_ok-at.ensures.0 was (sym c.is_asked.ensures ∙ c.if-is_asked.true) (c.asked_here.ensures.model e st)

pub returns-then-is_asked-clause-slave : goal.returns-then-is_asked-clause-slave
returns-then-is_asked-clause-slave c = λ e st slave.
    let was = kept_is c.args.self.now c.self.inside.sessions e c.in_ok-at.at c.args.id c.index.result.now (ap (λ (t : Table). t.sessions) c.self.view_is) c.in_ok-at.ensures.0 c.in_ok-at.ensures.1 c.index.ensures st in
    told_waits e c.args.id (Some c.asked_here.result) slave (told_here e c.in_ok-at.at c.args.id c.index.result.now c.asked_here.result c.in_ok-at.ensures.0 was (sym c.is_asked.ensures ∙ c.if-is_asked.true) (c.asked_here.ensures.model e st))

pub returns-else-is_asked-clause-model : goal.returns-else-is_asked-clause-model
returns-else-is_asked-clause-model c = λ e st.
    let was = kept_is c.args.self.now c.self.inside.sessions e c.in_ok-at.at c.args.id c.index.result.now (ap (λ (t : Table). t.sessions) c.self.view_is) c.in_ok-at.ensures.0 c.in_ok-at.ensures.1 c.index.ensures st in
    told_none e c.args.id c.index.result.now was (sym c.is_asked.ensures ∙ c.if-is_asked.false)

pub returns-else-is_asked-clause-slave : goal.returns-else-is_asked-clause-slave
returns-else-is_asked-clause-slave c = λ e st slave.
    let was = kept_is c.args.self.now c.self.inside.sessions e c.in_ok-at.at c.args.id c.index.result.now (ap (λ (t : Table). t.sessions) c.self.view_is) c.in_ok-at.ensures.0 c.in_ok-at.ensures.1 c.index.ensures st in
    told_waits e c.args.id None slave (told_none e c.args.id c.index.result.now was (sym c.is_asked.ensures ∙ c.if-is_asked.false))

pub returns-then-is_asked-clause-value : goal.returns-then-is_asked-clause-value
returns-then-is_asked-clause-value c =
    let here = ap state_in (read_here c.args.self.now c.self.inside.sessions c.in_ok-at.at c.args.id c.index.result.now (ap (λ (t : Table). t.sessions) c.self.view_is) c.in_ok-at.ensures.0 c.in_ok-at.ensures.1 c.index.ensures) in
    sym (ap is_asked here ∙ sym c.is_asked.ensures ∙ c.if-is_asked.true)

pub returns-else-is_asked-clause-value : goal.returns-else-is_asked-clause-value
returns-else-is_asked-clause-value c =
    let here = ap state_in (read_here c.args.self.now c.self.inside.sessions c.in_ok-at.at c.args.id c.index.result.now (ap (λ (t : Table). t.sessions) c.self.view_is) c.in_ok-at.ensures.0 c.in_ok-at.ensures.1 c.index.ensures) in
    sym (ap is_asked here ∙ sym c.is_asked.ensures ∙ c.if-is_asked.false)

pub returns-in_err-at-clause-model : goal.returns-in_err-at-clause-model
returns-in_err-at-clause-model c = grind (arith, elements)

pub returns-in_err-at-clause-slave : goal.returns-in_err-at-clause-slave
returns-in_err-at-clause-slave c = grind (arith, elements)
