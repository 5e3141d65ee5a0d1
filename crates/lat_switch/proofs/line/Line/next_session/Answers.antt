use Rattle.std.proofs.Common.{sym, ap, ◌∙◌, arith}
use Rattle.lat_switch.specs.Lines.{Line}
use Rattle.lat_switch.proofs.Lines.{turn_here, turn_behind, turn_none}
use Rattle.lat_switch.proofs.line.Line.next_session.Goals as goal

pub loop-by-preserved : goal.loop-by-preserved
loop-by-preserved c = λ m st.
    turn_behind m c.args.self.now c.loop-by.by c.turned-line.result (omega arith) (omega arith) c.turned-line.ensures.value (sym (c.has_session.ensures m st) ∙ c.if-has_session.false) (c.loop-by.invariant m st)

pub returns-then-has_session-clause-value : goal.returns-then-has_session-clause-value
returns-then-has_session-clause-value c = λ m st.
    turn_here m c.args.self.now c.loop-by.by c.turned-line.result (omega arith) (omega arith) c.turned-line.ensures.value (sym (c.has_session.ensures m st) ∙ c.if-has_session.true) (c.loop-by.invariant m st)

pub returns-clause-value : goal.returns-clause-value
returns-clause-value c = λ m st. ap (λ (l : Line). l.shown) c.self.view_is ∙ turn_none m c.args.self.now c.loop-by.by (omega arith) (c.loop-by.invariant m st)
