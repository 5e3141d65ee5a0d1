use Rattle.std.proofs.Common.{sym, ◌∙◌, arith}
use Rattle.lat_switch.proofs.Lines.{free_here, free_behind, free_none}
use Rattle.lat_switch.proofs.line.Line.first_free.Goals as goal

pub loop-place-preserved : goal.loop-place-preserved
loop-place-preserved c = λ m st.
    free_behind m c.args.self.now c.loop-place.place c.inner_line-line.result (omega arith) c.inner_line-line.ensures.value (sym (c.has_session.ensures m st) ∙ c.if-not-has_session.false) (c.loop-place.invariant m st)

pub returns-then-not-has_session-clause-value : goal.returns-then-not-has_session-clause-value
returns-then-not-has_session-clause-value c = λ m st.
    free_here m c.args.self.now c.loop-place.place c.inner_line-line.result (omega arith) c.inner_line-line.ensures.value (sym (c.has_session.ensures m st) ∙ c.if-not-has_session.true) (c.loop-place.invariant m st)

pub returns-clause-value : goal.returns-clause-value
returns-clause-value c = λ m st. free_none m c.args.self.now c.loop-place.place (omega arith) (c.loop-place.invariant m st)
