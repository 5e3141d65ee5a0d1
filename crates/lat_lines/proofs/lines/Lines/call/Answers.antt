use Rattle.std.proofs.Common.{ℕ, ◌≤◌, arith, sym, ap, subst, ◌∙◌, [], Result, Ok, Err, IfOk}
use Rattle.std.proofs.lemmas.Bool.{not-true}
use Rattle.lat_base.specs.Answers.{PutFits, TookFits}
use Rattle.lat_base.specs.declared.event.Event.{Event}
use Rattle.lat_machines.specs.cores.LineCalls.{on_line}
use Rattle.lat_stream.specs.declared.calls.SessionFault.{SessionFault}
use Rattle.lat_stream.specs.declared.calls.SessionFault.TheVariants as faults
use Rattle.lat_session.specs.declared.call.SessionCall.{SessionCall}
use Rattle.lat_session.specs.declared.call.SessionCall.TheVariants.{Put, Set, Attend, Close}
use Rattle.lat_session.specs.States.{is_free}
use Rattle.lat_session.specs.Calls.{call_of, bytes_in}
use Rattle.lat_lines.specs.circuits.Stands.{calling}
use Rattle.lat_lines.specs.circuits.Info.{answer_at}
use Rattle.lat_lines.specs.Kept.{Kept, side_of}
use Rattle.lat_lines.specs.Answers.{SimulatesCall, seat_or, ready}
use Rattle.lat_lines.specs.AnswerValues.{answer_shown}
use Rattle.lat_lines.specs.Calls.{call_on, event_of, call_answer}
use Rattle.lat_lines.specs.Shown.{shown}
use Rattle.lat_lines.proofs.Calling.{call_agrees, agrees_at}
use Rattle.lat_lines.proofs.CallSteps.{reaped_calling, says_called, refused, is_seat}
use Rattle.lat_lines.proofs.resting.Calls.{call_calm}
use Rattle.lat_lines.proofs.Unchanged.{lines_same, clear_same, moment_same, rooms_same_lines}
use Rattle.lat_lines.proofs.lines.Lines.call.Goals as goal

put_fits : (line : ℕ) (call : SessionCall) (r : Result ℕ SessionFault) → IfOk r (λ n. n ≤ bytes_in call) → PutFits (call_answer call r) (event_of line call)
put_fits line (Put bytes) (Ok n) few = omega (arith, few)
put_fits line (Set setting) (Ok n) few = tt
put_fits line (Attend flag) (Ok n) few = tt
put_fits line Close (Ok n) few = tt
put_fits line call (Err faults.Full) few = tt
put_fits line call (Err faults.Closed) few = tt

took_fits : (got : ℕ → ℕ) (call : SessionCall) (r : Result ℕ SessionFault) (e : Event) → TookFits got (call_answer call r) e
took_fits got (Put bytes) (Ok n) e = tt
took_fits got (Set setting) (Ok n) e = tt
took_fits got (Attend flag) (Ok n) e = tt
took_fits got Close (Ok n) e = tt
took_fits got call (Err faults.Full) e = tt
took_fits got call (Err faults.Closed) e = tt

pub returns-in-Ok-clause-fits : goal.returns-in-Ok-clause-fits
returns-in-Ok-clause-fits c =
    subst (λ a. PutFits a (event_of c.args.line c.args.call.now)) (sym c.answer_of_call.ensures) (put_fits c.args.line c.args.call.now c.call_session-answer.result c.call_session-answer.ensures.most)

pub returns-in-Ok-clause-took : goal.returns-in-Ok-clause-took
returns-in-Ok-clause-took c =
    let e : Event = event_of c.args.line c.args.call.now in
    subst (λ a. TookFits (ready c.args.self.now) a e) (sym c.answer_of_call.ensures) (took_fits (ready c.args.self.now) c.args.call.now c.call_session-answer.result e)

pub returns-in-Ok-clause-says : goal.returns-in-Ok-clause-says
returns-in-Ok-clause-says c =
    let k = shown c.self.inside in
    let s = c.in-Ok.seat in
    let a = c.args.call.now in
    let is = is_seat k c.args.line s (ap (λ z. seat_or z c.args.line) c.self.view_is ∙ sym c.seat_on.ensures ∙ c.in-Ok.is) in
    subst (λ (z : Kept). SimulatesCall (λ d. on_line z.lines d c.args.line (λ t. call_on (side_of z) d t a)) z c.reap_unless.new.self c.answer_of_call.result) c.self.view_is
    (says_called k c.reap_unless.new.self c.args.line s (λ d t. call_on (side_of k) d t a) (call_of s.session.session a) c.answer_of_call.result is
    (λ d st. reaped_calling k c.reap_unless.new.self c.call_session-answer.new.self s.session.circuit (call_of s.session.session a) _ d st c.call_session-answer.ensures.same.ids (c.call_session-answer.ensures.state d st.circuits)
    c.reap_unless.ensures.state c.reap_unless.ensures.circuits (λ t. call_calm (side_of k) s.session.circuit s.session.session a d
    (sym (ap is_free (c.state.ensures.model (calling (side_of k) s.session.circuit (call_of s.session.session a) d) (c.call_session-answer.ensures.state d st.circuits))) ∙ sym c.is_free-is_over.ensures ∙ not-true _ t)))
    (λ d t st h p q.
    agrees_at (λ x i. calling (side_of k) x (call_of i a) d) (λ x i. answer_shown (call_answer a (answer_at d x i a))) s.session.circuit s.session.session t (answer_shown c.answer_of_call.result) (call_on (side_of k) d t a) p q
    (ap answer_shown (c.answer_of_call.ensures ∙ ap (call_answer a) (c.call_session-answer.ensures.answer d st.circuits)))
    (call_agrees (side_of k) d k.lines t a h)))

pub returns-in-Err-clause-says : goal.returns-in-Err-clause-says
returns-in-Err-clause-says c =
    let a = c.args.call.now in
    let r = refused c.args.self.now c.args.line (λ d t. call_on (side_of c.args.self.now) d t a) c.in-Err.answer (sym c.seat_on.ensures ∙ c.in-Err.is) in
    subst (λ z. SimulatesCall (λ d. on_line c.args.self.now.lines d c.args.line (λ t. call_on (side_of c.args.self.now) d t a)) c.args.self.now z c.refused.result) (sym c.refused.ensures.kept)
    (subst (SimulatesCall (λ d. on_line c.args.self.now.lines d c.args.line (λ t. call_on (side_of c.args.self.now) d t a)) c.args.self.now (record (c.args.self.now) { freed = [] })) (sym c.refused.ensures.answer) r)

pub returns-in-Ok-clause-same : goal.returns-in-Ok-clause-same
returns-in-Ok-clause-same c =
    lines_same (shown c.self.inside) c.args.self.now c.reap_unless.new.self c.call_session-answer.new.self (record { was = c.self.view_is; circuits = c.reap_unless.ensures.circuits }) c.reap_unless.ensures.same.lines c.call_session-answer.ensures.same.core

pub returns-in-Ok-clause-clear : goal.returns-in-Ok-clause-clear
returns-in-Ok-clause-clear c =
    clear_same (shown c.self.inside) c.args.self.now c.reap_unless.new.self c.call_session-answer.new.self (record { was = c.self.view_is; circuits = c.reap_unless.ensures.circuits }) c.call_session-answer.ensures.clear

pub returns-in-Ok-clause-moment : goal.returns-in-Ok-clause-moment
returns-in-Ok-clause-moment c =
    moment_same (shown c.self.inside) c.args.self.now c.reap_unless.new.self c.call_session-answer.new.self (record { was = c.self.view_is; circuits = c.reap_unless.ensures.circuits }) c.call_session-answer.ensures.same.moment

pub returns-in-Ok-clause-rooms : goal.returns-in-Ok-clause-rooms
returns-in-Ok-clause-rooms c =
    rooms_same_lines (shown c.self.inside) c.args.self.now c.reap_unless.new.self c.call_session-answer.new.self (record { was = c.self.view_is; circuits = c.reap_unless.ensures.circuits }) c.call_session-answer.ensures.same
