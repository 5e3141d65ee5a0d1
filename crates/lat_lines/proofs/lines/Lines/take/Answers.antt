use Rattle.std.proofs.Common.{◌≡◌, [], length, min, sym, ap, ap₂, subst, ◌∙◌, rules, arith}
use Rattle.std.proofs.lemmas.Grind.{common_steps}
use Rattle.lat_model.specs.sessions.Calls.{Take}
use Rattle.lat_machines.specs.cores.LineCalls.{take_on, on_line}
use Rattle.lat_lines.specs.circuits.Stands.{calling}
use Rattle.std.proofs.lemmas.Bool.{not-true}
use Rattle.lat_session.specs.States.{is_free}
use Rattle.lat_lines.specs.Kept.{Kept, side_of}
use Rattle.lat_lines.specs.Answers.{SimulatesCall, seat_or, took_answer}
use Rattle.lat_lines.specs.AnswerValues.{answer_shown}
use Rattle.lat_lines.specs.Shown.{shown}
use Rattle.lat_lines.proofs.Standing.{refilled}
use Rattle.lat_lines.proofs.Telling.{takes_at}
use Rattle.lat_lines.proofs.Calling.{taking, giving, take_agrees, agrees_at}
use Rattle.lat_lines.proofs.CallSteps.{reaped_calling, says_called, refused, is_seat}
use Rattle.lat_lines.proofs.resting.Calls.{take_calm}
use Rattle.lat_lines.proofs.Unchanged.{lines_same, clear_same, moment_same, rooms_same_lines}
use Rattle.lat_lines.proofs.lines.Lines.take.Goals as goal

pub returns-in_ok-items-in-Ok-clause-says : goal.returns-in_ok-items-in-Ok-clause-says
returns-in_ok-items-in-Ok-clause-says c =
    let k = shown c.self.inside in
    let s = c.in-Ok.seat in
    let given = c.as_mut_slice.result.now in
    let is = is_seat k c.args.line s (ap (λ z. seat_or z c.args.line) c.self.view_is ∙ sym c.seat_on.ensures ∙ c.in-Ok.is) in
    let long : length given ≡ min c.waiting.result c.args.n = search rules in
    let out = c.take-answer.new.out in
    let whole = refilled c.in_ok-items-in-Ok.items.len out c.in_ok-items-in-Ok.items.items (c.take-answer.ensures.places ∙ c.as_mut_slice.ensures.len) (sym c.in_ok-items-in-Ok.items.ok.0) in
    subst (λ (z : Kept). SimulatesCall (λ d. on_line z.lines d c.args.line (λ t. take_on (side_of z) d t c.args.n)) z c.reap_unless.new.self c.answer_of_take.result) c.self.view_is
    (says_called k c.reap_unless.new.self c.args.line s (λ d t. take_on (side_of k) d t c.args.n) (Take s.session.session (length given)) c.answer_of_take.result is
    (λ d st. reaped_calling k c.reap_unless.new.self c.take-answer.new.self s.session.circuit (Take s.session.session (length given)) _ d st c.take-answer.ensures.same.ids (c.take-answer.ensures.state d st.circuits)
    c.reap_unless.ensures.state c.reap_unless.ensures.circuits (λ t. take_calm (side_of k) s.session.circuit s.session.session (length given) d
    (sym (ap is_free (c.state.ensures.model (calling (side_of k) s.session.circuit (Take s.session.session (length given)) d) (c.take-answer.ensures.state d st.circuits))) ∙ sym c.is_free-is_over.ensures ∙ not-true _ t)))
    (λ d t st h p q.
    agrees_at (λ x i. calling (side_of k) x (Take i (length given)) d) (λ x i. answer_shown (took_answer (taking d x i (length given)) (giving d x i given))) s.session.circuit s.session.session t (answer_shown c.answer_of_take.result) (take_on (side_of k) d t c.args.n) p q
    (ap answer_shown (c.answer_of_take.ensures ∙ ap₂ took_answer (c.take-answer.ensures.answer d st.circuits) (whole ∙ c.take-answer.ensures.items d st.circuits)))
    (take_agrees (side_of k) d k.lines t c.args.n given h (long ∙ ap (λ w. min w c.args.n) (c.waiting.ensures.model d st.circuits ∙ ap₂ (takes_at d) p q)))))

pub returns-in-Err-clause-says : goal.returns-in-Err-clause-says
returns-in-Err-clause-says c =
    let r = refused c.args.self.now c.args.line (λ d t. take_on (side_of c.args.self.now) d t c.args.n) c.in-Err.answer (sym c.seat_on.ensures ∙ c.in-Err.is) in
    subst (λ z. SimulatesCall (λ d. on_line c.args.self.now.lines d c.args.line (λ t. take_on (side_of c.args.self.now) d t c.args.n)) c.args.self.now z c.refused.result) (sym c.refused.ensures.kept)
    (subst (SimulatesCall (λ d. on_line c.args.self.now.lines d c.args.line (λ t. take_on (side_of c.args.self.now) d t c.args.n)) c.args.self.now (record (c.args.self.now) { freed = [] })) (sym c.refused.ensures.answer) r)

pub returns-in_ok-items-in-Ok-clause-same : goal.returns-in_ok-items-in-Ok-clause-same
returns-in_ok-items-in-Ok-clause-same c =
    lines_same (shown c.self.inside) c.args.self.now c.reap_unless.new.self c.take-answer.new.self (record { was = c.self.view_is; circuits = c.reap_unless.ensures.circuits }) c.reap_unless.ensures.same.lines c.take-answer.ensures.same.core

pub returns-in_ok-items-in-Ok-clause-clear : goal.returns-in_ok-items-in-Ok-clause-clear
returns-in_ok-items-in-Ok-clause-clear c =
    clear_same (shown c.self.inside) c.args.self.now c.reap_unless.new.self c.take-answer.new.self (record { was = c.self.view_is; circuits = c.reap_unless.ensures.circuits }) c.take-answer.ensures.clear

pub returns-in_ok-items-in-Ok-clause-moment : goal.returns-in_ok-items-in-Ok-clause-moment
returns-in_ok-items-in-Ok-clause-moment c =
    moment_same (shown c.self.inside) c.args.self.now c.reap_unless.new.self c.take-answer.new.self (record { was = c.self.view_is; circuits = c.reap_unless.ensures.circuits }) c.take-answer.ensures.same.moment

pub returns-in_ok-items-in-Ok-clause-took : goal.returns-in_ok-items-in-Ok-clause-took
returns-in_ok-items-in-Ok-clause-took c = grind (arith, common_steps)

pub returns-in_ok-items-in-Ok-clause-rooms : goal.returns-in_ok-items-in-Ok-clause-rooms
returns-in_ok-items-in-Ok-clause-rooms c =
    rooms_same_lines (shown c.self.inside) c.args.self.now c.reap_unless.new.self c.take-answer.new.self (record { was = c.self.view_is; circuits = c.reap_unless.ensures.circuits }) c.take-answer.ensures.same
