use Rattle.lat_trace.proofs.Happening.{happened}
use Rattle.std.proofs.Common.{◌∙◌, ap, Err}
use Rattle.std.proofs.lemmas.Result.{err_from_is_err_and}
use Rattle.lat_base.specs.declared.answer.Answer.{Answer}
use Rattle.std.specs.Prelude.{Option}
use Rattle.lat_wire.specs.Kept.{setups_of}
use Rattle.lat_wire.proofs.Refusing.{same_fault}
use Rattle.lat_replay.specs.Played.{refusal}
use Rattle.lat_trace.proofs.play.happen.Goals as goal

pub returns-clause-entry : goal.returns-clause-entry
returns-clause-entry g c = happened c.args.wire.now c.tell.new.wire c.args.event.now _ c.frames-first.ensures.value c.frames.ensures.value c.moment.ensures c.in_ok-answer.ensures.goes c.in_ok-answer.ensures.answer c.in_ok-answer.ensures.refused

pub returns-in_err-answer-clause-refused : goal.returns-in_err-answer-clause-refused
returns-in_err-answer-clause-refused g c =
    let p = err_from_is_err_and c.from_residual.result c.from_residual.ensures.1 in
    λ s h. same_fault (Option Answer) c.from_residual.result (refusal (setups_of c.args.wire.now) s c.args.event.now) c.in_err-answer.field-0.0 (p.1 ∙ ap (λ z. Err z) p.2) (c.in_err-answer.ensures.refused s h)
