use Rattle.std.proofs.Common.{◌∙◌, ap, Err}
use Rattle.std.proofs.lemmas.Result.{err_from_is_err_and}
use Rattle.lat_wire.specs.Kept.{setups_of}
use Rattle.lat_wire.proofs.Refusing.{same_fault}
use Rattle.lat_replay.specs.Played.{refusal}
use Rattle.lat_trace.specs.declared.entry.Entry.{Entry}
use Rattle.lat_trace.proofs.play.enter.Goals as goal

pub returns-clause-enters : goal.returns-clause-enters
returns-clause-enters g c = λ s h. (c.in_ok-entry.entry, c.in_ok-push.ensures.ok, c.in_ok-entry.ensures.entry s h)

pub returns-in_err-entry-clause-refused : goal.returns-in_err-entry-clause-refused
returns-in_err-entry-clause-refused g c =
    let p = err_from_is_err_and c.from_residual.result c.from_residual.ensures.1 in
    λ s h. same_fault Entry c.from_residual.result (refusal (setups_of c.args.wire.now) s c.args.event.now) c.in_err-entry.field-0.0 (p.1 ∙ ap (λ z. Err z) p.2) (c.in_err-entry.ensures.refused s h)
