use Rattle.std.proofs.Common.{◌≡◌, ℕ, List, ap, subst, ◌∙◌, string_bytes}
use Rattle.std.specs.Prelude.{Ok, Err, IfOk}
use Rattle.lat_record.specs.RecordRead.{record_of}
use Rattle.lat_rerun.specs.Reruns.{rerun_by}
use Rattle.lat_rerun.proofs.Opened.{rerun_is}
use Rattle.lat_rerun.proofs.roles.rerun.Goals as goal

pub returns-in-Ok : goal.returns-in-Ok
returns-in-Ok c =
    let r = c.in-Ok.record in
    let P : ℕ × List ℕ → Type 0 = λ z. IfOk c.by_role.result (λ r. ◌≡◌ {A = ℕ × List ℕ} (r.0, string_bytes r.1) z) in
    subst P (ap (rerun_by r.opening r.first) c.as_slice.ensures ∙ rerun_is c.args.text.now (Ok r) c.in-Ok.ensures.reads) c.by_role.ensures

pub returns-in_ok-wrong_line-in-Err-Form : goal.returns-in_ok-wrong_line-in-Err-Form
returns-in_ok-wrong_line-in-Err-Form c =
    let no : Err c.in-Err-Form.line ≡ record_of c.args.text.now = rw c.in-Err-Form.field-0-is at c.in-Err-Form.ensures.reads in
    ap (λ (t : List ℕ). (2, t)) c.in_ok-wrong_line-in-Err-Form.ensures ∙ rerun_is c.args.text.now (Err c.in-Err-Form.line) no
