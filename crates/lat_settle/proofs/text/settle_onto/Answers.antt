use Rattle.std.proofs.Common.{◌∙◌, ◌++◌, ap}
use Rattle.std.specs.Prelude.{string_bytes}
use Rattle.lat_machines.specs.world.Reports.{report}
use Rattle.lat_replay.specs.Kept.{setups_of}
use Rattle.lat_wire.specs.report.ReportText.{report_text}
use Rattle.lat_settle.proofs.Printing.{lossless_so, prints_refused, prints_through}
use Rattle.lat_settle.proofs.text.settle_onto.Goals as goal

pub returns-in_ok-report-in-Ok-clause-prints : goal.returns-in_ok-report-in-Ok-clause-prints
returns-in_ok-report-in-Ok-clause-prints g c = λ s h.
    prints_through (setups_of c.args.world.now) s c.args.rounds c.lossless-lossless.result (string_bytes c.args.text.now) (string_bytes c.lossless_onto.new.text) (string_bytes c.report.new.out) c.run_rounds.new.world
    (lossless_so (setups_of c.args.world.now) s.machines c.lossless-lossless.result (c.lossless-lossless.ensures s.machines h.machines))
    (c.in-Ok.ensures.runs s h)
    c.in_ok-lossless_onto-in-Ok.ensures
    (λ w q. c.in_ok-report-in-Ok.ensures.ok w q ∙ ap (λ z. string_bytes c.lossless_onto.new.text ++ report_text (report z w)) c.run_rounds.ensures.setups)

pub returns-in_ok-round_onto-in-Err-clause-prints : goal.returns-in_ok-round_onto-in-Err-clause-prints
returns-in_ok-round_onto-in-Err-clause-prints g c = λ s h.
    prints_refused (setups_of c.args.world.now) s c.args.rounds c.in-Err.field-0.round c.status.result c.in-Err.field-0.fault c.in_ok-refused-in-Err.refused (string_bytes c.args.text.now) (string_bytes c.round_onto.new.text) c.run_rounds.new.world
    c.in_ok-refused-in-Err.ensures.kept c.in_ok-refused-in-Err.ensures.value c.status.ensures (c.in-Err.ensures.runs s h) c.in_ok-round_onto-in-Err.ensures
