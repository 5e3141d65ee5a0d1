use Rattle.std.proofs.Common.{string_bytes, ◌∙◌}
use Rattle.lat_wire.specs.Kept.{setups_of}
use Rattle.lat_audit.proofs.Texts.{text_by}
use Rattle.lat_audit.proofs.Legal.{audit_is_legal}
use Rattle.lat_audit.proofs.capture.captured.Goals as goal

pub returns-clause-text : goal.returns-clause-text
returns-clause-text g c = λ w s.
    text_by (setups_of c.args.wire.now) w c.args.circuit c.on-tap.result.circuit c.in-Some.run' (string_bytes c.new-text.result)
    (string_bytes c.title_onto.new.text) (string_bytes c.entries_onto.new.text) c.new-text.ensures.bytes c.on-tap.ensures.circuit (c.in-Some.ensures w s)
    c.in_ok-title_onto.ensures (c.in_ok-entries_onto.ensures.text w s)

pub returns-clause-legal : goal.returns-clause-legal
returns-clause-legal g c = λ w s. audit_is_legal c.args.wire.now w c.args.circuit s (c.in_ok-entries_onto.ensures.bytes w s)
