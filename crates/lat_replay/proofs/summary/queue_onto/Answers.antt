use Rattle.std.proofs.Common.{ap, ◌∙◌, ◌++◌}
use Rattle.std.specs.List.{flat_map}
use Rattle.lat_machines.specs.server.Records.{grants_of}
use Rattle.lat_wire.specs.report.ReportText.{grant_text}
use Rattle.lat_replay.proofs.summary.queue_onto.Goals as goal

pub returns : goal.returns
returns c = λ s st. c.in_ok-grants_onto.ensures s st ∙ ap (λ z. z ++ flat_map grant_text (grants_of s.queue)) (c.in_ok-requests_onto.ensures s st)
