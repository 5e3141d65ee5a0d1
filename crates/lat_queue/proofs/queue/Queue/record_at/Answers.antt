use Rattle.std.proofs.Common.{ap, ◌∙◌}
use Rattle.lat_queue.specs.Histories.{some_record}
use Rattle.lat_queue.proofs.InfoLemmas.{shown_right}
use Rattle.lat_queue.proofs.queue.Queue.record_at.Goals as goal

pub returns-clause-value : goal.returns-clause-value
returns-clause-value c = λ h st. ap some_record c.shown.ensures.value ∙ shown_right c.args.self.now h c.args.place st
