use Rattle.std.proofs.Common.{ap, ◌∙◌}
use Rattle.lat_queue.specs.Histories.{some_first}
use Rattle.lat_queue.proofs.WaitLemmas.{first_right}
use Rattle.lat_queue.proofs.queue.Queue.first.Goals as goal

pub returns : goal.returns
returns c = λ h st. ap some_first c.first_waiter.ensures ∙ first_right c.args.self.now h c.args.service.now st
