use Rattle.std.proofs.Common.{◌∙◌}
use Rattle.lat_queue.proofs.WaitLemmas.{waiter_right}
use Rattle.lat_queue.proofs.queue.Queue.waiter.Goals as goal

pub returns : goal.returns
returns c = λ h st. c.waiter_at.ensures ∙ waiter_right c.args.self.now h c.args.service.now c.args.at st
