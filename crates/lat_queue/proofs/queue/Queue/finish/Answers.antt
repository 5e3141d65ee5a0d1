use Rattle.std.proofs.Common.{sym, ap, ◌∙◌, subst}
use Rattle.lat_queue.specs.Tables.{Table, waiting_count}
use Rattle.lat_queue.specs.Histories.{Stands, key_shown, finish_history}
use Rattle.lat_queue.proofs.CallLemmas.{stands_finished}
use Rattle.lat_queue.proofs.CountLemmas.{count_finished}
use Rattle.lat_queue.proofs.queue.Queue.finish.Goals as goal

pub returns-clause-stands : goal.returns-clause-stands
returns-clause-stands c = λ h st. subst (λ (t : Table). Stands t (finish_history (key_shown c.args.key.now) h)) (sym c.end.ensures) (stands_finished c.args.self.now h c.args.key.now st)

pub returns-clause-waiting : goal.returns-clause-waiting
returns-clause-waiting c = ap (λ (t : Table). waiting_count t.entries) c.end.ensures ∙ count_finished c.args.self.now c.args.key.now
