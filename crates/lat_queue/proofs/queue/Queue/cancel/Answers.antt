use Rattle.std.proofs.Common.{◌≤◌, [], ◌∷◌, ◌++◌, sym, ap, ◌∙◌, subst}
use Rattle.lat_machines.specs.server.Queue.{Cancels}
use Rattle.lat_queue.specs.Tables.{Table, waiting_count}
use Rattle.lat_queue.specs.Histories.{Stands, key_shown, some_kept}
use Rattle.lat_queue.proofs.CallLemmas.{stands_cancelled}
use Rattle.lat_queue.proofs.CountLemmas.{count_cancelled}
use Rattle.lat_queue.proofs.InfoLemmas.{info_right}
use Rattle.lat_queue.proofs.queue.Queue.cancel.Goals as goal

pub returns-clause-stands : goal.returns-clause-stands
returns-clause-stands c = λ h st. subst (λ (t : Table). Stands t (h ++ Cancels (key_shown c.args.key.now) ∷ [])) (sym c.withdraw.ensures) (stands_cancelled c.args.self.now h c.args.key.now st)

pub returns-clause-answer : goal.returns-clause-answer
returns-clause-answer c = λ h st. ap some_kept c.info.ensures.value ∙ info_right c.withdraw.new.self (h ++ Cancels (key_shown c.args.key.now) ∷ []) c.args.key.now
    (subst (λ (t : Table). Stands t (h ++ Cancels (key_shown c.args.key.now) ∷ [])) (sym c.withdraw.ensures) (stands_cancelled c.args.self.now h c.args.key.now st))

pub returns-clause-waiting : goal.returns-clause-waiting
returns-clause-waiting c = subst (λ (t : Table). waiting_count t.entries ≤ waiting_count c.args.self.now.entries) (sym c.withdraw.ensures) (count_cancelled c.args.self.now c.args.key.now)
