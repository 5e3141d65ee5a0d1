use Rattle.std.proofs.Common.{◌≡◌, ◌+◌, true≢false, [], ◌∷◌, ◌++◌, sym, ap, ◌∙◌, subst}
use Rattle.lat_machines.specs.server.Queue.{Grants}
use Rattle.lat_queue.specs.Tables.{Table, waiting_count}
use Rattle.lat_queue.specs.Histories.{Stands, key_shown, some_key}
use Rattle.lat_queue.proofs.CallLemmas.{stands_given, first_waits, key_right_some, key_right_none}
use Rattle.lat_queue.proofs.CountLemmas.{count_given, given_none}
use Rattle.lat_queue.proofs.queue.Queue.grant.Goals as goal

pub returns-in_err-key-clause-answer : goal.returns-in_err-key-clause-answer
returns-in_err-key-clause-answer c = λ h st. ap some_key c.from_residual.ensures ∙ key_right_none c.args.self.now h c.args.service.now st (sym c.first_waiter.ensures ∙ c.in_err-key.was)

pub returns-then-give-clause-answer : goal.returns-then-give-clause-answer
returns-then-give-clause-answer c = λ h st. key_right_some c.args.self.now h c.args.service.now c.in_ok-key.key c.in_ok-key.field-0-1 st (sym c.first_waiter.ensures ∙ c.in_ok-key.was)

pub returns-then-give-clause-stands : goal.returns-then-give-clause-stands
returns-then-give-clause-stands c = λ h st. subst (λ (t : Table). Stands t (h ++ Grants (key_shown c.in_ok-key.key) c.args.service.now ∷ [])) (sym c.give.ensures.value) (stands_given c.args.self.now h c.args.service.now c.in_ok-key.key c.in_ok-key.field-0-1 st (sym c.first_waiter.ensures ∙ c.in_ok-key.was))

pub returns-then-give-clause-waiting : goal.returns-then-give-clause-waiting
returns-then-give-clause-waiting c =
    subst (λ (t : Table). waiting_count t.entries + 1 ≡ waiting_count c.args.self.now.entries) (sym c.give.ensures.value) (count_given c.args.self.now c.in_ok-key.key (sym c.give.ensures.gave ∙ c.if-give.true))

pub returns-else-give-clause-answer : goal.returns-else-give-clause-answer
returns-else-give-clause-answer c = λ h st.
    absurd (true≢false (sym (first_waits c.args.self.now h c.args.service.now c.in_ok-key.key c.in_ok-key.field-0-1 st (sym c.first_waiter.ensures ∙ c.in_ok-key.was)) ∙ sym c.give.ensures.gave ∙ c.if-give.false))

pub returns-else-give-clause-none : goal.returns-else-give-clause-none
returns-else-give-clause-none c = c.give.ensures.value ∙ given_none c.args.self.now c.in_ok-key.key (sym c.give.ensures.gave ∙ c.if-give.false)
