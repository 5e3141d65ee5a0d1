use Rattle.std.proofs.Common.{List, ℕ, refl, sym, subst}
use Rattle.std.specs.Prelude.{IfOk}
use Rattle.lat_base.specs.Answers.{PutFits, TookFits}
use Rattle.lat_base.specs.declared.answer.Answer.TheVariants as answers
use Rattle.lat_base.specs.declared.event.Event.{Event}
use Rattle.lat_base.specs.declared.event.Event.TheVariants as events
use Rattle.lat_switch.specs.Core.{ready}
use Rattle.lat_switch.specs.Stands.{Simulates}
use Rattle.lat_switch.specs.Steps.{does}
use Rattle.lat_switch.proofs.Courses.{same_itself}
use Rattle.lat_switch.proofs.Lined.{as_relay, as_refusal}
use Rattle.lat_switch.proofs.switch.SwitchCore.apply.Goals as goal

pub returns-in-Connect-clause-does : goal.returns-in-Connect-clause-does
returns-in-Connect-clause-does c = subst (λ (e : Event). IfOk c.connect_event.result (λ a. Simulates (does e) c.args.self.now c.connect_event.new.self a c.args.out.now c.connect_event.new.out)) (sym c.in-Connect.is) c.connect_event.ensures.does

pub returns-in-Connect-clause-put : goal.returns-in-Connect-clause-put
returns-in-Connect-clause-put c = subst (λ (e : Event). IfOk c.connect_event.result (λ a. PutFits a e)) (sym c.in-Connect.is) c.connect_event.ensures.put

pub returns-in-Connect-clause-took : goal.returns-in-Connect-clause-took
returns-in-Connect-clause-took c = subst (λ (e : Event). IfOk c.connect_event.result (λ a. TookFits (ready c.args.self.now) a e)) (sym c.in-Connect.is) c.connect_event.ensures.took

pub returns-in-Set-clause-does : goal.returns-in-Set-clause-does
returns-in-Set-clause-does c = subst (λ (e : Event). Simulates (does e) c.args.self.now c.set.new.self c.set.result c.args.out.now c.set.new.out) (sym c.in-Set.is) c.set.ensures.does

pub returns-in-Set-clause-put : goal.returns-in-Set-clause-put
returns-in-Set-clause-put c = subst (λ (e : Event). PutFits c.set.result e) (sym c.in-Set.is) c.set.ensures.put

pub returns-in-Set-clause-took : goal.returns-in-Set-clause-took
returns-in-Set-clause-took c = subst (λ (e : Event). TookFits (ready c.args.self.now) c.set.result e) (sym c.in-Set.is) c.set.ensures.took

pub returns-in-Attend-clause-does : goal.returns-in-Attend-clause-does
returns-in-Attend-clause-does c = subst (λ (e : Event). Simulates (does e) c.args.self.now c.attend.new.self c.attend.result c.args.out.now c.attend.new.out) (sym c.in-Attend.is) c.attend.ensures.does

pub returns-in-Attend-clause-put : goal.returns-in-Attend-clause-put
returns-in-Attend-clause-put c = subst (λ (e : Event). PutFits c.attend.result e) (sym c.in-Attend.is) c.attend.ensures.put

pub returns-in-Attend-clause-took : goal.returns-in-Attend-clause-took
returns-in-Attend-clause-took c = subst (λ (e : Event). TookFits (ready c.args.self.now) c.attend.result e) (sym c.in-Attend.is) c.attend.ensures.took

pub returns-in-Close-clause-does : goal.returns-in-Close-clause-does
returns-in-Close-clause-does c = subst (λ (e : Event). Simulates (does e) c.args.self.now c.close_event.new.self c.close_event.result c.args.out.now c.close_event.new.out) (sym c.in-Close.is) c.close_event.ensures.does

pub returns-in-Close-clause-put : goal.returns-in-Close-clause-put
returns-in-Close-clause-put c = subst (λ (e : Event). PutFits c.close_event.result e) (sym c.in-Close.is) c.close_event.ensures.put

pub returns-in-Close-clause-took : goal.returns-in-Close-clause-took
returns-in-Close-clause-took c = subst (λ (e : Event). TookFits (ready c.args.self.now) c.close_event.result e) (sym c.in-Close.is) c.close_event.ensures.took

pub returns-in-Put-clause-does : goal.returns-in-Put-clause-does
returns-in-Put-clause-does c =
    subst (λ (e : Event). IfOk c.put_event.result (λ a. Simulates (does e) c.args.self.now c.put_event.new.self a c.args.out.now c.put_event.new.out)) (sym c.in-Put.is)
    (subst (λ (bytes : List ℕ). IfOk c.put_event.result (λ a. Simulates (does (events.Put c.in-Put.line bytes)) c.args.self.now c.put_event.new.self a c.args.out.now c.put_event.new.out)) c.as_slice.ensures c.put_event.ensures.does)

pub returns-in-Put-clause-put : goal.returns-in-Put-clause-put
returns-in-Put-clause-put c =
    subst (λ (e : Event). IfOk c.put_event.result (λ a. PutFits a e)) (sym c.in-Put.is)
    (subst (λ (bytes : List ℕ). IfOk c.put_event.result (λ a. PutFits a (events.Put c.in-Put.line bytes))) c.as_slice.ensures c.put_event.ensures.put)

pub returns-in-Put-clause-took : goal.returns-in-Put-clause-took
returns-in-Put-clause-took c =
    subst (λ (e : Event). IfOk c.put_event.result (λ a. TookFits (ready c.args.self.now) a e)) (sym c.in-Put.is)
    (subst (λ (bytes : List ℕ). IfOk c.put_event.result (λ a. TookFits (ready c.args.self.now) a (events.Put c.in-Put.line bytes))) c.as_slice.ensures c.put_event.ensures.took)

pub returns-in-Take-clause-does : goal.returns-in-Take-clause-does
returns-in-Take-clause-does c = subst (λ (e : Event). IfOk c.take.result (λ a. Simulates (does e) c.args.self.now c.take.new.self a c.args.out.now c.take.new.out)) (sym c.in-Take.is) c.take.ensures.does

pub returns-in-Take-clause-put : goal.returns-in-Take-clause-put
returns-in-Take-clause-put c = subst (λ (e : Event). IfOk c.take.result (λ a. PutFits a e)) (sym c.in-Take.is) c.take.ensures.put

pub returns-in-Take-clause-took : goal.returns-in-Take-clause-took
returns-in-Take-clause-took c = subst (λ (e : Event). IfOk c.take.result (λ a. TookFits (ready c.args.self.now) a e)) (sym c.in-Take.is) c.take.ensures.took

pub returns-in-Heard-clause-does : goal.returns-in-Heard-clause-does
returns-in-Heard-clause-does c = as_relay c.args.event.now (λ f. IfOk c.pass.result (λ a. Simulates f c.args.self.now c.pass.new.self a c.args.out.now c.pass.new.out)) c.in-Heard.is c.pass.ensures.does

pub returns-in-Request-clause-same : goal.returns-in-Request-clause-same
returns-in-Request-clause-same c = same_itself c.args.self.now

pub returns-in-Request-clause-does : goal.returns-in-Request-clause-does
returns-in-Request-clause-does c = as_refusal c.args.event.now (λ f. Simulates f c.args.self.now c.args.self.now answers.NotHere c.args.out.now c.args.out.now) c.in-Request.is (λ course h. record { course = h; answered = refl })

pub returns-in-Avoid-clause-does : goal.returns-in-Avoid-clause-does
returns-in-Avoid-clause-does c = subst (λ (e : Event). Simulates (does e) c.args.self.now c.avoid.new.self c.avoid.result c.args.out.now c.avoid.new.out) (sym c.in-Avoid.is) c.avoid.ensures.does

pub returns-in-Avoid-clause-put : goal.returns-in-Avoid-clause-put
returns-in-Avoid-clause-put c = subst (λ (e : Event). PutFits c.avoid.result e) (sym c.in-Avoid.is) c.avoid.ensures.put

pub returns-in-Avoid-clause-took : goal.returns-in-Avoid-clause-took
returns-in-Avoid-clause-took c = subst (λ (e : Event). TookFits (ready c.args.self.now) c.avoid.result e) (sym c.in-Avoid.is) c.avoid.ensures.took

pub returns-in-Ready-clause-does : goal.returns-in-Ready-clause-does
returns-in-Ready-clause-does c = subst (λ (e : Event). Simulates (does e) c.args.self.now c.set_ready.new.self c.set_ready.result c.args.out.now c.set_ready.new.out) (sym c.in-Ready.is) c.set_ready.ensures.does

pub returns-in-Ready-clause-put : goal.returns-in-Ready-clause-put
returns-in-Ready-clause-put c = subst (λ (e : Event). PutFits c.set_ready.result e) (sym c.in-Ready.is) c.set_ready.ensures.put

pub returns-in-Ready-clause-took : goal.returns-in-Ready-clause-took
returns-in-Ready-clause-took c = subst (λ (e : Event). TookFits (ready c.args.self.now) c.set_ready.result e) (sym c.in-Ready.is) c.set_ready.ensures.took

pub returns-in-Halt-clause-does : goal.returns-in-Halt-clause-does
returns-in-Halt-clause-does c = subst (λ (e : Event). Simulates (does e) c.args.self.now c.halt.new.self c.halt.result c.args.out.now c.halt.new.out) (sym c.in-Halt.is) c.halt.ensures.does

pub returns-in-Halt-clause-put : goal.returns-in-Halt-clause-put
returns-in-Halt-clause-put c = subst (λ (e : Event). PutFits c.halt.result e) (sym c.in-Halt.is) c.halt.ensures.put

pub returns-in-Halt-clause-took : goal.returns-in-Halt-clause-took
returns-in-Halt-clause-took c = subst (λ (e : Event). TookFits (ready c.args.self.now) c.halt.result e) (sym c.in-Halt.is) c.halt.ensures.took
