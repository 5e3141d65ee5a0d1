use Rattle.std.proofs.Common.{◌≡◌, None, Ok, Err, IfOk, sym, subst}
use Rattle.lat_fields.specs.declared.fault.LayoutFault.{LayoutFault}
use Rattle.lat_machines.specs.values.Addresses.{address}
use Rattle.lat_machines.specs.values.Frames.{Reading, Whole}
use Rattle.lat_machines.specs.cores.Cores.{at_moment}
use Rattle.lat_machines.specs.server.Server.{with_core, hears}
use Rattle.lat_payload.specs.Reads.{malformed, reading_of, Answers}
use Rattle.lat_payload.specs.Reads.{value_shown}
use Rattle.lat_payload.proofs.Heard.{answers_as_read}
use Rattle.lat_server.specs.Kept.{config_of}
use Rattle.lat_server.specs.Events.{HasDone, SimulatesAt}
use Rattle.lat_server.proofs.server.ServerCore.hear.Goals as goal

pub returns-in-Err-Bad-clause-does : goal.returns-in-Err-Bad-clause-does
returns-in-Err-Bad-clause-does c = λ s st.
    let is : reading_of c.args.payload.now ≡ malformed c.in-Err-Bad.bad = subst (λ (f : LayoutFault). Answers (Err f) (reading_of c.args.payload.now)) c.in-Err-Bad.field-0-is (answers_as_read c.args.payload.now (Err c.in-Err-Bad.field-0) c.in-Err-Bad.ensures.reading) in
    let d = rw c.in-Err-Bad.field-0-is at (c.pass_over.ensures.does c.args.out.now s st) in
    subst (λ (r : Reading). HasDone s (hears (config_of c.args.self.now) (with_core s (at_moment c.args.now s.core)) (address c.args.from.0) r None) c.pass_over.new.self c.pass_over.result c.args.out.now c.args.out.now) (sym is) d

pub returns-in-Ok-clause-does : goal.returns-in-Ok-clause-does
returns-in-Ok-clause-does c =
    let is : reading_of c.args.payload.now ≡ Whole (value_shown c.in-Ok.value) = answers_as_read c.args.payload.now (Ok c.in-Ok.value) c.in-Ok.ensures.reading in
    subst (λ (r : Reading). IfOk c.hear_value.result (λ a. SimulatesAt c.args.now (λ config s. hears config s (address c.args.from.0) r None) c.args.self.now c.hear_value.new.self a c.args.out.now c.hear_value.new.out)) (sym is)
    c.hear_value.ensures.does
