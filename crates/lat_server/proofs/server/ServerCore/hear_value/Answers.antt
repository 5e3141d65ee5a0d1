use Rattle.std.proofs.Common.{◌≡◌, true, false, cond, None, get_or, nat_eq, Fits, w8, sym, subst, ◌∙◌, rules, arith}
use Rattle.lat_base.specs.declared.answer.Answer.{Answer}
use Rattle.lat_machines.specs.values.Addresses.{address, everyone}
use Rattle.lat_machines.specs.values.Answers.{Ignored}
use Rattle.lat_machines.specs.values.Frames.{Whole}
use Rattle.lat_machines.specs.cores.Cores.{at_moment}
use Rattle.lat_machines.specs.server.Server.{Server, tells, with_core, hears_notice, hears_value, hears}
use Rattle.lat_value.specs.declared.value.Value.{Value}
use Rattle.lat_payload.specs.Notices.{notice_shown}
use Rattle.lat_payload.specs.Reads.{value_shown}
use Rattle.lat_payload.proofs.Addresses.{IsStation}
use Rattle.lat_payload.proofs.Everyone.{everyone_is}
use Rattle.lat_server.specs.Kept.{config_of}
use Rattle.lat_server.specs.Events.{HasDone, Simulates}
use Rattle.lat_server.proofs.Hearing.{if_ok}
use Rattle.lat_server.proofs.server.ServerCore.hear_value.Goals as goal

pub returns-then-is_everyone-clause-does : goal.returns-then-is_everyone-clause-does
returns-then-is_everyone-clause-does c = λ s st.
    let t : Server = with_core s (at_moment c.args.now s.core) in
    let x = address c.args.from.0 in
    let e : nat_eq x everyone ≡ true = sym (everyone_is c.args.from.0 (search rules)) ∙ sym c.if-is_everyone.ensures in
    subst (λ b. HasDone s (cond b (tells t Ignored) (hears_value (config_of c.args.self.now) t x (value_shown c.args.value.now) None)) c.pass_over.new.self c.pass_over.result c.args.out.now c.args.out.now) (sym e) (c.pass_over.ensures.does c.args.out.now s st)

pub returns-in-Circuit-clause-does : goal.returns-in-Circuit-clause-does
returns-in-Circuit-clause-does c = λ s st.
    let t : Server = with_core s (at_moment c.args.now s.core) in
    let x = address c.args.from.0 in
    let from : IsStation c.args.from.0 = record { long = omega arith; small = λ i. let f : Fits w8 (get_or c.args.from.0 i 0) = search rules in f.fits } in
    let e : nat_eq x everyone ≡ false = sym (everyone_is c.args.from.0 from) ∙ sym c.if-is_everyone.ensures in
    subst (λ b. HasDone s (cond b (tells t Ignored) (hears_value (config_of c.args.self.now) t x (value_shown c.args.value.now) None)) c.hear_message.new.self c.hear_message.result c.args.out.now c.hear_message.new.out) (sym e)
    (subst (λ (v : Value). HasDone s (hears_value (config_of c.args.self.now) t x (value_shown v) None) c.hear_message.new.self c.hear_message.result c.args.out.now c.hear_message.new.out) (sym c.in-Circuit.is) (c.hear_message.ensures.does s st))

pub returns-in-Notice-clause-does : goal.returns-in-Notice-clause-does
returns-in-Notice-clause-does c =
    let x = address c.args.from.0 in
    let from : IsStation c.args.from.0 = record { long = omega arith; small = λ i. let f : Fits w8 (get_or c.args.from.0 i 0) = search rules in f.fits } in
    let e : nat_eq x everyone ≡ false = sym (everyone_is c.args.from.0 from) ∙ sym c.if-is_everyone.ensures in
    if_ok c.hear_notice.result (λ (a : Answer). Simulates (λ config s. hears_notice config (with_core s (at_moment c.args.now s.core)) x (notice_shown c.in-Notice.notice)) c.args.self.now c.hear_notice.new.self a c.args.out.now c.hear_notice.new.out)
    (λ (a : Answer). Simulates (λ config s. hears config (with_core s (at_moment c.args.now s.core)) x (Whole (value_shown c.args.value.now)) None) c.args.self.now c.hear_notice.new.self a c.args.out.now c.hear_notice.new.out)
    (λ a does s st.
    let t : Server = with_core s (at_moment c.args.now s.core) in
    subst (λ b. HasDone s (cond b (tells t Ignored) (hears_value (config_of c.args.self.now) t x (value_shown c.args.value.now) None)) c.hear_notice.new.self a c.args.out.now c.hear_notice.new.out) (sym e)
    (subst (λ (v : Value). HasDone s (hears_value (config_of c.args.self.now) t x (value_shown v) None) c.hear_notice.new.self a c.args.out.now c.hear_notice.new.out) (sym c.in-Notice.is) (does s st)))
    c.hear_notice.ensures.does
