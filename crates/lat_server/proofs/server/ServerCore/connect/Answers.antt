use Rattle.std.proofs.Common.{◌≡◌, true, false, refl, sym, ap, subst, ◌∙◌}
use Rattle.lat_base.specs.declared.answer.Answer.TheVariants as base
use Rattle.lat_machines.specs.server.Server.{ServerStep}
use Rattle.lat_machines.specs.values.Answers.{Halted}
use Rattle.lat_server.specs.Kept.{Kept, config_of}
use Rattle.lat_server.specs.Events.{HasDone}
use Rattle.lat_server.proofs.Connecting.{idle}
use Rattle.lat_server.proofs.Halting.{at_halted, at_working}
use Rattle.lat_server.proofs.Memory.{spends_same}
use Rattle.lat_server.proofs.server.ServerCore.connect.Goals as goal

pub returns-then-self-clause-does : goal.returns-then-self-clause-does
returns-then-self-clause-does c = λ s st.
    let k : Kept = c.args.self.now in
    let h : s.halted ≡ true = sym st.gate.halted ∙ ap (λ (z : Kept). z.gate.halted) (sym c.self.view_is) ∙ c.if-self.true in
    subst (λ (t : ServerStep). HasDone s t k base.Halted c.args.out.now c.args.out.now) (sym (at_halted (config_of k) s c.args.line c.args.service.now h)) (record { state = idle k s Halted c.args.out.now c.requires.rest st; answered = refl })

pub returns-else-self-clause-does : goal.returns-else-self-clause-does
returns-else-self-clause-does c = λ s st.
    let k : Kept = c.args.self.now in
    let h : s.halted ≡ false = sym st.gate.halted ∙ ap (λ (z : Kept). z.gate.halted) (sym c.self.view_is) ∙ c.if-self.false in
    subst (λ (t : ServerStep). HasDone s t c.connect_line.new.self c.connect_line.result c.args.out.now c.connect_line.new.out) (sym (at_working (config_of k) s c.args.line c.args.service.now h)) (c.connect_line.ensures.does s st)

pub returns-then-self-clause-spare : goal.returns-then-self-clause-spare
returns-then-self-clause-spare c = spends_same 1 c.args.self.now
