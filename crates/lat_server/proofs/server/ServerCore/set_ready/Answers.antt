use Rattle.std.proofs.Common.{◌≡◌, true, false, refl, sym, ap, subst, ◌∙◌}
use Rattle.lat_base.specs.declared.answer.Answer.TheVariants as base
use Rattle.lat_machines.specs.cores.Lines.{line_exists}
use Rattle.lat_machines.specs.server.Server.{ServerStep, readies_on}
use Rattle.lat_machines.specs.values.Answers.{NoLine}
use Rattle.lat_server.specs.Kept.{Kept, config_of, AtRest}
use Rattle.lat_server.specs.Shown.{shown}
use Rattle.lat_server.specs.Stands.{Stands}
use Rattle.lat_server.specs.Events.{HasDone}
use Rattle.lat_server.proofs.Connecting.{idle}
use Rattle.lat_server.proofs.Gates.{set_stands}
use Rattle.lat_server.proofs.Halting.{at_no_line, did_ready}
use Rattle.lat_server.proofs.Memory.{spends_nothing}
use Rattle.lat_server.proofs.server.ServerCore.set_ready.Goals as goal

pub returns-then-not-exists-clause-does : goal.returns-then-not-exists-clause-does
returns-then-not-exists-clause-does c = λ frames s st.
    let k : Kept = c.args.self.now in
    let e : line_exists k.lines.lines c.args.line ≡ false = ap (λ (z : Kept). line_exists z.lines.lines c.args.line) (sym c.self.view_is) ∙ sym c.exists.ensures.value ∙ c.if-not-exists.true in
    subst (λ (t : ServerStep). HasDone s t k base.NoLine frames frames) (sym (at_no_line (config_of k) s c.args.line c.args.ready e)) (record { state = idle k s NoLine frames c.requires.rest st; answered = refl })

pub returns-clause-does : goal.returns-clause-does
returns-clause-does c = λ frames s st.
    let k : Kept = shown c.self.inside in
    let rest : AtRest k = subst AtRest (sym c.self.view_is) c.requires.rest in
    let in_it : Stands k s = subst (λ (z : Kept). Stands z s) (sym c.self.view_is) st in
    let e : line_exists k.lines.lines c.args.line ≡ true = sym c.exists.ensures.value ∙ c.if-not-exists.false in
    let g = set_stands k.gate c.set.new.self s.halted s.ready c.args.line c.args.ready c.set.ensures.ready c.set.ensures.halted in_it.gate in
    subst (λ (z : Kept). HasDone s (readies_on (config_of z) s c.args.line c.args.ready) (record k { gate = c.set.new.self }) base.Done frames frames) c.self.view_is
    (did_ready k s c.args.line c.args.ready c.set.new.self frames rest in_it e g)

pub returns-clause-spare : goal.returns-clause-spare
returns-clause-spare c =
    let k : Kept = shown c.self.inside in
    spends_nothing c.args.self.now k (record k { gate = c.set.new.self }) c.self.view_is refl refl
