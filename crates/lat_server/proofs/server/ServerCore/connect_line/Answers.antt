use Rattle.std.proofs.Common.{◌≡◌, true, false, Some, None, option_map, refl, sym, ap, subst, ◌∙◌}
use Rattle.lat_base.specs.declared.answer.Answer.TheVariants as base
use Rattle.lat_machines.specs.cores.Lines.{line_exists, has_session}
use Rattle.lat_machines.specs.server.Directory.{best}
use Rattle.lat_machines.specs.server.Server.{ServerStep}
use Rattle.lat_machines.specs.values.Answers.{NoLine, Busy}
use Rattle.lat_dir.specs.Words.{best_shown}
use Rattle.lat_server.specs.Kept.{Kept, config_of}
use Rattle.lat_server.specs.Shown.{shown}
use Rattle.lat_server.specs.Stands.{Stands}
use Rattle.lat_server.specs.Events.{HasDone}
use Rattle.lat_server.proofs.Connecting.{idle, at_no_line, at_busy, at_best, at_none}
use Rattle.lat_server.proofs.Memory.{spends_free, spends_same}
use Rattle.lat_server.proofs.server.ServerCore.connect_line.Goals as goal

pub returns-then-not-exists-clause-does : goal.returns-then-not-exists-clause-does
returns-then-not-exists-clause-does c = λ s st.
    let k : Kept = c.args.self.now in
    let e : line_exists k.lines.lines c.args.line ≡ false = ap (λ (z : Kept). line_exists z.lines.lines c.args.line) (sym c.self.view_is) ∙ sym c.exists.ensures.value ∙ c.if-not-exists.true in
    subst (λ (t : ServerStep). HasDone s t k base.NoLine c.args.out.now c.args.out.now) (sym (at_no_line (config_of k) s c.args.line c.args.service.now e)) (record { state = idle k s NoLine c.args.out.now c.requires.rest st; answered = refl })

pub returns-then-has_session-clause-does : goal.returns-then-has_session-clause-does
returns-then-has_session-clause-does c = λ s st.
    let k : Kept = c.args.self.now in
    let e : line_exists k.lines.lines c.args.line ≡ true = ap (λ (z : Kept). line_exists z.lines.lines c.args.line) (sym c.self.view_is) ∙ sym c.exists.ensures.value ∙ c.if-not-exists.false in
    let in_it : Stands (shown c.self.inside) s = subst (λ (z : Kept). Stands z s) (sym c.self.view_is) st in
    let h : has_session s.core c.args.line ≡ true = sym (c.has_session.ensures s.core in_it.lines) ∙ c.if-has_session.true in
    subst (λ (t : ServerStep). HasDone s t k base.Busy c.args.out.now c.args.out.now) (sym (at_busy (config_of k) s c.args.line c.args.service.now e h)) (record { state = idle k s Busy c.args.out.now c.requires.rest st; answered = refl })

pub returns-in-Some-clause-does : goal.returns-in-Some-clause-does
returns-in-Some-clause-does c = λ s st.
    let k : Kept = c.args.self.now in
    let e : line_exists k.lines.lines c.args.line ≡ true = ap (λ (z : Kept). line_exists z.lines.lines c.args.line) (sym c.self.view_is) ∙ sym c.exists.ensures.value ∙ c.if-not-exists.false in
    let in_it : Stands (shown c.self.inside) s = subst (λ (z : Kept). Stands z s) (sym c.self.view_is) st in
    let h : has_session s.core c.args.line ≡ false = sym (c.has_session.ensures s.core in_it.lines) ∙ c.if-has_session.false in
    let b : best (config_of k).groups c.args.service.now s.core.moment s.heard ≡ Some (best_shown c.in-Some.best) =
    ap (λ (z : Kept). best z.directory.groups c.args.service.now s.core.moment s.heard) (sym c.self.view_is)
    ∙ ap (λ m. best c.self.inside.directory.groups c.args.service.now m s.heard) (sym (c.moment.ensures.model s.core in_it.lines))
    ∙ sym (c.best.ensures.best s.heard in_it.directory)
    ∙ ap (option_map best_shown) c.in-Some.is in
    subst (λ (t : ServerStep). HasDone s t c.connect_to.new.self c.connect_to.result c.args.out.now c.connect_to.new.out) (sym (at_best (config_of k) s c.args.line c.args.service.now (best_shown c.in-Some.best) e h b)) (c.connect_to.ensures.does s st h)

pub returns-in-None-clause-does : goal.returns-in-None-clause-does
returns-in-None-clause-does c = λ s st.
    let k : Kept = c.args.self.now in
    let e : line_exists k.lines.lines c.args.line ≡ true = ap (λ (z : Kept). line_exists z.lines.lines c.args.line) (sym c.self.view_is) ∙ sym c.exists.ensures.value ∙ c.if-not-exists.false in
    let in_it : Stands (shown c.self.inside) s = subst (λ (z : Kept). Stands z s) (sym c.self.view_is) st in
    let h : has_session s.core c.args.line ≡ false = sym (c.has_session.ensures s.core in_it.lines) ∙ c.if-has_session.false in
    let b : best (config_of k).groups c.args.service.now s.core.moment s.heard ≡ None =
    ap (λ (z : Kept). best z.directory.groups c.args.service.now s.core.moment s.heard) (sym c.self.view_is)
    ∙ ap (λ m. best c.self.inside.directory.groups c.args.service.now m s.heard) (sym (c.moment.ensures.model s.core in_it.lines))
    ∙ sym (c.best.ensures.best s.heard in_it.directory)
    ∙ ap (option_map best_shown) c.in-None.is in
    subst (λ (t : ServerStep). HasDone s t c.solicit.new.self c.solicit.result c.args.out.now c.solicit.new.out) (sym (at_none (config_of k) s c.args.line c.args.service.now e h b)) (c.solicit.ensures.does s st)

pub returns-then-not-exists-clause-spare : goal.returns-then-not-exists-clause-spare
returns-then-not-exists-clause-spare c = spends_same 1 c.args.self.now

pub returns-then-has_session-clause-spare : goal.returns-then-has_session-clause-spare
returns-then-has_session-clause-spare c = spends_same 1 c.args.self.now

pub returns-in-None-clause-spare : goal.returns-in-None-clause-spare
returns-in-None-clause-spare c = spends_free 1 c.args.self.now c.solicit.new.self c.solicit.ensures.spare
