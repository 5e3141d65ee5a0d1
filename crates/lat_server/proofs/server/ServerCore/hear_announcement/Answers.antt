use Rattle.std.proofs.Common.{◌≡◌, ◌≢◌, sym, ap, subst, ◌∙◌, max, length, arith}
use Rattle.std.specs.Prelude.{Err}
use Rattle.lat_machines.specs.values.Addresses.{address}
use Rattle.lat_machines.specs.cores.Cores.{at_moment}
use Rattle.lat_machines.specs.server.Server.{with_core, hears_announcement}
use Rattle.lat_dir.specs.declared.directory.DirFault.TheVariants as faults
use Rattle.lat_dir.specs.Stands as dir
use Rattle.lat_dir.specs.Stands.{heard, answer_to}
use Rattle.lat_dir.specs.Announcements.{announcement_shown}
use Rattle.lat_lines.specs.AnswerValues.{answer_shown}
use Rattle.lat_server.specs.Commands.{announced_answer}
use Rattle.lat_server.specs.Kept.{Kept, config_of, AtRest, HasSpare}
use Rattle.lat_server.specs.Shown.{shown}
use Rattle.lat_server.specs.Stands.{Stands}
use Rattle.lat_server.specs.Events.{HasDone}
use Rattle.lat_server.proofs.Hearing.{unless_out, did_announce}
use Rattle.lat_server.proofs.Memory.{spends}
use Rattle.lat_server.proofs.server.ServerCore.hear_announcement.Goals as goal

pub returns-clause-does : goal.returns-clause-does
returns-clause-does c = λ frames s st.
    let k : Kept = shown c.self.inside in
    let rest : AtRest k = subst AtRest (sym c.self.view_is) c.requires.rest in
    let in_it : Stands k s = subst (λ (z : Kept). Stands z s) (sym c.self.view_is) st in
    let a = c.args.announcement.now in
    let r = c.hear-heard.result in
    let n : r ≢ Err faults.Memory = c.in_ok-answer.ensures.ok in
    let moment : c.max-moment.result ≡ max s.core.moment c.args.now = c.max-moment.ensures ∙ ap (λ z. max z c.args.now) (c.moment.ensures.model s.core in_it.lines) in
    let stands : dir.Stands c.hear-heard.new.self (heard k.directory.groups (max s.core.moment c.args.now) c.args.from a s.heard) =
    subst (λ z. dir.Stands c.hear-heard.new.self (heard k.directory.groups z c.args.from a s.heard)) moment
    (unless_out r (dir.Stands c.hear-heard.new.self (heard k.directory.groups c.max-moment.result c.args.from a s.heard)) n (c.hear-heard.ensures.stands s.heard in_it.directory)) in
    let answer : r ≡ answer_to k.directory.groups (max s.core.moment c.args.now) a s.heard = unless_out r (r ≡ answer_to k.directory.groups c.max-moment.result a s.heard) n (c.hear-heard.ensures.answer s.heard in_it.directory) ∙ ap (λ z. answer_to k.directory.groups z a s.heard) moment in
    let told : answer_shown c.in_ok-answer.answer ≡ announced_answer r = unless_out r (answer_shown c.in_ok-answer.answer ≡ announced_answer r) n c.in_ok-answer.ensures.shown in
    subst (λ (z : Kept). HasDone s (hears_announcement (config_of z) (with_core s (at_moment c.args.now s.core)) (address c.args.from.0) (announcement_shown a)) (record k { lines = c.pass.new.self; directory = c.hear-heard.new.self }) c.in_ok-answer.answer frames frames) c.self.view_is
    (did_announce k s c.args.now (address c.args.from.0) (announcement_shown a) c.pass.new.self c.hear-heard.new.self c.in_ok-answer.answer frames rest in_it (c.pass.ensures.state s.core in_it.lines) c.pass.ensures.freed stands (told ∙ ap announced_answer answer))

pub returns-clause-spare : goal.returns-clause-spare
returns-clause-spare c =
    let k : Kept = shown c.self.inside in
    spends k (record k { lines = c.pass.new.self; directory = c.hear-heard.new.self }) 0 0 (omega arith) c.pass.ensures.same.core.memory (omega (arith, ap length c.pass.ensures.rooms)) 0
    (subst (HasSpare 0) (sym c.self.view_is) c.requires.rest.memory)

pub returns-in_err-answer-clause-spare : goal.returns-in_err-answer-clause-spare
returns-in_err-answer-clause-spare c = subst (HasSpare 0) (sym c.self.view_is) c.requires.rest.memory
