use Rattle.std.proofs.Common.{sym, subst, arith}
use Rattle.lat_machines.specs.server.Server.{connects_to}
use Rattle.lat_dir.specs.Words.{best_shown}
use Rattle.lat_server.specs.Kept.{Kept, config_of, AtRest, HasSpare, Spends}
use Rattle.lat_server.specs.Opened.{opened_answer}
use Rattle.lat_server.specs.Shown.{shown}
use Rattle.lat_server.specs.Stands.{Stands}
use Rattle.lat_server.specs.Events.{HasDone}
use Rattle.lat_server.proofs.Connecting.{same_side, did_connect}
use Rattle.lat_server.proofs.Memory.{spends}
use Rattle.lat_server.proofs.server.ServerCore.connect_to.Goals as goal

pub returns-clause-does : goal.returns-clause-does
returns-clause-does c = λ s st h.
    let k : Kept = shown c.self.inside in
    let rest : AtRest k = subst AtRest (sym c.self.view_is) c.requires.rest in
    let in_it : Stands k s = subst (λ (z : Kept). Stands z s) (sym c.self.view_is) st in
    let b = best_shown c.args.best.now in
    let done : HasDone s (connects_to (config_of k) s c.args.line c.args.service.now b) (record k { lines = c.open-opened.new.self }) (opened_answer c.open-opened.result) c.args.out.now c.open-opened.new.out =
    did_connect k s c.args.line c.args.service.now b c.open-opened.new.self c.open-opened.result c.args.out.now c.open-opened.new.out rest in_it (c.open-opened.ensures.answer s.core in_it.lines) (c.open-opened.ensures.opened (config_of k) s.core (same_side k c.self.invariant.server) in_it.lines h) c.open-opened.ensures.freed c.open-opened.ensures.err in
    subst (λ a. HasDone s (connects_to (config_of c.args.self.now) s c.args.line c.args.service.now b) (record k { lines = c.open-opened.new.self }) a c.args.out.now c.open-opened.new.out) (sym c.answer_opened.ensures)
    (subst (λ (z : Kept). HasDone s (connects_to (config_of z) s c.args.line c.args.service.now b) (record k { lines = c.open-opened.new.self }) (opened_answer c.open-opened.result) c.args.out.now c.open-opened.new.out) c.self.view_is done)

pub open-opened-requires-clause-memory : goal.open-opened-requires-clause-memory
open-opened-requires-clause-memory c = λ short.
    let ready : HasSpare 1 (shown c.self.inside) = subst (HasSpare 1) (sym c.self.view_is) c.requires.memory in
    ready (omega (arith, short))

pub returns-clause-spare : goal.returns-clause-spare
returns-clause-spare c =
    let k : Kept = shown c.self.inside in
    subst (λ (z : Kept). Spends 1 z (record k { lines = c.open-opened.new.self })) c.self.view_is
    (spends k (record k { lines = c.open-opened.new.self }) 1 1 (omega arith) c.open-opened.ensures.same.core.memory c.open-opened.ensures.rooms)
