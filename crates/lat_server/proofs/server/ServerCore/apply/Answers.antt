use Rattle.std.proofs.Common.{◌+◌, sym, subst, ◌∙◌, arith, rules}
use Rattle.lat_base.specs.declared.answer.Answer.{Answer}
use Rattle.lat_base.specs.declared.event.Event as base
use Rattle.lat_base.specs.declared.event.Event.TheVariants as events
use Rattle.lat_machines.specs.cores.Cores.{Side}
use Rattle.lat_machines.specs.cores.LineCalls.{take_on, on_line}
use Rattle.lat_machines.specs.server.Server.{server_side, server_event}
use Rattle.lat_lines.specs.Answers.{SimulatesCall, HasAnswered}
use Rattle.lat_lines.specs.Events.{event_shown}
use Rattle.lat_lines.specs.Kept.{side_of}
use Rattle.lat_server.specs.Kept.{Kept, config_of, HasSpare}
use Rattle.lat_server.specs.Shown.{shown}
use Rattle.lat_server.specs.Stands.{Stands}
use Rattle.lat_server.specs.Events.{HasDone, Simulates, cost}
use Rattle.lat_server.proofs.Connecting.{same_side}
use Rattle.lat_server.proofs.Hearing.{if_ok, did_call}
use Rattle.lat_server.proofs.Memory.{spends_none, spare_for, spare_less, takes_none, does_reserved}
use Rattle.lat_server.proofs.server.ServerCore.apply.Goals as goal

pub returns-in-Take-clause-does : goal.returns-in-Take-clause-does
returns-in-Take-clause-does c =
    let k : Kept = shown c.self.inside in
    let new : Kept = record k { lines = c.take.new.self } in
    if_ok c.take.result (λ (a : Answer). SimulatesCall (λ d. on_line k.lines.lines d c.in-Take.line (λ x. take_on (side_of k.lines) d x c.in-Take.n)) k.lines c.take.new.self a)
    (λ (a : Answer). Simulates (λ config s. server_event config s (event_shown c.args.event.now)) c.args.self.now new a c.args.out.now c.args.out.now)
    (λ a says s st.
    let in_it : Stands k s = subst (λ (z : Kept). Stands z s) (sym c.self.view_is) st in
    subst (λ (e : base.Event). HasDone s (server_event (config_of c.args.self.now) s (event_shown e)) new a c.args.out.now c.args.out.now) (sym c.in-Take.is)
    (subst (λ (z : Kept). HasDone s (server_event (config_of z) s (event_shown (events.Take c.in-Take.line c.in-Take.n))) new a c.args.out.now c.args.out.now) c.self.view_is
    (did_call k s c.take.new.self a (on_line k.lines.lines s.core c.in-Take.line (λ x. take_on (server_side (config_of k)) s.core x c.in-Take.n)) c.args.out.now in_it
    (subst (λ (z : Side). HasAnswered s.core (on_line k.lines.lines s.core c.in-Take.line (λ x. take_on z s.core x c.in-Take.n)) c.take.new.self a) (sym (same_side k c.self.invariant.server)) (says s.core in_it.lines)))))
    c.take.ensures.says

pub returns-in-Take-clause-spare : goal.returns-in-Take-clause-spare
returns-in-Take-clause-spare c =
    let k : Kept = shown c.self.inside in
    spends_none k c.take.new.self c.take.ensures.same c.take.ensures.rooms 0 (subst (HasSpare 0) (sym c.self.view_is) c.requires.rest.memory)

pub act-requires : goal.act-requires
act-requires c = record {
  rest = c.requires.rest;
  local = takes_none c.args.event.now c.in_default.not-Heard c.in_default.not-Take;
  memory = spare_for c.args.event.now c.args.self.now c.in_default.not-Connect c.requires.rest.memory;
  empty = c.requires.empty;
}

pub returns-in_default : goal.returns-in_default
returns-in_default c = record {
  does = c.act.ensures.does;
  same = c.act.ensures.same;
  spare =
      let e : base.Event = c.args.event.now in
      let ready : HasSpare (cost e) c.args.self.now = spare_for e c.args.self.now c.in_default.not-Connect c.requires.rest.memory in
      c.act.ensures.spare 0 (spare_less c.args.self.now (cost e) (cost e + 0) (omega arith) ready);
  put = c.act.ensures.put;
  took = c.act.ensures.took;
  most = c.act.ensures.most;
  err = search rules;
}

pub returns-in_ok-reserve-in-Connect-clause-does : goal.returns-in_ok-reserve-in-Connect-clause-does
returns-in_ok-reserve-in-Connect-clause-does c =
    does_reserved (λ config s. server_event config s (event_shown c.args.event.now)) c.args.self.now c.reserve.new.self c.connect.new.self c.connect.result c.args.out.now c.connect.new.out c.reserve.ensures.state c.reserve.ensures.same
    (subst (λ (e : base.Event). Simulates (λ config s. server_event config s (event_shown e)) c.reserve.new.self c.connect.new.self c.connect.result c.args.out.now c.connect.new.out) (sym c.in-Connect.is) c.connect.ensures.does)

pub returns-in_ok-reserve-in-Connect-clause-same : goal.returns-in_ok-reserve-in-Connect-clause-same
returns-in_ok-reserve-in-Connect-clause-same c = c.connect.ensures.same ∙ c.reserve.ensures.same

pub returns-in_ok-reserve-in-Connect-clause-spare : goal.returns-in_ok-reserve-in-Connect-clause-spare
returns-in_ok-reserve-in-Connect-clause-spare c = c.connect.ensures.spare 0 c.in_ok-reserve-in-Connect.ensures.spare

pub connect-requires-clause-rest : goal.connect-requires-clause-rest
connect-requires-clause-rest c = c.reserve.ensures.rest c.requires.rest

pub returns-in_err-reserve-in-Connect-clause-spare : goal.returns-in_err-reserve-in-Connect-clause-spare
returns-in_err-reserve-in-Connect-clause-spare c = (c.reserve.ensures.rest c.requires.rest).memory
