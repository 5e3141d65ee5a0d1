use Rattle.std.proofs.Common.{rules, sym, subst}
use Rattle.lat_base.specs.declared.event.Event as base
use Rattle.lat_machines.specs.server.Server.{server_event}
use Rattle.lat_lines.specs.Events.{event_shown}
use Rattle.lat_server.specs.Events.{Simulates, cost}
use Rattle.lat_server.specs.Kept.{Kept, HasSpare, Spends}
use Rattle.lat_server.specs.Shown.{shown}
use Rattle.lat_server.proofs.Stepping.{does_call, does_nothing}
use Rattle.lat_server.proofs.Memory.{spends_free, spends_same, spends_none}
use Rattle.lat_server.proofs.server.ServerCore.act.Goals as goal

pub returns-in-Some : goal.returns-in-Some
returns-in-Some c = record {
  does =
      does_call (shown c.self.inside) c.args.self.now c.call.new.self c.args.event.now c.in-Some.line c.in-Some.call c.call.result c.args.out.now c.self.view_is c.self.invariant.server c.in-Some.ensures c.call.ensures.says;
  same = search rules;
  spare =
      let k : Kept = shown c.self.inside in
      spends_free (cost c.args.event.now) c.args.self.now (record k { lines = c.call.new.self })
      (subst (λ (z : Kept). Spends 0 z (record k { lines = c.call.new.self })) c.self.view_is (spends_none k c.call.new.self c.call.ensures.same c.call.ensures.rooms));
  put = search rules;
  took = search rules;
  most = search rules;
}

pub returns-in-None : goal.returns-in-None
returns-in-None c = record {
  does =
      does_nothing c.args.self.now c.args.event.now c.args.out.now c.requires.rest c.requires.local c.in_default.not-Time c.in_default.not-Connect c.in_default.not-Avoid c.in_default.not-Ready c.in_default.not-Halt c.in-None.ensures;
  same = search rules;
  spare = spends_same (cost c.args.event.now) c.args.self.now;
  put = search rules;
  took = search rules;
  most = search rules;
}

pub returns-in-Avoid-clause-does : goal.returns-in-Avoid-clause-does
returns-in-Avoid-clause-does c =
    subst (λ (e : base.Event). Simulates (λ config s. server_event config s (event_shown e)) c.args.self.now c.avoid.new.self c.avoid.result c.args.out.now c.args.out.now) (sym c.in-Avoid.is) (c.avoid.ensures.does c.args.out.now)

pub returns-in-Ready-clause-does : goal.returns-in-Ready-clause-does
returns-in-Ready-clause-does c =
    subst (λ (e : base.Event). Simulates (λ config s. server_event config s (event_shown e)) c.args.self.now c.set_ready.new.self c.set_ready.result c.args.out.now c.args.out.now) (sym c.in-Ready.is) (c.set_ready.ensures.does c.args.out.now)

pub connect-requires-clause-memory : goal.connect-requires-clause-memory
connect-requires-clause-memory c = subst (λ (e : base.Event). HasSpare (cost e) c.args.self.now) c.in-Connect.is c.requires.memory

pub returns-in-Connect-clause-spare : goal.returns-in-Connect-clause-spare
returns-in-Connect-clause-spare c = subst (λ (e : base.Event). Spends (cost e) c.args.self.now c.connect.new.self) (sym c.in-Connect.is) c.connect.ensures.spare

pub returns-in-Time-clause-spare : goal.returns-in-Time-clause-spare
returns-in-Time-clause-spare c = spends_free (cost c.args.event.now) c.args.self.now c.time.new.self c.time.ensures.spare

pub returns-in-Avoid-clause-spare : goal.returns-in-Avoid-clause-spare
returns-in-Avoid-clause-spare c = spends_free (cost c.args.event.now) c.args.self.now c.avoid.new.self c.avoid.ensures.spare

pub returns-in-Ready-clause-spare : goal.returns-in-Ready-clause-spare
returns-in-Ready-clause-spare c = spends_free (cost c.args.event.now) c.args.self.now c.set_ready.new.self c.set_ready.ensures.spare

pub returns-in-Halt-clause-spare : goal.returns-in-Halt-clause-spare
returns-in-Halt-clause-spare c = spends_free (cost c.args.event.now) c.args.self.now c.halt.new.self c.halt.ensures.spare
