use Rattle.std.proofs.Common.{sym, ap, subst, ◌∙◌}
use Rattle.lat_server.specs.Kept as server
use Rattle.lat_server.specs.Kept.{AtRest}
use Rattle.lat_server.specs.Stands.{IsMachine}
use Rattle.lat_switch.specs.Core.{ready, shown_in}
use Rattle.lat_switch.specs.Kept.{Kept, IsValid, IsSame}
use Rattle.lat_switch.specs.Stands.{HasCome}
use Rattle.lat_switch.proofs.Memory.{with_inner, machine_stays, same_reserved, comes_reserved, ready_same, on_err}
use Rattle.lat_switch.proofs.switch.SwitchCore.reserve.Goals as goal

pub returns-clause-valid : goal.returns-clause-valid
returns-clause-valid c =
    let v : IsValid c.args.self.now = c.requires.valid in
    record {
      rest = c.reserve.ensures.rest (subst (λ (z : Kept). AtRest z.inner) (sym c.self.view_is) v.rest);
      machine = v.machine;
      stands = machine_stays c.self.inside.inner c.reserve.new.self v.machine c.reserve.ensures.state c.reserve.ensures.same (subst (λ (z : Kept). IsMachine z.inner v.machine) (sym c.self.view_is) v.stands);
    }

pub returns-clause-same : goal.returns-clause-same
returns-clause-same c =
    let k : Kept = record { inner = c.self.inside.inner; lines = c.self.inside.lines.items } in
    subst (λ (z : Kept). IsSame z (with_inner k c.reserve.new.self)) c.self.view_is (same_reserved k c.reserve.new.self c.reserve.ensures.same)

pub returns-clause-does : goal.returns-clause-does
returns-clause-does c = λ frames course h.
    let k : Kept = record { inner = c.self.inside.inner; lines = c.self.inside.lines.items } in
    comes_reserved k c.reserve.new.self frames course c.reserve.ensures.state c.reserve.ensures.same (subst (λ (z : Kept). HasCome course z frames) (sym c.self.view_is) h)

pub returns-clause-ready : goal.returns-clause-ready
returns-clause-ready c = λ line.
    ready_same c.reserve.new.self.lines c.self.inside.inner.lines c.reserve.ensures.lines (shown_in line c.self.inside.lines.items)
    ∙ ap (λ (z : Kept). ready z line) c.self.view_is

pub returns-clause-err : goal.returns-clause-err
returns-clause-err c =
    let k : Kept = record { inner = c.self.inside.inner; lines = c.self.inside.lines.items } in
    on_err c.reserve.result (λ same. ap (λ (l : server.Kept). with_inner k l) same ∙ c.self.view_is) c.reserve.ensures.err
