use Rattle.std.proofs.Common.{◌≡◌, ◌≤◌, ◌+◌, ◌-◌, ℕ, arith, refl, sym, ap, subst, ◌∙◌}
use Rattle.lat_model.specs.Lists.{upwards}
use Rattle.lat_machines.specs.server.Server.{ServerConfig, Passing, grant_line, grant_lines}
use Rattle.lat_server.specs.Kept.{Kept, config_of}
use Rattle.lat_server.specs.Events.{HasPassed}
use Rattle.lat_server.proofs.Granting.{lines_next}
use Rattle.lat_server.proofs.Idle.{grants_nothing}
use Rattle.lat_server.proofs.Memory.{spare_less}
use Rattle.lat_server.proofs.server.ServerCore.grant_pass.Goals as goal

pub loop-line-preserved : goal.loop-line-preserved
loop-line-preserved c = record {
  rest = c.grant_line-shut.ensures.rest;
  spare = λ n h. c.grant_line-shut.ensures.spare n (spare_less c.loop-line.self n (0 + n) (omega arith) (c.loop-line.invariant.spare n h));
  same = c.grant_line-shut.ensures.same ∙ c.loop-line.invariant.same;
  shut = c.grant_line-shut.ensures.shut;
  room = omega (arith, c.grant_line-shut.ensures.most, c.loop-line.invariant.room);
  passes = λ p start h.
      let config : ServerConfig = config_of c.args.self.now in
      let n : ℕ = c.loop-line.line in
      let one : 1 ≤ n = omega arith in
      let before : Passing = grant_lines config (upwards 0 (n - 1)) p in
      subst (λ (z : Passing). HasPassed z c.grant_line-shut.new.self start c.grant_line-shut.new.out) (sym (lines_next config n p one))
      (subst (λ (z : ServerConfig). HasPassed (grant_line z before n) c.grant_line-shut.new.self start c.grant_line-shut.new.out) c.loop-line.invariant.same
      (c.grant_line-shut.ensures.passes before start (c.loop-line.invariant.passes p start h)));
}

pub returns-clause-passes : goal.returns-clause-passes
returns-clause-passes c = λ p start h.
    let config : ServerConfig = config_of c.args.self.now in
    let count : c.count-count.result ≡ config.lines = c.count-count.ensures.value ∙ ap (λ (z : Kept). z.lines.lines) c.self.view_is in
    let all : c.loop-line.line - 1 ≡ config.lines = (let e : c.loop-line.line - 1 ≡ c.count-count.result = omega arith in e) ∙ count in
    subst (λ n. HasPassed (grant_lines config (upwards 0 n) p) c.loop-line.self start c.loop-line.out) all (c.loop-line.invariant.passes p start h)

pub returns-then-grants_none-clause-passes : goal.returns-then-grants_none-clause-passes
returns-then-grants_none-clause-passes c = λ p start h.
    let k : Kept = c.args.self.now in
    let none = sym (c.grants_none.ensures p.state.queue h.state.queue) ∙ c.if-grants_none.true in
    subst (λ (z : Passing). HasPassed z k start c.args.out.now) (sym (grants_nothing k.offers (config_of k) p (upwards 0 (config_of k).lines) refl none)) h

pub returns-clause-spare : goal.returns-clause-spare
returns-clause-spare c = c.loop-line.invariant.spare
