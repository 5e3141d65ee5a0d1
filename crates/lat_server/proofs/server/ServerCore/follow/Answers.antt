use Rattle.std.proofs.Common.{◌≡◌, sym, ap, subst, ◌∙◌}
use Rattle.lat_lines.specs.Kept as lines
use Rattle.lat_lines.specs.Stands as stands
use Rattle.lat_server.specs.Kept.{Kept}
use Rattle.lat_server.specs.Shown.{shown}
use Rattle.lat_server.specs.Events.{Passes, all_lines}
use Rattle.lat_server.proofs.Following.{followed}
use Rattle.lat_server.proofs.Stepping.{config_same}
use Rattle.lat_server.proofs.Memory.{spends_then, spends_finished}
use Rattle.lat_server.proofs.server.ServerCore.follow.Goals as goal

pub returns-clause-follows : goal.returns-clause-follows
returns-clause-follows c = λ s t before u n.
    let k : Kept = c.args.self.now in
    let l : lines.Kept = c.clear.new.self in
    let r = c.finish.new.self.queue in
    let is : shown c.self.inside ≡ record k { queue = r } = c.self.view_is ∙ c.finish.ensures.others in
    let there : c.self.inside.lines ≡ k.lines = ap (λ (z : Kept). z.lines) is in
    followed k r l c.grant_pass.new.self s t before c.args.out.now c.grant_pass.new.out u n c.finish.ensures.stands
    (λ d h. c.clear.ensures.state d (subst (λ (z : lines.Kept). stands.Stands z d) (sym there) h))
    (config_same k l r (subst (λ (z : lines.Kept). lines.SameLines z l) there c.clear.ensures.same))
    (subst (λ (z : Kept). Passes all_lines z c.grant_pass.new.self c.args.out.now c.grant_pass.new.out) (ap (λ (z : Kept). record z { lines = l }) is) c.grant_pass.ensures.passes)

pub returns-clause-spare : goal.returns-clause-spare
returns-clause-spare c =
    let m : Kept = record (shown c.self.inside) { lines = c.clear.new.self } in
    spends_then 0 c.args.self.now m c.grant_pass.new.self
    (spends_finished c.args.self.now c.finish.new.self (shown c.self.inside) c.clear.new.self c.self.view_is c.finish.ensures.others c.finish.ensures.waiting c.clear.ensures.same c.clear.ensures.rooms)
    c.grant_pass.ensures.spare

pub grant_pass-requires-clause-rest : goal.grant_pass-requires-clause-rest
grant_pass-requires-clause-rest c = record {
  clear = c.clear.ensures.clear;
  freed = c.clear.ensures.freed;
  memory =
      spends_finished c.args.self.now c.finish.new.self (shown c.self.inside) c.clear.new.self c.self.view_is c.finish.ensures.others c.finish.ensures.waiting c.clear.ensures.same c.clear.ensures.rooms 0 c.requires.memory;
}
