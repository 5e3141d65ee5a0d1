use Rattle.std.proofs.Common.{◌≡◌, ◌⊎◌, ◌∙◌, ap, sym, subst}
use Rattle.lat_live.specs.Printed.{IsOwn}
use Rattle.lat_live.specs.Served.{core_role}
use Rattle.lat_live.proofs.Came.{came_asked, came_back, came_printed, came_refused, came_role}
use Rattle.lat_live.proofs.Planned.{is_plan, many_lines}
use Rattle.lat_live.proofs.roles.serve_planned.Goals as goal

pub returns-in-Server : goal.returns-in-Server
returns-in-Server g c =
    let core = c.serve_core-done.ensures in
    let came = c.of_server.ensures in
    record {
      role = came_role _ _ _ _ came (ap core_role c.in-Server.is);
      ended = came_printed g.S.Sink.written g.S.Sink.faults _ _ _ _ _ came core.ended;
      back = came_back g.O.C.Callers.visits _ _ _ _ _ came (many_lines _ _ _ c.requires.plan) core.back;
      own = subst (λ n. IsOwn n ⊎ ((n ≡ 4) ⊎ (n ≡ 5))) (sym came.status) core.own;
      opener = λ four. core.opener (sym came.status ∙ four);
      sink = λ five. core.sink (sym came.status ∙ five);
      none = λ not. subst (λ n. (n ≡ 4) ⊎ (n ≡ 9)) (sym came.status) (core.none (came.none not));
      silent = λ four. core.silent (sym came.status ∙ four);
      memory = λ nine. core.memory (sym came.status ∙ nine);
      empty = λ not. let none = core.empty (came.none not) in (came.shares ∙ none.0, came.ends ∙ none.1, came.lines ∙ none.2);
      refused = came_refused _ _ _ _ _ _ _ _ came c.requires.plan core.refused;
      wrong = came.wrong;
      asked = came_asked _ _ _ _ _ _ _ _ came c.requires.plan core.asked;
    }

pub returns-in-Switch : goal.returns-in-Switch
returns-in-Switch g c =
    let core = c.serve_core-done-in-Switch.ensures in
    let came = c.of_switch.ensures in
    record {
      role = came_role _ _ _ _ came (ap core_role c.in-Switch.is);
      ended = came_printed g.S.Sink.written g.S.Sink.faults _ _ _ _ _ came core.ended;
      back = came_back g.O.C.Callers.visits _ _ _ _ _ came (many_lines _ _ _ c.requires.plan) core.back;
      own = subst (λ n. IsOwn n ⊎ ((n ≡ 4) ⊎ (n ≡ 5))) (sym came.status) core.own;
      opener = λ four. core.opener (sym came.status ∙ four);
      sink = λ five. core.sink (sym came.status ∙ five);
      none = λ not. subst (λ n. (n ≡ 4) ⊎ (n ≡ 9)) (sym came.status) (core.none (came.none not));
      silent = λ four. core.silent (sym came.status ∙ four);
      memory = λ nine. core.memory (sym came.status ∙ nine);
      empty = λ not. let none = core.empty (came.none not) in (came.shares ∙ none.0, came.ends ∙ none.1, came.lines ∙ none.2);
      refused = came_refused _ _ _ _ _ _ _ _ came c.requires.plan core.refused;
      wrong = came.wrong;
      asked = came_asked _ _ _ _ _ _ _ _ came c.requires.plan core.asked;
    }

pub returns-in-Node-clause-back : goal.returns-in-Node-clause-back
returns-in-Node-clause-back g c =
    came_back g.O.C.Callers.visits _ _ _ _ _ c.of_node.ensures (many_lines _ _ _ c.requires.plan) c.serve_core-done-in-Node.ensures.back

pub serve_core-done-requires-clause-plan : goal.serve_core-done-requires-clause-plan
serve_core-done-requires-clause-plan g c κs within = is_plan _ _ _ c.requires.settings c.requires.plan

pub serve_core-done-requires-in-Switch-clause-plan : goal.serve_core-done-requires-in-Switch-clause-plan
serve_core-done-requires-in-Switch-clause-plan g c κs within = is_plan _ _ _ c.requires.settings c.requires.plan

pub serve_core-done-requires-in-Node-clause-plan : goal.serve_core-done-requires-in-Node-clause-plan
serve_core-done-requires-in-Node-clause-plan g c κs within = is_plan _ _ _ c.requires.settings c.requires.plan
