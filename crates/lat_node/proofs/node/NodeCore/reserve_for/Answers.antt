use Rattle.std.proofs.Common.{◌≡◌, ◌&&◌, not, [], true≢false, sym, ap, ap₂, subst, ◌∙◌}
use Rattle.lat_lines.specs.circuits.Kept.{IsClear}
use Rattle.lat_lines.specs.Kept as lines
use Rattle.lat_node.specs.Kept.{Kept, AtRest, config_of}
use Rattle.lat_node.specs.Shown.{shown}
use Rattle.lat_node.specs.Stands.{Stands}
use Rattle.lat_node.proofs.StepLemmas.{with_lines}
use Rattle.lat_node.proofs.MemoryLemmas.{node_reserved, on_ok, on_err}
use Rattle.lat_node.proofs.node.NodeCore.reserve_for.Goals as goal

pub returns-then-may_make-clause-state : goal.returns-then-may_make-clause-state
returns-then-may_make-clause-state g c = λ s st.
    let in_it = subst (λ (z : Kept g.row.H.Denot). Stands z s) (sym c.self.view_is) st in
    node_reserved (shown c.self.inside) c.reserve.new.self s in_it (c.reserve.ensures.state s.core in_it.lines)

pub returns-then-may_make-clause-same : goal.returns-then-may_make-clause-same
returns-then-may_make-clause-same g c = record {
  config = ap (λ (l : lines.Kept). config_of (with_lines (shown c.self.inside) l)) c.reserve.ensures.kept ∙ ap (λ (z : Kept g.row.H.Denot). config_of z) c.self.view_is;
  rule = ap (λ (z : Kept g.row.H.Denot). z.rule) c.self.view_is;
}

pub returns-then-may_make-clause-rest : goal.returns-then-may_make-clause-rest
returns-then-may_make-clause-rest g c = λ rest.
    let before = subst (λ (z : Kept g.row.H.Denot). AtRest z) (sym c.self.view_is) rest in
    record {
      clear = subst (λ (l : lines.Kept). IsClear l.circuits) (sym c.reserve.ensures.kept) before.clear;
      freed = subst (λ (l : lines.Kept). l.freed ≡ []) (sym c.reserve.ensures.kept) before.freed;
    }

pub returns-then-may_make-clause-memory : goal.returns-then-may_make-clause-memory
returns-then-may_make-clause-memory g c = on_ok c.reserve.result (λ ready h call. ready) c.reserve.ensures.ready

pub returns-then-may_make-clause-err : goal.returns-then-may_make-clause-err
returns-then-may_make-clause-err g c =
    on_err c.reserve.result (λ same. ap (λ (l : lines.Kept). with_lines (shown c.self.inside) l) same ∙ c.self.view_is) c.reserve.ensures.err

pub returns-else-may_make-clause-memory : goal.returns-else-may_make-clause-memory
returns-else-may_make-clause-memory g c = λ h call.
    absurd (true≢false (sym (ap₂ (λ a b. not a && b) h call) ∙ sym c.may_make.ensures ∙ c.if-may_make.false))
