use Rattle.std.proofs.Common.{sym, ap, ◌∙◌, ◌&&◌, not, map}
use Rattle.lat_node.proofs.RequestLemmas.{same_is, found_some, found_none, is_requested, not_requested}
use Rattle.lat_node.specs.Kept.{Kept}
use Rattle.lat_node.specs.Stands.{request_shown}
use Rattle.lat_node.proofs.node.NodeCore.is_requested.Goals as goal

pub returns-then-same : goal.returns-then-same
returns-then-same g c = λ s st.
    let e = c.in-Some.request.now in
    ap (λ b. b && not e.accepted) (sym c.if-same.true ∙ same_is c.same.result e.service c.args.service.now c.same.ensures)
    ∙ is_requested s c.args.id c.args.service.now e (found_some s c.args.id c.self.inside.requests.entries e (ap (λ (k : Kept g.row.H.Denot). map request_shown k.requests) c.self.view_is ∙ st.requests) (sym c.in-Some.ensures.value))

pub returns-else-same : goal.returns-else-same
returns-else-same g c = λ s st.
    let e = c.in-Some.request.now in
    c.if-same.false
    ∙ ap (λ b. b && not e.accepted) (sym c.if-same.false ∙ same_is c.same.result e.service c.args.service.now c.same.ensures)
    ∙ is_requested s c.args.id c.args.service.now e (found_some s c.args.id c.self.inside.requests.entries e (ap (λ (k : Kept g.row.H.Denot). map request_shown k.requests) c.self.view_is ∙ st.requests) (sym c.in-Some.ensures.value))

pub returns-in-None : goal.returns-in-None
returns-in-None g c = λ s st.
    not_requested s c.args.id c.args.service.now (found_none s c.args.id c.self.inside.requests.entries (ap (λ (k : Kept g.row.H.Denot). map request_shown k.requests) c.self.view_is ∙ st.requests) (sym c.in-None.ensures.value))
