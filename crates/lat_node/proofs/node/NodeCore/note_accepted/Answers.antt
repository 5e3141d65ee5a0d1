use Rattle.std.proofs.Common.{sym, ap, ◌∙◌, subst, map}
use Rattle.std.proofs.lemmas.Bool.{true≢false}
use Rattle.lat_node.specs.Kept.{Kept}
use Rattle.lat_node.specs.Shown.{shown}
use Rattle.lat_node.specs.Stands.{request_shown, Stands}
use Rattle.lat_node.proofs.RequestLemmas.{found_none, made_none, stands_accepted}
use Rattle.lat_node.proofs.node.NodeCore.note_accepted.Goals as goal

pub returns-in_default-clause-state : goal.returns-in_default-clause-state
returns-in_default-clause-state g c = λ s st made.
    absurd (true≢false (sym made ∙ made_none s c.args.id (found_none s c.args.id c.self.inside.requests.entries (ap (λ (k : Kept g.row.H.Denot). map request_shown k.requests) c.self.view_is ∙ st.requests) (sym c.get.ensures.value ∙ sym c.in_default.ensures))))

pub returns-in-Some-clause-state : goal.returns-in-Some-clause-state
returns-in-Some-clause-state g c = λ s st made.
    stands_accepted (shown c.self.inside) s c.args.id c.in-Some.request c.accept.new.requests.entries
    (subst (λ (k : Kept g.row.H.Denot). Stands k s) (sym c.self.view_is) st) made (sym c.get.ensures.value ∙ sym c.copied.ensures ∙ c.in-Some.is) c.accept.ensures.accepted c.accept.ensures.apart
