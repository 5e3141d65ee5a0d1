use Rattle.std.proofs.Common.{◌≡◌, refl, sym, ap, ◌∙◌, subst, map, Option}
use Rattle.lat_machines.specs.values.Answers.{Done, Closed}
use Rattle.lat_machines.specs.node.Node.{Requested, withdraws}
use Rattle.lat_payload.specs.Frames.{Emits}
use Rattle.lat_payload.proofs.Frames.{adds_none}
use Rattle.lat_node.specs.Kept.{Kept, config_of}
use Rattle.lat_node.specs.Stands.{request_shown, Stands}
use Rattle.lat_node.proofs.RequestLemmas.{found_some, found_none}
use Rattle.lat_node.proofs.node.NodeCore.withdraw.Goals as goal

pub returns-in-Some-clause-does : goal.returns-in-Some-clause-does
returns-in-Some-clause-does g c = λ s st.
    let k = c.args.self.now in
    let f = found_some s c.args.id c.self.inside.requests.entries c.in-Some.request (ap (λ (k : Kept g.row.H.Denot). map request_shown k.requests) c.self.view_is ∙ st.requests) (sym c.get.ensures.value ∙ sym c.copied.ensures ∙ c.in-Some.is) in
    subst (λ (o : Option Requested). Stands k (withdraws (config_of k) s o).state × (Done ≡ (withdraws (config_of k) s o).answer) × Emits (withdraws (config_of k) s o).frames c.args.out.now c.command.new.out) (sym f.0)
    (st, refl, c.command.ensures.frames)

pub returns-in-None-clause-does : goal.returns-in-None-clause-does
returns-in-None-clause-does g c = λ s st.
    let k = c.args.self.now in
    let none = found_none s c.args.id c.self.inside.requests.entries (ap (λ (k : Kept g.row.H.Denot). map request_shown k.requests) c.self.view_is ∙ st.requests) (sym c.get.ensures.value ∙ sym c.in-None.ensures) in
    subst (λ (o : Option Requested). Stands k (withdraws (config_of k) s o).state × (Closed ≡ (withdraws (config_of k) s o).answer) × Emits (withdraws (config_of k) s o).frames c.args.out.now c.args.out.now) (sym none)
    (st, refl, adds_none c.args.out.now)
