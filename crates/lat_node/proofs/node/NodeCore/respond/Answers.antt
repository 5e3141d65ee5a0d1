use Rattle.std.proofs.Common.{refl, sym, ap, ◌∙◌, subst, [], ◌∷◌, Some, arith}
use Rattle.std.proofs.lemmas.Grind.{common_steps}
use Rattle.lat_machines.specs.values.Addresses.{address}
use Rattle.lat_machines.specs.node.Node.{announcement, response, solicited}
use Rattle.lat_lines.specs.Stands as lines
use Rattle.lat_node.specs.Kept.{Kept, config_of}
use Rattle.lat_node.specs.Places.{places}
use Rattle.lat_node.proofs.AnnounceLemmas.{response_as, response_rated, halted_rated}
use Rattle.lat_node.proofs.node.NodeCore.respond.Goals as goal

pub returns-then-self-clause-frames : goal.returns-then-self-clause-frames
returns-then-self-clause-frames g c = λ s st.
    halted_rated _ c.args.self.now s (response (config_of c.args.self.now) (address c.args.from.0) c.args.id c.args.service.now 0 ∷ announcement (config_of c.args.self.now) [] ∷ []) (λ rates. solicited (config_of c.args.self.now) rates s (address c.args.from.0) c.args.id (Some c.args.service.now)) (c.args.place ∷ places (config_of c.args.self.now)) c.args.out.now (sym st.halted ∙ sym (ap (λ (k : Kept g.row.H.Denot). k.halted) c.self.view_is) ∙ c.if-self.true) refl

pub returns-clause-frames : goal.returns-clause-frames
returns-clause-frames g c = λ s st.
    response_rated _ c.args.self.now s c.used-used.result (address c.args.from.0) c.args.id c.args.place c.args.service.now c.rating-rating.result c.in_ok-announcement.announcement c.response_frame.result c.notice_frame.result c.args.out.now c.push.new.self c.push-2.new.self
    (sym st.halted ∙ sym (ap (λ (k : Kept g.row.H.Denot). k.halted) c.self.view_is) ∙ c.if-self.false)
    (c.used-used.ensures.model s.core (subst (λ (k : Kept g.row.H.Denot). lines.Stands k.lines s.core) (sym c.self.view_is) st.lines))
    c.in_ok-announcement.ensures.announced c.rating-rating.ensures
    (response_as c.args.self.now (address c.args.from.0) c.args.id c.args.service.now c.rating-rating.result c.name-name.result c.self.inside.timer c.response_frame.result
    (c.name-name.ensures ∙ ap (λ (k : Kept g.row.H.Denot). k.lines.circuits.name) c.self.view_is)
    (ap (λ (k : Kept g.row.H.Denot). k.timer) c.self.view_is)
    c.response_frame.ensures)
    c.push.ensures c.notice_frame.ensures.goes c.push-2.ensures

pub push-requires : goal.push-requires
push-requires c = grind (arith, common_steps)

pub push-requires-2 : goal.push-requires-2
push-requires-2 c = grind (arith, common_steps)

pub returns-clause-most : goal.returns-clause-most
returns-clause-most c = grind (arith, common_steps)
