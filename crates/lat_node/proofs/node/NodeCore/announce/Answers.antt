use Rattle.std.proofs.Common.{◌∙◌, refl, sym, ap, subst, [], ◌∷◌, arith}
use Rattle.std.proofs.lemmas.Grind.{common_steps}
use Rattle.lat_machines.specs.node.Node.{announcement}
use Rattle.lat_lines.specs.Stands as lines
use Rattle.lat_node.specs.Events.{announces}
use Rattle.lat_node.specs.Kept.{Kept, config_of}
use Rattle.lat_node.specs.Places.{places}
use Rattle.lat_node.proofs.AnnounceLemmas.{announced_rated, halted_rated}
use Rattle.lat_node.proofs.node.NodeCore.announce.Goals as goal

pub returns-then-self-clause-frames : goal.returns-then-self-clause-frames
returns-then-self-clause-frames g c = λ s st.
    halted_rated _ c.args.self.now s (announcement (config_of c.args.self.now) [] ∷ []) (announces (config_of c.args.self.now) s) (places (config_of c.args.self.now)) c.args.out.now (sym st.halted ∙ sym (ap (λ (k : Kept g.row.H.Denot). k.halted) c.self.view_is) ∙ c.if-self.true) refl

pub returns-clause-frames : goal.returns-clause-frames
returns-clause-frames g c = λ s st.
    announced_rated _ c.args.self.now s c.used.result c.in_ok-announcement.announcement c.notice_frame.result c.args.out.now c.push.new.self
    (sym st.halted ∙ sym (ap (λ (k : Kept g.row.H.Denot). k.halted) c.self.view_is) ∙ c.if-self.false)
    (c.used.ensures.model s.core (subst (λ (k : Kept g.row.H.Denot). lines.Stands k.lines s.core) (sym c.self.view_is) st.lines))
    c.in_ok-announcement.ensures.announced c.notice_frame.ensures.goes c.push.ensures

pub push-requires : goal.push-requires
push-requires c = grind (arith, common_steps)

pub returns-clause-most : goal.returns-clause-most
returns-clause-most c = grind (arith, common_steps)
