use Rattle.std.proofs.Common.{◌∙◌, sym, ap}
use Rattle.lat_node.specs.Kept.{Kept, config_of}
use Rattle.lat_node.proofs.AnnounceLemmas.{farewell_said, farewell_known}
use Rattle.lat_node.proofs.node.NodeCore.farewell.Goals as goal

pub returns-then-self : goal.returns-then-self
returns-then-self g c = λ s before st.
    farewell_known (config_of {H = g.row.H.Denot} c.args.self.now) s.halted before (sym st.halted ∙ sym (ap (λ (z : Kept g.row.H.Denot). z.halted) c.self.view_is) ∙ c.if-self.true)

pub returns : goal.returns
returns g c = λ s before st.
    farewell_said (config_of {H = g.row.H.Denot} c.args.self.now) s.halted c.new.result c.in_ok-announcement.announcement c.notice_frame.result before (sym st.halted ∙ sym (ap (λ (z : Kept g.row.H.Denot). z.halted) c.self.view_is) ∙ c.if-self.false) c.new.ensures c.in_ok-announcement.ensures.announced c.notice_frame.ensures.goes
