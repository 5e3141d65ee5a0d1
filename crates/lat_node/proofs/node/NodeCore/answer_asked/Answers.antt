use Rattle.std.proofs.Common.{◌≡◌, ◌∙◌, true, sym, subst}
use Rattle.lat_machines.specs.node.Node.{asked_on}
use Rattle.lat_lines.specs.circuits.Kept.{has_id}
use Rattle.lat_node.specs.Kept.{Kept, config_of}
use Rattle.lat_node.specs.Shown.{shown}
use Rattle.lat_node.specs.Stands.{Stands}
use Rattle.lat_node.proofs.AskedLemmas.{none_asked, living_asked, ended_asked}
use Rattle.lat_node.proofs.JudgedLemmas.{counted, told_more}
use Rattle.lat_node.proofs.node.NodeCore.answer_asked.Goals as goal

pub returns-then-asked-eq0-clause-state : goal.returns-then-asked-eq0-clause-state
returns-then-asked-eq0-clause-state g c = λ s st held.
    let stood = subst (λ z. Stands {H = g.row.H.Denot} z s) (sym c.self.view_is) st in
    let here = subst (λ (z : Kept g.row.H.Denot). has_id c.args.circuit z.lines.circuits ≡ true) (sym c.self.view_is) held in
    let count = c.asked_count-asked.ensures s.core stood.lines c.self.invariant.node here in
    subst (Stands {H = g.row.H.Denot} c.args.self.now) (none_asked (config_of {H = g.row.H.Denot} c.args.self.now) c.args.circuit s (sym count ∙ c.if-asked-eq0.true)) st

pub returns-then-lives-clause-state : goal.returns-then-lives-clause-state
returns-then-lives-clause-state g c = λ s st held.
    let stood = subst (λ z. Stands {H = g.row.H.Denot} z s) (sym c.self.view_is) st in
    let lives = sym (c.lives.ensures s.core stood.lines) ∙ c.if-lives.true in
    subst (Stands {H = g.row.H.Denot} c.answer_all.new.self) (living_asked (config_of {H = g.row.H.Denot} c.args.self.now) c.args.circuit s lives) (c.answer_all.ensures.state s st lives)

pub returns-else-lives-clause-state : goal.returns-else-lives-clause-state
returns-else-lives-clause-state g c = λ s st held.
    let k = shown c.self.inside in
    let stood = subst (λ z. Stands {H = g.row.H.Denot} z s) (sym c.self.view_is) st in
    let here = subst (λ (z : Kept g.row.H.Denot). has_id c.args.circuit z.lines.circuits ≡ true) (sym c.self.view_is) held in
    let lives = sym (c.lives.ensures s.core stood.lines) ∙ c.if-lives.false in
    let count = c.asked_count-asked.ensures s.core stood.lines c.self.invariant.node here in
    subst (Stands {H = g.row.H.Denot} (record k { turned_away = c.saturating_add-self-inside.result })) (ended_asked (config_of {H = g.row.H.Denot} c.args.self.now) c.args.circuit s lives)
    (counted k s c.saturating_add-self-inside.result (asked_on s c.args.circuit) stood
    (told_more c.self.inside.turned_away s.turned_away c.asked_count-asked.result (asked_on s c.args.circuit) c.saturating_add-self-inside.result stood.turned_away count c.saturating_add-self-inside.ensures))
