use Rattle.std.proofs.Common.{◌≡◌, true, false, not, ◌&&◌, nat_eq, sym, ap, subst, ◌∙◌, arith}
use Rattle.std.proofs.lemmas.Bool.{and_parts, not-true}
use Rattle.std.proofs.lemmas.Grind.{common_steps}
use Rattle.lat_model.specs.ends.End.{End}
use Rattle.lat_base.specs.declared.heard.Heard.TheVariants as answers
use Rattle.lat_circuit.specs.Kept.{Kept}
use Rattle.lat_circuit.specs.Shown.{shown}
use Rattle.lat_circuit.specs.Stands.{Stands}
use Rattle.lat_circuit.specs.Hears.{hears_start, SimulatesHearing}
use Rattle.lat_circuit.proofs.Sending.{replies_formed}
use Rattle.lat_circuit.proofs.HeardStarts.{noted_at, replied_at, again_noted, again_replied}
use Rattle.lat_circuit.proofs.circuit.Circuit.hear_start.Goals as goal

pub returns-else-not-self-clause-did : goal.returns-else-not-self-clause-did
returns-else-not-self-clause-did c =
    let after = shown (noted_at c.self.inside c.args.now) in
    subst (λ k. SimulatesHearing (hears_start c.args.from c.args.now) answers.Again k after c.args.out.now c.args.out.now) c.self.view_is (
    again_noted c.self.inside c.args.from c.args.now c.args.out.now
    (ap (λ (k : Kept). k.ended) c.self.view_is ∙ c.requires.lives)
    c.if-not-self.false
    (λ e st. sym (c.is_slave_of.ensures e (subst (λ k. Stands k e) c.self.view_is st)) ∙ c.if-not-is_slave_of.false)
    )

pub returns-then-not-self-clause-did : goal.returns-then-not-self-clause-did
returns-then-not-self-clause-did c =
    let after = shown (replied_at c.self.inside c.args.now) in
    let named : (e : End) → Stands (shown c.self.inside) e → not e.master && nat_eq e.peer c.args.from ≡ true = (λ e st. sym (c.is_slave_of.ensures e (subst (λ k. Stands k e) c.self.view_is st)) ∙ c.if-not-is_slave_of.false) in
    let slave : (e : End) → Stands (shown c.self.inside) e → c.self.inside.link.ids.master ≡ false = (λ e st. st.master ∙ not-true e.master (and_parts (not e.master) (nat_eq e.peer c.args.from) (named e st)).0) in
    subst (λ k. SimulatesHearing (hears_start c.args.from c.args.now) answers.Again k after c.args.out.now c.push_start.new.out) c.self.view_is (
    again_replied c.self.inside c.args.from c.args.now _ c.args.out.now c.push_start.new.out
    (ap (λ (k : Kept). k.ended) c.self.view_is ∙ c.requires.lives)
    c.if-not-self.true
    named
    c.reply_start.ensures
    c.push_start.ensures.frame
    (λ e st. replies_formed c.self.inside _ c.self.invariant.1 (slave e st) c.reply_start.ensures c.push_start.ensures.names)
    )

pub returns-then-not-self-clause-most : goal.returns-then-not-self-clause-most
returns-then-not-self-clause-most c = grind (arith, common_steps)
