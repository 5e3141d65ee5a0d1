use Rattle.std.proofs.Common.{◌≡◌, [], sym, ap, subst, ◌∙◌}
use Rattle.lat_base.specs.declared.heard.Heard.TheVariants as answers
use Rattle.lat_circuit.specs.Frames.{timing_shown}
use Rattle.lat_circuit.specs.Messages.{info_shown}
use Rattle.lat_circuit.specs.Kept.{Kept}
use Rattle.lat_circuit.specs.Shown.{shown}
use Rattle.lat_circuit.specs.Stands.{Stands}
use Rattle.lat_model.specs.ends.End.{End}
use Rattle.lat_circuit.specs.Hears.{hears_reply, SimulatesHearing}
use Rattle.lat_circuit.proofs.HeardStarts.{is_reply, noted_at, reply_noted, reply_runs}
use Rattle.lat_circuit.proofs.circuit.Circuit.hear_reply.Goals as goal

pub returns-then-self-clause-did : goal.returns-then-self-clause-did
returns-then-self-clause-did c =
    let a = c.self.inside in
    let after = shown (noted_at a c.args.now) in
    let P : Kept → Type 0 = λ k. SimulatesHearing (hears_reply k.facts.id c.args.now (timing_shown k.facts.config.timing) c.args.to c.args.from (info_shown c.args.info.now)) answers.Again k after [] [] in
    let Is : Kept → Type 0 = λ k. (e : End) → Stands k e → c.is_replied.result ≡ is_reply k.facts.id c.args.to c.args.from e in
    let is = subst Is (sym c.self.view_is) c.is_replied.ensures in
    subst P c.self.view_is (
    reply_noted a a.link.ids.from (timing_shown a.config.timing) c.args.to c.args.from (info_shown c.args.info.now) c.args.now
    (ap (λ (k : Kept). k.ended) c.self.view_is ∙ c.requires.lives)
    c.if-self.true
    (λ e st. sym (is e st) ∙ c.if-not-is_replied.false)
    )

pub returns-clause-did : goal.returns-clause-did
returns-clause-did c =
    let a = c.self.inside in
    let P : Kept → Type 0 = λ k. SimulatesHearing (hears_reply k.facts.id c.args.now (timing_shown k.facts.config.timing) c.args.to c.args.from (info_shown c.args.info.now)) answers.Running k c.run.new.self [] [] in
    let Is : Kept → Type 0 = λ k. (e : End) → Stands k e → c.is_replied.result ≡ is_reply k.facts.id c.args.to c.args.from e in
    let is = subst Is (sym c.self.view_is) c.is_replied.ensures in
    subst P c.self.view_is (
    reply_runs a a.link.ids.from (timing_shown a.config.timing) c.args.to c.args.from (info_shown c.args.info.now) c.args.now c.run.new.self
    (ap (λ (k : Kept). k.ended) c.self.view_is ∙ c.requires.lives)
    c.if-self.false
    (λ e st. sym (is e st) ∙ c.if-not-is_replied.false)
    c.run.ensures.did
    )
