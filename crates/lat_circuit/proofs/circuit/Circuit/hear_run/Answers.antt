use Rattle.std.proofs.Common.{arith, ◌≡◌, map, sym, subst, ◌∙◌}
use Rattle.lat_base.specs.declared.heard.Heard.TheVariants as answers
use Rattle.lat_stream.specs.Wire.{slot_heard}
use Rattle.lat_model.specs.ends.End.{End}
use Rattle.lat_circuit.specs.Messages.{wide_head_shown}
use Rattle.lat_circuit.specs.Hears.{hears_run, SimulatesHearing}
use Rattle.lat_circuit.specs.Kept.{Kept}
use Rattle.lat_circuit.specs.Shown.{shown}
use Rattle.lat_circuit.specs.Stands.{Stands}
use Rattle.lat_circuit.proofs.HeardStarts.{given}
use Rattle.lat_circuit.proofs.HeardRun.{field_at}
use Rattle.lat_circuit.proofs.HeardParts.{is_named, run_foreign, run_unfit, run_fits}
use Rattle.lat_circuit.proofs.circuit.Circuit.hear_run.Goals as goal

pub returns-then-not-is_named-clause-did : goal.returns-then-not-is_named-clause-did
returns-then-not-is_named-clause-did c =
    run_foreign c.args.self.now.facts.id c.args.now c.args.wide (wide_head_shown c.args.head) (map slot_heard c.args.slots.now) c.args.self.now c.args.out.now
    (λ e st. sym (c.is_named.ensures.model e st) ∙ c.if-not-is_named.true)

pub returns-then-not-fits_kind-clause-did : goal.returns-then-not-fits_kind-clause-did
returns-then-not-fits_kind-clause-did c =
    let a = c.self.inside in
    let h = wide_head_shown c.args.head in
    let P : Kept → Type 0 = λ k. SimulatesHearing (hears_run k.facts.id c.args.now c.args.wide h (map slot_heard c.args.slots.now)) answers.Foreign k (shown (given a c.args.now)) c.args.out.now c.args.out.now in
    let Is : Kept → Type 0 = λ k. (e : End) → Stands k e → c.is_named.result ≡ is_named k.facts.id h e in
    let is = subst Is (sym c.self.view_is) c.is_named.ensures.model in
    subst P c.self.view_is (
    run_unfit a.link.ids.from c.args.now c.args.wide h (map slot_heard c.args.slots.now) a c.args.out.now
    (λ e st. sym (is e st) ∙ c.if-not-is_named.false)
    (λ e st. sym (c.fits_kind.ensures.model e st) ∙ c.if-not-fits_kind.true)
    )

pub returns-clause-did : goal.returns-clause-did
returns-clause-did c =
    let a = c.self.inside in
    let h = wide_head_shown c.args.head in
    let P : Kept → Type 0 = λ k. SimulatesHearing (hears_run k.facts.id c.args.now c.args.wide h (map slot_heard c.args.slots.now)) c.take_run.result k c.take_run.new.self c.args.out.now c.take_run.new.out in
    let Is : Kept → Type 0 = λ k. (e : End) → Stands k e → c.is_named.result ≡ is_named k.facts.id h e in
    let is = subst Is (sym c.self.view_is) c.is_named.ensures.model in
    subst P c.self.view_is (
    run_fits a.link.ids.from c.args.now c.args.wide h (map slot_heard c.args.slots.now) c.take_run.result a c.take_run.new.self c.args.out.now c.take_run.new.out
    (λ e st. sym (is e st) ∙ c.if-not-is_named.false)
    (λ e st. sym (c.fits_kind.ensures.model e st) ∙ c.if-not-fits_kind.false)
    c.take_run.ensures.did
    )

pub take_run-requires-clause-fields : goal.take_run-requires-clause-fields
take_run-requires-clause-fields c =
    let kind = c.fits_kind.ensures.kind c.if-not-fits_kind.false in (
      field_at c.args.wide c.args.head.seq _ kind (omega arith) (λ narrow. (c.requires.fields narrow).0),
      field_at c.args.wide c.args.head.ack _ kind (omega arith) (λ narrow. (c.requires.fields narrow).1),
    )
