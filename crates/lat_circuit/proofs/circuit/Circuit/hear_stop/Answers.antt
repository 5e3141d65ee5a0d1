use Rattle.std.proofs.Common.{◌≡◌, ◌&&◌, ◌||◌, nat_eq, [], sym, ap, subst, ◌∙◌}
use Rattle.lat_model.specs.ends.End.{End}
use Rattle.lat_circuit.specs.Kept.{Kept}
use Rattle.lat_circuit.specs.Stands.{Stands}
use Rattle.lat_circuit.specs.Hears.{hears_stop, SimulatesHearing}
use Rattle.lat_circuit.proofs.HeardStarts.{ended_at, stop_did}
use Rattle.lat_base.specs.declared.heard.Heard.TheVariants as answers
use Rattle.lat_circuit.specs.Shown.{shown}
use Rattle.lat_circuit.proofs.circuit.Circuit.hear_stop.Goals as goal

pub returns-clause-did : goal.returns-clause-did
returns-clause-did c =
    let after = shown (ended_at c.self.inside c.args.now c.args.reason) in
    let P : Kept → Type 0 = λ k. SimulatesHearing (hears_stop k.facts.id c.args.now c.args.to c.args.from c.args.reason) (answers.Ended c.args.reason) k after [] [] in
    let Is : Kept → Type 0 = λ k. (e : End) → Stands k e → c.is_stopped.result ≡ nat_eq c.args.to k.facts.id && (nat_eq e.peer c.args.from || nat_eq c.args.from 0) in
    let is = subst Is (sym c.self.view_is) c.is_stopped.ensures in
    subst P c.self.view_is (
    stop_did c.self.inside c.self.inside.link.ids.from c.args.to c.args.from c.args.reason c.args.now
    (ap (λ (k : Kept). k.ended) c.self.view_is ∙ c.requires.lives)
    (λ e st. sym (is e st) ∙ c.if-not-is_stopped.false)
    )
