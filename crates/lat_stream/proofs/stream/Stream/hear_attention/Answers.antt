use Rattle.std.proofs.Common.{◌≡◌, false, Some, ap, sym, ◌∙◌, nat_eq}
use Rattle.lat_model.specs.sessions.Slots.{has_stop}
use Rattle.lat_stream.specs.Kept.{Kept}
use Rattle.lat_stream.proofs.Running.{Runs, hears_here}
use Rattle.lat_stream.proofs.Heard.{attention_is}
use Rattle.lat_stream.proofs.stream.Stream.hear_attention.Goals as goal

pub returns-clause-state : goal.returns-clause-state
returns-clause-state c = λ m ceiling s to h e.
    let k : Kept = c.args.self.now in
    let r : Runs s × (has_stop s.came ≡ false) = hears_here m ceiling s k (nat_eq c.args.from k.peer) e (sym c.hears_from.ensures.value ∙ c.if-not-hears_from.false) in
    ap (λ (k : Kept). record k { mark = Some c.args.flag }) (c.self.view_is ∙ e)
    ∙ attention_is m ceiling s to c.args.from c.args.flag h.accounts r.0 r.1
