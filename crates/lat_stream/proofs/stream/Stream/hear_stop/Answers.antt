use Rattle.std.proofs.Common.{◌≡◌, true, false, ◌||◌, ap, sym, ◌∙◌, nat_eq}
use Rattle.lat_model.specs.sessions.Slots.{has_stop}
use Rattle.lat_stream.specs.Kept.{Kept}
use Rattle.lat_stream.specs.Steps.{silent}
use Rattle.lat_stream.proofs.Running.{Runs, hears_here}
use Rattle.lat_stream.proofs.Stopped.{stop_is}
use Rattle.lat_stream.proofs.stream.Stream.hear_stop.Goals as goal

pub returns-clause-state : goal.returns-clause-state
returns-clause-state c = λ m ceiling s to reason h e.
    let k : Kept = c.args.self.now in
    let r : Runs s × (has_stop s.came ≡ false) = hears_here m ceiling s k (nat_eq c.args.from k.peer || nat_eq c.args.from 0) e (sym c.hears_stop_from.ensures ∙ c.if-not-hears_stop_from.false) in
    c.fall_silent.ensures ∙ ap (λ (k : Kept). silent (record k { stop_heard = true })) (c.self.view_is ∙ e) ∙ stop_is m ceiling s to c.args.from reason h r.0 r.1
