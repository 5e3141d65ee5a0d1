use Rattle.std.proofs.Common.{true, Some, ap, ◌∙◌}
use Rattle.lat_base.specs.declared.state.SessionState.TheVariants as kept_states
use Rattle.lat_stream.specs.Kept.{Kept}
use Rattle.lat_stream.proofs.Begun.{called_is}
use Rattle.lat_stream.proofs.stream.Stream.call.Goals as goal

pub returns : goal.returns
returns c = λ id n.
    c.wait.ensures
    ∙ ap (λ (k : Kept). record k { state = kept_states.Calling; start = Some (record { service = c.args.service.now; request = c.args.request }) }) (c.forget.ensures true)
    ∙ called_is c.args.self.now.credits.ceiling id c.args.service.now c.args.request
