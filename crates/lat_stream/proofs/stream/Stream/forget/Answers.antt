use Rattle.std.proofs.Common.{ap, ◌∙◌, ℕ}
use Rattle.lat_stream.specs.Kept.{Kept, stream_of}
use Rattle.lat_model.specs.sessions.Session.{blank}
use Rattle.lat_stream.proofs.stream.Stream.forget.Goals as goal

pub returns : goal.returns
returns c = λ m. c.reset-2.ensures m ∙ ap (λ (z : ℕ). stream_of m z blank) (c.reset.invariant.6 ∙ ap (λ (k : Kept). k.credits.ceiling) c.reset.view_is)
