use Rattle.std.proofs.Common.{◌∙◌, ◌++◌, ◌∷◌, [], true, ap, replicate}
use Rattle.std.proofs.lemmas.List.{replicate-append-replicate}
use Rattle.lat_model.specs.sessions.Session.{blank}
use Rattle.lat_stream.specs.Kept.{stream_of}
use Rattle.lat_session.proofs.places.streams.Goals as goal

pub loop-preserved : goal.loop-preserved
loop-preserved c =
    let k = stream_of true c.args.ceiling blank in
    c.in_ok-push.ensures.items
    ∙ ap (λ xs. xs ++ c.in_ok-make.field-0 ∷ []) c.loop.invariant
    ∙ ap (λ x. replicate c.loop.counter k ++ x ∷ []) (c.in_ok-make.ensures true)
    ∙ replicate-append-replicate c.loop.counter 1 k
