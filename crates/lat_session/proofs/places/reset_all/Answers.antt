use Rattle.std.proofs.Common.{◌++◌, ◌∙◌, ap, true, drop, replicate, slice_set}
use Rattle.lat_model.specs.sessions.Session.{blank}
use Rattle.lat_stream.specs.Kept.{stream_of}
use Rattle.lat_session.proofs.Writes.{replicated_next}
use Rattle.lat_session.proofs.places.reset_all.Goals as goal

pub loop-session-preserved : goal.loop-session-preserved
loop-session-preserved c =
    let k = stream_of true c.args.ceiling blank in
    let i = c.loop-session.session-index in
    ap (λ xs. slice_set xs i c.reset.new.self) c.loop-session.invariant
    ∙ ap (slice_set (replicate i k ++ drop i c.args.sessions.now) i) (c.reset.ensures true)
    ∙ replicated_next k c.args.sessions.now i c.loop-session-test.true
