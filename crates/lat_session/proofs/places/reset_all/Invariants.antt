use Rattle.std.proofs.Common.{◌≡◌, ◌++◌, true, replicate, drop}
use Rattle.lat_model.specs.sessions.Session.{blank}
use Rattle.lat_stream.specs.Kept.{stream_of}
use Rattle.lat_session.proofs.places.reset_all.Given as goal

abbrev pub invariant-loop-session : goal.invariant-loop-session
invariant-loop-session l =
    l.sessions ≡ replicate l.session-index (stream_of true l.ceiling blank) ++ drop l.session-index l.initial.sessions
