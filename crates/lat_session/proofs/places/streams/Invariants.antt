use Rattle.std.proofs.Common.{◌≡◌, true, replicate}
use Rattle.lat_model.specs.sessions.Session.{blank}
use Rattle.lat_stream.specs.Kept.{stream_of}
use Rattle.lat_session.proofs.places.streams.Given as goal

abbrev pub invariant-loop : goal.invariant-loop
invariant-loop l = l.all.items ≡ replicate l.counter (stream_of true l.ceiling blank)
