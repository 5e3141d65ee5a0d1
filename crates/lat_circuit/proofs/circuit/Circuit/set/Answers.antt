use Rattle.std.proofs.Common.{◌∙◌, ap, length, nat_lt}
use Rattle.lat_model.specs.sessions.Session.{put_open, unframed}
use Rattle.lat_model.specs.sessions.Sessions.{named}
use Rattle.lat_session.specs.Calls.{without_count}
use Rattle.lat_session.proofs.Called.{no_count, counted_out}
use Rattle.lat_circuit.proofs.circuit.Circuit.set.Goals as goal

pub returns-clause-answer : goal.returns-clause-answer
returns-clause-answer c = λ e st. counted_out c.call_session.result c.map.result _ c.map.ensures.cases c.map.ensures.variant ∙ ap without_count (c.call_session.ensures.answer e st) ∙ no_count (put_open (named e.half.sessions c.args.id)) (nat_lt (length (unframed (named e.half.sessions c.args.id))) 4096)
