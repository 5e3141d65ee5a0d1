-- What a circuit tells of its sessions.
use Rattle.std.specs.Prelude.{ℕ, cond, Option, Some, None}
use Rattle.lat_base.specs.declared.state.SessionState.{SessionState}
use Rattle.lat_base.specs.declared.state.SessionState.TheVariants.{Free}
use Rattle.lat_base.specs.declared.state.SessionEnd.{SessionEnd}
use Rattle.lat_base.specs.declared.state.SessionEnd.TheVariants.{Circuit}
use Rattle.lat_model.specs.ends.End.{End, lives}
use Rattle.lat_model.specs.sessions.Session.{state}
use Rattle.lat_model.specs.sessions.Sessions.{named}
use Rattle.lat_stream.specs.Kept.{state_of, end_of}
use Rattle.lat_session.specs.States.{is_free}

-- the end of the circuit ends its sessions
abbrev pub session_state : End → ℕ → SessionState
session_state e id = cond (lives e) (state_of (state e.half.sessions.master (named e.half.sessions id))) Free

abbrev pub circuit_end : Option ℕ → Option SessionEnd
circuit_end None = None
circuit_end (Some reason) = Some (Circuit reason)

-- how the last session of an id ended: where it wasn't free before, with the circuit
abbrev pub session_end : End → ℕ → Option SessionEnd
session_end e id =
    cond (is_free (state_of (state e.half.sessions.master (named e.half.sessions id))))
    (end_of (named e.half.sessions id))
    (circuit_end e.ended)
