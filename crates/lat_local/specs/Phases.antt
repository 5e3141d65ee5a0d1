-- Where a caller in local mode is.
use Rattle.std.specs.Prelude.{ℕ, Bool, true, false, Option, Some, None}
use Rattle.lat_local.specs.declared.phase.Peer.{Peer}
use Rattle.lat_local.specs.declared.phase.Phase.{Phase}
use Rattle.lat_local.specs.declared.phase.Phase.TheVariants as phases

abbrev pub is_at_prompt : Phase → Bool
is_at_prompt (phases.Prompt held) = true
is_at_prompt _ = false

abbrev pub is_in_session : Phase → Bool
is_in_session (phases.Session peer) = true
is_in_session _ = false

abbrev pub is_out : Phase → Bool
is_out phases.Out = true
is_out _ = false

-- how many sessions of the caller were live and are there, whether it is in one or at the prompt
abbrev pub sessions_of : Phase → ℕ
sessions_of (phases.Prompt (Some peer)) = 1
sessions_of (phases.Session peer) = 1
sessions_of _ = 0
