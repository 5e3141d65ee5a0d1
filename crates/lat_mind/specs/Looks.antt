-- What a look says.
use Rattle.std.specs.Prelude.{ℕ, ◌==◌, ◌&&◌, ◌||◌, Bool, true, false, not, nat_lt, Option, Some, None}
use Rattle.lat_base.specs.declared.look.LineLook.{LineLook}
use Rattle.lat_mind.specs.declared.look.Owner.{Owner}
use Rattle.lat_mind.specs.declared.look.Owner.TheVariants as owners
use Rattle.lat_base.specs.declared.state.SessionState.{SessionState}
use Rattle.lat_base.specs.declared.state.SessionState.TheVariants as states
use Rattle.lat_base.specs.declared.state.SessionEnd.{SessionEnd}
use Rattle.lat_base.specs.declared.state.SessionEnd.TheVariants as ends

abbrev pub is_free : SessionState → Bool
is_free states.Free = true
is_free _ = false

abbrev pub is_live : SessionState → Bool
is_live states.Live = true
is_live _ = false

-- it was answered, and isn't free
abbrev pub is_answered : SessionState → Bool
is_answered states.Live = true
is_answered states.Closing = true
is_answered states.Left = true
is_answered _ = false

-- it was asked for, and neither answered nor ended
abbrev pub is_unanswered : SessionState → Bool
is_unanswered states.Calling = true
is_unanswered states.Asked = true
is_unanswered _ = false

abbrev pub was_closed : Option SessionEnd → Bool
was_closed (Some ends.Closed) = true
was_closed (Some (ends.Rejected reason)) = false
was_closed (Some (ends.Circuit reason)) = false
was_closed None = false

-- rejected for want of room or because the service has gone; or its circuit ended before it was live, or by silence, but not because
-- the peer knew no such circuit: then it has just been started again
abbrev pub avoidable : Option SessionEnd → Bool → Bool
avoidable (Some ends.Closed) live = false
avoidable (Some (ends.Rejected reason)) live = reason == 7 || reason == 4
avoidable (Some (ends.Circuit reason)) live = not (reason == 5) && (not live || reason == 6)
avoidable None live = false

-- the node of a session that this mind closed before it was live is to be avoided: it doesn't answer still, or ended it so
abbrev pub is_shunned : LineLook → Bool
is_shunned line = is_unanswered line.state || avoidable line.end false

-- a session in this state, of which so many items wait, needs its worker still
abbrev pub needs : SessionState → ℕ → Bool
needs states.Free waiting = false
needs states.Closing waiting = nat_lt 0 waiting
needs states.Left waiting = nat_lt 0 waiting
needs _ waiting = true

abbrev pub holds_on : LineLook → Bool
holds_on line = needs line.state line.waiting

-- it is for a caller of this line
abbrev pub is_own : Owner → Bool
is_own owners.Port = true
is_own owners.Device = true
is_own _ = false

-- it is for whoever is or comes at the line's port
abbrev pub at_port : Owner → Bool
at_port owners.Port = true
at_port _ = false

abbrev pub is_job : Owner → Bool
is_job owners.Job = true
is_job _ = false

-- the session of this number was live
abbrev pub shows_live : LineLook → ℕ → Bool
shows_live line session = line.newest == session && (is_answered line.state || was_closed line.end)
