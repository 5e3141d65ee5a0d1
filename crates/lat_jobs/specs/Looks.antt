-- What a look says.
use Rattle.std.specs.Prelude.{ℕ, ◌==◌, ◌&&◌, Bool, true, false, not, if◌then◌else◌, Option, Some, None}
use Rattle.lat_base.specs.declared.kept.Kept.{Kept}
use Rattle.lat_base.specs.declared.kept.Kept.TheVariants as keeps
use Rattle.lat_base.specs.declared.state.SessionEnd.{SessionEnd}
use Rattle.lat_base.specs.declared.state.SessionEnd.TheVariants as ends
use Rattle.lat_jobs.specs.declared.look.StatusLook.{StatusLook}

-- the shown session came under this number
abbrev pub is_for : Option ℕ → ℕ → Bool
is_for (Some request) number = request == number
is_for None number = false

-- no session will come of a request of which the server keeps this
abbrev pub refuses : Kept → Bool
refuses (keeps.Waiting place) = false
refuses keeps.Granted = false
refuses _ = true

-- a status was heard under this number
abbrev pub tells : Option StatusLook → ℕ → Bool
tells (Some s) number = s.request == number
tells None number = false

-- it says that no session will come
abbrev pub is_refused : Option StatusLook → ℕ → Bool
is_refused (Some s) number = s.request == number && refuses s.kept
is_refused None number = false

-- it says that the request has a place, or a session
abbrev pub is_placed : Option StatusLook → ℕ → Bool
is_placed (Some s) number = s.request == number && not (refuses s.kept)
is_placed None number = false

-- when something was heard for last under this number, which was asked first at this moment
abbrev pub last_heard : Option StatusLook → ℕ → ℕ → ℕ
last_heard (Some s) number since = if s.request == number then s.heard else since
last_heard None number since = since

-- a session ended by both stops
abbrev pub is_stopped : Option SessionEnd → Bool
is_stopped (Some ends.Closed) = true
is_stopped (Some (ends.Rejected reason)) = false
is_stopped (Some (ends.Circuit reason)) = false
is_stopped None = false
