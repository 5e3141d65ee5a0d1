-- What the mind of a line is shown: at a switch its caller's session, whatever session the line shows now; and where it has served its
-- one caller, that the daemon is ending.
use Rattle.std.specs.Prelude.{◌≡◌, ℕ, ◌==◌, ◌||◌, Bool, true, false, if◌then◌else◌, Option, Some, None}
use Rattle.lat_base.specs.declared.look.LineLook.{LineLook}
use Rattle.lat_base.specs.declared.state.SessionState.TheVariants as states
use Rattle.lat_mind.specs.declared.look.Look.{Look}
use Rattle.lat_mind.specs.declared.mind.LineMind.{LineMind}
use Rattle.lat_mind.specs.declared.phase.Guest.{Guest}
use Rattle.lat_mind.specs.declared.phase.Phase.{Phase}
use Rattle.lat_mind.specs.declared.phase.Phase.TheVariants as phases
use Rattle.lat_mind.specs.Looks.{holds_on, is_free, shows_live}
use Rattle.lat_turns.specs.declared.kept.Sessions.{Sessions}
use Rattle.lat_turns.specs.declared.kept.Sessions.TheVariants as sessions
use Rattle.lat_turns.specs.declared.kept.Stay.{Stay}
use Rattle.lat_turns.specs.declared.kept.Stay.TheVariants as stays

-- the number of the caller's session, where it isn't the one that was shut
abbrev pub kept_at : ℕ → Phase → Option ℕ
kept_at shut (phases.Joined g) = if shut == g.session then None else Some g.session
kept_at shut _ = None

-- a line that shows another session, as if it were the one of this number: where it needs no worker, that one is live, and there is
-- nothing to take and no room
abbrev pub line_as : LineLook → ℕ → LineLook
line_as line session =
    if holds_on line then record line { newest = session }
    else record line { newest = session; state = states.Live; waiting = 0; room = 0 }

-- the session of this number, where there is one, is shown as long as the line isn't free
abbrev pub look_as : Look → Option ℕ → Look
look_as see None = see
look_as see (Some session) = if is_free see.line.state then see else record see { line = line_as see.line session }

-- what a mind is shown and told
abbrev pub kept_look : Sessions → LineMind → Look → Look
kept_look sessions.One m see = see
kept_look sessions.Several m see = look_as see (kept_at m.shut m.phase)

-- the caller's session is or was live, by the looks so far and this one
abbrev pub lived : Phase → LineLook → Bool
lived (phases.Joined g) line = g.live || shows_live line g.session
lived _ line = false

-- it takes no caller any more
abbrev pub is_over : Stay → Bool
is_over stays.Over = true
is_over _ = false

-- the one caller was hung up, and was served
abbrev pub stay_after : Stay → Bool → Stay
stay_after stays.OneCaller true = stays.Over
stay_after stay served = stay

-- a worker that takes no caller any more looks as at a daemon that is ending
abbrev pub stay_look : Stay → Look → Look
stay_look stay see = record see { stopping = see.stopping || is_over stay }

-- a caller with a session that its mind hasn't shut, on a line that isn't free
pub record IsKept (m : LineMind) (g : Guest) (see : Look) : Type 0 where
  pub joined : m.phase ≡ phases.Joined g
  pub unshut : (m.shut == g.session) ≡ false
  pub taken : is_free see.line.state ≡ false
