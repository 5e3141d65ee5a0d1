-- The mind of local mode: what each thing that comes does.
use Rattle.std.specs.Prelude.{ℕ, ◌==◌, ◌||◌, Bool, true, false, if◌then◌else◌, List, Option, Some, None, Result, Ok, Err}
use Rattle.lat_base.specs.declared.state.SessionEnd.{SessionEnd}
use Rattle.lat_base.specs.declared.state.SessionEnd.TheVariants as ends
use Rattle.lat_local.specs.declared.command.Command.{Command}
use Rattle.lat_local.specs.declared.command.Command.TheVariants as commands
use Rattle.lat_local.specs.declared.event.Event.{Event}
use Rattle.lat_local.specs.declared.event.Event.TheVariants as events
use Rattle.lat_local.specs.declared.phase.Peer.{Peer}
use Rattle.lat_local.specs.declared.phase.Phase.{Phase}
use Rattle.lat_local.specs.declared.phase.Phase.TheVariants as phases
use Rattle.lat_local.specs.declared.reply.Act.{Act}
use Rattle.lat_local.specs.declared.reply.Act.TheVariants as acts
use Rattle.lat_local.specs.declared.reply.Saying.{Saying}
use Rattle.lat_local.specs.declared.reply.Saying.TheVariants as sayings
use Rattle.lat_local.specs.declared.reply.Reply.{Reply}

-- nothing comes of it
abbrev pub still : Phase → Phase × Reply
still phase = (phase, record { act = acts.Nothing; saying = None; prompts = false })

-- the caller is told something, and isn't at the prompt
abbrev pub tells : Phase → Act → Saying → Phase × Reply
tells phase act saying = (phase, record { act = act; saying = Some saying; prompts = false })

-- the caller is told something, if anything, and is at the prompt, with the session that stays
abbrev pub asks : Option Peer → Act → Option Saying → Phase × Reply
asks held act saying = (phases.Prompt held, record { act = act; saying = saying; prompts = true })

-- the caller is hung up without a word
abbrev pub silent : Phase × Reply
silent = (phases.Out, record { act = acts.HangUp; saying = None; prompts = false })

-- a caller has just come to this line of this server
abbrev pub fresh_phase : Phase
fresh_phase = phases.Prompt None

abbrev pub greeting : List ℕ → ℕ → Reply
greeting server line = (asks None acts.Nothing (Some (sayings.Greeting server line))).1

-- ---- at the prompt

-- a command about sessions, where none stays
abbrev pub without_peer : Command → Phase × Reply
without_peer (commands.Connect service) = tells (phases.Connecting service) (acts.Connect service) sayings.Connecting
without_peer _ = asks None acts.Nothing (Some sayings.NoSession)

-- a command about sessions, where this one stays
abbrev pub with_peer : Peer → Command → Phase × Reply
with_peer peer commands.Resume = tells (phases.Session peer) acts.Nothing (sayings.Resumed peer)
with_peer peer commands.Disconnect = asks None acts.Close (Some sayings.Disconnected)
with_peer peer _ = asks (Some peer) acts.Nothing (Some (sayings.Busy peer))

abbrev pub about_sessions : Option Peer → Command → Phase × Reply
about_sessions None command = without_peer command
about_sessions (Some peer) command = with_peer peer command

abbrev pub obeyed : Option Peer → Command → Phase × Reply
obeyed held commands.Blank = asks held acts.Nothing None
obeyed held commands.ShowServices = asks held acts.Nothing (Some sayings.Services)
obeyed held commands.ShowSessions = asks held acts.Nothing (Some sayings.Sessions)
obeyed held commands.Help = asks held acts.Nothing (Some sayings.Help)
obeyed held commands.Logout = tells phases.Out acts.HangUp sayings.LoggedOut
obeyed held command = about_sessions held command

abbrev pub lost_at_prompt : Option Peer → SessionEnd → Phase × Reply
lost_at_prompt None end = still (phases.Prompt None)
lost_at_prompt (Some peer) end = asks None acts.Nothing (Some (sayings.Ended end))

abbrev pub at_prompt : Option Peer → Event → Phase × Reply
at_prompt held (events.Typed (Ok command)) = obeyed held command
at_prompt held (events.Typed (Err fault)) = asks held acts.Nothing (Some (sayings.Wrong fault))
at_prompt held (events.Over end) = lost_at_prompt held end
at_prompt held events.Gone = silent
at_prompt held _ = still (phases.Prompt held)

-- ---- while a session is asked for

-- another node may give what this one didn't: it has no room, doesn't offer the service any more, or isn't heard
abbrev pub is_avoidable : SessionEnd → Bool
is_avoidable ends.Closed = false
is_avoidable (ends.Rejected reason) = reason == 7 || reason == 4
is_avoidable (ends.Circuit reason) = true

abbrev pub unmet_at : List ℕ → List ℕ → SessionEnd → Phase × Reply
unmet_at service node end =
    if is_avoidable end then tells (phases.Connecting service) (acts.Next service) (sayings.Next node end)
    else asks None acts.Nothing (Some (sayings.Unmet node end))

abbrev pub met_by : Peer → Phase × Reply
met_by peer = tells (phases.Session peer) acts.Nothing (sayings.Connected peer)

abbrev pub at_connecting : List ℕ → Event → Phase × Reply
at_connecting service events.Unoffered = asks None acts.Nothing (Some (sayings.Unoffered service))
at_connecting service (events.Unmet node end) = unmet_at service node end
at_connecting service (events.Met node) = met_by (record { service = service; node = node })
at_connecting service events.Gone = silent
at_connecting service _ = still (phases.Connecting service)

-- ---- in a session

abbrev pub in_session : Peer → Event → Phase × Reply
in_session peer events.Escape = asks (Some peer) acts.Nothing (Some sayings.Left)
in_session peer (events.Over end) = asks None acts.Nothing (Some (sayings.Ended end))
in_session peer events.Gone = silent
in_session peer _ = still (phases.Session peer)

-- ---- the machine

abbrev pub turn_of : Phase → Event → Phase × Reply
turn_of (phases.Prompt held) event = at_prompt held event
turn_of (phases.Connecting service) event = at_connecting service event
turn_of (phases.Session peer) event = in_session peer event
turn_of phases.Out event = still phases.Out
