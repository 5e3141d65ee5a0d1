-- Why each act is done.
use Rattle.std.proofs.Common.{◌≡◌, ℕ, List, refl}
use Rattle.std.specs.Prelude.{Bool, true, false, if◌then◌else◌, Option, Some, None, Result, Ok, Err}
use Rattle.lat_base.specs.declared.state.SessionEnd.{SessionEnd}
use Rattle.lat_local.specs.declared.command.Command.{Command}
use Rattle.lat_local.specs.declared.command.Command.TheVariants as commands
use Rattle.lat_local.specs.declared.event.Event.{Event}
use Rattle.lat_local.specs.declared.event.Event.TheVariants as events
use Rattle.lat_local.specs.declared.phase.Peer.{Peer}
use Rattle.lat_local.specs.declared.phase.Phase.{Phase}
use Rattle.lat_local.specs.declared.phase.Phase.TheVariants as phases
use Rattle.lat_local.specs.declared.reply.Act.TheVariants as acts
use Rattle.lat_local.specs.declared.reply.Saying.TheVariants as sayings
use Rattle.lat_local.specs.Laws.{WhyTurn}
use Rattle.lat_local.specs.Minds.{about_sessions, asks, at_connecting, at_prompt, in_session, is_avoidable, lost_at_prompt, obeyed, tells, turn_of}

about_why : (held : Option Peer) (command : Command) → WhyTurn (phases.Prompt held) (about_sessions held command)
about_why None (commands.Connect service) = (refl, refl, refl)
about_why None commands.Blank = tt
about_why None commands.Resume = tt
about_why None commands.Disconnect = tt
about_why None commands.ShowServices = tt
about_why None commands.ShowSessions = tt
about_why None commands.Help = tt
about_why None commands.Logout = tt
about_why (Some peer) (commands.Connect service) = tt
about_why (Some peer) commands.Blank = tt
about_why (Some peer) commands.Resume = tt
about_why (Some peer) commands.Disconnect = (refl, refl, refl)
about_why (Some peer) commands.ShowServices = tt
about_why (Some peer) commands.ShowSessions = tt
about_why (Some peer) commands.Help = tt
about_why (Some peer) commands.Logout = tt

obeyed_why : (held : Option Peer) (command : Command) → WhyTurn (phases.Prompt held) (obeyed held command)
obeyed_why held commands.Blank = tt
obeyed_why held commands.ShowServices = tt
obeyed_why held commands.ShowSessions = tt
obeyed_why held commands.Help = tt
obeyed_why held commands.Logout = (refl, refl)
obeyed_why held (commands.Connect service) = about_why held (commands.Connect service)
obeyed_why held commands.Resume = about_why held commands.Resume
obeyed_why held commands.Disconnect = about_why held commands.Disconnect

lost_why : (held : Option Peer) (end : SessionEnd) → WhyTurn (phases.Prompt held) (lost_at_prompt held end)
lost_why None end = tt
lost_why (Some peer) end = tt

prompt_why : (held : Option Peer) (e : Event) → WhyTurn (phases.Prompt held) (at_prompt held e)
prompt_why held (events.Typed (Ok command)) = obeyed_why held command
prompt_why held (events.Typed (Err fault)) = tt
prompt_why held (events.Over end) = lost_why held end
prompt_why held events.Gone = (refl, refl)
prompt_why held events.Escape = tt
prompt_why held events.Unoffered = tt
prompt_why held (events.Unmet node end) = tt
prompt_why held (events.Met node) = tt

unmet_why : (service node : List ℕ) (end : SessionEnd) (other : Bool) →
    WhyTurn (phases.Connecting service) (if other then tells (phases.Connecting service) (acts.Next service) (sayings.Next node end) else asks None acts.Nothing (Some (sayings.Unmet node end)))
unmet_why service node end true = (refl, refl)
unmet_why service node end false = tt

connecting_why : (service : List ℕ) (e : Event) → WhyTurn (phases.Connecting service) (at_connecting service e)
connecting_why service events.Unoffered = tt
connecting_why service (events.Unmet node end) = unmet_why service node end (is_avoidable end)
connecting_why service (events.Met node) = tt
connecting_why service events.Gone = (refl, refl)
connecting_why service (events.Typed line) = tt
connecting_why service events.Escape = tt
connecting_why service (events.Over end) = tt

session_why : (peer : Peer) (e : Event) → WhyTurn (phases.Session peer) (in_session peer e)
session_why peer events.Escape = tt
session_why peer (events.Over end) = tt
session_why peer events.Gone = (refl, refl)
session_why peer (events.Typed line) = tt
session_why peer events.Unoffered = tt
session_why peer (events.Unmet node end) = tt
session_why peer (events.Met node) = tt

pub turn_why : (p : Phase) (e : Event) → WhyTurn p (turn_of p e)
turn_why (phases.Prompt held) e = prompt_why held e
turn_why (phases.Connecting service) e = connecting_why service e
turn_why (phases.Session peer) e = session_why peer e
turn_why phases.Out e = tt
