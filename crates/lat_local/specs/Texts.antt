-- What a caller in local mode is told.
use Rattle.std.specs.Prelude.{ℕ, Bool, true, false, List, [], ◌++◌, codes, decimal, ◌==◌, if◌then◌else◌, Option, Some, None}
use Rattle.lat_base.specs.declared.state.SessionEnd.{SessionEnd}
use Rattle.lat_base.specs.declared.state.SessionEnd.TheVariants as ends
use Rattle.lat_text.specs.NameText.{name_text}
use Rattle.lat_local.specs.declared.command.CommandFault.{CommandFault}
use Rattle.lat_local.specs.declared.command.CommandFault.TheVariants as faults
use Rattle.lat_local.specs.declared.phase.Peer.{Peer}
use Rattle.lat_local.specs.declared.reply.Saying.{Saying}
use Rattle.lat_local.specs.declared.reply.Saying.TheVariants as sayings
use Rattle.lat_local.specs.declared.reply.Reply.{Reply}
use Rattle.lat_local.specs.declared.tables.ServiceRow.{ServiceRow}
use Rattle.lat_local.specs.declared.tables.SessionRow.{SessionRow}
use Rattle.lat_local.specs.Tables.{services_text, sessions_text}

abbrev pub prompt : List ℕ
prompt = codes "Local> "

abbrev pub fault_text : CommandFault → List ℕ
fault_text faults.UnknownCommand = codes "? no such command: help lists them\r\n"
fault_text faults.MissingShown = codes "? show what: services or sessions\r\n"
fault_text faults.UnknownShown = codes "? only services and sessions can be shown\r\n"
fault_text faults.AmbiguousShown = codes "? both services and sessions begin so\r\n"
fault_text faults.MissingService = codes "? connect to what: the name of a service\r\n"
fault_text faults.UnknownService = codes "? no such service: show services lists them\r\n"
fault_text faults.AmbiguousService = codes "? more than one service begins so\r\n"
fault_text faults.Extra = codes "? too many words\r\n"

-- why a node gave no session
abbrev pub unmet_words : SessionEnd → List ℕ
unmet_words ends.Closed = codes " ended it at once"
unmet_words (ends.Rejected reason) =
    if reason == 4 then codes " offers it no more" else if reason == 7 then codes " has no room" else codes " rejected it: reason " ++ decimal reason
unmet_words (ends.Circuit reason) = codes " doesn't answer"

-- how a session ended by itself
abbrev pub ended_words : SessionEnd → List ℕ
ended_words ends.Closed = codes "by the host"
ended_words (ends.Rejected reason) = codes "rejected, reason " ++ decimal reason
ended_words (ends.Circuit reason) = if reason == 6 then codes "no answer" else codes "circuit, reason " ++ decimal reason

abbrev pub peer_text : Peer → List ℕ
peer_text peer = name_text peer.service ++ (codes " at " ++ name_text peer.node)

abbrev pub greeting_text : List ℕ → ℕ → List ℕ
greeting_text server line = name_text server ++ (codes " line " ++ (decimal line ++ codes "\r\n"))

abbrev pub next_text : List ℕ → SessionEnd → List ℕ
next_text node end = name_text node ++ (unmet_words end ++ codes ", trying the next\r\n")

abbrev pub unmet_text : List ℕ → SessionEnd → List ℕ
unmet_text node end = name_text node ++ (unmet_words end ++ codes "\r\n")

abbrev pub unoffered_text : List ℕ → List ℕ
unoffered_text service = codes "no node offers " ++ (name_text service ++ codes "\r\n")

abbrev pub connected_text : Peer → List ℕ
connected_text peer = codes "connected to " ++ (peer_text peer ++ codes "\r\n")

abbrev pub resumed_text : Peer → List ℕ
resumed_text peer = codes "resuming " ++ (peer_text peer ++ codes "\r\n")

abbrev pub busy_text : Peer → List ℕ
busy_text peer = codes "? disconnect first: " ++ (peer_text peer ++ codes " stays\r\n")

-- it comes in the middle of a line
abbrev pub ended_text : SessionEnd → List ℕ
ended_text end = codes "\r\nsession ended: " ++ (ended_words end ++ codes "\r\n")

unfoldable pub help_text : List ℕ
help_text =
    codes "connect NAME   a session with this service\r\n"
    ++ (codes "resume         back into the session that stays\r\n"
    ++ (codes "disconnect     the session that stays is closed\r\n"
    ++ (codes "show services  the services that are known\r\n"
    ++ (codes "show sessions  the sessions of this line\r\n"
    ++ (codes "help           these lines\r\n"
    ++ (codes "logout         hangs up\r\n"
    ++ (codes "control-]      leaves a session, which stays\r\n"
    ++ codes "A word may be cut where one alone begins so.\r\n")))))))

-- with these services, and these sessions of the line
abbrev pub saying_text : List ServiceRow → List SessionRow → Saying → List ℕ
saying_text services sessions (sayings.Greeting server line) = greeting_text server line
saying_text services sessions (sayings.Wrong fault) = fault_text fault
saying_text services sessions sayings.Connecting = codes "connecting\r\n"
saying_text services sessions (sayings.Next node end) = next_text node end
saying_text services sessions (sayings.Unmet node end) = unmet_text node end
saying_text services sessions (sayings.Unoffered service) = unoffered_text service
saying_text services sessions (sayings.Connected peer) = connected_text peer
saying_text services sessions (sayings.Resumed peer) = resumed_text peer
saying_text services sessions sayings.Left = codes "\r\n"
saying_text services sessions sayings.NoSession = codes "? no session\r\n"
saying_text services sessions (sayings.Busy peer) = busy_text peer
saying_text services sessions (sayings.Ended end) = ended_text end
saying_text services sessions sayings.Disconnected = codes "session ended: by the caller\r\n"
saying_text services sessions sayings.Services = services_text services
saying_text services sessions sayings.Sessions = sessions_text sessions
saying_text services sessions sayings.Help = help_text
saying_text services sessions sayings.LoggedOut = codes "logged out\r\n"

abbrev pub said : List ServiceRow → List SessionRow → Option Saying → List ℕ
said services sessions None = []
said services sessions (Some saying) = saying_text services sessions saying

abbrev pub prompted : Bool → List ℕ
prompted false = []
prompted true = prompt

-- all that a reply shows
abbrev pub reply_text : List ServiceRow → List SessionRow → Reply → List ℕ
reply_text services sessions reply = said services sessions reply.saying ++ prompted reply.prompts
