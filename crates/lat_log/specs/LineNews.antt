-- What is new of the sessions of lines, and of the requests that they answer.
use Rattle.std.specs.Prelude.{ℕ, ◌-◌, List, [], ◌∷◌, ◌++◌, Option, Some, None, ◌==◌, if◌then◌else◌}
use Rattle.lat_base.specs.declared.look.LineLook.{LineLook}
use Rattle.lat_base.specs.declared.look.Correspondent.{Correspondent}
use Rattle.lat_base.specs.declared.state.SessionState.{SessionState}
use Rattle.lat_base.specs.declared.state.SessionState.TheVariants as states
use Rattle.lat_base.specs.declared.state.SessionEnd.{SessionEnd}
use Rattle.lat_base.specs.declared.state.SessionEnd.TheVariants as ends
use Rattle.lat_log.specs.declared.entry.Entry.{Entry}
use Rattle.lat_log.specs.declared.entry.Entry.TheVariants as entries
use Rattle.lat_log.specs.declared.entry.Flow.{Flow}
use Rattle.lat_log.specs.declared.entry.Over.TheVariants as overs
use Rattle.lat_log.specs.declared.entry.RequestNews.{RequestNews}
use Rattle.lat_log.specs.declared.entry.RequestNews.TheVariants as requests
use Rattle.lat_log.specs.declared.entry.Session.{Session}
use Rattle.lat_log.specs.declared.entry.SessionNews.{SessionNews}
use Rattle.lat_log.specs.declared.entry.SessionNews.TheVariants as sessions
use Rattle.lat_log.specs.declared.seen.LineSeen.{LineSeen}
use Rattle.lat_log.specs.declared.seen.LineSight.{LineSight}
use Rattle.lat_log.specs.declared.seen.SessionSeen.{SessionSeen}
use Rattle.lat_log.specs.declared.seen.Side.{Side}
use Rattle.lat_log.specs.declared.seen.Side.TheVariants as sides
use Rattle.lat_log.specs.declared.seen.Reached.{Reached}
use Rattle.lat_log.specs.declared.seen.Reached.TheVariants as reaches

-- ---- a session as it is seen

abbrev pub reached_in : SessionState → Reached
reached_in states.Live = reaches.Live
reached_in states.Closing = reaches.Live
reached_in states.Left = reaches.Live
reached_in state = reaches.Waiting

abbrev pub reached_by : Option SessionEnd → SessionState → Reached
reached_by (Some end) state = reaches.Over
reached_by None state = reached_in state

-- how far a session came, as it is shown
abbrev pub reached_of : LineLook → Reached
reached_of look = reached_by look.end look.state

-- what a session carried of what its line did
abbrev pub carried : (began flow : Flow) → Flow
carried began flow = record { put = flow.put - began.put; took = flow.took - began.took }

-- what the line had carried when its session was first seen
abbrev pub begun : Option SessionSeen → ℕ → Flow → Flow
begun None number flow = flow
begun (Some seen) number flow = if seen.number == number then seen.began else flow

abbrev pub session_by : LineSight → Option Correspondent → Option SessionSeen
session_by sight None = None
session_by sight (Some with) = Some (record {
  number = sight.look.newest;
  with = with;
  reached = reached_of sight.look;
  began = begun sight.seen sight.look.newest sight.flow;
})

-- the session that the line has now
abbrev pub session_now : LineSight → Option SessionSeen
session_now sight = session_by sight sight.with

abbrev pub line_next : LineSight → LineSeen
line_next sight = record { line = sight.line; session = session_now sight }

-- ---- what is said of it

abbrev pub session_of : SessionSeen → Session
session_of s = record { number = s.number; service = s.with.service; peer = s.with.peer }

abbrev pub request_said : Correspondent → RequestNews → Option ℕ → List Entry
request_said with what None = []
request_said with what (Some id) = entries.Request (record { id = id; service = with.service; address = with.peer }) what ∷ []

-- of the request that the session answers
abbrev pub request_news : Correspondent → RequestNews → List Entry
request_news with what = request_said with what with.request

abbrev pub ended : SessionEnd → Flow → SessionNews
ended ends.Closed flow = sessions.Ended overs.Closed flow
ended (ends.Rejected reason) flow = sessions.Rejected reason
ended (ends.Circuit reason) flow = sessions.Ended (overs.Circuit reason) flow

-- it is over, and so is the request that it answers
abbrev pub over_news : ℕ → SessionSeen → SessionNews → List Entry
over_news line s what = entries.Session line (session_of s) what ∷ request_news s.with (requests.Done line)

abbrev pub live_said : ℕ → SessionSeen → (was reached : Reached) → List Entry
live_said line s reaches.Waiting reaches.Live = entries.Session line (session_of s) sessions.Live ∷ []
live_said line s was reached = []

-- it is live, and wasn't answered before
abbrev pub live_news : ℕ → Reached → SessionSeen → List Entry
live_news line was s = live_said line s was s.reached

abbrev pub end_said : LineSight → SessionSeen → Reached → Option SessionEnd → List Entry
end_said sight s reaches.Over end = []
end_said sight s was None = []
end_said sight s was (Some end) = over_news sight.line s (ended end (carried s.began sight.flow))

-- it ended, and wasn't over before
abbrev pub end_news : LineSight → Reached → SessionSeen → List Entry
end_news sight was s = end_said sight s was sight.look.end

abbrev pub reached_news : LineSight → Reached → SessionSeen → List Entry
reached_news sight was s = live_news sight.line was s ++ end_news sight was s

-- a switch shows another one
abbrev pub hidden_news : ℕ → SessionSeen → List Entry
hidden_news line s = entries.Session line (session_of s) sessions.Hidden ∷ []

-- it wasn't seen how it ended
abbrev pub unseen_news : LineSight → SessionSeen → List Entry
unseen_news sight s = over_news sight.line s (sessions.Ended overs.Unseen (carried s.began sight.flow))

abbrev pub left_said : LineSight → SessionSeen → Reached → Side → List Entry
left_said sight s reaches.Over side = []
left_said sight s reached sides.Switch = hidden_news sight.line s
left_said sight s reached side = unseen_news sight s

-- another one has its place, and it wasn't over
abbrev pub left_news : Side → LineSight → SessionSeen → List Entry
left_news side sight s = left_said sight s s.reached side

-- one that wasn't seen before; where it answers a request, that is granted
abbrev pub first_news : LineSight → SessionSeen → List Entry
first_news sight s = request_news s.with (requests.Granted sight.line) ++ reached_news sight reaches.Waiting s

-- of the session that a line has, behind the one that was seen
abbrev pub session_news : Side → LineSight → Option SessionSeen → SessionSeen → List Entry
session_news side sight None s = first_news sight s
session_news side sight (Some seen) s =
    if seen.number == s.number then reached_news sight seen.reached s else left_news side sight seen ++ first_news sight s

abbrev pub line_said : Side → LineSight → Option SessionSeen → List Entry
line_said side sight None = []
line_said side sight (Some s) = session_news side sight sight.seen s

-- what is new of a line
abbrev pub line_news : Side → LineSight → List Entry
line_news side sight = line_said side sight (session_now sight)
