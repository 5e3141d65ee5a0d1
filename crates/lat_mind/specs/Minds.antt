-- The mind of a line: the next move, and what it knows behind a fact.
use Rattle.std.specs.Prelude.{ℕ, ◌+◌, ◌==◌, ◌&&◌, ◌||◌, Bool, true, false, not, if◌then◌else◌, nat_lt, nat_le, is_none, is_some, Option, Some, None}
use Rattle.std.specs.Option.{option_map_or}
use Rattle.lat_mind.specs.declared.fact.Fact.{Fact}
use Rattle.lat_mind.specs.declared.fact.Fact.TheVariants as facts
use Rattle.lat_mind.specs.declared.fact.Move.{Move}
use Rattle.lat_mind.specs.declared.fact.Move.TheVariants as moves
use Rattle.lat_mind.specs.declared.look.Look.{Look}
use Rattle.lat_mind.specs.declared.phase.Waiter.{Waiter}
use Rattle.lat_mind.specs.declared.phase.Guest.{Guest}
use Rattle.lat_mind.specs.declared.phase.Phase.{Phase}
use Rattle.lat_mind.specs.declared.phase.Phase.TheVariants as phases
use Rattle.lat_mind.specs.declared.kind.Kind.{Kind}
use Rattle.lat_mind.specs.declared.mind.LineMind.{LineMind}
use Rattle.lat_mind.specs.Kinds.{is_calling, is_offering}
use Rattle.lat_mind.specs.Looks.{at_port, avoidable, holds_on, is_answered, is_free, is_job, is_live, is_own, is_shunned, shows_live}
use Rattle.lat_mind.specs.Facts.{is_quiet}
use Rattle.lat_mind.specs.Phases.{has_caller, phase_after}

-- told nothing
abbrev pub fresh_mind : Kind → LineMind
fresh_mind kind = record {
  kind = kind;
  seen = 0;
  shut = 0;
  noted = 0;
  since = 0;
  away = None;
  ready = false;
  calm = 0;
  phase = phases.Alone;
}

-- a write wrote nothing
abbrev pub stuck : Option ℕ → Bool
stuck wrote = option_map_or (λ n. n == 0) wrote false

-- never tried, or so long ago
abbrev pub may_try : Option ℕ → ℕ → ℕ → Bool
may_try tried every now = option_map_or (λ t. nat_le (t + every) now) tried true

-- the newest session came for a caller of this line, who has none yet
abbrev pub fresh_for : LineMind → Look → Bool
fresh_for m see =
    not (is_calling m.kind) && (nat_lt m.seen see.line.newest && (not (see.line.newest == m.shut) && (holds_on see.line && is_own see.owner)))

-- a caller is to be dialled for such a session
abbrev pub to_dial : LineMind → Look → Bool
to_dial m see = not (is_offering m.kind) && not (at_port see.owner)

-- the newest session was first shown so many milliseconds ago
abbrev pub has_stood : LineMind → Look → ℕ → Bool
has_stood m see ms = see.line.newest == m.noted && nat_le (m.since + ms) see.moment

-- nobody has come to the line's port for the newest session, though it was there for 30 seconds
abbrev pub is_late : LineMind → Look → Bool
is_late m see = at_port see.owner && has_stood m see 30000

-- the caller's session was never live, though it was there for five seconds, and another one may be tried for
abbrev pub is_overdue : LineMind → Guest → Look → Bool
is_overdue m g see = is_calling m.kind && (not g.live && has_stood m see 5000)

-- the newest session, which has no caller, is to be closed
abbrev pub sweeps : LineMind → Look → Bool
sweeps m see =
    not (see.line.newest == m.shut) && (holds_on see.line && (not (is_job see.owner) && (see.stopping || (not (fresh_for m see) || is_late m see))))

abbrev pub next_alone : LineMind → Look → Move
next_alone m see =
    if sweeps m see then moves.Close
    else (if see.stopping then moves.Finish
    else (if is_offering m.kind then (if (see.wanted || fresh_for m see) && may_try m.away 5000 see.moment then moves.Attach else moves.Rest)
    else (if fresh_for m see && to_dial m see then moves.Dial
    else (if fresh_for m see || is_free see.line.state then moves.Accept
    else moves.Rest))))

-- nothing came for the caller, and it stays
abbrev pub try_of : LineMind → Waiter → Look → Move
try_of m w see =
    if is_offering m.kind then (if m.ready then moves.Watch else moves.Ready)
    else (if is_calling m.kind && (is_free see.line.state && may_try w.tried 1000 see.moment) then moves.Connect
    else moves.Watch)

-- the caller is hung up: the daemon is ending, or it has left; but a session that came for a device which has left is joined, so
-- that the peer is told
abbrev pub leaves : LineMind → Waiter → Look → Bool
leaves m w see = see.stopping || (w.gone && not (is_offering m.kind && fresh_for m see))

abbrev pub next_waiting : LineMind → Waiter → Look → Move
next_waiting m w see =
    if leaves m w see then (if m.ready then moves.Unready else moves.HangUp)
    else (if fresh_for m see then (if to_dial m see then moves.Dial else moves.Join)
    else (if sweeps m see then moves.Close
    else try_of m w see))

-- nothing more can be put into the caller's session, or taken from it
abbrev pub spent : LineMind → Guest → Look → Bool
spent m g see = not (see.line.newest == g.session) || (m.shut == g.session || not (holds_on see.line))

-- the caller's session is over, and this mind didn't close it
abbrev pub next_lost : LineMind → Guest → Look → Move
next_lost m g see =
    let live : Bool = g.live || shows_live see.line g.session in
    if is_calling m.kind && (not g.avoided && avoidable see.line.end live) then moves.Avoid
    else (if live || (g.ended || not (is_calling m.kind)) then moves.HangUp
    else moves.Lose)

-- a caller who gets no other session: this one was live, or the caller has ended, or its line doesn't try for sessions
abbrev pub is_last : Kind → Guest → Bool
is_last kind g = g.live || (g.ended || not (is_calling kind))

-- this mind closed the caller's session: where it wasn't answered in time the caller waits for another one
abbrev pub next_shut : LineMind → Guest → Look → Move
next_shut m g see = if is_last m.kind g then moves.HangUp else (if not g.avoided && is_shunned see.line then moves.Avoid else moves.Lose)

-- the caller's session is spent, and nothing is owed
abbrev pub next_over : LineMind → Guest → Look → Move
next_over m g see =
    if see.stopping || not (see.line.newest == g.session) then moves.HangUp
    else (if m.shut == g.session then next_shut m g see else next_lost m g see)

-- the caller's session is to be closed: behind an attention, where its device has gone
abbrev pub next_close : LineMind → Guest → Look → Move
next_close m g see =
    if (is_offering m.kind && (g.failed || g.ended)) && (is_live see.line.state && not g.attended) then moves.Attend
    else moves.Close

-- the daemon is ending, or the caller's connection failed, and the caller's session isn't spent
abbrev pub next_ending : LineMind → Guest → Look → Move
next_ending m g see =
    if nat_lt 0 g.left && is_live see.line.state then (if nat_lt 0 see.line.room then moves.Put else moves.Rest)
    else next_close m g see

-- the caller's session is live, and no items are to be taken now
abbrev pub next_live : LineMind → Guest → Look → Move
next_live m g see =
    if g.left == 0 then (if g.ended then next_close m g see else moves.Read)
    else (if nat_lt 0 see.line.room then moves.Put
    else (if nat_lt 0 g.owed then moves.Write
    else moves.Rest))

-- the caller's session isn't spent
abbrev pub next_serving : LineMind → Guest → Look → Move
next_serving m g see =
    if not (is_answered see.line.state) then (if g.ended || is_overdue m g see then moves.Close else moves.Watch)
    else (if is_live see.line.state && is_some g.wrote then next_live m g see
    else (if nat_lt 0 see.line.waiting && g.owed == 0 then moves.Take
    else (if is_live see.line.state then next_live m g see
    else moves.Write)))

abbrev pub next_joined : LineMind → Guest → Look → Move
next_joined m g see =
    if m.ready then moves.Unready
    else (if g.failed then (if spent m g see then moves.HangUp else next_ending m g see)
    else (if nat_lt 0 g.owed && is_none g.wrote then moves.Write
    else (if not (spent m g see) then (if see.stopping then next_ending m g see else next_serving m g see)
    else (if g.owed == 0 then next_over m g see
    else (if see.stopping && stuck g.wrote then moves.Finish else moves.Write)))))

-- the next move in this phase
abbrev pub next_at : LineMind → Phase → Look → Move
next_at m phases.Alone see = next_alone m see
next_at m (phases.Waiting w) see = next_waiting m w see
next_at m (phases.Joined g) see = next_joined m g see
next_at m phases.Finished see = moves.Finish

abbrev pub mind_next : LineMind → Look → Move
mind_next m see = next_at m m.phase see

abbrev pub calm_after : ℕ → Fact → ℕ
calm_after calm fact = if not (is_quiet fact) then 0 else (if nat_lt calm 50 then calm + 1 else 50)

abbrev pub seen_after : ℕ → Look → Fact → ℕ
seen_after seen see facts.Dialled = see.line.newest
seen_after seen see facts.Undialled = see.line.newest
seen_after seen see facts.Joined = see.line.newest
seen_after seen see (facts.Connected number) = number
seen_after seen see _ = seen

abbrev pub shut_after : ℕ → Look → Fact → ℕ
shut_after shut see facts.Closed = see.line.newest
shut_after shut see _ = shut

-- the moment of the first look that showed the newest session
abbrev pub since_after : ℕ → ℕ → Look → ℕ
since_after noted since see = if noted == see.line.newest then since else see.moment

abbrev pub away_after : Option ℕ → Look → Fact → Option ℕ
away_after away see facts.Away = Some see.moment
away_after away see facts.Came = None
away_after away see _ = away

abbrev pub ready_after : Bool → Fact → Bool
ready_after ready facts.Readied = true
ready_after ready facts.Unreadied = false
ready_after ready _ = ready

-- what it knows behind a fact
abbrev pub mind_told : LineMind → Look → Fact → LineMind
mind_told m see fact = record {
  kind = m.kind;
  seen = seen_after m.seen see fact;
  shut = shut_after m.shut see fact;
  noted = see.line.newest;
  since = since_after m.noted m.since see;
  away = away_after m.away see fact;
  ready = ready_after m.ready fact;
  calm = calm_after m.calm fact;
  phase = phase_after m.phase see fact;
}

-- how long a move may wait for something to happen, in milliseconds
abbrev pub patience_of : LineMind → ℕ
patience_of m = if has_caller m.phase && nat_lt 10 m.calm then 10 else m.calm
