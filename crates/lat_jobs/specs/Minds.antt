-- The mind of a job: the next move, and what it knows behind a fact.
use Rattle.std.specs.Prelude.{ℕ, ◌+◌, ◌==◌, ◌&&◌, ◌||◌, min, Bool, false, not, if◌then◌else◌, nat_lt, nat_le}
use Rattle.lat_mind.specs.Looks.{holds_on, is_answered, is_free, is_live}
use Rattle.lat_jobs.specs.declared.fact.Fact.{Fact}
use Rattle.lat_jobs.specs.declared.fact.Fact.TheVariants as facts
use Rattle.lat_jobs.specs.declared.fact.Move.{Move}
use Rattle.lat_jobs.specs.declared.fact.Move.TheVariants as moves
use Rattle.lat_jobs.specs.declared.look.Look.{Look}
use Rattle.lat_jobs.specs.declared.phase.Pause.{Pause}
use Rattle.lat_jobs.specs.declared.phase.Ask.{Ask}
use Rattle.lat_jobs.specs.declared.phase.Print.{Print}
use Rattle.lat_jobs.specs.declared.phase.Phase.{Phase}
use Rattle.lat_jobs.specs.declared.phase.Phase.TheVariants as phases
use Rattle.lat_jobs.specs.declared.mind.JobMind.{JobMind}
use Rattle.lat_jobs.specs.Facts.{is_quiet}
use Rattle.lat_jobs.specs.Looks.{is_for, is_refused, is_stopped, last_heard, tells}
use Rattle.lat_jobs.specs.Phases.{breaks, here, phase_after}

-- a client has just come
abbrev pub fresh_mind : JobMind
fresh_mind = record { wait = 0; calm = 0; phase = phases.Pausing (record { since = 0; gone = false }) }

-- how long a job waits before the next try, behind one before which it waited so long
abbrev pub wait_after : ℕ → ℕ
wait_after wait = if wait == 0 then 5000 else min 300000 (wait + wait)

-- so long has passed since then
abbrev pub is_past : ℕ → ℕ → ℕ → Bool
is_past from span now = nat_le (from + span) now

-- no request of the job stands; it may ask where it is its turn
abbrev pub next_pausing : ℕ → Pause → Look → Bool → Move
next_pausing wait p see turn =
    if p.gone || see.stopping then moves.Reset
    else (if turn && is_past p.since wait see.moment then moves.Ask
    else moves.Watch)

-- its session has come
abbrev pub comes : Ask → Look → Bool
comes a see = is_for see.request a.number && holds_on see.line

-- its session won't come, or was over before it was joined
abbrev pub is_lost : Ask → Look → Bool
is_lost a see = is_for see.request a.number || is_refused see.status a.number

-- nothing was heard of it for a minute
abbrev pub is_silent : Ask → Look → Bool
is_silent a see = is_past (last_heard see.status a.number a.since) 60000 see.moment

-- it is time to ask again: each 5 seconds, in its turn, until a status is heard, and each 30 seconds behind that
abbrev pub is_due : Ask → Look → Bool → Bool
is_due a see turn = if tells see.status a.number then is_past a.asked 30000 see.moment else turn && is_past a.asked 5000 see.moment

abbrev pub next_asking : Ask → Look → Bool → Move
next_asking a see turn =
    if a.gone || see.stopping then moves.Cancel
    else (if comes a see then moves.Join
    else (if is_lost a see then moves.Lose
    else (if is_silent a see then moves.Cancel
    else (if is_due a see turn then moves.Repeat
    else moves.Watch))))

-- its session is there, and can give or take something still
abbrev pub is_open : Print → Look → Bool
is_open g see = here g see && holds_on see.line

-- all that the client sent was put, and nothing failed
abbrev pub is_whole : Print → Bool
is_whole g = g.ended && (g.left == 0 && (not g.failed && not g.broken))

-- items are to be written, and the last fact was of no write
abbrev pub is_owing : Print → Bool
is_owing g = nat_lt 0 g.owed && not g.wrote

-- the session is over, and this mind didn't close it: nothing was read, and the job is as it was before, or it failed
abbrev pub next_cut : Print → Move
next_cut g = if g.touched then moves.Reset else moves.Lose

-- this mind has closed the session
abbrev pub next_shut : Print → Look → Move
next_shut g see =
    if not (is_whole g) || breaks g see then moves.Reset
    else (if is_owing g then moves.Write
    else (if here g see && not (is_free see.line.state) then moves.Rest
    else (if not (here g see && is_stopped see.line.end) then moves.Reset
    else (if nat_lt 0 g.owed && not see.stopping then moves.Write
    else moves.HangUp))))

-- the daemon is ending
abbrev pub next_ending : Print → Look → Move
next_ending g see =
    if nat_lt 0 g.left && is_live see.line.state then (if nat_lt 0 see.line.room then moves.Put else moves.Rest)
    else moves.Close

-- the session is live, and no items are to be taken now
abbrev pub next_live : Print → Look → Move
next_live g see =
    if g.left == 0 then (if g.ended then moves.Close else moves.Read)
    else (if nat_lt 0 see.line.room then moves.Put
    else (if nat_lt 0 g.owed then moves.Write
    else moves.Rest))

abbrev pub next_serving : Print → Look → Move
next_serving g see =
    if not (is_answered see.line.state) then moves.Watch
    else (if is_live see.line.state && g.wrote then next_live g see
    else (if nat_lt 0 see.line.waiting && (g.owed == 0 && not g.deaf) then moves.Take
    else (if is_live see.line.state then next_live g see
    else (if nat_lt 0 g.owed then moves.Write
    else next_cut g))))

abbrev pub next_printing : Print → Look → Move
next_printing g see =
    if g.shut then next_shut g see
    else (if g.failed || breaks g see then (if is_open g see then moves.Close else moves.Reset)
    else (if is_owing g then moves.Write
    else (if not (is_open g see) then next_cut g
    else (if see.stopping then next_ending g see
    else next_serving g see))))

-- the next move in this phase
abbrev pub next_at : ℕ → Phase → Look → Bool → Move
next_at wait (phases.Pausing p) see turn = next_pausing wait p see turn
next_at wait (phases.Asking a) see turn = next_asking a see turn
next_at wait (phases.Printing g) see turn = next_printing g see
next_at wait phases.Over see turn = moves.Stop

abbrev pub mind_next : JobMind → Look → Bool → Move
mind_next m see turn = next_at m.wait m.phase see turn

abbrev pub calm_after : ℕ → Fact → ℕ
calm_after calm fact = if not (is_quiet fact) then 0 else (if nat_lt calm 10 then calm + 1 else 10)

abbrev pub waits_after : ℕ → Fact → ℕ
waits_after wait facts.Lost = wait_after wait
waits_after wait facts.Cancelled = wait_after wait
waits_after wait _ = wait

-- what it knows behind a fact
abbrev pub mind_told : JobMind → Look → Fact → JobMind
mind_told m see fact = record {
  wait = waits_after m.wait fact;
  calm = calm_after m.calm fact;
  phase = phase_after m.phase see fact;
}
