-- How far a job is, behind a fact.
use Rattle.std.specs.Prelude.{ℕ, ◌-◌, ◌==◌, ◌&&◌, ◌||◌, Bool, true, false, not}
use Rattle.lat_jobs.specs.declared.fact.Fact.{Fact}
use Rattle.lat_jobs.specs.declared.fact.Fact.TheVariants as facts
use Rattle.lat_jobs.specs.declared.look.Look.{Look}
use Rattle.lat_jobs.specs.declared.phase.Pause.{Pause}
use Rattle.lat_jobs.specs.declared.phase.Ask.{Ask}
use Rattle.lat_jobs.specs.declared.phase.Print.{Print}
use Rattle.lat_jobs.specs.declared.phase.Phase.{Phase}
use Rattle.lat_jobs.specs.declared.phase.Phase.TheVariants as phases
use Rattle.lat_jobs.specs.Facts.{is_closed, is_ended, is_failed, is_read, is_write}
use Rattle.lat_jobs.specs.Looks.{is_for, is_placed}

-- those behind the job may ask
abbrev pub has_place : Phase → Bool
has_place (phases.Pausing p) = false
has_place (phases.Asking a) = a.placed
has_place (phases.Printing g) = true
has_place phases.Over = true

-- a job that has just got this session
abbrev pub fresh_print : ℕ → ℕ → Print
fresh_print number session = record {
  number = number;
  session = session;
  touched = false;
  left = 0;
  owed = 0;
  ended = false;
  failed = false;
  deaf = false;
  broken = false;
  shut = false;
  wrote = false;
}

-- a job that waits from this look on
abbrev pub pauses : Look → Bool → Phase
pauses see gone = phases.Pausing (record { since = see.moment; gone = gone })

-- a job that has just asked under this number
abbrev pub asks : Look → ℕ → Phase
asks see number = phases.Asking (record { number = number; since = see.moment; asked = see.moment; placed = false; gone = false })

abbrev pub pause_after : Pause → Fact → Pause
pause_after p facts.Failed = record p { gone = true }
pause_after p facts.Unasked = record p { gone = true }
pause_after p _ = p

abbrev pub pausing_after : Pause → Look → Fact → Phase
pausing_after p see (facts.Asked number) = asks see number
pausing_after p see facts.Reset = phases.Over
pausing_after p see fact = phases.Pausing (pause_after p fact)

abbrev pub asked_after : ℕ → Look → Fact → ℕ
asked_after asked see facts.Repeated = see.moment
asked_after asked see _ = asked

abbrev pub ask_after : Ask → Look → Fact → Ask
ask_after a see fact = record {
  number = a.number;
  since = a.since;
  asked = asked_after a.asked see fact;
  placed = is_placed see.status a.number;
  gone = a.gone || is_failed fact;
}

-- a job that is cancelled at the daemon's end, or whose client has gone, doesn't ask again
abbrev pub asking_after : Ask → Look → Fact → Phase
asking_after a see facts.Joined = phases.Printing (fresh_print a.number see.line.newest)
asking_after a see facts.Lost = pauses see false
asking_after a see facts.Cancelled = pauses see (a.gone || see.stopping)
asking_after a see fact = phases.Asking (ask_after a see fact)

-- the look shows the job's session
abbrev pub here : Print → Look → Bool
here g see = is_for see.request g.number && see.line.newest == g.session

-- the peer has said that its device has gone, now or before
abbrev pub breaks : Print → Look → Bool
breaks g see = g.broken || (here g see && see.broken)

abbrev pub left_after : ℕ → Fact → ℕ
left_after left (facts.Read count) = count
left_after left (facts.Put count) = left - count
left_after left _ = left

-- what a client didn't take is dropped
abbrev pub owed_after : ℕ → Fact → ℕ
owed_after owed (facts.Took count) = count
owed_after owed (facts.Written count) = owed - count
owed_after owed facts.Failed = 0
owed_after owed _ = owed

abbrev pub print_after : Print → Look → Fact → Print
print_after g see fact = record {
  number = g.number;
  session = g.session;
  touched = g.touched || is_read fact;
  left = left_after g.left fact;
  owed = owed_after g.owed fact;
  ended = g.ended || is_ended fact;
  failed = g.failed || (is_failed fact && not g.ended);
  deaf = g.deaf || is_failed fact;
  broken = breaks g see;
  shut = g.shut || is_closed fact;
  wrote = is_write fact;
}

abbrev pub printing_after : Print → Look → Fact → Phase
printing_after g see facts.Lost = pauses see false
printing_after g see facts.HungUp = phases.Over
printing_after g see facts.Reset = phases.Over
printing_after g see fact = phases.Printing (print_after g see fact)

abbrev pub phase_after : Phase → Look → Fact → Phase
phase_after (phases.Pausing p) see fact = pausing_after p see fact
phase_after (phases.Asking a) see fact = asking_after a see fact
phase_after (phases.Printing g) see fact = printing_after g see fact
phase_after phases.Over see fact = phases.Over
