-- What the program answers: a status, the text that it writes, and the world that it hands back.
use Rattle.std.specs.Prelude.{◌≡◌, ℕ, List, [], length, get_or, Option, Some, None, Result, Ok, Err, nat_lt, codes, if◌then◌else◌}
use Rattle.lat_machines.specs.world.Machines.{Setups}
use Rattle.lat_machines.specs.world.Reports.{report}
use Rattle.lat_show.specs.ShowOf.{show_of}
use Rattle.lat_show.specs.choice.ChooseOf.{choose_of}
use Rattle.lat_dump.specs.DumpOf.{dump_of}
use Rattle.lat_trace.specs.TraceText.{trace_of}
use Rattle.lat_draw.specs.DrawText.{draw_of}
use Rattle.lat_audit.specs.AuditOf.{audit_of}
use Rattle.lat_audit.specs.CapturedText.{captured_text}
use Rattle.lat_settle.specs.Rounds as rounds
use Rattle.lat_settle.specs.Texts as texts
use Rattle.lat_cmd.specs.generate.Grown as gen
use Rattle.lat_replay.specs.Kept.{Kept, setups_of}
use Rattle.lat_replay.specs.Setups.{setups_shown}
use Rattle.lat_replay.specs.Played.{State, open_state, Played, Through, Refused, played, StandsAt}
use Rattle.lat_wire.specs.report.ReportText.{report_text}
use Rattle.lat_wire.specs.report.RefusedText.{refused_text, status}
use Rattle.lat_wire.specs.declared.report.refused.Refused.TheVariants as lines
use Rattle.lat_schedule.specs.ScheduleText.{schedule_of}
use Rattle.lat_schedule.specs.declared.schedule.Schedule.{Schedule}
use Rattle.lat_schedule.specs.declared.schedule.ScheduleFault.{ScheduleFault}
use Rattle.lat_schedule.specs.declared.schedule.ScheduleFault.TheVariants as faults
use Rattle.lat_text.specs.WrongLine.{wrong_line}
use Rattle.lat_cmd.specs.declared.command.Command.{Command}
use Rattle.lat_cmd.specs.declared.command.Command.TheVariants.{Show, Choose, Replay, Capture, Settle, Audit, Pcap, Trace, Draw, Gen, Bench}
use Rattle.lat_cmd.specs.Commands.{reads}
use Rattle.lat_replay.specs.Refusals.{refused_of}

-- the two machines, what they are made of, and the moment of the schedule
pub record Ended : Type 0 where
  pub setups : Setups
  pub state : State

pub record Answer : Type 0 where
  pub status : ℕ
  pub text : List ℕ
  pub world : Option Ended  -- None where no world is handed back

-- a status and a text alone
abbrev pub plain : ℕ × List ℕ → Answer
plain a = record { status = a.0; text = a.1; world = None }

-- a text with the world that it tells of
abbrev pub with_world : List ℕ → Setups → State → Answer
with_world text u t = record { status = 0; text = text; world = Some (record { setups = u; state = t }) }

-- no schedule: the first wrong line, or the line of the first event too many
abbrev pub misread : ScheduleFault → Answer
misread (faults.Form line) = plain (2, wrong_line line)
misread (faults.Events line) = plain (6, refused_text line lines.EventsLimit)
misread faults.Memory = plain (9, [])

-- what a command tells of the two machines behind the last event of a schedule
abbrev pub Tale : Type 0
Tale = Setups → State → Answer

-- where a schedule leads whose events have these lines: to the tale, or to the line of the first event that is refused
abbrev pub tale_answer : Tale → Setups → (lines : List ℕ) → Played → Answer
tale_answer tale u lines (Through t) = tale u t
tale_answer tale u lines (Refused index fault t) = plain (status (refused_of fault), refused_text (get_or lines index 0) (refused_of fault))

unfoldable pub answered_of : Tale → Schedule → Answer
answered_of tale s = tale_answer tale (setups_shown s.setup) s.lines (played (setups_shown s.setup) (open_state (setups_shown s.setup)) s.events)

abbrev pub tale_answer_at : Tale → Result Schedule ScheduleFault → Answer
tale_answer_at tale (Ok s) = answered_of tale s
tale_answer_at tale (Err fault) = misread fault

-- what a command on schedules answers to a text
unfoldable pub answered_behind : Tale → List ℕ → Answer
answered_behind tale input = tale_answer_at tale (schedule_of input)

-- the report, with the world
unfoldable pub reported : Tale
reported u t = with_world (report_text (report u t.machines)) u t

abbrev pub replay_of : List ℕ → Answer
replay_of input = answered_behind reported input

-- what is captured of circuit p of the server, with the world
unfoldable pub captured : (p : ℕ) → Tale
captured p u t = with_world (captured_text u t.machines p) u t

abbrev pub capture_of : (p : ℕ) → List ℕ → Answer
capture_of p input = answered_behind (captured p) input

-- where rounds lead from a state: to the report of the world behind them, or to the line of the round in which an event is refused
abbrev pub settled_to : Setups → State → Played → Answer
settled_to u t (Through behind) = with_world (texts.rounds_text u t.machines (Through behind)).1 u behind
settled_to u t (Refused round fault before) = plain (texts.rounds_text u t.machines (Refused round fault before))

unfoldable pub settled : (count : ℕ) → Tale
settled count u t = settled_to u t (rounds.settled u t count)

abbrev pub settle_of : (count : ℕ) → List ℕ → Answer
settle_of count input = answered_behind (settled count) input

unfoldable pub gen_of : ℕ → Answer
gen_of seed = with_world (gen.gen_text seed) gen.setups (gen.grown seed).state

unfoldable pub bench_of : ℕ → Answer
bench_of seed = with_world (gen.bench_text seed) gen.setups (gen.grown seed).state

-- what a command answers to an input that is within the limit
abbrev pub answer_to : Command → List ℕ → Answer
answer_to Show input = plain (show_of input)
answer_to Choose input = plain (choose_of input)
answer_to Replay input = replay_of input
answer_to (Capture circuit) input = capture_of circuit input
answer_to (Settle count) input = settle_of count input
answer_to Audit input = plain (audit_of input)
answer_to Pcap input = plain (dump_of input)
answer_to Trace input = plain (trace_of input)
answer_to Draw input = plain (draw_of input)
answer_to (Gen seed) input = gen_of seed
answer_to (Bench seed) input = bench_of seed

-- what it answers to an input of any length: one past the limit has status 6
abbrev pub answer_of : Command → List ℕ → Answer
answer_of command input = if nat_lt 16777216 (length input) then plain (6, codes "limit bytes\n") else answer_to command input

-- what a command finds of what the source has left, where that is known
abbrev pub input_of : Command → Option (List ℕ) → Option (List ℕ)
input_of command left = if reads command then left else Some []

-- the world that is handed back stands for this one
abbrev pub HandsBack : {H : Type 0} → Option Ended → Option (Kept H) → Type 0
HandsBack None None = Unit {0}
HandsBack (Some e) (Some k) = (setups_of k ≡ e.setups) × StandsAt k e.state
HandsBack answered handed = ⊥
