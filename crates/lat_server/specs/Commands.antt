-- What commands and announcements are answered.
use Rattle.std.specs.Prelude.{◌≡◌, ℕ, Bool, true, false, List, [], ◌∷◌, ◌++◌, Option, Some, None, Result, Ok, Err}
use Rattle.lat_base.specs.declared.answer.Answer as base
use Rattle.lat_base.specs.declared.answer.Answer.TheVariants as answers
use Rattle.lat_base.specs.declared.kept.Kept as base_kept
use Rattle.lat_notices.specs.declared.notice.Action as own_action
use Rattle.lat_notices.specs.declared.notice.Action.TheVariants as own
use Rattle.lat_notices.specs.declared.notice.Outcome.{Outcome}
use Rattle.lat_notices.specs.declared.notice.Outcome.TheVariants as outcomes
use Rattle.lat_machines.specs.values.Names.{Name}
use Rattle.lat_machines.specs.values.Notices.{Kept, Action, Ask, Cancel, Command}
use Rattle.lat_machines.specs.values.Answers.{Answer, Announced, Apart, DirectoryFull}
use Rattle.lat_machines.specs.server.Queue.{QueueEvent, Asks, Cancels}
use Rattle.lat_machines.specs.server.Records.{ask_answer, kept_for}
use Rattle.lat_machines.specs.server.Server.{key_of}
use Rattle.lat_dir.specs.declared.directory.DirFault.{DirFault}
use Rattle.lat_queue.specs.Tables.{Table}
use Rattle.lat_queue.specs.Histories.{Stands, some_kept}

-- the queue's events once it was told of a command, and what is kept of the request then
pub record NotedCommand : Type 0 where
  pub events : List QueueEvent
  pub kept : Option Kept

abbrev pub noted : List Name → ℕ → Command → Action → List QueueEvent → NotedCommand
noted offered from m Ask q =
    let k : Kept = ask_answer offered (key_of m) m.service q in
    record { events = q ++ Asks (key_of m) from m.service k ∷ []; kept = Some k }
noted offered from m Cancel q =
    let events : List QueueEvent = q ++ Cancels (key_of m) ∷ [] in
    record { events = events; kept = kept_for (key_of m) events }

-- how many requests more may wait behind a command of this action
abbrev pub may_wait : own_action.Action → ℕ
may_wait own.Ask = 1
may_wait own.Cancel = 0

pub record HasNoted (n : NotedCommand) (new : Table) (kept : Option base_kept.Kept) : Type 0 where
  pub state : Stands new n.events
  pub same : some_kept kept ≡ n.kept

abbrev pub kept_answer : Option base_kept.Kept → base.Answer
kept_answer None = answers.NotKept
kept_answer (Some k) = answers.Kept k

abbrev pub kept_outcome : Option base_kept.Kept → Outcome
kept_outcome None = outcomes.Unknown
kept_outcome (Some k) = outcomes.Kept k

-- an announcement that was kept, one of other groups, and one that found no room
abbrev pub announced_answer : Result Bool DirFault → Answer
announced_answer (Ok true) = Announced
announced_answer (Ok false) = Apart
announced_answer (Err fault) = DirectoryFull
