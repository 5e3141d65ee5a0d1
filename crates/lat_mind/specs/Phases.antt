-- How far a line is with its caller, behind a fact.
use Rattle.std.specs.Prelude.{ℕ, ◌-◌, ◌||◌, Bool, if◌then◌else◌, true, false, Option, Some, None}
use Rattle.lat_mind.specs.declared.fact.Fact.{Fact}
use Rattle.lat_mind.specs.declared.fact.Fact.TheVariants as facts
use Rattle.lat_mind.specs.declared.look.Look.{Look}
use Rattle.lat_mind.specs.declared.phase.Waiter.{Waiter}
use Rattle.lat_mind.specs.declared.phase.Guest.{Guest}
use Rattle.lat_mind.specs.declared.phase.Phase.{Phase}
use Rattle.lat_mind.specs.declared.phase.Phase.TheVariants as phases
use Rattle.lat_mind.specs.Looks.{shows_live}
use Rattle.lat_mind.specs.Facts.{is_attended, is_avoided, is_ended, is_failed, wrote_of}

abbrev pub has_caller : Phase → Bool
has_caller (phases.Waiting w) = true
has_caller (phases.Joined g) = true
has_caller _ = false

-- a caller has the line whose session was seen live
abbrev pub was_live : Phase → Bool
was_live (phases.Joined g) = g.live
was_live _ = false

-- a caller that has just got this session
abbrev pub fresh_guest : ℕ → Option ℕ → Bool → Bool → Guest
fresh_guest session tried beside failed = record {
  session = session;
  tried = tried;
  beside = beside;
  live = false;
  left = 0;
  owed = 0;
  ended = false;
  failed = failed;
  wrote = None;
  avoided = false;
  attended = false;
}

-- a caller without a session, for whom one was tried at this moment
abbrev pub waits : Option ℕ → Phase
waits tried = phases.Waiting (record { tried = tried; gone = false })

abbrev pub alone_after : Look → Fact → Phase
alone_after see facts.Came = waits None
alone_after see facts.Dialled = phases.Joined (fresh_guest see.line.newest None false false)
alone_after see facts.Finished = phases.Finished
alone_after see _ = phases.Alone

abbrev pub waiter_after : Waiter → Look → Fact → Waiter
waiter_after w see facts.Unconnected = record w { tried = Some see.moment }
waiter_after w see facts.Ended = record w { gone = true }
waiter_after w see facts.Failed = record w { gone = true }
waiter_after w see _ = w

-- a caller who is dialled has the line while this one waits on
abbrev pub waiting_after : Waiter → Look → Fact → Phase
waiting_after w see facts.Joined = phases.Joined (fresh_guest see.line.newest w.tried false w.gone)
waiting_after w see facts.Dialled = phases.Joined (fresh_guest see.line.newest None true false)
waiting_after w see (facts.Connected number) = phases.Joined (fresh_guest number (Some see.moment) false w.gone)
waiting_after w see facts.HungUp = phases.Alone
waiting_after w see facts.Finished = phases.Finished
waiting_after w see fact = phases.Waiting (waiter_after w see fact)

abbrev pub left_after : ℕ → Fact → ℕ
left_after left (facts.Read count) = count
left_after left (facts.Put count) = left - count
left_after left _ = left

abbrev pub owed_after : ℕ → Fact → ℕ
owed_after owed (facts.Took count) = count
owed_after owed (facts.Written count) = owed - count
owed_after owed _ = owed

abbrev pub held_after : Guest → Look → Fact → Guest
held_after g see fact = record {
  session = g.session;
  tried = g.tried;
  beside = g.beside;
  live = g.live || shows_live see.line g.session;
  left = left_after g.left fact;
  owed = owed_after g.owed fact;
  ended = g.ended || is_ended fact;
  failed = g.failed || is_failed fact;
  wrote = wrote_of fact;
  avoided = g.avoided || is_avoided fact;
  attended = g.attended || is_attended fact;
}

-- whoever waited beside it has the line now
abbrev pub hung_up : Guest → Phase
hung_up g = if g.beside then waits None else phases.Alone

abbrev pub guest_after : Guest → Look → Fact → Phase
guest_after g see facts.Lost = waits g.tried
guest_after g see facts.HungUp = hung_up g
guest_after g see facts.Finished = phases.Finished
guest_after g see fact = phases.Joined (held_after g see fact)

abbrev pub phase_after : Phase → Look → Fact → Phase
phase_after phases.Alone see fact = alone_after see fact
phase_after (phases.Waiting w) see fact = waiting_after w see fact
phase_after (phases.Joined g) see fact = guest_after g see fact
phase_after phases.Finished see fact = phases.Finished
