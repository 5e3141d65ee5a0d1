-- What an end does at a time event, and what is told of it.
use Rattle.std.specs.Prelude.{ℕ, cond, length, nat_eq, Option, Some, None}
use Rattle.lat_model.specs.ends.End.{End, Step, still, then_do, finish, occasion}
use Rattle.lat_model.specs.ends.Timers.{silent, unused, rounds_step, living, due_step, may_form}
use Rattle.lat_frames.specs.Reasons.{end_bits}
use Rattle.lat_frames.specs.declared.reason.CircuitEnd.TheVariants as reasons
use Rattle.lat_circuit.specs.declared.time.Due.{Due}
use Rattle.lat_circuit.specs.declared.time.Due.TheVariants.{Quiet, Sent, Ended}

-- what an end does that was given the moment, where it isn't silent
abbrev pub heard_step : End → Step
heard_step e = cond (unused e) (finish (end_bits reasons.NoUse) e) (then_do (rounds_step e) (living due_step))

abbrev pub act_step : End → Step
act_step e = cond (silent e) (finish (end_bits reasons.NoAnswer) e) (heard_step e)

-- the due timer is noted, and an end that may form has an occasion
abbrev pub form_due : End → Step
form_due e = cond (may_form e) (occasion (record e { due_at = e.moment })) (still (record e { due_at = e.moment }))

abbrev pub due_sent : Option ℕ → ℕ → Due
due_sent None frames = cond (nat_eq frames 0) Quiet (Sent frames)
due_sent (Some reason) frames = Ended reason

-- of a step: the reason of the end where it has ended, else how many frames were made
abbrev pub due_of : Step → Due
due_of s = due_sent s.end.ended (length s.sent)
