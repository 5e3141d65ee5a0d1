-- What a connect makes of the session that was to be had.
use Rattle.std.specs.Prelude.{ℕ, Result, Ok, Err}
use Rattle.lat_base.specs.declared.answer.Answer.{Answer}
use Rattle.lat_base.specs.declared.answer.Answer.TheVariants as answers
use Rattle.lat_lines.specs.declared.opening.OpenFault.{OpenFault}
use Rattle.lat_lines.specs.declared.opening.OpenFault.TheVariants.{SessionsFull, CircuitsFull, IdsOut}

abbrev pub opened_answer : Result (ℕ × ℕ) OpenFault → Answer
opened_answer (Ok ids) = answers.Connected ids.0 ids.1
opened_answer (Err SessionsFull) = answers.SessionsFull
opened_answer (Err CircuitsFull) = answers.CircuitsFull
opened_answer (Err IdsOut) = answers.IdsOut
