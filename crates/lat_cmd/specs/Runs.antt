-- What holds of the run of a command.
use Rattle.std.specs.Prelude.{◌≡◌, ℕ, ◌≤◌, List, length, Option, IfSome}
use Rattle.lat_cmd.specs.declared.command.Command.{Command}
use Rattle.lat_cmd.specs.declared.end.RunEnd.{RunEnd}
use Rattle.lat_cmd.specs.Answers.{answer_of, input_of}
use Rattle.lat_cmd.specs.Commands.{IsStatusOf}
use Rattle.lat_cmd.specs.Laws.{ObeysLaw, KeepsPromises}
use Rattle.lat_cmd.specs.Outcomes.{Answers, WorldWhereDone}

-- the input is all that the command finds of what the source had left, where that is known, and it is within the limit
abbrev pub IsRead : Command → (left : Option (List ℕ)) → (input : List ℕ) → Type 0
IsRead c left input = IfSome (input_of c left) (λ xs. (input ≡ xs) × (length xs ≤ 16777216))

-- it told the answer, or ended early; with a status of its command, a world where it is done, and the laws
pub record IsRunOf {H : Type 0} (c : Command) (left : Option (List ℕ)) (end : RunEnd H) (before now : Option (List ℕ)) : Type 0 where
  pub answer : IfSome (input_of c left) (λ input. Answers (answer_of c input) end before now)
  pub status : IsStatusOf c end.status
  pub world : WorldWhereDone c end.status end.world
  pub promises : IfSome end.world (λ k. KeepsPromises k)
  pub law : ObeysLaw c left end.status before now
