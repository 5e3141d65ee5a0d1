-- What a command comes to, and how its run ends.
use Rattle.std.specs.Prelude.{◌≡◌, ◌⊎◌, ℕ, ◌&&◌, List, take, Option, None, is_some, nat_eq, string_bytes}
use Rattle.std.specs.Io.KnownBytes.{Appends}
use Rattle.lat_replay.specs.Kept.{Kept}
use Rattle.lat_cmd.specs.declared.command.Command.{Command}
use Rattle.lat_cmd.specs.declared.outcome.Outcome.{Outcome}
use Rattle.lat_cmd.specs.declared.end.RunEnd.{RunEnd}
use Rattle.lat_cmd.specs.Answers.{Answer, HandsBack}
use Rattle.lat_cmd.specs.Commands.{makes_world}

-- the outcome is this answer
pub record IsOutcome {H : Type 0} (a : Answer) (o : Outcome H) : Type 0 where
  pub status : o.status ≡ a.status
  pub text : string_bytes o.text ≡ a.text
  pub world : HandsBack a.world o.world

-- The run ended before it wrote: a read failed, or no memory was found.
abbrev pub IsEarly : ℕ → Type 0
IsEarly status = (status ≡ 4) ⊎ (status ≡ 9)

-- It answered so, and the whole text was written; or a write failed, and a prefix of it was. What was written before and is
-- now is known of some sinks alone.
abbrev pub WritesAnswer : {H : Type 0} → Answer → RunEnd H → (before now : Option (List ℕ)) → Type 0
WritesAnswer a end before now =
    ((end.status ≡ a.status) × Appends before now a.text × HandsBack a.world end.world)
    ⊎ ((end.status ≡ 5) × ((n : ℕ) × Appends before now (take n a.text)) × (end.world ≡ None))

-- It ended early, or it told the answer.
abbrev pub Answers : {H : Type 0} → Answer → RunEnd H → (before now : Option (List ℕ)) → Type 0
Answers a end before now = (IsEarly end.status × (end.world ≡ None)) ⊎ WritesAnswer a end before now

-- a world is there exactly where the command makes one and the status is 0
abbrev pub WorldWhereDone : {H : Type 0} → Command → (status : ℕ) → Option (Kept H) → Type 0
WorldWhereDone command status world = is_some world ≡ (makes_world command && nat_eq status 0)
