-- What holds of commands.
use Rattle.std.specs.Prelude.{◌≡◌, ◌≤◌, Ok}
use Rattle.lat_tables.specs.Commands.{command_of, command_text}
use Rattle.lat_tables.specs.declared.command.Command.{Command}
use Rattle.lat_tables.specs.declared.command.Command.TheVariants.{ShowHistory, HangUp}

-- its numbers are those that are read: 1 to 1,000,000 entries, lines 1 to 255
abbrev pub IsCommand : Command → Type 0
IsCommand (ShowHistory count) = (1 ≤ count) × (count ≤ 1_000_000)
IsCommand (HangUp line) = (1 ≤ line) × (line ≤ 255)
IsCommand command = Unit {0}

-- each command as it is typed reads as that command
abbrev pub CommandsAreRead : Type 0
CommandsAreRead = (command : Command) → IsCommand command → command_of (command_text command) ≡ Ok command
