-- What a line says that is typed at the prompt.
use Rattle.std.specs.Prelude.{ℕ, ◌==◌, ◌&&◌, Bool, true, false, not, List, [], ◌∷◌, length, codes, if◌then◌else◌, Option, Some, None, Result, Ok, Err, find}
use Rattle.std.specs.List.{list_any}
use Rattle.std.specs.Str.{str_eq_ignore_ascii_case}
use Rattle.lat_local.specs.declared.command.Command.{Command}
use Rattle.lat_local.specs.declared.command.Command.TheVariants as commands
use Rattle.lat_local.specs.declared.command.CommandFault.{CommandFault}
use Rattle.lat_local.specs.declared.command.CommandFault.TheVariants as faults
use Rattle.lat_local.specs.declared.verb.Verb.{Verb}
use Rattle.lat_local.specs.declared.verb.Verb.TheVariants as verbs
use Rattle.lat_local.specs.Verbs.{verb_of}
use Rattle.lat_local.specs.Words.{begins, next_word}

-- a command of one word, with what stands behind it
abbrev pub alone : Command → List ℕ → Result Command CommandFault
alone command object = if length object == 0 then Ok command else Err faults.Extra

-- what is shown, by what begins with the word: `services`, `sessions`
abbrev pub shown_by : Bool → Bool → Result Command CommandFault
shown_by true true = Err faults.AmbiguousShown
shown_by true false = Ok commands.ShowServices
shown_by false true = Ok commands.ShowSessions
shown_by false false = Err faults.UnknownShown

abbrev pub shown_of : List ℕ → Result Command CommandFault
shown_of word =
    if length word == 0 then Err faults.MissingShown
    else shown_by (begins word (codes "services")) (begins word (codes "sessions"))

-- another service than this one begins with the word
abbrev pub is_shared : List ℕ → List (List ℕ) → List ℕ → Bool
is_shared first services word = list_any (λ s. begins word s && not (str_eq_ignore_ascii_case first s)) services

-- the first service that begins with the word is meant where no other one does
abbrev pub if_alone : Option (List ℕ) → List (List ℕ) → List ℕ → Result Command CommandFault
if_alone None services word = Err faults.UnknownService
if_alone (Some first) services word = if is_shared first services word then Err faults.AmbiguousService else Ok (commands.Connect first)

-- a service whose whole name is the word is meant by it, whatever others begin so
abbrev pub if_whole : Option (List ℕ) → List (List ℕ) → List ℕ → Result Command CommandFault
if_whole (Some name) services word = Ok (commands.Connect name)
if_whole None services word = if_alone (find (begins word) services) services word

abbrev pub connect_of : List (List ℕ) → List ℕ → Result Command CommandFault
connect_of services word =
    if length word == 0 then Err faults.MissingService
    else if_whole (find (str_eq_ignore_ascii_case word) services) services word

abbrev pub with_object : Verb → List (List ℕ) → List ℕ → Result Command CommandFault
with_object verbs.Connect services object = connect_of services object
with_object verbs.Show services object = shown_of object
with_object verbs.Resume services object = alone commands.Resume object
with_object verbs.Disconnect services object = alone commands.Disconnect object
with_object verbs.Help services object = alone commands.Help object
with_object verbs.Logout services object = alone commands.Logout object

-- no command has a third word
abbrev pub with_rest : Verb → List (List ℕ) → List ℕ × List ℕ → Result Command CommandFault
with_rest verb services object =
    if length (next_word object.1).0 == 0 then with_object verb services object.0 else Err faults.Extra

abbrev pub if_verb : Option Verb → List (List ℕ) → List ℕ → Result Command CommandFault
if_verb None services rest = Err faults.UnknownCommand
if_verb (Some verb) services rest = with_rest verb services (next_word rest)

abbrev pub by_word : List (List ℕ) → List ℕ × List ℕ → Result Command CommandFault
by_word services first = if length first.0 == 0 then Ok commands.Blank else if_verb (verb_of first.0) services first.1

-- the command that a line is, of these services that are known
abbrev pub command_of : List (List ℕ) → List ℕ → Result Command CommandFault
command_of services line = by_word services (next_word line)
