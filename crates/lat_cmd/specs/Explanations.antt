-- What is told on standard error beside an answer.
use Rattle.std.specs.Prelude.{ℕ, ◌-◌, ◌⊎◌, min, List, [], ◌++◌, length, take, Option, Some, None, codes, nat_eq, IfSome, if◌then◌else◌}
use Rattle.std.specs.Io.KnownBytes.{Appends}
use Rattle.lat_outside.specs.Causes.{Rose}
use Rattle.lat_pcap.specs.declared.fault.Wrong.{Wrong}
use Rattle.lat_pcap.specs.Held.{contents_of}
use Rattle.lat_explain.specs.declared.awaited.Input.TheVariants as inputs
use Rattle.lat_explain.specs.Awaited.{behind_space}
use Rattle.lat_explain.specs.FileExplained.{file_explained}
use Rattle.lat_explain.specs.Forms.{bound}
use Rattle.lat_explain.specs.LineExplained.{line_explained}
use Rattle.lat_explain.specs.RefusedExplained.{refused_explained}
use Rattle.lat_explain.specs.Walks.{front_word}
use Rattle.lat_cmd.specs.declared.command.Command.{Command}
use Rattle.lat_cmd.specs.declared.command.Command.TheVariants.{Show, Choose, Audit, Pcap, Draw}
use Rattle.lat_cmd.specs.Befores.{Before, before_of, before_told}
use Rattle.lat_cmd.specs.Answers.{answer_of, input_of}

-- how many lines stand in front of the one that `line N form` names
abbrev pub lines_before : (input text : List ℕ) → ℕ
lines_before input text = min (bound (front_word (behind_space text)) - 1) (length input)

abbrev pub wrong_explained : List ℕ → Option Wrong → List ℕ
wrong_explained input None = []
wrong_explained input (Some wrong) = file_explained input wrong

-- why an input isn't of a command's form, for which this text was written
abbrev pub form_explained : Command → (input text : List ℕ) → List ℕ
form_explained Show input text = line_explained inputs.Payloads (lines_before input text) input
form_explained Choose input text = line_explained inputs.Choice (lines_before input text) input
form_explained Audit input text = line_explained inputs.Capture (lines_before input text) input
form_explained Pcap input text = wrong_explained input (contents_of input).wrong
form_explained command input text = line_explained inputs.Schedule (lines_before input text) input

-- how many events a schedule has at most, of a command
abbrev pub events_of : Command → ℕ
events_of Draw = 2000
events_of command = 100000

-- why an answer has this status and this text, and what was refused before
abbrev pub explained : Command → (input : List ℕ) → (status : ℕ) → (text : List ℕ) → Option Before → List ℕ
explained command input status text before =
    if nat_eq status 0 then []
    else if nat_eq status 2 then form_explained command input text
    else if nat_eq status 3 then refused_explained (events_of command) text ++ before_told before
    else refused_explained (events_of command) text

-- What is told of an end: nothing where the status is 0; of a failed read or write and of want of memory one line; else why
abbrev pub no_memory : List ℕ
no_memory = codes "lat: no memory was found\n"

abbrev pub end_told : (status : ℕ) → (why : List ℕ) → List ℕ
end_told status why =
    if nat_eq status 0 then []
    else if nat_eq status 4 then codes "lat: standard input can't be read\n"
    else if nat_eq status 5 then codes "lat: standard output can't be written\n"
    else if nat_eq status 9 then no_memory
    else why

-- it was written behind what was; or a write failed, and a prefix of it was
abbrev pub Tells : (text : List ℕ) → (before now : Option (List ℕ)) → (faults later : ℕ) → Type 0
Tells text before now faults later =
    Appends before now text ⊎ (((n : ℕ) × Appends before now (take n text)) × Rose faults later)

-- the explanation was, or that no memory was found for it
abbrev pub TellsEnd : (status : ℕ) → (why : List ℕ) → (before now : Option (List ℕ)) → (faults later : ℕ) → Type 0
TellsEnd status why before now faults later =
    Tells (end_told status why) before now faults later ⊎ Tells (end_told status no_memory) before now faults later

-- why a command answers as it does to an input of any length
abbrev pub why_of : Command → (input : List ℕ) → List ℕ
why_of command input =
    explained command input (answer_of command input).status (answer_of command input).text (before_of command input)

-- of a run of a command with this status, by what the source had left, where that is known
abbrev pub TellsRun : Command → (left : Option (List ℕ)) → (status : ℕ) → (before now : Option (List ℕ)) → (faults later : ℕ) → Type 0
TellsRun command left status before now faults later =
    IfSome (input_of command left) (λ input. TellsEnd status (why_of command input) before now faults later)
