-- The lines of the control socket.
use Rattle.std.specs.Prelude.{ℕ, List, [], ◌∷◌, ◌++◌, length, take, drop, position, unwrap_or, Option, Some, None, Result, Ok, Err, codes, decimal, bytes_eq, ◌==◌, if◌then◌else◌}
use Rattle.lat_text.specs.Numbers.{number_within}
use Rattle.lat_text.specs.Words.{space}
use Rattle.lat_tables.specs.declared.command.Command.{Command}
use Rattle.lat_tables.specs.declared.command.Command.TheVariants.{Show, ShowCounters, ShowHistory, HangUp, Stop, Help}
use Rattle.lat_tables.specs.declared.command.Listing.{Listing}
use Rattle.lat_tables.specs.declared.command.Listing.TheVariants.{Lines, Services, Circuits, Requests}
use Rattle.lat_tables.specs.declared.fault.CommandFault.{CommandFault}
use Rattle.lat_tables.specs.declared.fault.CommandFault.TheVariants as faults
use Rattle.lat_tables.specs.declared.reading.Verb.{Verb}
use Rattle.lat_tables.specs.declared.reading.Verb.TheVariants as verbs

-- ---- as they are typed

abbrev pub listing_text : Listing → List ℕ
listing_text Lines = codes "lines"
listing_text Services = codes "services"
listing_text Circuits = codes "circuits"
listing_text Requests = codes "requests"

abbrev pub command_text : Command → List ℕ
command_text (Show listing) = codes "show " ++ listing_text listing
command_text ShowCounters = codes "show counters"
command_text (ShowHistory count) = codes "show history " ++ decimal count
command_text (HangUp line) = codes "hang-up " ++ decimal line
command_text Stop = codes "stop"
command_text Help = codes "help"

-- what is answered to a line that is none
abbrev pub fault_text : CommandFault → List ℕ
fault_text faults.Command = codes "? show, hang-up, stop or help"
fault_text faults.Shown = codes "? lines, services, circuits, requests, counters or history"
fault_text faults.Count = codes "? how many entries, 1 to 1000000"
fault_text faults.Line = codes "? a line, 1 to 255"
fault_text faults.Further = codes "? nothing further"

-- ---- words

-- a text from its first byte on that is no blank
abbrev pub unblanked : List ℕ → List ℕ
unblanked [] = []
unblanked (b ∷ text) = if b == space then unblanked text else b ∷ text

abbrev pub word_end : List ℕ → ℕ
word_end text = unwrap_or (position (λ b. b == space) text) (length text)

abbrev pub cut_word : List ℕ → List ℕ × List ℕ
cut_word text = (take (word_end text) text, drop (word_end text) text)

-- the first word, and what stands behind it
abbrev pub next_word : List ℕ → List ℕ × List ℕ
next_word text = cut_word (unblanked text)

-- ---- commands

abbrev pub verb_of : List ℕ → Option Verb
verb_of word =
    if bytes_eq word (codes "show") then Some verbs.Show
    else if bytes_eq word (codes "hang-up") then Some verbs.HangUp
    else if bytes_eq word (codes "stop") then Some verbs.Stop
    else if bytes_eq word (codes "help") then Some verbs.Help
    else None

-- no word stands behind a command
abbrev pub alone : Command → List ℕ → Result Command CommandFault
alone command behind = if length (unblanked behind) == 0 then Ok command else Err faults.Further

abbrev pub numbered : (ℕ → Command) → CommandFault → Option ℕ → List ℕ → Result Command CommandFault
numbered make fault None behind = Err fault
numbered make fault (Some n) behind = alone (make n) behind

abbrev pub history_of : List ℕ → Result Command CommandFault
history_of text = numbered ShowHistory faults.Count (number_within 1 1_000_000 (next_word text).0) (next_word text).1

abbrev pub hang_up_of : List ℕ → Result Command CommandFault
hang_up_of text = numbered HangUp faults.Line (number_within 1 255 (next_word text).0) (next_word text).1

abbrev pub shown_by : (word behind : List ℕ) → Result Command CommandFault
shown_by word behind =
    if bytes_eq word (codes "lines") then alone (Show Lines) behind
    else if bytes_eq word (codes "services") then alone (Show Services) behind
    else if bytes_eq word (codes "circuits") then alone (Show Circuits) behind
    else if bytes_eq word (codes "requests") then alone (Show Requests) behind
    else if bytes_eq word (codes "counters") then alone ShowCounters behind
    else if bytes_eq word (codes "history") then history_of behind
    else Err faults.Shown

abbrev pub by_verb : Verb → List ℕ → Result Command CommandFault
by_verb verbs.Show behind = shown_by (next_word behind).0 (next_word behind).1
by_verb verbs.HangUp behind = hang_up_of behind
by_verb verbs.Stop behind = alone Stop behind
by_verb verbs.Help behind = alone Help behind

abbrev pub if_verb : Option Verb → List ℕ → Result Command CommandFault
if_verb None behind = Err faults.Command
if_verb (Some verb) behind = by_verb verb behind

-- the command that a line is, or its first word that isn't as expected
abbrev pub command_of : List ℕ → Result Command CommandFault
command_of line = if_verb (verb_of (next_word line).0) (next_word line).1
