-- The words of the program's commands, and the statuses that each has.
use Rattle.std.specs.Prelude.{◌≡◌, ◌≤◌, ◌⊎◌, ℕ, ◌-◌, ◌^◌, Bool, true, false, List, [], ◌∷◌, Option, Some, None, option_map, codes, if◌then◌else◌}
use Rattle.std.specs.Str.{bytes_eq}
use Rattle.lat_text.specs.Numbers.{number_within}
use Rattle.lat_cmd.specs.declared.command.Command.{Command}
use Rattle.lat_cmd.specs.declared.command.Command.TheVariants.{Show, Choose, Replay, Capture, Settle, Audit, Pcap, Trace, Draw, Gen, Bench}

-- a word alone
abbrev pub plain_of : List ℕ → Option Command
plain_of w =
    if bytes_eq w (codes "show") then Some Show
    else if bytes_eq w (codes "choose") then Some Choose
    else if bytes_eq w (codes "replay") then Some Replay
    else if bytes_eq w (codes "audit") then Some Audit
    else if bytes_eq w (codes "pcap") then Some Pcap
    else if bytes_eq w (codes "trace") then Some Trace
    else if bytes_eq w (codes "draw") then Some Draw
    else None

-- a word with a number behind it: one below 2^64, a circuit, or so many rounds
abbrev pub numbered_of : List ℕ → List ℕ → Option Command
numbered_of w number =
    if bytes_eq w (codes "gen") then option_map Gen (number_within 0 (2 ^ 64 - 1) number)
    else if bytes_eq w (codes "bench") then option_map Bench (number_within 0 (2 ^ 64 - 1) number)
    else if bytes_eq w (codes "capture") then option_map Capture (number_within 1 65535 number)
    else if bytes_eq w (codes "settle") then option_map Settle (number_within 0 100000 number)
    else None

-- the command that the words are
abbrev pub command_of : List (List ℕ) → Option Command
command_of (w ∷ []) = plain_of w
command_of (w ∷ number ∷ []) = numbered_of w number
command_of words = None

-- no more rounds are run
abbrev pub IsBounded : Command → Type 0
IsBounded (Settle rounds) = rounds ≤ 100000
IsBounded command = Unit {0}

-- two commands read nothing
abbrev pub reads : Command → Bool
reads (Gen seed) = false
reads (Bench seed) = false
reads command = true

-- and some make a world
abbrev pub makes_world : Command → Bool
makes_world Show = false
makes_world Choose = false
makes_world Audit = false
makes_world Pcap = false
makes_world Trace = false
makes_world Draw = false
makes_world command = true

-- the statuses of what a command comes to; what reads nothing finds nothing wrong
abbrev pub ComesTo : Command → ℕ → Type 0
ComesTo (Gen seed) status = status ≡ 0
ComesTo (Bench seed) status = status ≡ 0
ComesTo Replay status = (status ≡ 0) ⊎ (status ≡ 2) ⊎ (status ≡ 3) ⊎ (status ≡ 6)
ComesTo Trace status = (status ≡ 0) ⊎ (status ≡ 2) ⊎ (status ≡ 3) ⊎ (status ≡ 6)
ComesTo Draw status = (status ≡ 0) ⊎ (status ≡ 2) ⊎ (status ≡ 3) ⊎ (status ≡ 6)
ComesTo (Capture circuit) status = (status ≡ 0) ⊎ (status ≡ 2) ⊎ (status ≡ 3) ⊎ (status ≡ 6)
ComesTo (Settle rounds) status = (status ≡ 0) ⊎ (status ≡ 2) ⊎ (status ≡ 3) ⊎ (status ≡ 6)
ComesTo command status = (status ≡ 0) ⊎ (status ≡ 2)

-- The statuses of its run: one of those; or a write failed, or no memory was found; and where it reads, a read failed or the
-- input had too many bytes
abbrev pub IsStatusOf : Command → ℕ → Type 0
IsStatusOf command status =
    ComesTo command status ⊎ (status ≡ 5) ⊎ (status ≡ 9) ⊎ ((reads command ≡ true) × ((status ≡ 4) ⊎ (status ≡ 6)))
