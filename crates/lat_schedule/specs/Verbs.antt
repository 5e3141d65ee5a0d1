-- The words for what an end is told.
use Rattle.std.specs.Prelude.{ℕ, Bool, true, false, not, ◌&&◌, List, Option, Some, None, codes, bytes_eq, if◌then◌else◌}
use Rattle.lat_schedule.specs.declared.setup_line.Version.{Version}
use Rattle.lat_schedule.specs.declared.setup_line.Version.TheVariants.{One, Two, Three}
use Rattle.lat_schedule.specs.declared.verb.Verb.{Verb}
use Rattle.lat_schedule.specs.declared.verb.Verb.TheVariants.{Connect, Put, Set, Take, Attend, Close, Time, Request, Cancel, Avoid, Ready}

abbrev pub verb_word : Verb → List ℕ
verb_word Connect = codes "connect"
verb_word Put = codes "put"
verb_word Set = codes "set"
verb_word Take = codes "take"
verb_word Attend = codes "attend"
verb_word Close = codes "close"
verb_word Time = codes "time"
verb_word Request = codes "request"
verb_word Cancel = codes "cancel"
verb_word Avoid = codes "avoid"
verb_word Ready = codes "ready"

-- the verb of a word
abbrev pub verb_of : List ℕ → Option Verb
verb_of word =
    if bytes_eq word (codes "put") then Some Put
    else if bytes_eq word (codes "take") then Some Take
    else if bytes_eq word (codes "time") then Some Time
    else if bytes_eq word (codes "connect") then Some Connect
    else if bytes_eq word (codes "set") then Some Set
    else if bytes_eq word (codes "attend") then Some Attend
    else if bytes_eq word (codes "close") then Some Close
    else if bytes_eq word (codes "request") then Some Request
    else if bytes_eq word (codes "cancel") then Some Cancel
    else if bytes_eq word (codes "avoid") then Some Avoid
    else if bytes_eq word (codes "ready") then Some Ready
    else None

-- the version of the halt, of the avoid and of the lines that get or aren't ready
abbrev pub is_third : Version → Bool
is_third One = false
is_third Two = false
is_third Three = true

-- A server alone connects, and avoids and readies in the third version; a node alone requests and cancels
abbrev pub may_say : Version → (server : Bool) → Verb → Bool
may_say version server Connect = server
may_say version server Avoid = is_third version && server
may_say version server Ready = is_third version && server
may_say version server Request = not server
may_say version server Cancel = not server
may_say version server verb = true
