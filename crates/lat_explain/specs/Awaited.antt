-- The forms of the lines that may stand at a place of an input, as tables (see Walks).
use Rattle.std.specs.Prelude.{ℕ, zero, suc, ◌+◌, min, Bool, true, false, List, [], ◌∷◌, ◌++◌, drop, map, Option, Some, None, position, nat_lt, bytes_eq, codes, decimal, ◌==◌, if◌then◌else◌}
use Rattle.lat_text.specs.Lines.{Lines, End, Cut, Line, lines_of}
use Rattle.lat_explain.specs.declared.awaited.Said as declared
use Rattle.lat_explain.specs.Before.{last_behind, seconds}
use Rattle.lat_explain.specs.Forms.{bound}
use Rattle.lat_explain.specs.Walks.{front_word, has_line}

-- a form that is written as a line, in a table: each word ends with a line feed, and behind the last one stands another
abbrev pub form_row : List ℕ → List ℕ
form_row line = map (λ b. if b == 32 then 10 else b) line ++ 10 ∷ 10 ∷ []

abbrev pub table_of : (forms : List (List ℕ)) → List ℕ
table_of [] = []
table_of (form ∷ forms) = form_row form ++ table_of forms

-- the lines of payloads
abbrev pub payload_forms : List ℕ
payload_forms = table_of (codes "H0-8192" ∷ [])

-- the first line of a capture, and those behind it
unfoldable pub title_forms : List ℕ
title_forms = table_of (codes "circuit #1-65535 #1-65535 byte" ∷ codes "circuit #1-65535 #1-65535 word" ∷ [])

unfoldable pub entry_forms : List ℕ
entry_forms = table_of (
    codes "m H2-8192"
    ∷ codes "m -"
    ∷ codes "s H2-8192"
    ∷ codes "s -"
    ∷ []
    )

abbrev pub capture_forms : (before : ℕ) → List ℕ
capture_forms before = if before == 0 then title_forms else entry_forms

-- the text behind a text's first space
abbrev pub behind_end : List ℕ → Option ℕ → List ℕ
behind_end text None = []
behind_end text (Some end) = drop (end + 1) text

abbrev pub behind_space : List ℕ → List ℕ
behind_space text = behind_end text (position (λ b. b == 32) text)

-- the moment of a line of choices; that in front of the first is 0
abbrev pub last_moment : List ℕ → List ℕ
last_moment line =
    if bytes_eq (front_word line) (codes "hear") then front_word (behind_space line)
    else if bytes_eq (front_word line) (codes "best") then front_word (behind_space line)
    else codes "0"

-- a form with a moment from this one on
abbrev pub moment_form : (before last behind : List ℕ) → List ℕ
moment_form before last behind = before ++ (last ++ behind)

-- the lines of choices behind one of this moment
unfoldable pub choice_entry_forms : (last : List ℕ) → List ℕ
choice_entry_forms last =
    moment_form (codes "hear\n#") last (codes "-999999999999999\nH12-12\nH2-8192\n\n")
    ++ (moment_form (codes "hear\n#") last (codes "-999999999999999\nH12-12\n-\n\n")
    ++ moment_form (codes "best\n#") last (codes "-999999999999999\nN\n\n"))

abbrev pub choice_forms : (before : ℕ) → (line : List ℕ) → List ℕ
choice_forms before line = (if before == 0 then table_of (codes "groups H2-64" ∷ []) else []) ++ choice_entry_forms (last_moment line)

-- what the lines in front say of a schedule
pub record Said : Type 0 where
  pub version : List ℕ
  pub server : List ℕ
  pub services : List ℕ  -- each ended by a line feed
  pub offers : List ℕ  -- the lines that have one, each ended by a line feed

abbrev pub said_shown : declared.Said → Said
said_shown s = record { version = s.version.now; server = s.server.now; services = s.services.now; offers = s.offers.now }

-- what the first lines say, so many
abbrev pub said_before : (before : ℕ) → Lines → Said
said_before before lines = record {
  version = last_behind (codes "lat") before lines [];
  server = last_behind (codes "server") before lines [];
  services = seconds (codes "service") before lines;
  offers = seconds (codes "offer") before lines;
}

unfoldable pub count_lines : Lines → ℕ
count_lines End = 0
count_lines Cut = 0
count_lines (Line line more) = count_lines more + 1

-- one more service, if there aren't 32
abbrev pub service_forms : (services : List ℕ) → List ℕ
service_forms services = if nat_lt (count_lines (lines_of services)) 32 then table_of (codes "service S" ∷ []) else []

abbrev pub offer_form : (offers : List ℕ) → (line : ℕ) → List ℕ
offer_form offers line = if has_line (decimal line) (lines_of offers) then [] else codes "offer\n" ++ (decimal line ++ codes "\nN\n\n")

-- an offer of each line that has none, so many lines from this one on
unfoldable pub offer_forms : (offers : List ℕ) → ℕ → (line : ℕ) → List ℕ
offer_forms offers zero line = []
offer_forms offers (suc left) line = offer_form offers line ++ offer_forms offers left (line + 1)

-- how many lines the server has, by its line
abbrev pub server_lines : (server : List ℕ) → ℕ
server_lines server = min 32 (bound (front_word (behind_space (behind_space server))))

-- the offers, and `go`
abbrev pub offers_on : Said → List ℕ
offers_on s = offer_forms s.offers (server_lines s.server) 1 ++ table_of (codes "go" ∷ [])

-- the services, the offers, and `go`
abbrev pub services_on : Said → List ℕ
services_on s = service_forms s.services ++ offers_on s

unfoldable pub server_forms : (third : Bool) → List ℕ
server_forms true = table_of (
    codes "server A N #1-32"
    ∷ codes "server A N #1-32 prompt"
    ∷ codes "server A N #1-32 first #1-65535"
    ∷ codes "server A N #1-32 first #1-65535 prompt"
    ∷ []
    )
server_forms false = table_of (codes "server A N #1-32" ∷ [])

unfoldable pub node_forms : (third : Bool) → List ℕ
node_forms true = table_of (
    codes "node A N #1-64 #0-65535 #1-255"
    ∷ codes "node A N #1-64 #0-65535 #1-255 prompt"
    ∷ codes "node A N #1-64 #0-65535 #1-255 first #1-65535"
    ∷ codes "node A N #1-64 #0-65535 #1-255 first #1-65535 prompt"
    ∷ []
    )
node_forms false = table_of (codes "node A N #1-64 #0-65535 #1-255" ∷ [])

unfoldable pub circuit_forms : (first : Bool) → List ℕ
circuit_forms true = table_of (codes "circuit #1-100 #1-255 #1-64 #0-255 #1-15" ∷ [])
circuit_forms false = table_of (
    codes "circuit #1-100 #1-255 #1-64 #0-255 #1-15 byte byte"
    ∷ codes "circuit #1-100 #1-255 #1-64 #0-255 #1-15 byte word"
    ∷ codes "circuit #1-100 #1-255 #1-64 #0-255 #1-15 word byte"
    ∷ codes "circuit #1-100 #1-255 #1-64 #0-255 #1-15 word word"
    ∷ []
    )

unfoldable pub node_groups : List ℕ
node_groups = table_of (codes "node-groups H2-64" ∷ [])

-- the two lines of groups, which the first version doesn't have
unfoldable pub both_groups : (first : Bool) → List ℕ
both_groups true = []
both_groups false = table_of (codes "server-groups H2-64" ∷ codes "node-groups H2-64" ∷ [])

-- the events of every version, those of the third, and the last line
unfoldable pub common_events : List ℕ
common_events = table_of (
    codes "s connect #0-255 N"
    ∷ codes "s put #0-255 H2-8192"
    ∷ codes "n put #0-255 H2-8192"
    ∷ codes "s set #0-255 H10-10"
    ∷ codes "n set #0-255 H10-10"
    ∷ codes "s take #0-255 #0-4096"
    ∷ codes "n take #0-255 #0-4096"
    ∷ codes "s attend #0-255 H2-2"
    ∷ codes "n attend #0-255 H2-2"
    ∷ codes "s close #0-255"
    ∷ codes "n close #0-255"
    ∷ codes "s time #0-999999999999999"
    ∷ codes "n time #0-999999999999999"
    ∷ codes "n request #0-65535 N"
    ∷ codes "n cancel #0-65535"
    ∷ codes "n announce"
    ∷ codes "deliver #0-999999999"
    ∷ codes "inject s H12-12 H2-8192"
    ∷ codes "inject s H12-12 -"
    ∷ codes "inject n H12-12 H2-8192"
    ∷ codes "inject n H12-12 -"
    ∷ []
    )

unfoldable pub third_events : List ℕ
third_events = table_of (
    codes "s halt"
    ∷ codes "n halt"
    ∷ codes "s avoid #0-255"
    ∷ codes "s ready #0-255 #0-1"
    ∷ []
    )

abbrev pub event_forms : (third : Bool) → List ℕ
event_forms third = common_events ++ ((if third then third_events else []) ++ table_of (codes "end" ∷ []))

-- the first line; behind silent ones it is that of the third version
unfoldable pub version_forms : (silent : Bool) → List ℕ
version_forms true = table_of (codes "lat 3" ∷ [])
version_forms false = table_of (
    codes "lat 1"
    ∷ codes "lat 2"
    ∷ codes "lat 3"
    ∷ []
    )

-- behind the line of the circuits
abbrev pub behind_circuit : Said → List ℕ
behind_circuit s = both_groups (bytes_eq s.version (codes "1")) ++ services_on s

-- behind a line that begins with this word, and isn't one of the first three
abbrev pub behind_listed : (word : List ℕ) → Said → List ℕ
behind_listed word s =
    if bytes_eq word (codes "circuit") then behind_circuit s
    else if bytes_eq word (codes "server-groups") then node_groups ++ services_on s
    else if bytes_eq word (codes "node-groups") then services_on s
    else if bytes_eq word (codes "service") then services_on s
    else if bytes_eq word (codes "offer") then offers_on s
    else if bytes_eq word (codes "end") then []
    else event_forms (bytes_eq s.version (codes "3"))

-- behind a line that begins with this word
abbrev pub behind_line : (word : List ℕ) → Said → List ℕ
behind_line word s =
    if bytes_eq word (codes "lat") then server_forms (bytes_eq s.version (codes "3"))
    else if bytes_eq word (codes "server") then node_forms (bytes_eq s.version (codes "3"))
    else if bytes_eq word (codes "node") then circuit_forms (bytes_eq s.version (codes "1"))
    else behind_listed word s

-- behind this line, the last that says something; or the first one, behind silent ones or not
abbrev pub schedule_forms : (silent : Bool) → (line : List ℕ) → Said → List ℕ
schedule_forms silent [] s = version_forms silent
schedule_forms silent (b ∷ line) s = behind_line (front_word (b ∷ line)) s
