-- Why words are no command: what was expected, and the first word that is another.
use Rattle.std.specs.Prelude.{ℕ, ◌-◌, ◌^◌, List, [], ◌∷◌, is_some, bytes_eq, codes, if◌then◌else◌}
use Rattle.lat_text.specs.Line.{line}
use Rattle.lat_text.specs.Numbers.{number_within}
use Rattle.lat_explain.specs.declared.words.First.{First}
use Rattle.lat_explain.specs.declared.words.First.TheVariants.{Plain, Numbered, Help, Other}
use Rattle.lat_explain.specs.Found.{quoted}
use Rattle.lat_explain.specs.Wanted.{number_wanted}

-- what stands behind a first word
abbrev pub first_of : List ℕ → First
first_of w =
    if bytes_eq w (codes "show") then Plain
    else if bytes_eq w (codes "choose") then Plain
    else if bytes_eq w (codes "replay") then Plain
    else if bytes_eq w (codes "audit") then Plain
    else if bytes_eq w (codes "pcap") then Plain
    else if bytes_eq w (codes "trace") then Plain
    else if bytes_eq w (codes "draw") then Plain
    else if bytes_eq w (codes "--help") then Plain
    else if bytes_eq w (codes "--version") then Plain
    else if bytes_eq w (codes "help") then Help
    else if bytes_eq w (codes "gen") then Numbered 0 (2 ^ 64 - 1)
    else if bytes_eq w (codes "bench") then Numbered 0 (2 ^ 64 - 1)
    else if bytes_eq w (codes "capture") then Numbered 1 65535
    else if bytes_eq w (codes "settle") then Numbered 0 100000
    else Other

-- the words that may stand first
unfoldable pub commands : List ℕ
commands = codes "audit, bench, capture, choose, draw, gen, help, pcap, replay, settle, show, trace, --help or --version"

-- of the words behind, the first; or none
abbrev pub word_found : List (List ℕ) → List ℕ
word_found [] = codes "no word"
word_found (w ∷ words) = quoted w

-- behind the command: what was expected, and what was found
unfoldable pub wants : (word wanted : List ℕ) → List (List ℕ) → List ℕ
wants word wanted found = line (codes "lat: " ∷ word ∷ codes ": " ∷ wanted ∷ codes " expected, found " ∷ word_found found ∷ [])

unfoldable pub wants_command : List (List ℕ) → List ℕ
wants_command found = line (codes "lat: " ∷ commands ∷ codes " expected, found " ∷ word_found found ∷ [])

-- behind a number: no further word, or the number itself
abbrev pub number_explained : (word : List ℕ) → (least most : ℕ) → List (List ℕ) → List ℕ
number_explained word least most [] = wants word (number_wanted (least, most)) []
number_explained word least most (number ∷ words) =
    if is_some (number_within least most number) then wants word (codes "no further word") words
    else wants word (number_wanted (least, most)) (number ∷ words)

abbrev pub behind_first : (word : List ℕ) → First → List (List ℕ) → List ℕ
behind_first word Plain words = wants word (codes "no further word") words
behind_first word (Numbered least most) words = number_explained word least most words
behind_first word Help words = wants word (codes "a command") words
behind_first word Other words = wants_command (word ∷ words)

-- of words that are no command
unfoldable pub words_explained : List (List ℕ) → List ℕ
words_explained [] = wants_command []
words_explained (word ∷ words) = behind_first word (first_of word) words
