-- How an end begins, as the words behind the last number of its line say: `first N` and `prompt`, in this order, each or not.
use Rattle.std.specs.Prelude.{ℕ, Bool, true, false, List, Option, Some, None, option_and_then, bytes_eq, codes, if◌then◌else◌}
use Rattle.lat_text.specs.Words.{first_word, behind_word}
use Rattle.lat_text.specs.Numbers.{number_within}
use Rattle.lat_schedule.specs.declared.opening.Opening.{Opening}
use Rattle.lat_schedule.specs.declared.setup_line.Version.{Version}
use Rattle.lat_schedule.specs.declared.setup_line.Version.TheVariants.{One, Two, Three}
use Rattle.lat_schedule.specs.EventLines.{◌>>=◌}

-- where no word says otherwise: its first circuit has the id 1, and it isn't prompt
abbrev pub plain : Opening
plain = record { first = 1; prompt = false }

abbrev pub if_prompt : List ℕ → Option (List ℕ × List ℕ) → List ℕ × Bool
if_prompt text None = (text, false)
if_prompt text (Some first) = if bytes_eq first.1 (codes "prompt") then (first.0, true) else (text, false)

-- what stands in front of a last word `prompt`, and whether it stands there
abbrev pub before_prompt : List ℕ → List ℕ × Bool
before_prompt text = if_prompt text (first_word text)

-- behind `first `: the id of the first circuit, and `prompt` or not
abbrev pub first_of : List ℕ → Option Opening
first_of text = do
  first ← number_within 1 65535 (before_prompt text).0
  Some (record { first = first; prompt = (before_prompt text).1 })

-- `prompt`, `first N` or `first N prompt`
abbrev pub words_of : List ℕ → Option Opening
words_of text =
    if bytes_eq text (codes "prompt") then Some (record { first = 1; prompt = true })
    else option_and_then first_of (behind_word (codes "first") text)

abbrev pub said_by : List ℕ → Option (List ℕ × List ℕ) → Option (List ℕ × Opening)
said_by text None = Some (text, plain)
said_by text (Some first) = do
  opening ← words_of first.1
  Some (first.0, opening)

-- the last number of an end's line, and what the words behind it say; the third version alone has them
abbrev pub opening_of : Version → List ℕ → Option (List ℕ × Opening)
opening_of One text = Some (text, plain)
opening_of Two text = Some (text, plain)
opening_of Three text = said_by text (first_word text)
