-- The text of a record.
use Rattle.std.specs.Prelude.{ℕ, List, [], ◌∷◌, ◌++◌, codes}
use Rattle.std.specs.List.{flat_map}
use Rattle.lat_past.specs.declared.past.Past.{Past}
use Rattle.lat_print.specs.AnswerWords.{answer_words}
use Rattle.lat_text.specs.Line.{line}
use Rattle.lat_record.specs.declared.opening.Opening.{Opening}
use Rattle.lat_record.specs.EventWords.{event_words}
use Rattle.lat_record.specs.OpeningText.{opening_text}

-- the line of an event: its words, ` -> `, and those of its answer
abbrev pub entry_text : Past → List ℕ
entry_text p = line (event_words p.event ∷ codes " -> " ∷ answer_words p.answer ∷ [])

-- what a core was made of, and then each event with its answer, in order
abbrev pub record_text : Opening → List Past → List ℕ
record_text o history = opening_text o ++ flat_map entry_text history
