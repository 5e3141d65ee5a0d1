-- The one line that is printed where an event is refused.
use Rattle.std.specs.Prelude.{ℕ, Bool, List, [], ◌∷◌, ◌++◌, codes, decimal, if◌then◌else◌}
use Rattle.lat_text.specs.Line.{line}
use Rattle.lat_wire.specs.declared.report.refused.Refused.{Refused}
use Rattle.lat_wire.specs.declared.report.refused.Refused.TheVariants.{Backward, OwnAddress, NoFrame, Old, FramesLimit, EventsLimit}

abbrev pub old_word : (acknowledgement : Bool) → List ℕ
old_word acknowledgement = if acknowledgement then codes "acknowledgement" else codes "number"

-- what stands behind the number of the line
abbrev pub why_text : Refused → List ℕ
why_text (Backward at last) = codes "backward " ++ decimal at ++ codes " " ++ decimal last
why_text OwnAddress = codes "own-address"
why_text (NoFrame index sent) = codes "noframe " ++ decimal index ++ codes " " ++ decimal sent
why_text (Old acknowledgement number newest) = codes "old " ++ old_word acknowledgement ++ codes " " ++ decimal number ++ codes " " ++ decimal newest
why_text FramesLimit = codes "limit frames"
why_text EventsLimit = codes "limit events"

abbrev pub refused_text : (number : ℕ) → Refused → List ℕ
refused_text number refused = line (codes "line " ∷ decimal number ∷ codes " " ∷ why_text refused ∷ [])

-- 6 for a limit, else 3
abbrev pub status : Refused → ℕ
status FramesLimit = 6
status EventsLimit = 6
status refused = 3
