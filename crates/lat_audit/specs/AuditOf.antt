-- What is printed of a whole input.
use Rattle.std.specs.Prelude.{ℕ, List, [], ◌∷◌, Result, Ok, Err, codes, decimal}
use Rattle.lat_text.specs.Line.{line}
use Rattle.lat_text.specs.WrongLine.{wrong_line}
use Rattle.lat_captures.specs.Audit.{Verdict, IsLegal, IsBroken, audit}
use Rattle.lat_captures.specs.Rules.{rule_text}
use Rattle.lat_audit.specs.CaptureText.{Capture, capture_of}
use Rattle.lat_audit.specs.Shown.{capture_shown}

-- legal, with the number of RUNs; or the first broken entry, counted from 1 over all entries, with the first rule that it breaks
abbrev pub verdict_text : Verdict → List ℕ
verdict_text (IsLegal runs) = line (codes "legal " ∷ decimal runs ∷ [])
verdict_text (IsBroken index rule) = line (codes "frame " ∷ decimal index ∷ codes " " ∷ rule_text rule ∷ [])

-- status 0 and the verdict, or status 2 and the first wrong line
abbrev pub answer_of : Result Capture ℕ → ℕ × List ℕ
answer_of (Ok c) = (0, verdict_text (audit (capture_shown c)))
answer_of (Err number) = (2, wrong_line number)

-- the status and the text for an input
abbrev pub audit_of : List ℕ → ℕ × List ℕ
audit_of input = answer_of (capture_of input)
