-- How far a put was read, as it is kept.
use Rattle.std.specs.Prelude.{◌≡◌, ℕ, List, fold}
use Rattle.lat_base.specs.declared.answer.Answer.{Answer}
use Rattle.lat_base.specs.declared.outbox.OutFrame.{OutFrame}
use Rattle.lat_switch.specs.declared.reading.Progress.{Progress}
use Rattle.lat_switch.specs.declared.piece.Piece.{Piece}
use Rattle.lat_switch.specs.Switch.{Step}
use Rattle.lat_switch.specs.Calls.{closes_one}
use Rattle.lat_switch.specs.Reading.{Reading, reads}
use Rattle.lat_switch.specs.Stands.{HasCome, HasDone}
use Rattle.lat_switch.specs.Kept.{Kept}

pub record HasRead (r : Reading) (k : Kept) (p : Progress) (out : List OutFrame) : Type 0 where
  pub course : HasCome r.course k out
  pub count : p.count ≡ r.count
  pub goes_on : p.goes_on ≡ r.goes_on
  pub refused : p.refused ≡ r.refused

-- what was read leads to the whole reading, by the pieces left
pub record ReadsOn (line : ℕ) (whole : Reading) (left : List Piece) (k : Kept) (p : Progress) (out : List OutFrame) : Type 0 where
  pub reading : Reading
  pub has : HasRead reading k p out
  pub leads : fold (reads line) reading left ≡ whole

-- what was closed leads to the whole step, by the inner lines left
pub record ClosesOn (whole : Step) (left : List ℕ) (k : Kept) (answer : Answer) (out : List OutFrame) : Type 0 where
  pub step : Step
  pub has : HasDone step k answer out
  pub leads : fold closes_one step left ≡ whole
