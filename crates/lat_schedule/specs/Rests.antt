-- What is left of a text in front of a line that isn't passed over.
use Rattle.std.specs.Prelude.{◌≡◌, Bool, false, ◌&&◌}
use Rattle.lat_text.specs.Lines.{Lines, End, Cut, Line}
use Rattle.lat_schedule.specs.Places.{is_silent}

-- the first of these lines isn't silent, if there is any, or none is passed over
abbrev pub Says : (silent : Bool) → Lines → Type 0
Says silent End = Unit {0}
Says silent Cut = Unit {0}
Says silent (Line line more) = (silent && is_silent line) ≡ false
