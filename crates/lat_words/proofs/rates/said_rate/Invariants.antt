use Rattle.std.proofs.Common.{◌≡◌, drop}
use Rattle.lat_words.specs.Rates.{said_rate}
use Rattle.lat_words.proofs.rates.said_rate.Given as goal

abbrev pub invariant-loop-rated : goal.invariant-loop-rated
invariant-loop-rated l = said_rate l.rates l.place ≡ said_rate (drop l.rated-index l.rates) l.place
