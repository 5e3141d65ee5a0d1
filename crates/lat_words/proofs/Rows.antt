-- What `clap` says of a value and of the values of an option, said of the rows.
use Rattle.clap.proofs.WalkLemmas.{first_value-rows, raw_values-rows}

pub ruleset in_rows = (first_value-rows, raw_values-rows)
