-- What is counted of circuits, by their ids.
use Rattle.std.specs.Prelude.{ℕ, List, slice_index_or}
use Rattle.lat_wire.specs.declared.ledger.tallies.Tally.{Tally}

abbrev pub nothing : Tally
nothing = record { formed = 0; taken = 0; shown = 0 }

-- nothing is counted of an id that there isn't
abbrev pub tally_at : List Tally → ℕ → Tally
tally_at ts x = slice_index_or ts x nothing
