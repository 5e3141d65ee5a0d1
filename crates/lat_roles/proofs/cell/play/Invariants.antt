use Rattle.lat_roles.proofs.cell.play.Given as goal

abbrev pub ghosts-played-E-Ledger : goal.ghosts-played-E-Ledger
ghosts-played-E-Ledger a = record { name = a.blanks.events.name; parts = a.blanks.events.parts }

abbrev pub ghosts-played-B-Ledger : goal.ghosts-played-B-Ledger
ghosts-played-B-Ledger a = record { name = a.blanks.bytes.name; parts = a.blanks.bytes.parts }
