use Rattle.lat_tests.proofs.tests.cell.lent.long_ones.Given as goal

abbrev pub ghosts-heard-E-Ledger : goal.ghosts-heard-E-Ledger
ghosts-heard-E-Ledger g a = record { name = a.blanks.events.name; parts = a.blanks.events.parts }

abbrev pub ghosts-heard-B-Ledger : goal.ghosts-heard-B-Ledger
ghosts-heard-B-Ledger g a = record { name = a.blanks.bytes.name; parts = a.blanks.bytes.parts }
