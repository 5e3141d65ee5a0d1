use Rattle.lat_tests.proofs.tests.cell.ticks.ticks.Given as goal

abbrev pub ghosts-announced-E-Ledger : goal.ghosts-announced-E-Ledger
ghosts-announced-E-Ledger g a = record { name = a.blanks.events.name; parts = a.blanks.events.parts }

abbrev pub ghosts-announced-B-Ledger : goal.ghosts-announced-B-Ledger
ghosts-announced-B-Ledger g a = record { name = a.blanks.bytes.name; parts = a.blanks.bytes.parts }

abbrev pub ghosts-wound-E-Ledger : goal.ghosts-wound-E-Ledger
ghosts-wound-E-Ledger g a = record { name = a.blanks.events.name; parts = a.blanks.events.parts }

abbrev pub ghosts-wound-B-Ledger : goal.ghosts-wound-B-Ledger
ghosts-wound-B-Ledger g a = record { name = a.blanks.bytes.name; parts = a.blanks.bytes.parts }
