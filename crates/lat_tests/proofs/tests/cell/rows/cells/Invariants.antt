use Rattle.lat_tests.proofs.tests.cell.rows.cells.Given as goal

abbrev pub ghosts-pass_year-E-Ledger : goal.ghosts-pass_year-E-Ledger
ghosts-pass_year-E-Ledger g a = record { name = a.blanks.events.name; parts = a.blanks.events.parts }

abbrev pub ghosts-pass_year-B-Ledger : goal.ghosts-pass_year-B-Ledger
ghosts-pass_year-B-Ledger g a = record { name = a.blanks.bytes.name; parts = a.blanks.bytes.parts }

abbrev pub ghosts-audited-E-Ledger : goal.ghosts-audited-E-Ledger
ghosts-audited-E-Ledger g a = record { name = a.blanks.events.name; parts = a.blanks.events.parts }

abbrev pub ghosts-audited-B-Ledger : goal.ghosts-audited-B-Ledger
ghosts-audited-B-Ledger g a = record { name = a.blanks.bytes.name; parts = a.blanks.bytes.parts }

abbrev pub ghosts-tried-E-Ledger : goal.ghosts-tried-E-Ledger
ghosts-tried-E-Ledger g a = record { name = a.blanks.events.name; parts = a.blanks.events.parts }

abbrev pub ghosts-tried-B-Ledger : goal.ghosts-tried-B-Ledger
ghosts-tried-B-Ledger g a = record { name = a.blanks.bytes.name; parts = a.blanks.bytes.parts }
