use Rattle.latd.proofs.main.Given as goal

abbrev pub ghosts-status-E-Ledger : goal.ghosts-status-E-Ledger
ghosts-status-E-Ledger g a = record { name = a.blanks.events.name; parts = a.blanks.events.parts }

abbrev pub ghosts-status-B-Ledger : goal.ghosts-status-B-Ledger
ghosts-status-B-Ledger g a = record { name = a.blanks.bytes.name; parts = a.blanks.bytes.parts }
