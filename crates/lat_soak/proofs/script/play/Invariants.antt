use Rattle.lat_soak.proofs.script.play.Given as goal

abbrev pub ghosts-played_kept-E-Ledger : goal.ghosts-played_kept-E-Ledger
ghosts-played_kept-E-Ledger a = record { name = a.blanks.events.name; parts = a.blanks.events.parts }

abbrev pub ghosts-played_kept-B-Ledger : goal.ghosts-played_kept-B-Ledger
ghosts-played_kept-B-Ledger a = record { name = a.blanks.bytes.name; parts = a.blanks.bytes.parts }
