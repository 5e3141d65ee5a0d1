use Rattle.lat_crew.proofs.tests.refused.wrong_words_are_refused.Given as goal

abbrev pub ghosts-told-E-Ledger : goal.ghosts-told-E-Ledger
ghosts-told-E-Ledger g a = record { name = a.blanks.events.name; parts = a.blanks.events.parts }

abbrev pub ghosts-told-B-Ledger : goal.ghosts-told-B-Ledger
ghosts-told-B-Ledger g a = record { name = a.blanks.bytes.name; parts = a.blanks.bytes.parts }
