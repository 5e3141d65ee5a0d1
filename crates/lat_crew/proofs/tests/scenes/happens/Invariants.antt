use Rattle.lat_crew.proofs.tests.scenes.happens.Given as goal

abbrev pub ghosts-shown-E-Ledger : goal.ghosts-shown-E-Ledger
ghosts-shown-E-Ledger g a = record { name = a.blanks.events.name; parts = a.blanks.events.parts }

abbrev pub ghosts-shown-B-Ledger : goal.ghosts-shown-B-Ledger
ghosts-shown-B-Ledger g a = record { name = a.blanks.bytes.name; parts = a.blanks.bytes.parts }

abbrev pub ghosts-shown-P-Ledger : goal.ghosts-shown-P-Ledger
ghosts-shown-P-Ledger g a = record { name = a.seconds.events.name; parts = a.seconds.events.parts }

abbrev pub ghosts-shown-Q-Ledger : goal.ghosts-shown-Q-Ledger
ghosts-shown-Q-Ledger g a = record { name = a.seconds.bytes.name; parts = a.seconds.bytes.parts }

abbrev pub ghosts-shown-V-Ledger : goal.ghosts-shown-V-Ledger
ghosts-shown-V-Ledger g a = record { name = a.thirds.events.name; parts = a.thirds.events.parts }

abbrev pub ghosts-shown-W-Ledger : goal.ghosts-shown-W-Ledger
ghosts-shown-W-Ledger g a = record { name = a.thirds.bytes.name; parts = a.thirds.bytes.parts }
