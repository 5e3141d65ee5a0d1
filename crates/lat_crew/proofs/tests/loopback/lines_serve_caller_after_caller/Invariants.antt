use Rattle.lat_crew.proofs.tests.loopback.lines_serve_caller_after_caller.Given as goal

abbrev pub ghosts-session-E-Ledger : goal.ghosts-session-E-Ledger
ghosts-session-E-Ledger g a = record { name = a.blanks.events.name; parts = a.blanks.events.parts }

abbrev pub ghosts-session-B-Ledger : goal.ghosts-session-B-Ledger
ghosts-session-B-Ledger g a = record { name = a.blanks.bytes.name; parts = a.blanks.bytes.parts }

abbrev pub ghosts-session-P-Ledger : goal.ghosts-session-P-Ledger
ghosts-session-P-Ledger g a = record { name = a.others.events.name; parts = a.others.events.parts }

abbrev pub ghosts-session-Q-Ledger : goal.ghosts-session-Q-Ledger
ghosts-session-Q-Ledger g a = record { name = a.others.bytes.name; parts = a.others.bytes.parts }
