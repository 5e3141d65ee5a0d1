use Rattle.lat_schedule.proofs.setup_line.numbers_of.Goals as goal

pub returns-clause-fits : goal.returns-clause-fits
returns-clause-fits c = record { timer = c.in_ok-timer-2.ensures.range; keepalive = c.in_ok-keepalive-2.ensures.range.0; sessions = c.in_ok-sessions-2.ensures.range }
