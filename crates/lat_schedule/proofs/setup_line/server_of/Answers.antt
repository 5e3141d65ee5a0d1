use Rattle.lat_schedule.proofs.setup_line.server_of.Goals as goal

pub returns-clause-fits : goal.returns-clause-fits
returns-clause-fits c = record { own = c.in_ok-own.ensures.not_everyone; name = c.in_ok-name-2.ensures.name; lines = c.in_ok-lines-2.ensures.range; first = c.in_ok-lines.ensures.fits }
