use Rattle.lat_printing.proofs.Seats.{events_have_seats}
use Rattle.lat_printing.proofs.laws.events_have_seats.Goals as goal

pub returns : goal.returns
returns c = events_have_seats
