use Rattle.lat_switch.proofs.shown.Orders.{in_order}
use Rattle.lat_switch.proofs.laws.shown_in_order.Goals as goal

pub returns : goal.returns
returns c = in_order
