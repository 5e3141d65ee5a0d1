use Rattle.lat_settle.proofs.Leading.{led_of}
use Rattle.lat_settle.proofs.laws.settled_is_led.Goals as goal

pub returns : goal.returns
returns c = λ u s n t q. led_of u 0 n s t q
