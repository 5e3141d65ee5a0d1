use Rattle.std.specs.Prelude.{string_bytes}
use Rattle.lat_show.specs.MessagePrinted.{start_printed}
use Rattle.lat_show.proofs.Onto.{line_of_two}
use Rattle.lat_show.proofs.start.start_onto.Goals as goal

pub returns : goal.returns
unfolding start_printed
returns c = line_of_two _ (string_bytes c.args.text.now) _ _ _ _ _ c.in_ok-circuit_onto.ensures c.in_ok-info_onto.ensures c.push_str.ensures.bytes
