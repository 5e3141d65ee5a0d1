use Rattle.std.specs.Prelude.{string_bytes}
use Rattle.lat_show.specs.NoticePrinted.{description_printed}
use Rattle.lat_show.proofs.Onto.{two_pieces}
use Rattle.lat_show.proofs.notice.description_onto.Goals as goal

pub returns : goal.returns
unfolding description_printed
returns c = two_pieces _ (string_bytes c.args.text.now) _ _ _ _ c.in_ok-push_str.ensures.bytes c.hex_onto.ensures
