use Rattle.std.proofs.Common.{◌≡◌, ◌/◌, length, rules}
use Rattle.std.specs.Prelude.{Ok}
use Rattle.hex.specs.Hex.{decode_sized}
use Rattle.lat_text.proofs.HexRead.{mask_is}
use Rattle.lat_text.proofs.bytes.mask_of.Goals as goal

pub returns : goal.returns
returns c =
    let text = c.args.text.now in
    let read : decode_sized text (length text / 2) ≡ Ok c.decode_to_slice.new.out = search rules in
    mask_is text c.decode_to_slice.new.out (length text / 2) c.if-text-lt2.false c.if-text-gt64.false read
