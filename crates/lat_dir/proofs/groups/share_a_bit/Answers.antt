use Rattle.std.proofs.Common.{sym}
use Rattle.lat_dir.proofs.Bits.{share_bits_is}
use Rattle.lat_dir.proofs.groups.share_a_bit.Goals as goal

pub returns : goal.returns
returns c = sym (share_bits_is 8 c.args.x c.args.y c.ranges.x.fits)
