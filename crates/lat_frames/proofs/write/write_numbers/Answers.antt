use Rattle.std.proofs.Common.{append_assoc}
use Rattle.lat_frames.proofs.write.write_numbers.Goals as goal

pub returns : goal.returns
returns c = rw (c.push-2.ensures, c.push.ensures, c.write_number-2.ensures, c.append.ensures, c.write_number.ensures) (simp append_assoc)
