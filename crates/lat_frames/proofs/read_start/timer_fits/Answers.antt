use Rattle.std.proofs.Common.{rules}
use Rattle.lat_frames.proofs.read_start.timer_fits.Goals as goal

pub returns-then-timer-gt0 : goal.returns-then-timer-gt0
returns-then-timer-gt0 c = search rules
