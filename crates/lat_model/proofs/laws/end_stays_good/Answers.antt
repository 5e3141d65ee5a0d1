use Rattle.std.proofs.Common.{min, arith}
use Rattle.lat_model.proofs.sessions.Alone.{hear_alone, turn_alone, pack_alone}
use Rattle.lat_model.proofs.sessions.Locals.{called}
use Rattle.lat_model.proofs.circuits.Pairs.{void_ok, lower_ok}
use Rattle.lat_model.proofs.laws.end_stays_good.Goals as goal

pub returns : goal.returns
returns c = record {
  begins = λ m n ceiling. void_ok m (min n 64) ceiling (omega arith);
  agrees = λ e n ok. lower_ok n e ok;
  calls = λ e c ok. (called e c ok).ok;
  hears = λ e f x ok src h. hear_alone e f x src ok h;
  turns = λ p k ok. turn_alone p k ok;
  packs = λ e room ok. pack_alone room e ok;
}
