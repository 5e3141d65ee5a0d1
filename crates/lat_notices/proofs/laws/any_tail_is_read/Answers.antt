use Rattle.std.proofs.Common.{inr, arith}
use Rattle.lat_notices.proofs.Exact.{text_taken}
use Rattle.lat_notices.proofs.laws.any_tail_is_read.Goals as goal

pub returns : goal.returns
returns c = λ n text rest t short. text_taken n text rest t (omega (arith, short)) (inr short)
