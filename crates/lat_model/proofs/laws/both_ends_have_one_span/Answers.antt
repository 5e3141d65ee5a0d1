use Rattle.lat_model.proofs.circuits.Follows.{world_reached_ok}
use Rattle.lat_model.proofs.circuits.Spans.{joint_span, run_span}
use Rattle.lat_model.proofs.laws.both_ends_have_one_span.Goals as goal

pub returns : goal.returns
returns c = λ w r a b q t j. joint_span a b w (world_reached_ok w r) (run_span a b w r t) q j
