use Rattle.lat_model.proofs.sessions.Bounds.{heard_fit}
use Rattle.lat_model.proofs.sessions.Smalls.{call_small, turn_small, hear_small}
use Rattle.lat_model.proofs.laws.heard_items_fit.Goals as goal

pub returns : goal.returns
returns c = record {
  fit = heard_fit;
  begins = λ m n ceiling k. tt;
  calls = λ e c a. call_small e c a;
  hears = λ e f x a i h. hear_small e f x i a h;
  turns = λ p k a. turn_small p k a;
}
