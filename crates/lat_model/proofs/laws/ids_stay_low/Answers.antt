use Rattle.std.proofs.Common.{refl}
use Rattle.lat_model.proofs.sessions.Low.{call_within, hear_within, turn_within, past_free}
use Rattle.lat_model.proofs.laws.ids_stay_low.Goals as goal

pub returns : goal.returns
returns c = record {
  begins = λ n sessions ceiling m i z. refl;
  calls = λ n e c ok a w. call_within n e c ok a w;
  hears = λ n e f x ok a w h. hear_within n e f x ok a w h;
  turns = λ n p k w. turn_within n p k w;
  past = λ n e i ok w h. past_free n e i ok w h;
}
