use Rattle.std.proofs.lemmas.Bool.{false≢true}
use Rattle.lat_model.proofs.sessions.Peers.{call_apart, hear_apart, turn_apart, rejects_fit}
use Rattle.lat_model.proofs.laws.waiting_rejects_fit.Goals as goal

pub returns : goal.returns
returns c = record {
  begins = λ n ceiling. record { one = λ p j k u v. absurd (false≢true u); low = λ p k u. absurd (false≢true u) };
  calls = λ e c m ok a. call_apart e c m ok a;
  hears = λ e f x m ok a low h. hear_apart e f x m ok a low h;
  turns = λ p k a. turn_apart p k a;
  fit = λ e m ok a. rejects_fit e m ok a;
}
