use Rattle.lat_model.proofs.sessions.Alone.{holders_are_one, least_free_low}
use Rattle.lat_model.proofs.sessions.Made.{least_is_free, least_some}
use Rattle.lat_model.proofs.laws.sessions_stand_apart.Goals as goal

pub returns : goal.returns
returns c = record {
  holder = λ e j k ok fj fk q. holders_are_one e j k ok fj fk q;
  found = λ e k ok f. ok.holds k f;
  least = λ e ok h. (least_is_free e h ok.agreed, least_some e h ok.agreed, least_free_low e h ok.agreed);
  given = λ e k ok. (ok.accounts k).spent;
  used = λ e k ok. (ok.accounts k).spends;
  ceiling = λ e k ok. (ok.accounts k).gives;
}
