use Rattle.lat_laws.proofs.avoids.Avoided.{avoided_are_gone, others_stay, avoid_is_answered, avoided_until_heard, unknown_are_not_chosen, directory_stays}
use Rattle.lat_laws.proofs.laws.avoids.avoided_peers_are_not_chosen.Goals as goal

pub returns : goal.returns
returns c = record { gone = avoided_are_gone; others = others_stay; answered = avoid_is_answered; until = avoided_until_heard; chosen = unknown_are_not_chosen; stays = directory_stays }
