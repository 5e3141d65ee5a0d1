use Rattle.lat_model.specs.numbers.Net.{start_net}
use Rattle.lat_model.proofs.numbers.Net.{run_net_ok, start_net_ok}
use Rattle.lat_model.proofs.laws.two_ends_agree.Goals as goal

pub returns : goal.returns
returns c = λ es. run_net_ok es start_net start_net_ok
