use Rattle.std.proofs.Common.{rules, append_assoc}
use Rattle.lat_cmd.proofs.generate.texts.bench_line.Goals as goal

pub returns : goal.returns
returns c = search (rules, append_assoc)
