use Rattle.std.proofs.Common.{◌∙◌}
use Rattle.lat_queue.proofs.TableLemmas.{insert_new}
use Rattle.lat_queue.proofs.queue.insert_new.Goals as goal

pub returns-clause-ok : goal.returns-clause-ok
returns-clause-ok c = c.in_ok-insert.ensures.entries ∙ insert_new c.args.key.now c.args.entry c.args.entries.now.entries c.requires
