use Rattle.std.proofs.Common.{◌∙◌, nat_eq, false}
use Rattle.indexmap.proofs.CallerLemmas.{insert_entry-new}
use Rattle.lat_node.proofs.requests.insert.Goals as goal

pub returns-clause-ok : goal.returns-clause-ok
returns-clause-ok c =
    c.in_ok-insert.ensures.entries
    ∙ insert_entry-new nat_eq c.args.requests.now c.args.id (record { to = c.args.to; service = c.args.service.now; accepted = false }) c.requires.new
