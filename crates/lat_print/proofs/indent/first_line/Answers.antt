use Rattle.lat_print.proofs.Margins.{first_found, none_found}
use Rattle.lat_print.proofs.indent.first_line.Goals as goal

pub returns-clause-found : goal.returns-clause-found
returns-clause-found c = first_found c.args.text.now c.split_once.result c.split_once.ensures.cases

pub returns-clause-none : goal.returns-clause-none
returns-clause-none c = none_found c.args.text.now c.split_once.result c.split_once.ensures.cases
