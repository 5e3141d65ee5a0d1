use Rattle.std.proofs.Common.{rules}
use Rattle.lat_text.proofs.Decimals.{padded_none, not_utf8_none, parse_is}
use Rattle.lat_text.proofs.numbers.number_of.Goals as goal

pub returns-then-is_padded : goal.returns-then-is_padded
returns-then-is_padded c = search (rules, padded_none c.args.text.now)

pub returns-in_err-ok : goal.returns-in_err-ok
returns-in_err-ok c = search (rules, not_utf8_none c.args.text.now)

pub returns : goal.returns
returns c = search (rules, parse_is c.args.text.now c.parse.result)
