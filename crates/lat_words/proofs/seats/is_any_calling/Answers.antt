use Rattle.std.proofs.Common.{◌≡◌, ◌≤◌, ◌-◌, ◌+◌, true, false, sym, arith, rules}
use Rattle.lat_words.specs.Offers.{is_offering}
use Rattle.lat_words.proofs.Calling.{line_calls, no_more}
use Rattle.lat_words.proofs.seats.is_any_calling.Goals as goal

pub returns-then-not-is_offering : goal.returns-then-not-is_offering
returns-then-not-is_offering c =
    let l = c.loop-line in
    let within : l.line ≤ c.args.lines = search rules in
    let none : is_offering l.line c.args.offers.now ≡ false = search rules in
    sym (line_calls c.args.lines l.line c.args.offers.now l.invariant.first within none)

pub loop-line-preserved : goal.loop-line-preserved
loop-line-preserved c =
    let l = c.loop-line in
    let offering : is_offering l.line c.args.offers.now ≡ true = search rules in
    record {
      none = no_more l.line (l.line + 1 - 1) c.args.offers.now l.invariant.first (omega arith) l.invariant.none offering;
      first = omega (arith, l.invariant.first);
    }
