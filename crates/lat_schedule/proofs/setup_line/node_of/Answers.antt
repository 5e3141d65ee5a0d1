use Rattle.std.proofs.Common.{◌≡◌, sym, ◌∙◌, nat_eq, rules}
use Rattle.std.proofs.lemmas.Bool.{eqb-false}
use Rattle.lat_machines.specs.values.Addresses.{address}
use Rattle.lat_payload.proofs.Addresses.{IsStation, address_same}
use Rattle.lat_schedule.proofs.setup_line.node_of.Goals as goal

pub returns-clause-value : goal.returns-clause-value
returns-clause-value c =
    let one : IsStation c.in_ok-own.own.0 = search (rules, c.in_ok-own) in
    let two : IsStation c.args.server.0 = search rules in
    let is : c.eq.result ≡ nat_eq (address c.in_ok-own.own.0) (address c.args.server.0) = c.eq.ensures ∙ address_same c.in_ok-own.own.0 c.args.server.0 one two in
    search rules

pub returns-clause-fits : goal.returns-clause-fits
returns-clause-fits c =
    let one : IsStation c.in_ok-own.own.0 = search (rules, c.in_ok-own) in
    let two : IsStation c.args.server.0 = search rules in
    record {
      own = c.in_ok-own.ensures.not_everyone;
      apart = eqb-false (address c.in_ok-own.own.0) (address c.args.server.0) (sym (address_same c.in_ok-own.own.0 c.args.server.0 one two) ∙ sym c.eq.ensures ∙ c.if-eq.false);
      name = c.in_ok-name-2.ensures.name;
      lines = c.in_ok-lines-2.ensures.range;
      timer = c.in_ok-timer-2.ensures.range.0;
      first = c.in_ok-timer.ensures.fits;
    }
