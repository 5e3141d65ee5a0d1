use Rattle.std.proofs.Common.{sym, subst, arith}
use Rattle.lat_server.specs.Config.{AreOffers}
use Rattle.lat_switch.specs.Kept.{Kept}
use Rattle.lat_switch.proofs.Makes.{IsOpened, inner_is, none_offered, opened_holds, opened_made, opened_stands, opened_is, opened_valid}
use Rattle.lat_switch.proofs.switch.SwitchCore.make.Goals as goal

pub make-requires : goal.make-requires
make-requires c = record {
  lines = (omega arith, omega arith);
  offers = subst (AreOffers _) (sym c.new.ensures) (none_offered _);
  timing = c.requires.timing;
  first = c.requires.first;
}

pub returns-clause-made : goal.returns-clause-made
returns-clause-made c =
    let k : Kept = record { inner = c.in_ok-inner.inner; lines = c.in_ok-lines.lines.items } in
    let h : IsOpened c.args.config.now k = record {
      server = c.in_ok-inner.ensures.stands;
      rest = c.in_ok-inner.ensures.rest;
      config_is = inner_is c.args.config.now c.in_ok-inner.inner c.new.result c.in_ok-inner.ensures.config c.new.ensures;
      lines = c.in_ok-lines.ensures;
    } in
    opened_made c.args.config.now k h

pub returns-clause-stands : goal.returns-clause-stands
returns-clause-stands c =
    let k : Kept = record { inner = c.in_ok-inner.inner; lines = c.in_ok-lines.lines.items } in
    let h : IsOpened c.args.config.now k = record {
      server = c.in_ok-inner.ensures.stands;
      rest = c.in_ok-inner.ensures.rest;
      config_is = inner_is c.args.config.now c.in_ok-inner.inner c.new.result c.in_ok-inner.ensures.config c.new.ensures;
      lines = c.in_ok-lines.ensures;
    } in
    opened_stands c.args.config.now k h

pub returns-clause-opening : goal.returns-clause-opening
returns-clause-opening c =
    let k : Kept = record { inner = c.in_ok-inner.inner; lines = c.in_ok-lines.lines.items } in
    let h : IsOpened c.args.config.now k = record {
      server = c.in_ok-inner.ensures.stands;
      rest = c.in_ok-inner.ensures.rest;
      config_is = inner_is c.args.config.now c.in_ok-inner.inner c.new.result c.in_ok-inner.ensures.config c.new.ensures;
      lines = c.in_ok-lines.ensures;
    } in
    opened_is c.args.config.now k h

pub returns-clause-valid : goal.returns-clause-valid
returns-clause-valid c =
    let k : Kept = record { inner = c.in_ok-inner.inner; lines = c.in_ok-lines.lines.items } in
    let h : IsOpened c.args.config.now k = record {
      server = c.in_ok-inner.ensures.stands;
      rest = c.in_ok-inner.ensures.rest;
      config_is = inner_is c.args.config.now c.in_ok-inner.inner c.new.result c.in_ok-inner.ensures.config c.new.ensures;
      lines = c.in_ok-lines.ensures;
    } in
    opened_valid c.args.config.now k h

pub invariant_of-result : goal.invariant_of-result
invariant_of-result c =
    let k : Kept = record { inner = c.in_ok-inner.inner; lines = c.in_ok-lines.lines.items } in
    let h : IsOpened c.args.config.now k = record {
      server = c.in_ok-inner.ensures.stands;
      rest = c.in_ok-inner.ensures.rest;
      config_is = inner_is c.args.config.now c.in_ok-inner.inner c.new.result c.in_ok-inner.ensures.config c.new.ensures;
      lines = c.in_ok-lines.ensures;
    } in
    opened_holds c.args.config.now k c.requires.lines.1 h
