use Rattle.std.proofs.Common.{◌≡◌, ◌≤◌, true, length, map, rules, arith, refl, sym, ap, subst}
use Rattle.std.proofs.lemmas.List.{length-map}
use Rattle.lat_queue.proofs.StandLemmas.{each_map}
use Rattle.lat_lines.specs.Kept.{IsLine}
use Rattle.lat_base.specs.declared.addr.Addr.{Addr}
use Rattle.lat_machines.specs.values.Addresses.{address}
use Rattle.lat_machines.specs.cores.Cores.{open_core}
use Rattle.lat_lines.specs.Kept.{side_of}
use Rattle.lat_lines.specs.Stands as stands
use Rattle.lat_lines.proofs.Pigeons.{few_apart}
use Rattle.lat_server.specs.declared.config.Offer.{Offer}
use Rattle.lat_server.proofs.Making.{is_opened}
use Rattle.lat_server.proofs.server.ServerCore.make.Goals as goal

pub services-requires : goal.services-requires
services-requires c =
    let offers = c.args.config.now.offers in
    let lines = c.args.config.now.lines in
    let few : length (map (λ (o : Offer). o.line) offers) ≤ lines = few_apart lines (map (λ (o : Offer). o.line) offers) c.requires.offers.apart (each_map (IsLine lines) (λ (o : Offer). o.line) offers c.requires.offers.each) in
    let same = length-map offers (λ (o : Offer). o.line) in
    let is = ap length c.as_slice-offers.ensures in
    omega (arith, few, same, is, c.requires.lines.1)

pub returns-clause-stands : goal.returns-clause-stands
returns-clause-stands c =
    let lines = c.in_ok-make.field-0 in
    let first = c.args.config.now.first in
    let at = subst (λ (a : Addr). stands.Stands lines (open_core (side_of lines) (address a.0) first)) (sym c.in_ok-make.ensures.own.0) c.in_ok-make.ensures.stands in
    let ls = subst (λ n. stands.Stands lines (open_core (side_of lines) (address lines.circuits.own.0) n)) (sym c.in_ok-make.ensures.own.4) at in
    let server : lines.circuits.server ≡ true = search rules in
    is_opened _ server ls c.in_ok-make-2.ensures.stands c.in_ok-make-3.ensures.stands refl c.open.ensures

pub returns-clause-rest : goal.returns-clause-rest
returns-clause-rest c = record {
  clear = c.in_ok-make.ensures.clear;
  freed = c.in_ok-make.ensures.freed;
  memory = λ short. absurd (omega (arith, short, c.in_ok-make-3.ensures.none));
}
