use Rattle.std.proofs.Common.{◌≡◌, ℕ, true, false, nat_eq, get_or, Fits, w8, ◌∙◌, sym, arith, rules}
use Rattle.std.proofs.lemmas.Bool.{eqb-false}
use Rattle.lat_machines.specs.values.Addresses.{address, everyone}
use Rattle.lat_payload.proofs.Addresses.{IsStation}
use Rattle.lat_payload.proofs.Everyone.{everyone_is}
use Rattle.lat_schedule.proofs.setup_line.station_of.Goals as goal

pub returns-then-is_everyone-clause-value : goal.returns-then-is_everyone-clause-value
returns-then-is_everyone-clause-value c =
    let small : (i : ℕ) → Fits w8 (get_or c.in_ok-own.own.0 i 0) = λ i. search (rules, c.in_ok-own) in
    let station : IsStation c.in_ok-own.own.0 = record { long = omega arith; small = λ i. (small i).fits } in
    let e : nat_eq (address c.in_ok-own.own.0) everyone ≡ true = sym (everyone_is c.in_ok-own.own.0 station) ∙ sym c.if-is_everyone.ensures in
    search rules

pub returns-else-is_everyone-clause-value : goal.returns-else-is_everyone-clause-value
returns-else-is_everyone-clause-value c =
    let station : IsStation c.in_ok-own.own.0 = search (rules, c.in_ok-own) in
    let e : nat_eq (address c.in_ok-own.own.0) everyone ≡ false = sym (everyone_is c.in_ok-own.own.0 station) ∙ sym c.if-is_everyone.ensures in
    search rules

pub returns-else-is_everyone-clause-not_everyone : goal.returns-else-is_everyone-clause-not_everyone
returns-else-is_everyone-clause-not_everyone c =
    let station : IsStation c.in_ok-own.own.0 = search (rules, c.in_ok-own) in
    eqb-false (address c.in_ok-own.own.0) everyone (sym (everyone_is c.in_ok-own.own.0 station) ∙ sym c.if-is_everyone.ensures)
