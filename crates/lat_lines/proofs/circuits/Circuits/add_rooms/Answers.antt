use Rattle.std.proofs.Common.{◌≡◌, ◌+◌, ◌≤◌, length, sym, ap, subst, ◌∙◌, arith}
use Rattle.lat_model.specs.Lists.{Each}
use Rattle.lat_machines.specs.cores.Cores.{Core}
use Rattle.lat_lines.specs.circuits.Kept.{Kept, Holds}
use Rattle.lat_lines.specs.circuits.Shown.{shown}
use Rattle.lat_lines.specs.circuits.Stands.{Stands}
use Rattle.lat_lines.proofs.circuits.Reserving.{with_rooms, holds_reserved, stands_reserved}
use Rattle.lat_lines.proofs.circuits.Circuits.add_rooms.Goals as goal

pub invariant_of-self : goal.invariant_of-self
invariant_of-self c =
    let k = shown c.self.inside in
    let h : Holds k = c.self.invariant.0 in
    let most : length k.held + length k.rooms + length c.args.more.items ≤ 8 = subst (λ (z : Kept). length z.held + length z.rooms + length c.args.more.items ≤ 8) (sym c.self.view_is) c.requires.most in
    let each : Each (λ n. k.timing.sessions ≤ n) c.args.more.items = subst (λ (z : Kept). Each (λ n. z.timing.sessions ≤ n) c.args.more.items) (sym c.self.view_is) c.requires.each in (
      holds_reserved k c.add_all.new.rooms.items h (omega (arith, most, c.add_all.ensures.length)) (c.add_all.ensures.each k.timing.sessions h.rooms each),
      c.self.invariant.1,
      c.add_all.ensures.capacity,
    )

pub returns-clause-state : goal.returns-clause-state
returns-clause-state c = λ d st.
    stands_reserved (shown c.self.inside) d c.add_all.new.rooms.items (subst (λ (z : Kept). Stands z d) (sym c.self.view_is) st)

pub returns-clause-kept : goal.returns-clause-kept
returns-clause-kept c = ap (λ (z : Kept). with_rooms z c.add_all.new.rooms.items) c.self.view_is

pub returns-clause-rooms : goal.returns-clause-rooms
returns-clause-rooms c = c.add_all.ensures.length ∙ ap (λ (z : Kept). length z.rooms + length c.args.more.items) c.self.view_is

pub add_all-requires-clause-places : goal.add_all-requires-clause-places
add_all-requires-clause-places c =
    let most : length c.self.inside.held.items + length c.self.inside.rooms.items + length c.args.more.items ≤ 8 = subst (λ (z : Kept). length z.held + length z.rooms + length c.args.more.items ≤ 8) (sym c.self.view_is) c.requires.most in
    omega (arith, most)
