use Rattle.std.proofs.Common.{◌≡◌, ◌<◌, ◌≤◌, [], ◌∷◌, ◌∙◌, length-append, ap, sym, refl, subst, true, arith, length, position}
use Rattle.std.specs.List.{remove}
use Rattle.std.proofs.lemmas.Option.{slice_get_within, same_Some}
use Rattle.lat_machines.specs.cores.Cores.{Core}
use Rattle.lat_lines.specs.circuits.Kept.{Kept, Holds, with_memory}
use Rattle.lat_lines.specs.circuits.Shown.{shown}
use Rattle.lat_lines.specs.circuits.Stands.{Stands}
use Rattle.lat_lines.proofs.CircuitsHeld.{found_at}
use Rattle.lat_lines.proofs.circuits.Places.{read_at}
use Rattle.lat_lines.proofs.circuits.Cleared.{has_ended, cleared, holds_cleared, memory_cleared, stands_cleared}
use Rattle.lat_lines.proofs.circuits.Circuits.let_go.Goals as goal

pub invariant_of-self : goal.invariant_of-self
invariant_of-self c =
    let a = c.self.inside in
    let at = c.args.at in
    let f = found_at has_ended a.held.items at (ap (λ (k : Kept). position has_ended k.held) c.self.view_is ∙ c.requires.first) in
    let low : at < length a.held.items = slice_get_within a.held.items at f.0 f.1.here in
    let here = read_at (shown a) a.held.items at c.remove-circuit.result refl low c.remove-circuit.ensures.value in
    let is : shown (record a { held = c.remove-circuit.new.self; rooms = c.push_reserved.new.self }) ≡ cleared (shown a) at c.into_room.result =
    ap (λ qs. record (shown a) { held = qs; rooms = c.push_reserved.new.self.items }) c.remove-circuit.ensures.items
    ∙ ap (λ ns. record (shown a) { held = remove a.held.items at; rooms = ns }) c.push_reserved.ensures.items in (
      subst Holds (sym is) (holds_cleared (shown a) at c.into_room.result c.remove-circuit.result c.self.invariant.0 here c.into_room.ensures),
      omega (arith, c.self.invariant.1, c.remove-circuit.ensures.capacity),
      omega (arith, c.self.invariant.2, c.push_reserved.ensures.capacity),
    )

pub returns-clause-state : goal.returns-clause-state
returns-clause-state c =
    let a = c.self.inside in
    let at = c.args.at in
    let f = found_at has_ended a.held.items at (ap (λ (k : Kept). position has_ended k.held) c.self.view_is ∙ c.requires.first) in
    let low : at < length a.held.items = slice_get_within a.held.items at f.0 f.1.here in
    let here = read_at (shown a) a.held.items at c.remove-circuit.result refl low c.remove-circuit.ensures.value in
    let ended : has_ended c.remove-circuit.result ≡ true = ap has_ended (same_Some c.remove-circuit.result f.0 (sym here ∙ f.1.here)) ∙ f.1.passes in
    let b = record a { held = c.remove-circuit.new.self; rooms = c.push_reserved.new.self } in
    let is : shown b ≡ cleared (shown a) at c.into_room.result =
    ap (λ qs. record (shown a) { held = qs; rooms = c.push_reserved.new.self.items }) c.remove-circuit.ensures.items
    ∙ ap (λ ns. record (shown a) { held = remove a.held.items at; rooms = ns }) c.push_reserved.ensures.items in
    subst (λ (k : Kept). (d : Core) → Stands k d → Stands (shown b) d) c.self.view_is
    (λ d st. subst (λ (k : Kept). Stands k d) (sym is) (stands_cleared (shown a) d at c.into_room.result c.remove-circuit.result st here ended))

pub returns-clause-core : goal.returns-clause-core
returns-clause-core c =
    let a = c.self.inside in
    let at = c.args.at in
    let f = found_at has_ended a.held.items at (ap (λ (k : Kept). position has_ended k.held) c.self.view_is ∙ c.requires.first) in
    let low : at < length a.held.items = slice_get_within a.held.items at f.0 f.1.here in
    let here = read_at (shown a) a.held.items at c.remove-circuit.result refl low c.remove-circuit.ensures.value in
    let is : shown (record a { held = c.remove-circuit.new.self; rooms = c.push_reserved.new.self }) ≡ cleared (shown a) at c.into_room.result =
    ap (λ qs. record (shown a) { held = qs; rooms = c.push_reserved.new.self.items }) c.remove-circuit.ensures.items
    ∙ ap (λ ns. record (shown a) { held = remove a.held.items at; rooms = ns }) c.push_reserved.ensures.items in
    record {
      own = ap (λ (z : Kept). z.own) c.self.view_is;
      name = ap (λ (z : Kept). z.name) c.self.view_is;
      timing = ap (λ (z : Kept). z.timing) c.self.view_is;
      server = ap (λ (z : Kept). z.server) c.self.view_is;
      first = ap (λ (z : Kept). z.first) c.self.view_is;
      memory = ap with_memory is ∙ memory_cleared (shown a) at c.into_room.result c.remove-circuit.result here ∙ ap with_memory c.self.view_is;
    }

pub returns-clause-rooms : goal.returns-clause-rooms
returns-clause-rooms c =
    omega (arith, ap (λ (z : Kept). length z.rooms) c.self.view_is, ap length c.push_reserved.ensures.items, length-append c.self.inside.rooms.items (c.into_room.result ∷ []))
