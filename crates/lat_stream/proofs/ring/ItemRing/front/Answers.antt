use Rattle.std.proofs.Common.{◌≡◌, ◌≢◌, ◌≤◌, Some, slice_get, length, sym, ap, ◌∙◌, arith}
use Rattle.std.specs.Option.{option_copied}
use Rattle.std.proofs.lemmas.Option.{none-some}
use Rattle.lat_stream.specs.RingItems.{RingItems, span}
use Rattle.lat_stream.specs.declared.ring.Placed.{Placed}
use Rattle.lat_stream.proofs.RingItems.{front_setting, front_byte, front_none}
use Rattle.lat_stream.proofs.ring.ItemRing.front.Goals as goal
use Rattle.lat_stream.proofs.ring.ItemRing.front.Goals.{in_default-via-in-Some+else-placed-eq0, in_default-via-in_default}

pub returns-in-Some : goal.returns-in-Some
returns-in-Some c =
    let within : span c.self.inside.settings.items ≤ length c.self.inside.bytes.items = omega (arith, c.self.invariant.0) in
    sym (front_setting c.self.inside.settings.items c.in-Some.placed.now c.self.inside.bytes.items (sym c.front.ensures ∙ ap option_copied c.in-Some.is) c.if-placed-eq0.true within)
    ∙ ap (λ (r : RingItems). slice_get r.items 0) c.self.view_is

pub returns-in-Some-front : goal.returns-in-Some-front
returns-in-Some-front c =
    let within : span c.self.inside.settings.items ≤ length c.self.inside.bytes.items = omega (arith, c.self.invariant.0) in
    let some : (p : Placed) → slice_get c.self.inside.settings.items 0 ≡ Some p → p.gap ≢ 0 =
    elim c.in_default.branch [
      | in_default-via-in-Some+else-placed-eq0 w ↦
          (λ p e z.
          let here : slice_get c.self.inside.settings.items 0 ≡ Some w.in-Some.placed.now = sym c.front.ensures ∙ ap option_copied w.in-Some.is in
          let same : w.in-Some.placed.now ≡ p = cc in
          w.if-placed-eq0.false (ap (λ (q : Placed). q.gap) same ∙ z))
      | in_default-via-in_default w ↦ (λ p e z. none-some p (sym (sym c.front.ensures ∙ ap option_copied w.in_default.is) ∙ e))
    ] in
    sym (front_byte c.self.inside.settings.items c.in-Some-front.byte.now c.self.inside.bytes.items (sym c.front-in_default.ensures ∙ ap option_copied c.in-Some-front.is) within some)
    ∙ ap (λ (r : RingItems). slice_get r.items 0) c.self.view_is

pub returns-in-None : goal.returns-in-None
returns-in-None c =
    let within : span c.self.inside.settings.items ≤ length c.self.inside.bytes.items = omega (arith, c.self.invariant.0) in
    sym (front_none c.self.inside.settings.items c.self.inside.bytes.items (sym c.front-in_default.ensures ∙ ap option_copied c.in-None.is) within)
    ∙ ap (λ (r : RingItems). slice_get r.items 0) c.self.view_is
