-- What stays of the lines, where the circuits did something of their own.
use Rattle.std.proofs.Common.{◌≡◌, ◌≤◌, ◌∙◌, length, sym, ap, subst, arith}
use Rattle.lat_lines.specs.circuits.Kept as circuits
use Rattle.lat_lines.specs.Kept.{Kept, SameLines}
use Rattle.lat_lines.proofs.circuits.Reserving.{rooms_same}

-- The circuits Q are those of NEW
pub record Becomes (old k new : Kept) (q : circuits.Kept) : Type 0 where
  pub was : old ≡ k
  pub circuits : new.circuits ≡ q

pub lines_same : (old k new : Kept) (q : circuits.Kept) → Becomes old k new q → new.lines ≡ old.lines → circuits.SameCore old.circuits q → SameLines k new
lines_same old k new q b lines same = record {
  lines = lines ∙ ap (λ (z : Kept). z.lines) b.was;
  core = subst (λ r. circuits.SameCore k.circuits r) (sym b.circuits) (subst (λ (z : Kept). circuits.SameCore z.circuits q) b.was same);
}

pub clear_same : (old k new : Kept) (q : circuits.Kept) → Becomes old k new q → (circuits.IsClear old.circuits → circuits.IsClear q) → circuits.IsClear k.circuits → circuits.IsClear new.circuits
clear_same old k new q b stays clear =
    subst circuits.IsClear (sym b.circuits) (stays (subst (λ (z : Kept). circuits.IsClear z.circuits) (sym b.was) clear))

pub moment_same : (old k new : Kept) (q : circuits.Kept) → Becomes old k new q → q.moment ≡ old.circuits.moment → new.circuits.moment ≡ k.circuits.moment
moment_same old k new q b same = ap (λ (z : circuits.Kept). z.moment) b.circuits ∙ same ∙ ap (λ (z : Kept). z.circuits.moment) b.was

pub rooms_same_lines : (old k new : Kept) (q : circuits.Kept) → Becomes old k new q → circuits.SameCircuits old.circuits q → length k.circuits.rooms ≤ length new.circuits.rooms
rooms_same_lines old k new q b same =
    omega (arith, rooms_same old.circuits q same, ap (λ (z : circuits.Kept). length z.rooms) b.circuits, ap (λ (z : Kept). length z.circuits.rooms) b.was)
