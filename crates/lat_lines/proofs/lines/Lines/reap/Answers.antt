use Rattle.std.proofs.Common.{◌≡◌, length, map, sym, ap, subst, ◌∙◌, arith}
use Rattle.std.specs.List.{AllZip}
use Rattle.std.specs.Vec.{with_items}
use Rattle.std.proofs.lemmas.List.{with_items_is}
use Rattle.lat_model.specs.Lists.{Each}
use Rattle.lat_queue.specs.Histories.{key_shown}
use Rattle.lat_lines.specs.circuits.Stands as stands
use Rattle.lat_lines.specs.Cores.{Covers}
use Rattle.lat_lines.specs.Kept.{Kept, Holds, IsLine}
use Rattle.lat_lines.specs.Looks.{Looks, last_after, finished_after, freed_after}
use Rattle.lat_lines.specs.Shown.{shown}
use Rattle.lat_lines.specs.Stands.{Seated}
use Rattle.lat_lines.specs.declared.seat.Seat.{Seat}
use Rattle.lat_lines.proofs.Pigeons.{few_seats}
use Rattle.lat_lines.proofs.reaping.Reaped.{lines_looked, open_seats, reaped_kept, reaped_same, holds_reaped, reaped}
use Rattle.lat_lines.proofs.lines.Lines.reap.Goals as goal

-- each was looked at

looked : (c : goal.After-as_mut_slice-2) → AllZip (Looks c.self.inside.circuits) c.self.inside.seats.items c.look_all.new.seats
looked c = subst (λ ss. AllZip (Looks c.self.inside.circuits) ss c.look_all.new.seats) c.as_mut_slice.ensures.value c.look_all.ensures

pub note_all-requires-clause-lines : goal.note_all-requires-clause-lines
note_all-requires-clause-lines c =
    let k = shown c.self.inside in
    let h : Holds k = c.self.invariant.0 in
    let places : length c.as_mut_slice-2.result.now ≡ k.lines = ap length c.as_mut_slice-2.ensures.value ∙ h.last in
    let noted : c.as_slice.result.now ≡ c.look_all.new.seats = c.as_slice.ensures.value ∙ with_items_is c.self.inside.seats c.look_all.new.seats (c.look_all.auto.seats ∙ c.as_mut_slice.ensures.len) in
    subst (λ n. Each (λ (s : Seat). IsLine n s.line) c.as_slice.result.now) (sym places)
    (subst (Each (λ (s : Seat). IsLine k.lines s.line)) (sym noted) (lines_looked k.circuits k.lines k.seats c.look_all.new.seats (looked c) h.each))

pub note_all-requires-clause-room : goal.note_all-requires-clause-room
note_all-requires-clause-room c =
    let k = shown c.self.inside in
    let few = few_seats k c.self.invariant.0 in
    omega (arith, few, c.self.invariant.2, c.clear.ensures.len, c.clear.ensures.capacity, c.as_slice.ensures.len)

-- what is kept then

abbrev left : (c : goal.After-keep_open) → Kept
left c = record (shown c.self.inside) {
  seats = c.keep_open.new.seats.items;
  last = (with_items c.self.inside.last c.note_all.new.last).items;
  finished = c.note_all.new.finished;
  freed = c.note_all.new.freed.items;
}

same : (c : goal.After-keep_open) → reaped_kept (shown c.self.inside) c.look_all.new.seats ≡ left c
same c =
    let ss = c.look_all.new.seats in
    let is = with_items_is c.self.inside.seats ss (c.look_all.auto.seats ∙ c.as_mut_slice.ensures.len) in
    let noted : c.as_slice.result.now ≡ ss = c.as_slice.ensures.value ∙ is in
    reaped_same (shown c.self.inside) ss (left c).seats (left c).last (left c).finished (left c).freed
    (c.keep_open.ensures.items ∙ ap open_seats is)
    (with_items_is c.self.inside.last c.note_all.new.last (c.note_all.auto.last ∙ c.as_mut_slice-2.ensures.len) ∙ c.note_all.ensures.last ∙ ap (λ xs. last_after xs c.as_mut_slice-2.result.now) noted ∙ ap (last_after ss) c.as_mut_slice-2.ensures.value)
    (c.note_all.ensures.finished ∙ ap (λ xs. finished_after xs c.self.inside.finished) noted)
    (c.note_all.ensures.freed ∙ ap (λ xs. freed_after xs c.clear.new.self.items) noted ∙ ap (freed_after ss) c.clear.ensures.items)

were_looked : (c : goal.After-keep_open) → AllZip (Looks c.self.inside.circuits) c.self.inside.seats.items c.look_all.new.seats
were_looked c = subst (λ ss. AllZip (Looks c.self.inside.circuits) ss c.look_all.new.seats) c.as_mut_slice.ensures.value c.look_all.ensures

pub invariant_of-self : goal.invariant_of-self
invariant_of-self c = (
  subst Holds (same c) (holds_reaped (shown c.self.inside) c.look_all.new.seats c.self.invariant.0 (were_looked c)),
  omega (arith, c.self.invariant.1, c.keep_open.ensures.capacity),
  omega (arith, c.self.invariant.2, c.note_all.ensures.capacity, c.clear.ensures.capacity),
)

pub returns-clause-state : goal.returns-clause-state
returns-clause-state c = λ d e seated covers st later.
    let k = shown c.self.inside in
    let was : c.args.self.now ≡ k = sym c.self.view_is in
    let done = reaped k c.look_all.new.seats d e c.self.invariant.0 (subst (λ z. Seated z d) was seated) (subst Covers was covers) (subst (λ (z : Kept). stands.Stands z.circuits e) was st) later (were_looked c) in
    (subst (λ z. Seated z e) (same c) done.0, ap (λ (z : Kept). map key_shown z.freed) (sym (same c)) ∙ done.1)
