use Rattle.std.proofs.Common.{◌≡◌, ◌&&◌, false, not, nat_eq, cond, sym, ap, subst}
use Rattle.lat_model.specs.ends.End.{still}
use Rattle.lat_model.specs.ends.Timers.{note_empty}
use Rattle.lat_model.specs.sessions.Sessions.{held}
use Rattle.lat_circuit.specs.Stands.{Stands}
use Rattle.lat_circuit.proofs.Agreeing.{is_lost, was_not, still_is}
use Rattle.lat_circuit.proofs.Sends.{noted_stands}
use Rattle.lat_circuit.proofs.circuit.Circuit.note_empty.Goals as goal
use Rattle.lat_circuit.proofs.circuit.Circuit.note_empty.Goals.{else-was_held-via-then-was_held+else-not-is_held, else-was_held-via-else-was_held}

pub returns-then-not-is_held-clause-state : goal.returns-then-not-is_held-clause-state
returns-then-not-is_held-clause-state c = λ d e st was.
    let here = subst (λ k. Stands k e) (sym c.self.view_is) st in
    let m = c.self.inside.moments in
    noted_stands c.self.inside m.now d e here
    (sym (ap (λ b. cond b m.now m.empty_at)
    (is_lost c.args.was_held c.is_held.result (not (nat_eq (held d.half.sessions) 0)) (nat_eq (held e.half.sessions) 0) was (c.is_held.ensures e st) c.if-was_held.true c.if-not-is_held.true)))

pub returns-else-was_held-clause-state : goal.returns-else-was_held-clause-state
returns-else-was_held-clause-state c = λ d e st was.
    let here = subst (λ k. Stands k e) (sym c.self.view_is) st in
    let m = c.self.inside.moments in
    let none : (not (nat_eq (held d.half.sessions) 0) && nat_eq (held e.half.sessions) 0) ≡ false =
    elim c.else-was_held.branch [
      | else-was_held-via-then-was_held+else-not-is_held w ↦
          still_is w.is_held.result (not (nat_eq (held d.half.sessions) 0)) (nat_eq (held e.half.sessions) 0) (w.is_held.ensures e st) w.if-not-is_held.false
      | else-was_held-via-else-was_held w ↦
          was_not c.args.was_held (not (nat_eq (held d.half.sessions) 0)) (nat_eq (held e.half.sessions) 0) was w.if-was_held.false
    ] in
    subst (λ k. Stands k (note_empty d (still e)).end) c.self.view_is
    (noted_stands c.self.inside m.empty_at d e here (sym (ap (λ b. cond b m.now m.empty_at) none)))
