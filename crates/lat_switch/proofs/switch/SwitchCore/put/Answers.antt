use Rattle.std.proofs.Common.{◌≡◌, ◌≤◌, ℕ, List, [], ◌∷◌, length, take, refl, sym, ap, subst, ◌∙◌, arith, eqb-true}
use Rattle.std.proofs.lemmas.Bool.{eqb-false}
use Rattle.std.proofs.lemmas.Grind.{common_steps}
use Rattle.lat_switch.specs.Pieces.{pieces_of, sizes}
use Rattle.lat_switch.specs.Progress.{HasRead}
use Rattle.lat_switch.specs.Reading.{puts, reads_all}
use Rattle.lat_switch.specs.Stands.{Simulates}
use Rattle.lat_switch.proofs.Courses.{same_then}
use Rattle.lat_switch.proofs.Readings.{has_put, sizes_within, some_pieces}
use Rattle.lat_switch.proofs.switch.SwitchCore.put.Goals as goal

pub read-progress-requires-clause-size : goal.read-progress-requires-clause-size
read-progress-requires-clause-size c =
    let is : c.in_ok-pieces.pieces.items ≡ pieces_of (take 65535 c.args.bytes.now) = c.in_ok-pieces.ensures ∙ ap pieces_of c.first_bytes.ensures in
    subst (λ ps. sizes ps ≤ 65535) (sym is) (sizes_within c.args.bytes.now).0

pub returns-clause-does : goal.returns-clause-does
returns-clause-does c = λ course h.
    let is : c.in_ok-pieces.pieces.items ≡ pieces_of (take 65535 c.args.bytes.now) = c.in_ok-pieces.ensures ∙ ap pieces_of c.first_bytes.ensures in
    has_put c.args.line course (pieces_of (take 65535 c.args.bytes.now)) c.read-progress.new.self c.read-progress.result c.answer.result c.read-progress.new.out
    (some_pieces c.args.bytes.now (omega (arith, eqb-false (length c.args.bytes.now) 0 (sym c.is_empty.ensures ∙ c.if-is_empty.false))))
    (subst (λ ps. HasRead (reads_all c.args.line ps course) c.read-progress.new.self c.read-progress.result c.read-progress.new.out) is (c.read-progress.ensures.reads course (c.reserve.ensures.does c.args.out.now course h)))
    c.answer.ensures.value

pub returns-clause-same : goal.returns-clause-same
returns-clause-same c = same_then c.args.self.now c.reserve.new.self c.read-progress.new.self c.reserve.ensures.same c.read-progress.ensures.same

pub returns-clause-put : goal.returns-clause-put
returns-clause-put c =
    let is : c.in_ok-pieces.pieces.items ≡ pieces_of (take 65535 c.args.bytes.now) = c.in_ok-pieces.ensures ∙ ap pieces_of c.first_bytes.ensures in
    c.answer.ensures.put c.args.line c.args.bytes.now (omega (arith, c.read-progress.ensures.count, ap sizes is, (sizes_within c.args.bytes.now).1))

nil_of : (xs : List ℕ) → length xs ≡ 0 → xs ≡ []
nil_of [] h = refl
nil_of (x ∷ xs) h = absurd (omega arith)

pub returns-then-is_empty-clause-does : goal.returns-then-is_empty-clause-does
returns-then-is_empty-clause-does c =
    let none : c.args.bytes.now ≡ [] = nil_of c.args.bytes.now (eqb-true (length c.args.bytes.now) 0 (sym c.is_empty.ensures ∙ c.if-is_empty.true)) in
    subst (λ (bytes : List ℕ). Simulates (puts c.args.line bytes) c.args.self.now c.put_nothing.new.self c.put_nothing.result c.args.out.now c.put_nothing.new.out) (sym none) c.put_nothing.ensures.does

pub put_nothing-requires-clause-none : goal.put_nothing-requires-clause-none
put_nothing-requires-clause-none c = grind (arith, common_steps)
