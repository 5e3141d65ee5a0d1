use Rattle.std.proofs.Common.{◌≡◌, List, [], ◌∷◌, ◌++◌, refl, ap, subst, ◌∙◌, arith, length}
use Rattle.std.specs.Prelude.{option_to_list}
use Rattle.lat_switch.specs.declared.piece.Piece.{Piece}
use Rattle.lat_switch.specs.Pieces.{sizes}
use Rattle.lat_switch.specs.Progress.{ReadsOn}
use Rattle.lat_switch.specs.Reading.{starts, reads_all}
use Rattle.lat_switch.proofs.Courses.{same_itself, same_then, reads_on, read_all}
use Rattle.lat_switch.proofs.switch.SwitchCore.read.Goals as goal

nil_of : (ps : List Piece) → length ps ≡ 0 → ps ≡ []
nil_of [] h = refl
nil_of (p ∷ ps) h = absurd (omega arith)

pub loop-piece-init : goal.loop-piece-init
loop-piece-init c = record {
  valid = c.requires.valid;
  same = same_itself c.args.self.now;
  empty = λ t. c.requires.empty;
  memory = λ t. c.requires.memory;
  size = omega arith;
  reads = λ course h. record {
    reading = starts course;
    has = record { course = h; count = refl; goes_on = refl; refused = refl };
    leads = refl;
  };
}

pub read_piece-progress-requires-clause-size : goal.read_piece-progress-requires-clause-size
read_piece-progress-requires-clause-size c =
    let q : c.loop-piece.pieces.items ≡ c.in-Some.piece ∷ c.pop_front.new.self.items = c.pop_front.ensures.items ∙ ap (λ o. option_to_list o ++ c.pop_front.new.self.items) c.in-Some.is in
    omega (arith, ap sizes q, c.loop-piece.invariant.size, c.requires.size)

pub loop-piece-preserved : goal.loop-piece-preserved
loop-piece-preserved c =
    let q : c.loop-piece.pieces.items ≡ c.in-Some.piece ∷ c.pop_front.new.self.items = c.pop_front.ensures.items ∙ ap (λ o. option_to_list o ++ c.pop_front.new.self.items) c.in-Some.is in
    record {
      valid = c.read_piece-progress.ensures.valid;
      same = same_then c.args.self.now c.loop-piece.self c.read_piece-progress.new.self c.loop-piece.invariant.same c.read_piece-progress.ensures.same;
      empty = c.read_piece-progress.ensures.quiet;
      memory = c.read_piece-progress.ensures.memory;
      size = omega (arith, ap sizes q, c.loop-piece.invariant.size, c.read_piece-progress.ensures.count);
      reads = λ course h.
          reads_on c.args.line (reads_all c.args.line c.args.pieces.items course) c.in-Some.piece c.pop_front.new.self.items c.loop-piece.self c.read_piece-progress.new.self c.loop-piece.progress c.read_piece-progress.result c.loop-piece.out c.read_piece-progress.new.out
          (subst (λ ps. ReadsOn c.args.line (reads_all c.args.line c.args.pieces.items course) ps c.loop-piece.self c.loop-piece.progress c.loop-piece.out) q (c.loop-piece.invariant.reads course h))
          c.read_piece-progress.ensures.reads;
    }

pub returns-clause-reads : goal.returns-clause-reads
returns-clause-reads c = λ course h.
    let none : c.loop-piece.pieces.items ≡ [] = (let empty = rw c.in_default.is at c.pop_front.ensures.cases in nil_of c.loop-piece.pieces.items (omega (arith, empty.0))) in
    read_all c.args.line (reads_all c.args.line c.args.pieces.items course) c.loop-piece.self c.loop-piece.progress c.loop-piece.out
    (subst (λ ps. ReadsOn c.args.line (reads_all c.args.line c.args.pieces.items course) ps c.loop-piece.self c.loop-piece.progress c.loop-piece.out) none (c.loop-piece.invariant.reads course h))
