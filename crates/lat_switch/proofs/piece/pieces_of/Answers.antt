use Rattle.std.proofs.Common.{◌≡◌, ◌-◌, ◌∷◌, List, ℕ, length, take, drop, ap, subst, arith, length-drop}
use Rattle.std.proofs.lemmas.Grind.{common_steps}
use Rattle.lat_switch.specs.Pieces.{pieces_of}
use Rattle.lat_switch.proofs.Firsts.{pieces_more, rest_is}
use Rattle.lat_switch.proofs.piece.pieces_of.Goals as goal

pub loop-at-preserved : goal.loop-at-preserved
loop-at-preserved c =
    let same : take (length c.args.bytes.now - c.loop-at.at) (drop c.loop-at.at c.args.bytes.now) ≡ drop c.loop-at.at c.args.bytes.now = rest_is c.loop-at.at c.args.bytes.now in
    record {
      within = omega (arith, c.in_ok-piece.ensures.within, ap length same, length-drop c.loop-at.at c.args.bytes.now, c.loop-at.invariant.within);
      pieces = pieces_more c.loop-at.pieces.items c.push_back.new.self.items c.in_ok-piece.piece c.loop-at.at c.in_ok-piece.size c.args.bytes.now c.in_ok-push_back.ensures.items
          (subst (λ (z : List ℕ). pieces_of z ≡ c.in_ok-piece.piece ∷ pieces_of (drop c.in_ok-piece.size z)) same c.in_ok-piece.ensures.value)
          c.loop-at.invariant.pieces;
    }

pub returns : goal.returns
returns c = grind (arith, common_steps)
