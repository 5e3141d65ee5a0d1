use Rattle.std.proofs.Common.{◌≤◌, ℕ, length, ap, arith}
use Rattle.lat_turns.specs.Lives.{due_of}
use Rattle.lat_turns.proofs.Front.{if_ok}
use Rattle.lat_turns.proofs.acting.write.Goals as goal

pub write_piece-wrote-requires : goal.write_piece-wrote-requires
write_piece-wrote-requires g c = c.first-piece.ensures.most.0

pub wrote-requires-clause-within : goal.wrote-requires-clause-within
wrote-requires-clause-within g c =
    let P : ℕ → Type 0 = λ n. n ≤ length c.first-piece.result.now in
    let Q : ℕ → Type 0 = λ n. (n ≤ length (due_of c.args.desk.now)) × (n ≤ 1024) in
    let most = c.first-piece.ensures.most in
    if_ok P Q (λ n le. (omega (arith, le, most.1, ap length c.due.ensures), omega (arith, le, most.0))) c.write_piece-wrote.result c.write_piece-wrote.ensures.within
