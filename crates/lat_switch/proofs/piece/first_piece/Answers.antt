use Rattle.std.proofs.Common.{◌≡◌, ◌<◌, ◌∷◌, ℕ, sym, ap, ◌∙◌, arith, drop}
use Rattle.std.specs.List.{position_or_len}
use Rattle.lat_switch.specs.declared.piece.Piece.TheVariants as pieces
use Rattle.lat_switch.specs.Pieces.{is_key, pieces_of}
use Rattle.lat_switch.proofs.Pieces.{first_run, run_is, some_run}
use Rattle.lat_switch.proofs.piece.first_piece.Goals as goal

pub returns-clause-some : goal.returns-clause-some
returns-clause-some c =
    let e : c.run_length-length.result ≡ position_or_len is_key c.args.bytes.now = c.run_length-length.ensures.value ∙ run_is c.args.bytes.now in
    let some : 0 < position_or_len is_key c.args.bytes.now = some_run c.args.bytes.now c.requires (omega arith) (omega arith) in
    omega (arith, e, some)

pub returns-clause-value : goal.returns-clause-value
returns-clause-value c =
    let n : ℕ = c.run_length-length.result in
    let e : n ≡ position_or_len is_key c.args.bytes.now = c.run_length-length.ensures.value ∙ run_is c.args.bytes.now in
    let some : 0 < position_or_len is_key c.args.bytes.now = some_run c.args.bytes.now c.requires (omega arith) (omega arith) in
    first_run c.args.bytes.now n e (omega (arith, e, some)) ∙ ap (λ bytes. pieces.Run bytes ∷ pieces_of (drop n c.args.bytes.now)) (sym c.in_ok-copy.ensures)
