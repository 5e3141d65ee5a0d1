use Rattle.std.proofs.Common.{◌≡◌, take, sym, ◌∙◌, ap, rules}
use Rattle.std.specs.Prelude.{Some, None}
use Rattle.lat_words.specs.Groups.{sign_at, with_piece, with_pieces}
use Rattle.lat_words.proofs.GroupPieces.{piece_next, piece_none, piece_last, pieces}
use Rattle.lat_words.proofs.groups.groups_of.Goals as goal

pub returns-in_err-mask : goal.returns-in_err-mask
returns-in_err-mask c =
    let l = c.loop-comma in
    let at : sign_at 0x2c l.rest.now ≡ Some c.in-Some.comma = search rules in
    let none : with_piece l.mask (take c.in-Some.comma l.rest.now) ≡ None = search rules in
    let ends = l.invariant ∙ piece_none c.in-Some.comma l.mask l.rest.now at none in
    search (rules, ends)

pub loop-comma-preserved : goal.loop-comma-preserved
loop-comma-preserved c =
    let l = c.loop-comma in
    let at : sign_at 0x2c l.rest.now ≡ Some c.in-Some.comma = search rules in
    let piece : with_piece l.mask (take c.in-Some.comma l.rest.now) ≡ Some c.in_ok-mask.mask = search rules in
    let next = l.invariant ∙ piece_next c.in-Some.comma l.mask c.in_ok-mask.mask l.rest.now at piece in
    next ∙ ap (λ t. with_pieces c.in_ok-mask.mask (pieces t)) (sym c.split_at-in-Some.ensures.back)

pub returns : goal.returns
returns c =
    let l = c.loop-comma in
    let at : sign_at 0x2c l.rest.now ≡ None = search rules in
    c.with_piece-2.ensures ∙ sym (l.invariant ∙ piece_last l.mask l.rest.now at)
