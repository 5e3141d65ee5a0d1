use Rattle.std.proofs.Common.{◌≡◌, arith, refl, length, slice_get, Some}
use Rattle.std.proofs.lemmas.Option.{slice_get_read}
use Rattle.lat_wire.specs.ledger.Posts.{post_in}
use Rattle.lat_wire.proofs.ledger.Lists.{map-set_same}
use Rattle.lat_wire.proofs.ledger.Nexts.{map-set_marked}
use Rattle.lat_wire.proofs.ledger.Payloads.{within_set}
use Rattle.lat_wire.proofs.ledger.posts.mark_at.Goals as goal

pub returns-clause-posts : goal.returns-clause-posts
returns-clause-posts c = λ bytes.
    let there : slice_get c.args.rows.now.items c.args.index ≡ Some c.index_mut-row.result.now = slice_get_read c.args.rows.now.items (length c.args.rows.now.items) c.args.index c.index_mut-row.result.now refl (omega (arith, c.requires)) c.index_mut-row.ensures.value in
    map-set_same (post_in bytes) c.args.rows.now.items c.args.index c.index_mut-row.result.now _ there refl

pub returns-clause-within : goal.returns-clause-within
returns-clause-within c = λ bytes h.
    let there : slice_get c.args.rows.now.items c.args.index ≡ Some c.index_mut-row.result.now = slice_get_read c.args.rows.now.items (length c.args.rows.now.items) c.args.index c.index_mut-row.result.now refl (omega (arith, c.requires)) c.index_mut-row.ensures.value in
    within_set bytes c.args.rows.now.items c.args.index c.index_mut-row.result.now _ there refl refl h

pub returns-clause-marks : goal.returns-clause-marks
returns-clause-marks c =
    let there : slice_get c.args.rows.now.items c.args.index ≡ Some c.index_mut-row.result.now = slice_get_read c.args.rows.now.items (length c.args.rows.now.items) c.args.index c.index_mut-row.result.now refl (omega (arith, c.requires)) c.index_mut-row.ensures.value in
    map-set_marked c.args.rows.now.items c.args.index c.index_mut-row.result.now _ there refl
