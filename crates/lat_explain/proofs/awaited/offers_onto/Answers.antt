use Rattle.std.proofs.Common.{string_bytes, ◌∙◌, arith}
use Rattle.lat_explain.proofs.Offers.{offers_more}
use Rattle.lat_explain.proofs.awaited.offers_onto.Goals as goal

pub loop-place-preserved : goal.loop-place-preserved
loop-place-preserved c =
    let l = c.loop-place in
    l.invariant
    ∙ offers_more c.args.offers.now c.args.lines l.place (string_bytes l.table) (string_bytes c.offer_onto.new.table) (omega (arith, c.loop-place-test.true)) c.in_ok-offer_onto.ensures
