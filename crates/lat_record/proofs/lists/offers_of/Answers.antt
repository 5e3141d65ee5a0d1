use Rattle.std.proofs.Common.{◌≡◌, sym, subst, [], ◌∷◌, ◌++◌, ◌∙◌, rules}
use Rattle.std.specs.Prelude.{Some, None, Ok, Err}
use Rattle.lat_server.specs.Config.{AreOffers}
use Rattle.lat_schedule.specs.Places.{line_at, adds}
use Rattle.lat_schedule.specs.SetupLines.{offer_of}
use Rattle.lat_schedule.proofs.Many.{goes_on, stops, ends}
use Rattle.lat_schedule.proofs.Pushed.{offers_push, adds_one, adds_none}
use Rattle.lat_record.specs.Cursors.{place}
use Rattle.lat_record.proofs.lists.offers_of.Goals as goal

pub returns-in_default-offer_of-clause-value : goal.returns-in_default-offer_of-clause-value
returns-in_default-offer_of-clause-value c =
    let l = c.loop-next in
    let n = c.in-Ok.next in
    let next : Ok (n.number, n.line.now, place n.behind) ≡ line_at (place l.rest) = search rules in
    let none : None ≡ offer_of c.args.lines l.offers n.line.now = search rules in
    stops (adds (offer_of c.args.lines)) l.offers (place l.rest) n.number n.line.now (place n.behind) next (adds_none (offer_of c.args.lines) l.offers n.number n.line.now none) ∙ sym l.invariant.value

pub loop-next-preserved : goal.loop-next-preserved
loop-next-preserved c =
    let l = c.loop-next in
    let n = c.in-Ok.next in
    let next : Ok (n.number, n.line.now, place n.behind) ≡ line_at (place l.rest) = search rules in
    let found : Some c.in-Some.offer ≡ offer_of c.args.lines l.offers n.line.now = search rules in
    let more : c.push.new.self ≡ l.offers ++ c.in-Some.offer ∷ [] = search rules in
    record {
      value = l.invariant.value ∙ goes_on (adds (offer_of c.args.lines)) l.offers c.push.new.self (place l.rest) n.number n.line.now (place n.behind) next (adds_one (offer_of c.args.lines) l.offers n.number n.line.now c.in-Some.offer c.push.new.self found more);
      offers = subst (AreOffers c.args.lines) (sym more) (offers_push c.args.lines l.offers c.in-Some.offer l.invariant.offers c.in-Some.ensures.line (rw c.as_slice.ensures at c.in-Some.ensures.free));
    }

pub returns-clause-value : goal.returns-clause-value
returns-clause-value c =
    let l = c.loop-next in
    let none : Err c.in_default.field-0 ≡ line_at (place l.rest) = search rules in
    ends (adds (offer_of c.args.lines)) l.offers c.in_default.field-0 (place l.rest) none ∙ sym l.invariant.value
