use Rattle.std.proofs.Common.{◌≡◌, map, drop}
use Rattle.lat_words.specs.Options.{each_from, none}
use Rattle.lat_words.specs.Offers.{with_offer}
use Rattle.lat_words.specs.Within.{AreOffers}
use Rattle.lat_words.proofs.offers.said_offers.Given as goal

abbrev pub invariant-loop-i : goal.invariant-loop-i
invariant-loop-i l = record {
  left : each_from (with_offer l.fn.lines) 0 none (map (λ t. t.now) l.texts)
      ≡ each_from (with_offer l.fn.lines) l.i l.got (map (λ t. t.now) (drop l.i l.texts));
  offers : AreOffers l.fn.lines l.got.items;
}
