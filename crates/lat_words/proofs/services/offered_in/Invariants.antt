use Rattle.std.proofs.Common.{◌≡◌, length, map, drop}
use Rattle.lat_words.specs.Options.{each_from, none}
use Rattle.lat_words.specs.Services.{with_service}
use Rattle.lat_words.specs.Within.{AreServices}
use Rattle.lat_words.proofs.services.offered_in.Given as goal

abbrev pub invariant-loop-i : goal.invariant-loop-i
invariant-loop-i l = record {
  left : each_from with_service 0 none (map (λ t. t.now) l.texts) ≡ each_from with_service l.i l.got (map (λ t. t.now) (drop l.i l.texts));
  services : AreServices l.got.items;
  more : length l.got.items ≡ l.i;
}
