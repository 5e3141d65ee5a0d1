use Rattle.std.proofs.Common.{◌≡◌, ◌-◌, ◌≤◌, length, take}
use Rattle.lat_words.specs.NameTexts.{bytes_written}
use Rattle.lat_words.proofs.NameTexts.{with_front}
use Rattle.lat_words.proofs.name_texts.named.Given as goal

abbrev pub invariant-loop-rest : goal.invariant-loop-rest
invariant-loop-rest l =
    record {
      written : bytes_written 16 l.text ≡ with_front (take l.count l.place) (bytes_written (16 - l.count) l.rest);
      most : l.count ≤ 16;
      full : length l.place ≡ 16;
    }

abbrev pub decreases-loop-rest : goal.decreases-loop-rest
decreases-loop-rest l = length l.rest
