use Rattle.std.proofs.Common.{◌≡◌, map, drop}
use Rattle.lat_words.specs.Options.{each_from, none}
use Rattle.lat_words.specs.Reader.{with_peer}
use Rattle.lat_words.proofs.reader.peers_in.Given as goal

abbrev pub invariant-loop-i : goal.invariant-loop-i
invariant-loop-i l =
    each_from with_peer 0 none (map (λ t. t.now) l.texts) ≡ each_from with_peer l.i l.got (map (λ t. t.now) (drop l.i l.texts))
