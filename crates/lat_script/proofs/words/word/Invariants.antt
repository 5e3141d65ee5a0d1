use Rattle.std.proofs.Common.{◌≡◌, ◌-◌}
use denote.Text.{Utf8}
use denote.Shadow.{shadow}
use Rattle.lat_script.specs.Words.{word_at}
use Rattle.lat_script.proofs.words.word.Given as goal

-- what is left of the way to the word leads from what is left of the line to it
abbrev pub invariant-loop : goal.invariant-loop
invariant-loop l = shadow (Utf8 l.rest) × (word_at (l.place - l.counter) l.rest ≡ word_at l.place l.line)
