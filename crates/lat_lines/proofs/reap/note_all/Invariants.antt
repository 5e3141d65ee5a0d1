use Rattle.std.proofs.Common.{◌≡◌, ◌≤◌, ◌+◌, length, drop, vec_len, vec_capacity}
use Rattle.lat_lines.specs.Looks.{last_after, finished_after, freed_after}
use Rattle.lat_lines.proofs.reap.note_all.Given as goal

-- what the rest will leave is what all of them leave
abbrev pub invariant-loop-seat : goal.invariant-loop-seat
invariant-loop-seat l = record {
  last : last_after (drop l.seat-index l.seats) l.last ≡ last_after l.seats l.initial.last;
  places : length l.last ≡ length l.initial.last;
  finished : finished_after (drop l.seat-index l.seats) l.finished ≡ finished_after l.seats l.initial.finished;
  freed : freed_after (drop l.seat-index l.seats) l.freed.items ≡ freed_after l.seats l.initial.freed.items;
  capacity : vec_capacity l.freed ≡ vec_capacity l.initial.freed;
  room : vec_len l.freed ≤ vec_len l.initial.freed + l.seat-index;
}
