-- What is kept of the lines of a core.
use Rattle.std.specs.Prelude.{◌≡◌, ℕ, ◌≤◌, ◌≢◌, List, [], ◌∷◌, map, length, Option, None}
use Rattle.lat_base.specs.declared.book.LineSession.{LineSession}
use Rattle.lat_model.specs.Lists.{Each}
use Rattle.lat_machines.specs.cores.Cores.{Side}
use Rattle.lat_queue.specs.declared.key.Key.{Key}
use Rattle.lat_lines.specs.circuits.Kept as circuits
use Rattle.lat_lines.specs.declared.seat.Seat.{Seat}

pub record Kept : Type 0 where
  pub lines : ℕ
  pub circuits : circuits.Kept
  pub seats : List Seat  -- the sessions that lines have, in the order of connecting or accepting
  pub last : List (Option LineSession)  -- by line, the last one that is over
  pub made : ℕ  -- how many there ever were, up to the greatest number of 64 bits
  pub finished : ℕ  -- how many of them are over, up to the greatest number of 32 bits
  pub freed : List Key  -- of the requests whose sessions became free in the last act, in the same order

abbrev pub side_of : Kept → Side
side_of k = circuits.side_of k.circuits

-- the same core with the same lines
pub record SameLines (old new : Kept) : Type 0 where
  pub lines : new.lines ≡ old.lines
  pub core : circuits.SameCore old.circuits new.circuits

-- no line has two sessions
abbrev pub Apart : List ℕ → Type 0
Apart [] = Unit {0}
Apart (x ∷ xs) = Each (λ y. y ≢ x) xs × Apart xs

abbrev pub IsLine : ℕ → ℕ → Type 0
IsLine lines line = (1 ≤ line) × (line ≤ lines)

pub record Holds (k : Kept) : Type 0 where
  pub lines : (1 ≤ k.lines) × (k.lines ≤ 64)
  pub each : Each (λ (s : Seat). IsLine k.lines s.line) k.seats
  pub apart : Apart (map (λ (s : Seat). s.line) k.seats)
  pub unended : Each (λ (s : Seat). s.session.end ≡ None) k.seats
  pub last : length k.last ≡ k.lines
