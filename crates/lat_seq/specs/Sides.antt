-- What the two sides of a direction keep, and the unbounded numbers that they stand for.
use Rattle.std.specs.Prelude.{◌≡◌, ℕ, ◌+◌, ◌-◌, ◌*◌, ◌<◌, ◌≤◌}
use Rattle.lat_seq.specs.Spans.{half, field}
use Rattle.lat_seq.specs.declared.span.Span.{Span}
use Rattle.lat_seq.specs.declared.sending.AckFact.{AckFact}
use Rattle.lat_seq.specs.declared.sending.AckFact.TheVariants.{New, Old, Unsent}

-- the side that forms messages
pub record Sending : Type 0 where
  pub span : Span
  pub window : ℕ
  pub known : ℕ  -- the field of the last message known to be taken
  pub unacknowledged : ℕ

-- the side that takes messages
pub record Receiving : Type 0 where
  pub span : Span
  pub last : ℕ  -- the field of the last message taken

-- what always holds of a side that forms messages
pub record Holds (span : Span) (window : ℕ) (known : ℕ) (unacknowledged : ℕ) : Type 0 where
  pub some : 1 ≤ window
  pub most : window ≤ 8
  pub few : unacknowledged ≤ window
  pub small : known < 2 * half span

-- the side has formed `sent` messages, of which it knows the first `known` to be taken
pub record Sends (side : Sending) (sent : ℕ) (known : ℕ) : Type 0 where
  pub field_known : side.known ≡ field side.span known
  pub behind : known + side.unacknowledged ≡ sent
  pub few : side.unacknowledged ≤ side.window

-- the side has taken `taken` messages
abbrev pub Takes : Receiving → ℕ → Type 0
Takes side taken = side.last ≡ field side.span taken

-- the side after this acknowledgement
abbrev pub after_ack : Sending → ℕ → AckFact → Sending
after_ack side ack (New d) = record side { known = ack; unacknowledged = side.unacknowledged - d }
after_ack side ack Old = side
after_ack side ack Unsent = side
