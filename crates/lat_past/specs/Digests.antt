-- What is in memory of a history.
use Rattle.std.specs.Prelude.{◌≡◌, ℕ, ◌<◌, List, length, slice_index}
use Rattle.lat_past.specs.Counts.{bytes_put, items_taken, past_bytes, past_events, past_items}
use Rattle.lat_past.specs.Entries.{KeptView, entries_of, last_fitting}
use Rattle.lat_past.specs.declared.past.Past.{Past}

-- the whole history, how many entries are kept at most, and for how many there is room without memory
pub record HistoryView : Type 0 where
  pub items : List Past
  pub most : ℕ
  pub room : ℕ

-- the counts are those of the history, and its last entries are kept
pub record IsDigest (h : List Past) (count put taken : ℕ) (events bytes items : List ℕ) (kept : KeptView) : Type 0 where
  pub many : count ≡ length h
  pub puts : put ≡ bytes_put h
  pub takes : taken ≡ items_taken h
  pub long : (length events ≡ 256) × (length bytes ≡ 256) × (length items ≡ 256)
  pub seat_events : (seat : ℕ) → seat < 256 → slice_index events seat ≡ past_events seat h
  pub seat_bytes : (seat : ℕ) → seat < 256 → slice_index bytes seat ≡ past_bytes seat h
  pub seat_items : (seat : ℕ) → seat < 256 → slice_index items seat ≡ past_items seat h
  pub last : kept.entries ≡ last_fitting kept.most (entries_of h)
