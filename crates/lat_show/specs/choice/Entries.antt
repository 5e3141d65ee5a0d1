-- What a line of the input says.
use Rattle.std.specs.Prelude.{ℕ, List, Option, Some, None, option_and_then, nat_lt, bytes_eq, codes, if◌then◌else◌}
use Rattle.lat_show.specs.declared.choice.entry.Entry.{Entry}
use Rattle.lat_show.specs.declared.choice.entry.Entry.TheVariants.{Hear, Best}
use Rattle.lat_text.specs.Words.{first_word}
use Rattle.lat_text.specs.Numbers.{moment_of}
use Rattle.lat_text.specs.Digits.{address_of, mask_of, payload_of}
use Rattle.lat_text.specs.NameWritten.{name_of}
use Rattle.lat_show.specs.choice.Announced.{announcement_read}

-- what stands behind is read where this is right
infixl 10 ◌>>=◌
abbrev pub ◌>>=◌ : {A B : Type 0} → Option A → (A → Option B) → Option B
found >>= f = option_and_then f found

-- behind `hear `: `T ADDR HEX`, a moment, the address of a station and the payload that is heard from it
abbrev pub hear_of : List ℕ → Option Entry
hear_of text = do
  first ← first_word text
  second ← first_word first.1
  at ← moment_of first.0
  from ← address_of second.0
  payload ← payload_of second.1
  Some (Hear at from (announcement_read payload))

-- behind `best `: `T NAME`, a moment and a service
abbrev pub best_of : List ℕ → Option Entry
best_of text = do
  first ← first_word text
  at ← moment_of first.0
  service ← name_of first.1
  Some (Best at service)

-- an entry: `hear T ADDR HEX` or `best T NAME`
abbrev pub entry_of : List ℕ → Option Entry
entry_of line = do
  first ← first_word line
  if bytes_eq first.0 (codes "hear") then hear_of first.1 else if bytes_eq first.0 (codes "best") then best_of first.1 else None

-- `groups HEX`: the mask of the groups that are listened to
abbrev pub groups_of : List ℕ → Option (List ℕ)
groups_of line = do
  first ← first_word line
  if bytes_eq first.0 (codes "groups") then mask_of first.1 else None

-- the moment of an entry
abbrev pub moment : Entry → ℕ
moment (Hear at from found) = at
moment (Best at service) = at

abbrev pub unless_below : ℕ → Entry → Option Entry
unless_below last entry = if nat_lt (moment entry) last then None else Some entry

-- an entry whose moment isn't below that of the line before
abbrev pub entry_from : ℕ → List ℕ → Option Entry
entry_from last line = option_and_then (unless_below last) (entry_of line)
