-- What a line of a capture says.
use Rattle.std.specs.Prelude.{ℕ, Bool, true, false, List, Option, Some, None, option_and_then, bytes_eq, codes, if◌then◌else◌}
use Rattle.lat_text.specs.Words.{first_word, behind_word}
use Rattle.lat_text.specs.Numbers.{number_within}
use Rattle.lat_text.specs.Digits.{payload_of}
use Rattle.lat_captures.specs.declared.head.Title.{Title}
use Rattle.lat_audit.specs.declared.entry.Entry.{Entry}

-- what stands behind is read where this is right
infixl 10 ◌>>=◌
abbrev pub ◌>>=◌ : {A B : Type 0} → Option A → (A → Option B) → Option B
found >>= f = option_and_then f found

-- the id of a circuit at one of its ends
abbrev pub id_of : List ℕ → Option ℕ
id_of text = number_within 1 65535 text

-- whether message numbers have two bytes
abbrev pub wide_of : List ℕ → Option Bool
wide_of word = if bytes_eq word (codes "byte") then Some false else if bytes_eq word (codes "word") then Some true else None

-- whether the master sent it
abbrev pub side_of : List ℕ → Option Bool
side_of word = if bytes_eq word (codes "m") then Some true else if bytes_eq word (codes "s") then Some false else None

-- a first line: `circuit P Q SPAN`
abbrev pub title_of : List ℕ → Option Title
title_of line = do
  ids ← behind_word (codes "circuit") line
  first ← first_word ids
  second ← first_word first.1
  master ← id_of first.0
  slave ← id_of second.0
  wide ← wide_of second.1
  Some (record { master = master; slave = slave; wide = wide })

-- a line behind it: `m HEX` or `s HEX`
abbrev pub entry_of : List ℕ → Option Entry
entry_of line = do
  first ← first_word line
  by_master ← side_of first.0
  payload ← payload_of first.1
  Some (record { by_master = by_master; payload = payload })
