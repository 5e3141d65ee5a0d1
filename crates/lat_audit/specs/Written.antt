-- The text that is written of a capture.
use Rattle.std.specs.Prelude.{ℕ, ◌≤◌, Bool, List, [], ◌∷◌, ◌++◌, length, codes, decimal, if◌then◌else◌}
use Rattle.std.specs.List.{flat_map}
use Rattle.hex.specs.Hex.{IsBytes}
use Rattle.lat_text.specs.HexText.{hex_text}
use Rattle.lat_text.specs.Line.{line}
use Rattle.lat_captures.specs.declared.head.Title.{Title}
use Rattle.lat_audit.specs.declared.entry.Entry.{Entry}

-- how long message numbers are
abbrev pub span_text : Bool → List ℕ
span_text wide = if wide then codes "word" else codes "byte"

-- the first line: the ids of the circuit at the master and at the slave
abbrev pub title_text : Title → List ℕ
title_text t =
    line (codes "circuit " ∷ decimal t.master ∷ codes " " ∷ decimal t.slave ∷ codes " " ∷ span_text t.wide ∷ [])

abbrev pub side_text : Bool → List ℕ
side_text by_master = if by_master then codes "m" else codes "s"

-- the line of a payload
abbrev pub entry_text : Bool → List ℕ → List ℕ
entry_text by_master payload = line (side_text by_master ∷ codes " " ∷ hex_text payload ∷ [])

abbrev pub entries_text : List Entry → List ℕ
entries_text es = flat_map (λ e. entry_text e.by_master e.payload) es

-- the whole text
abbrev pub capture_text : Title → List Entry → List ℕ
capture_text t es = title_text t ++ entries_text es

-- both ids are ids of circuits
pub record IsTitle (t : Title) : Type 0 where
  pub master : 1 ≤ t.master
  pub master_most : t.master ≤ 65535
  pub slave : 1 ≤ t.slave
  pub slave_most : t.slave ≤ 65535

-- the bytes of a payload, of which a line has room for so many
pub record IsEntry (e : Entry) : Type 0 where
  pub bytes : IsBytes e.payload
  pub few : length e.payload ≤ 4096
