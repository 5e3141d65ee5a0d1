-- What is captured of a run of the two machines, as it is printed.
use Rattle.std.specs.Prelude.{◌≡◌, ℕ, List, [], map, Option, Some, None, codes}
use Rattle.hex.specs.Hex.{IsBytes}
use Rattle.lat_machines.specs.values.Frames.{Reading, Whole, Malformed, OutFrame}
use Rattle.lat_machines.specs.world.Machines.{Setups, Machines}
use Rattle.lat_payload.specs.Frames.{payload_of}
use Rattle.lat_payload.specs.Reads.{reading_of}
use Rattle.lat_circuit.specs.Payloads.{slots_as_text}
use Rattle.lat_captures.specs.Entries as captures
use Rattle.lat_captures.specs.Captured.{captured}
use Rattle.lat_captures.specs.Rules.{title_of}
use Rattle.lat_audit.specs.declared.entry.Entry.{Entry}
use Rattle.lat_audit.specs.Written.{capture_text}

-- the payload that is written of what was captured
abbrev pub payload_in : Reading → List ℕ
payload_in (Whole v) = payload_of v
payload_in (Malformed field at) = []

abbrev pub written_of : captures.Entry → Entry
written_of e = record { by_master = e.by_master; payload = payload_in e.reading }

-- the whole text, or the word for none
abbrev pub printed : Option captures.Capture → List ℕ
printed None = codes "none\n"
printed (Some c) = capture_text (title_of c.title) (map written_of c.entries)

-- what is captured of circuit p, with the texts that are written of slots
abbrev pub capture_of : Setups → Machines → ℕ → Option captures.Capture
capture_of u m p = captured slots_as_text u p m

-- A frame as programs send it: bytes, which read as the value that they were written of
pub record GoesOut (f : OutFrame) : Type 0 where
  pub readable : reading_of (payload_of f.value) ≡ Whole f.value
  pub bytes : IsBytes (payload_of f.value)
