use Rattle.std.proofs.Common.{◌≡◌, ◌++◌, string_bytes, take}
use Rattle.std.specs.List.{flat_map}
use Rattle.lat_replay.specs.Notes.{note_line}
use Rattle.lat_replay.proofs.notes.notes_onto.Given as goal

abbrev pub invariant-loop-note : goal.invariant-loop-note
invariant-loop-note l = string_bytes l.out ≡ string_bytes l.initial.out ++ flat_map note_line (take l.note-index l.notes)
