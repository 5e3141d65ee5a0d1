use Rattle.std.proofs.Common.{◌≡◌, drop, map}
use Rattle.std.specs.Prelude.{None, option_map}
use Rattle.lat_wire.specs.Notes.{note_shown}
use Rattle.lat_cmd.specs.Befores.{last_refusal, refusal_info}
use Rattle.lat_cmd.proofs.before.last_refusal.Given as goal

abbrev pub invariant-loop-note : goal.invariant-loop-note
invariant-loop-note l =
    last_refusal (map note_shown l.notes) None ≡ last_refusal (map note_shown (drop l.note-index l.notes)) (option_map refusal_info l.found)
