use Rattle.std.proofs.Common.{◌≡◌, ◌++◌, take, string_bytes}
use Rattle.std.specs.List.{flat_map}
use Rattle.lat_dump.specs.Printed.{frame_printed}
use Rattle.lat_dump.proofs.print.frames_onto.Given as goal

abbrev pub invariant-loop-frame : goal.invariant-loop-frame
invariant-loop-frame l = string_bytes l.text ≡ string_bytes l.initial.text ++ flat_map frame_printed (take l.frame-index l.frames)
