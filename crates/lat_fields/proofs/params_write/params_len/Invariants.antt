use Rattle.std.proofs.Common.{◌≡◌, ◌+◌, ◌-◌, ◌^◌, length, take, min}
use Rattle.std.specs.List.{flat_map}
use Rattle.lat_fields.specs.Params.{entry_text}
use Rattle.lat_fields.proofs.params_write.params_len.Given as goal

abbrev pub invariant-loop-entry : goal.invariant-loop-entry
invariant-loop-entry l = l.len ≡ min (length (flat_map entry_text (take l.entry-index l.entry-items)) + 1) (2 ^ 64 - 1)
