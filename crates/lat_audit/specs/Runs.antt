-- What a RUN says of its circuit.
use Rattle.std.specs.Prelude.{ℕ, ◌/◌, Bool, false, List, [], ◌∷◌, Option, option_map, nat_eq}
use Rattle.lat_frames.specs.declared.kind.MessageKind.TheVariants.{WideRun}
use Rattle.lat_frames.specs.Kinds.{bits_of}
use Rattle.lat_machines.specs.values.Frames.{Value}
use Rattle.lat_captures.specs.Captured.{RunHead, run_head_of}
use Rattle.lat_audit.specs.declared.run_seen.RunSeen.{RunSeen}

-- whether a payload of the type of a RUN is wide
abbrev pub is_wide : List ℕ → Bool
is_wide [] = false
is_wide (first ∷ rest) = nat_eq (first / 4) (bits_of WideRun)

abbrev pub seen_of : RunHead → RunSeen
seen_of k = record { wide = k.wide; to = k.head.to; from = k.head.from }

-- None of any other value
abbrev pub run_seen : Value → Option RunSeen
run_seen v = option_map seen_of (run_head_of v)
