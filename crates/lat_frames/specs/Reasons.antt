-- Why this program ends circuits, and the numbers that stand for it in a STOP.
use Rattle.std.specs.Prelude.{ℕ}
use Rattle.lat_frames.specs.declared.reason.CircuitEnd.{CircuitEnd}
use Rattle.lat_frames.specs.declared.reason.CircuitEnd.TheVariants.{Broken, NoUse, Halted, NoCircuit, NoAnswer, NoResources}

abbrev pub end_bits : CircuitEnd → ℕ
end_bits Broken = 2
end_bits NoUse = 3
end_bits Halted = 3
end_bits NoCircuit = 5
end_bits NoAnswer = 6
end_bits NoResources = 7
