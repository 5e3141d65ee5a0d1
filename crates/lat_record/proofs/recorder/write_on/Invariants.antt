use Rattle.std.proofs.Common.{◌≡◌, length, ◌-◌, ◌≤◌, ◌++◌, take}
use Rattle.std.specs.Io.KnownBytes.{Appends}
use Rattle.lat_record.proofs.recorder.write_on.Given as goal

abbrev pub invariant-loop-at : goal.invariant-loop-at
invariant-loop-at g l =
    let k = g.K.Sink in
    record {
      within : l.at ≤ length l.bytes;
      text : l.text.items ≡ l.initial.text.items ++ take l.at l.bytes;
      written : Appends (k.written l.initial.file) (k.written l.file) (take l.at l.bytes);
      later : k.faults l.initial.file ≤ k.faults l.file;
    }

abbrev pub decreases-loop-at : goal.decreases-loop-at
decreases-loop-at g l = length l.bytes - l.at
