use Rattle.std.proofs.Common.{◌≡◌, ◌+◌, ◌≤◌, [], length, IsTrue}
use Rattle.lat_server.specs.Kept.{HasSpare}
use Rattle.lat_switch.specs.Kept.{IsValid, IsSame}
use Rattle.lat_switch.specs.Pieces.{sizes}
use Rattle.lat_switch.specs.Progress.{ReadsOn}
use Rattle.lat_switch.specs.Reading.{reads_all}
use Rattle.lat_switch.specs.Stands.{HasCome}
use Rattle.lat_switch.specs.Switch.{Course}
use Rattle.lat_switch.proofs.switch.SwitchCore.read.Given as goal

abbrev pub decreases-loop-piece : goal.decreases-loop-piece
decreases-loop-piece l = length l.pieces.items

abbrev pub invariant-loop-piece : goal.invariant-loop-piece
invariant-loop-piece l = record {
  valid : IsValid l.self;
  same : IsSame l.initial.self l.self;
  empty : IsTrue l.progress.goes_on → l.out ≡ [];
  memory : IsTrue l.progress.goes_on → HasSpare 1 l.self.inner;
  size : l.progress.count + sizes l.pieces.items ≤ sizes l.initial.pieces.items;
  reads : (c : Course) → HasCome c l.initial.self l.initial.out → ReadsOn l.line (reads_all l.line l.initial.pieces.items c) l.pieces.items l.self l.progress l.out;
}
