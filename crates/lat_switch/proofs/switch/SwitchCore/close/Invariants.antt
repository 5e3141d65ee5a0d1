use Rattle.std.proofs.Common.{◌≡◌, ◌+◌, [], map, drop}
use Rattle.lat_lines.specs.Answers.{IsPlain}
use Rattle.lat_switch.specs.Calls.{closes}
use Rattle.lat_switch.specs.Kept.{IsValid, IsSame}
use Rattle.lat_switch.specs.Progress.{ClosesOn}
use Rattle.lat_switch.specs.Stands.{HasCome}
use Rattle.lat_switch.specs.Switch.{Course}
use Rattle.lat_switch.proofs.Lines.{places}
use Rattle.lat_switch.proofs.switch.SwitchCore.close.Given as goal

abbrev pub invariant-loop-place : goal.invariant-loop-place
invariant-loop-place l = record {
  valid : IsValid l.self;
  same : IsSame l.initial.self l.self;
  empty : l.out ≡ [];
  plain : IsPlain l.answer;
  closes : (c : Course) → HasCome c l.initial.self l.initial.out → ClosesOn (closes l.line c) (map (λ i. l.first + i) (drop l.place places)) l.self l.answer l.out;
}
