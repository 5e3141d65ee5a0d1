use Rattle.std.proofs.Common.{rules}
use Rattle.lat_switch.proofs.step.SwitchCoreCore.look.Goals as goal

pub returns-in-Some-clause-waiting : goal.returns-in-Some-clause-waiting
returns-in-Some-clause-waiting c = search rules

pub returns-in-Some-clause-state : goal.returns-in-Some-clause-state
returns-in-Some-clause-state c = search rules
