-- Which states a switch stands for.
use Rattle.std.specs.Prelude.{◌≡◌, List, []}
use Rattle.lat_base.specs.declared.answer.Answer.{Answer}
use Rattle.lat_base.specs.declared.outbox.OutFrame.{OutFrame}
use Rattle.lat_payload.specs.Frames.{Emits}
use Rattle.lat_server.specs.Stands.{IsMachine}
use Rattle.lat_switch.specs.Switch.{Switch, Course, Step}
use Rattle.lat_switch.specs.Kept.{Kept}

pub record Stands (k : Kept) (s : Switch) : Type 0 where
  pub inner : IsMachine k.inner s.inner
  pub lines : k.lines ≡ s.lines

-- what was done so far, and its frames have gone out
pub record HasCome (c : Course) (k : Kept) (out : List OutFrame) : Type 0 where
  pub state : Stands k c.state
  pub frames : Emits c.frames [] out

abbrev pub GoesAlong : (Course → Course) → (old new : Kept) → (before after : List OutFrame) → Type 0
GoesAlong f old new before after = (c : Course) → HasCome c old before → HasCome (f c) new after

-- all was done, and answered so
pub record HasDone (t : Step) (k : Kept) (answer : Answer) (out : List OutFrame) : Type 0 where
  pub course : HasCome t.course k out
  pub answered : answer ≡ t.answer

abbrev pub Simulates : (Course → Step) → (old new : Kept) → Answer → (before after : List OutFrame) → Type 0
Simulates f old new answer before after = (c : Course) → HasCome c old before → HasDone (f c) new answer after
