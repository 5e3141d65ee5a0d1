-- An event of a switch, as the core's clauses say it.
use Rattle.std.proofs.Common.{◌≡◌, ℕ, List, [], length, ap, ◌∙◌}
use Rattle.lat_base.specs.declared.answer.Answer.{Answer}
use Rattle.lat_base.specs.declared.event.Event.{Event}
use Rattle.lat_base.specs.declared.outbox.OutFrame.{OutFrame}
use Rattle.lat_server.specs.Stands as server
use Rattle.lat_server.specs.Stands.{Machine}
use Rattle.lat_switch.specs.Core.{opening, next, answered, Frames}
use Rattle.lat_switch.specs.Kept.{Kept, IsSame}
use Rattle.lat_switch.specs.Lines.{opened_lines}
use Rattle.lat_switch.specs.Stands.{Stands, Simulates}
use Rattle.lat_switch.specs.Steps.{does}
use Rattle.lat_switch.specs.Switch.{Switch, begins}
use Rattle.lat_switch.proofs.Courses.{came_out}

pub step_state : (e : Event) (old new : Kept) (a : Answer) (out sent : List OutFrame) → out ≡ [] → Simulates (does e) old new a out sent → (s : Switch) → Stands old s → Stands new (next s e)
step_state e old new a out sent empty d s h = (d (begins s) (came_out old s out empty h)).course.state

pub step_answer : (e : Event) (old new : Kept) (a : Answer) (out sent : List OutFrame) → out ≡ [] → Simulates (does e) old new a out sent → (s : Switch) → Stands old s → a ≡ answered s e
step_answer e old new a out sent empty d s h = (d (begins s) (came_out old s out empty h)).answered

pub step_frames : (e : Event) (old new : Kept) (a : Answer) (out sent : List OutFrame) → out ≡ [] → Simulates (does e) old new a out sent → (s : Switch) → Stands old s → Frames s e sent
step_frames e old new a out sent empty d s h = record {
  same = (d (begins s) (came_out old s out empty h)).course.frames.same;
  readable = (d (begins s) (came_out old s out empty h)).course.frames.readable;
}

pub same_opening : (old new : Kept) → IsSame old new → opening new ≡ opening old
same_opening old new s =
    let by_machine : Machine → Switch = λ m. record { inner = m; lines = opened_lines (length new.lines) } in
    let by_count : ℕ → Switch = λ n. record { inner = server.opening old.inner; lines = opened_lines n } in
    ap by_machine s.opening ∙ ap by_count s.lines
