-- A switch as a core.
use Rattle.std.specs.Prelude.{◌≡◌, ℕ, ◌*◌, cond, List, [], map, length, Option, Some, None}
use Rattle.lat_base.specs.declared.answer.Answer.{Answer}
use Rattle.lat_base.specs.declared.event.Event.{Event}
use Rattle.lat_base.specs.declared.outbox.OutFrame.{OutFrame}
use Rattle.lat_model.specs.Lists.{Each}
use Rattle.lat_machines.specs.cores.Lines.{line_exists}
use Rattle.lat_circuit.specs.Frames.{frame_view}
use Rattle.lat_payload.specs.Frames.{expected, IsReadable}
use Rattle.lat_lines.specs.Answers as answers
use Rattle.lat_lines.specs.Kept as kept
use Rattle.lat_server.specs.Stands as server
use Rattle.lat_switch.specs.Lines.{Line, opened_lines}
use Rattle.lat_switch.specs.Switch.{Switch, line_in}
use Rattle.lat_switch.specs.Steps.{switch_step}
use Rattle.lat_switch.specs.Kept.{Kept}

-- as a switch is made: its server has four lines for each of its own, and no offers
pub record IsMade (s : Switch) : Type 0 where
  pub inner : server.IsMade s.inner
  pub count : s.inner.config.lines ≡ 4 * length s.lines
  pub offers : s.inner.config.offers ≡ []
  pub lines : s.lines ≡ opened_lines (length s.lines)

abbrev pub opening : Kept → Switch
opening k = record { inner = server.opening k.inner; lines = opened_lines (length k.lines) }

abbrev pub next : Switch → Event → Switch
next s e = (switch_step s e).course.state

abbrev pub answered : Switch → Event → Answer
answered s e = (switch_step s e).answer

-- the frames that go out: those of all inner events in order, and each of them is readable
pub record Frames (s : Switch) (e : Event) (frames : List OutFrame) : Type 0 where
  pub same : map frame_view frames ≡ map expected (switch_step s e).course.frames
  pub readable : Each IsReadable (switch_step s e).course.frames

-- the inner line that a line shows; None where there is no such line
abbrev pub shown_in : ℕ → List Line → Option ℕ
shown_in k lines = cond (line_exists (length lines) k) (Some (line_in k lines).shown) None

-- how many heard items a take on a line could get
abbrev pub ready_at : kept.Kept → Option ℕ → ℕ
ready_at k None = 0
ready_at k (Some x) = answers.ready k x

abbrev pub ready : Kept → ℕ → ℕ
ready k line = ready_at k.inner.lines (shown_in line k.lines)
