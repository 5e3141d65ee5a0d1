-- Which states of the server machine a server stands for.
use Rattle.std.specs.Prelude.{◌≡◌, List, map}
use Rattle.lat_base.specs.declared.answer.Answer.{Answer}
use Rattle.lat_base.specs.declared.event.Event.{Event}
use Rattle.lat_base.specs.declared.outbox.OutFrame.{OutFrame}
use Rattle.lat_model.specs.Lists.{Each}
use Rattle.lat_machines.specs.server.Server.{ServerConfig, Server, ServerStep, open_server, server_step}
use Rattle.lat_dir.specs.Stands as dir
use Rattle.lat_queue.specs.Histories as queue
use Rattle.lat_circuit.specs.Frames.{frame_view}
use Rattle.lat_payload.specs.Frames.{expected, IsReadable}
use Rattle.lat_lines.specs.AnswerValues.{answer_of}
use Rattle.lat_lines.specs.Events.{event_shown}
use Rattle.lat_lines.specs.Stands as lines
use Rattle.lat_server.specs.Gates as gates
use Rattle.lat_server.specs.Kept.{Kept, config_of}
use Rattle.lat_server.specs.Concluded.{Concluded}

-- a server stands for a state of the machine
pub record Stands (k : Kept) (s : Server) : Type 0 where
  pub lines : lines.Stands k.lines s.core
  pub directory : dir.Stands k.directory s.heard
  pub queue : queue.Stands k.queue s.queue
  pub solicits : k.solicits ≡ s.solicits
  pub gate : gates.StandsFor k.gate s.halted s.ready
  pub concluded : Concluded s.core s.queue

-- the machine of a configuration, and its state
pub record Machine : Type 0 where
  pub config : ServerConfig
  pub state : Server

-- the machine as it is made
abbrev pub IsMade : Machine → Type 0
IsMade m = m.state ≡ open_server m.config

abbrev pub opening : Kept → Machine
opening k = record { config = config_of k; state = open_server (config_of k) }

pub record IsMachine (k : Kept) (m : Machine) : Type 0 where
  pub config : m.config ≡ config_of k
  pub state : Stands k m.state

abbrev pub stepped : Machine → Event → ServerStep
stepped m e = server_step m.config m.state (event_shown e)

abbrev pub next : Machine → Event → Machine
next m e = record { config = m.config; state = (stepped m e).state }

abbrev pub answered : Machine → Event → Answer
answered m e = answer_of (stepped m e).answer

-- the frames that go out: those of the machine, and each of them is readable
pub record Frames (m : Machine) (e : Event) (frames : List OutFrame) : Type 0 where
  pub same : map frame_view frames ≡ map expected (stepped m e).frames
  pub readable : Each IsReadable (stepped m e).frames
