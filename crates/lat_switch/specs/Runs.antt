-- A switch over many events: its server does the inner events of all of them, in order.
use Rattle.std.specs.Prelude.{◌≡◌, List, [], ◌∷◌, ◌++◌, fold}
use Rattle.lat_base.specs.declared.event.Event.{Event}
use Rattle.lat_machines.specs.values.Frames.{OutFrame}
use Rattle.lat_server.specs.Stands as server
use Rattle.lat_server.specs.Stands.{Machine, stepped}
use Rattle.lat_switch.specs.Switch.{Switch}
use Rattle.lat_switch.specs.Steps.{switch_step}
use Rattle.lat_switch.specs.Core.{next}

-- a server after events, and all its frames
abbrev pub server_run : Machine → List Event → Machine
server_run m es = fold server.next m es

abbrev pub server_frames : Machine → List Event → List OutFrame
server_frames m [] = []
server_frames m (e ∷ es) = (stepped m e).frames ++ server_frames (server.next m e) es

-- a switch after events, all their inner events, and all its frames
abbrev pub switch_run : Switch → List Event → Switch
switch_run s es = fold next s es

abbrev pub inner_events : Switch → List Event → List Event
inner_events s [] = []
inner_events s (e ∷ es) = (switch_step s e).course.events ++ inner_events (next s e) es

abbrev pub switch_frames : Switch → List Event → List OutFrame
switch_frames s [] = []
switch_frames s (e ∷ es) = (switch_step s e).course.frames ++ switch_frames (next s e) es

pub record IsRun (s : Switch) (es : List Event) : Type 0 where
  pub state : (switch_run s es).inner ≡ server_run s.inner (inner_events s es)
  pub frames : switch_frames s es ≡ server_frames s.inner (inner_events s es)

abbrev pub InnerEventsAreARun : Type 0
InnerEventsAreARun = (s : Switch) (es : List Event) → IsRun s es
