-- Which ends of the model a circuit stands for, and what it did.
use Rattle.std.specs.Prelude.{◌≡◌, true, false, List, ◌++◌, map}
use Rattle.lat_base.specs.declared.outbox.OutFrame.{OutFrame}
use Rattle.lat_model.specs.numbers.Link.{fresh}
use Rattle.lat_model.specs.ends.End.{End, Step}
use Rattle.lat_circuit.specs.Links as link
use Rattle.lat_session.specs.Stands as sessions
use Rattle.lat_circuit.specs.declared.moments.Moments.{Moments}
use Rattle.lat_circuit.specs.Kept.{Kept}
use Rattle.lat_circuit.specs.Frames.{frame_sent, AreFormed}

-- the moments of the end
pub record AreMoments (m : Moments) (e : End) : Type 0 where
  pub now : m.now ≡ e.moment
  pub due_at : m.due_at ≡ e.due_at
  pub heard_at : m.heard_at ≡ e.heard_at
  pub sent_at : m.sent_at ≡ e.sent_at
  pub since : m.since ≡ e.since
  pub start_at : m.start_at ≡ e.start_at
  pub empty_at : m.empty_at ≡ e.empty_at

-- The circuit keeps what it is to keep of the end. Before it runs it has no message
pub record Stands (k : Kept) (e : End) : Type 0 where
  pub master : k.facts.master ≡ e.master
  pub peer : k.facts.peer ≡ e.peer
  pub wide : k.facts.wide ≡ e.wide
  pub exists : e.exists ≡ true
  pub running : k.running ≡ e.running
  pub heard_run : k.heard_run ≡ e.heard_run
  pub owed : k.owed ≡ e.owed
  pub ended : k.ended ≡ e.ended
  pub rounds : k.rounds ≡ e.rounds
  pub room : k.room ≡ e.room
  pub window : k.window ≡ e.window
  pub timer : k.timer ≡ e.timer
  pub keepalive : k.keepalive ≡ e.keepalive
  pub moments : AreMoments k.moments e
  pub link : link.Stands k.link e.half.link
  pub sessions : sessions.Stands k.sessions e.half.sessions
  pub calls : e.running ≡ false → e.half.link ≡ fresh

-- The circuit did this step of every end that it stood for, and the frames went out in order, each of them formed. A frame
-- bears what the circuit knew of its peer after the step
abbrev pub Simulates : (End → Step) → (old new : Kept) → (before after : List OutFrame) → Type 0
Simulates step old new before after =
    (e : End) → Stands old e → Stands new (step e).end × (after ≡ before ++ map (frame_sent new.facts) (step e).sent) × AreFormed new.facts (step e).sent
