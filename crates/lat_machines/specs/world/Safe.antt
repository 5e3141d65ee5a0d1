-- What holds of every run of the two machines.
use Rattle.std.specs.Prelude.{◌≡◌, ◌≢◌, ℕ, ◌≤◌, ◌<◌, Bool, true, false, not, List, [], Some, None, slice_get}
use Rattle.lat_model.specs.sessions.Slots.{Slot}
use Rattle.lat_model.specs.sessions.Session.{Session}
use Rattle.lat_model.specs.sessions.Sessions.{of_generation}
use Rattle.lat_model.specs.sessions.Joined.{AsksFrom, asks}
use Rattle.lat_model.specs.numbers.Link.{Link, Frame}
use Rattle.lat_model.specs.numbers.NetOk.{FrameOf}
use Rattle.lat_model.specs.ends.End.{Half}
use Rattle.lat_model.specs.circuits.World.{World}
use Rattle.lat_model.specs.circuits.Events.{WorldEvent, go_on, open_world}
use Rattle.lat_model.specs.circuits.InOrder.{Stream}
use Rattle.lat_model.specs.circuits.History.{History, Credited}
use Rattle.lat_model.specs.circuits.Agree.{Agree}
use Rattle.lat_model.specs.circuits.Together.{flat}
use Rattle.lat_machines.specs.values.Addresses.{everyone}
use Rattle.lat_machines.specs.values.Messages.{RunMessage, WideMessage, StartMessage, StopMessage}
use Rattle.lat_machines.specs.values.Frames.{Value, OfCircuit, OfNotice, Whole, OutFrame}
use Rattle.lat_machines.specs.values.Runs.{slots_in}
use Rattle.lat_machines.specs.server.Queue.{LegalQueue}
use Rattle.lat_machines.specs.values.Events.{Event, Hears}
use Rattle.lat_machines.specs.values.Answers.{Answer, Circuit, Broke}
use Rattle.lat_machines.specs.cores.Cores.{setup_of}
use Rattle.lat_machines.specs.server.Server.{ServerConfig, Server, server_step, offer_on, grantable}
use Rattle.lat_machines.specs.node.Node.{node_step}
use Rattle.lat_machines.specs.world.Machines.{Setups, Posted, Machines, core_of, own_of, tell, is_for_other, heard_as}
use Rattle.lat_machines.specs.world.Young.{link_of, IsYoung}
use Rattle.lat_machines.specs.world.Bears.{BearsMarked}
use Rattle.lat_machines.specs.world.Spans.{both_wide, OneSpan}
use Rattle.lat_machines.specs.world.Ties.{Ties}

-- what the laws ask of two configurations
pub record Fit (u : Setups) : Type 0 where
  pub apart : u.server.own ≢ u.node.own
  pub server_own : u.server.own ≢ everyone
  pub node_own : u.node.own ≢ everyone
  pub server_ceiling : u.server.timing.ceiling ≤ 255
  pub node_ceiling : u.node.timing.ceiling ≤ 255
  pub sessions : 0 < u.server.timing.sessions

abbrev pub circuits_open : Setups → World
circuits_open u = open_world u.server.own u.node.own u.server.first u.node.first (setup_of u.server.timing) (setup_of u.node.timing)

-- a run of the machines is a run of the world of circuits
pub record IsCircuits (u : Setups) (m : Machines) : Type 0 where
  pub events : List WorldEvent
  pub ties : Ties u m (go_on events (circuits_open u))

abbrev pub half_of : Machines → Bool → ℕ → Half
half_of m b x = ((core_of m b).circuits.circuit_at x).end.half

abbrev pub session_at : Machines → Bool → ℕ → ℕ → Session
session_at m b x g = of_generation (half_of m b x).sessions g

-- the circuit q of the node is that of a circuit of the server, which heard its reply
pub record Shared (u : Setups) (m : Machines) (p : ℕ) (q : ℕ) : Type 0 where
  pub names : (m.node.core.circuits.circuit_at q).end.peer ≡ p
  pub address : (m.server.core.circuits.circuit_at p).address ≡ u.node.own
  pub running : (m.server.core.circuits.circuit_at p).end.running ≡ true
  pub peer : (m.server.core.circuits.circuit_at p).end.peer ≡ q

-- such a circuit of the node has the server's address and runs, and both ends have one span
pub record OneCircuit (u : Setups) (m : Machines) (p : ℕ) (q : ℕ) : Type 0 where
  pub address : (m.node.core.circuits.circuit_at q).address ≡ u.server.own
  pub running : (m.node.core.circuits.circuit_at q).end.running ≡ true
  pub server_wide : (m.server.core.circuits.circuit_at p).end.wide ≡ both_wide u
  pub node_wide : (m.node.core.circuits.circuit_at q).end.wide ≡ both_wide u

abbrev pub SharedMatch : Setups → Machines → Type 0
SharedMatch u m = (p q : ℕ) → Shared u m p q → OneCircuit u m p q

-- the whole invariant of two ends: numbers, streams, sessions, credits, ids
abbrev pub EndsAgree : Setups → Machines → Type 0
EndsAgree u m = (p q : ℕ) → Shared u m p q → Agree (half_of m true p) (half_of m false q)

-- what one end took of a session is a prefix of what the other put, both ways
abbrev pub StreamsInOrder : Setups → Machines → Type 0
StreamsInOrder u m =
    (p q g : ℕ) →
    Shared u m p q →
    Stream (session_at m true p g) (session_at m false q g) × Stream (session_at m false q g) (session_at m true p g)

-- each credited slot of either end had its credit
abbrev pub SlotsCredited : Setups → Machines → Type 0
SlotsCredited u m = (p q : ℕ) → Shared u m p q → Credited (half_of m true p) × Credited (half_of m false q)

-- A generation is the place of an ask: the first ask among all messages of this end has the generation 1, and so on
pub record AsksInOrder (a : Half) : Type 0 where
  pub history : History a
  pub places : AsksFrom 0 (flat history.formed)
  pub count : a.sessions.generations ≡ asks (flat history.formed)

abbrev pub GenerationsArePlaces : Setups → Machines → Type 0
GenerationsArePlaces u m = (p q : ℕ) → Shared u m p q → AsksInOrder (half_of m true p)

-- A RUN is true to its sender: its number is at most that of the newest message, its acknowledgement was shown, and its slots
-- are those of the message of its number, if it is a new or a repeated one; a bare one has none
pub record TrueFrame (l : Link (List Slot)) (f : OutFrame) (slots : List Slot) : Type 0 where
  pub frame : Frame (List Slot)
  pub number : f.number ≡ frame.number
  pub acknowledgement : f.acknowledgement ≡ frame.acknowledgement
  pub bears : slots ≡ slots_in frame
  pub holds : FrameOf (List Slot) l frame
  pub marked : BearsMarked l.sent f.mark f.number slots

abbrev pub TrueValue : Link (List Slot) → OutFrame → Value → Type 0
TrueValue l f (OfCircuit (RunMessage h slots)) = TrueFrame l f slots
TrueValue l f (OfCircuit (WideMessage h slots)) = TrueFrame l f slots
TrueValue l f (OfCircuit (StartMessage master ask to from info)) = Unit {0}
TrueValue l f (OfCircuit (StopMessage master ask to from reason text)) = Unit {0}
TrueValue l f (OfNotice n) = Unit {0}

abbrev pub FramesAreTrue : Setups → Machines → Type 0
FramesAreTrue u m =
    (i : ℕ) (p : Posted) →
    slice_get m.posts i ≡ Some p →
    is_for_other u p ≡ true →
    TrueValue (link_of m p.by_server p.frame.circuit) p.frame p.frame.value

-- what an end would answer
abbrev pub answer_by : Setups → Machines → Bool → Event → Answer
answer_by u m true e = (server_step u.server m.server e).answer
answer_by u m false e = (node_step u.node [] m.node e).answer

-- no frame that one end sent breaks a circuit of the other, at any moment and any number of times
abbrev pub NeverBreaks : Setups → Machines → Type 0
NeverBreaks u m =
    (i now r : ℕ) (p : Posted) →
    slice_get m.posts i ≡ Some p →
    is_for_other u p ≡ true →
    answer_by u m (not p.by_server) (heard_as u p now) ≢ Circuit (Broke r)

-- A young frame of one end is heard by the other as its bytes tell, whenever it comes
abbrev pub HeardByBytes : Setups → Machines → Type 0
HeardByBytes u m =
    (i now : ℕ) (rates : List ℕ) (p : Posted) →
    slice_get m.posts i ≡ Some p →
    is_for_other u p ≡ true →
    IsYoung u m p →
    tell u m (not p.by_server) (Hears (own_of u p.by_server) (Whole p.frame.value) None now) rates ≡ tell u m (not p.by_server) (heard_as u p now) rates

-- no line could grant a request
abbrev pub NoGrant : ServerConfig → Server → Type 0
NoGrant config state =
    (line : ℕ) →
    0 < line →
    line ≤ config.lines →
    grantable state line (offer_on line config.offers) ≡ None

pub record Safe (u : Setups) (m : Machines) : Type 0 where
  pub circuits : IsCircuits u m
  pub agree : EndsAgree u m
  pub shared : SharedMatch u m
  pub places : GenerationsArePlaces u m
  pub spans : OneSpan u m
  pub true_frames : FramesAreTrue u m
  pub queue : LegalQueue m.server.queue
  pub whole : NeverBreaks u m
  pub bytes : HeardByBytes u m
  pub grants : NoGrant u.server m.server
