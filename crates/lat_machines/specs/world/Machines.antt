-- The two machines with all frames that they ever sent. A frame may come at any time, any number of times, or never.
use Rattle.std.specs.Prelude.{ℕ, suc, Bool, true, false, not, cond, ◌||◌, List, [], ◌∷◌, ◌++◌, Option, Some, None, nat_eq, slice_get}
use Rattle.lat_machines.specs.values.Addresses.{everyone}
use Rattle.lat_machines.specs.values.Notices.{RecordsFull}
use Rattle.lat_machines.specs.values.Frames.{Reading, Whole, OutFrame}
use Rattle.lat_machines.specs.values.Events.{Event, Hears, is_heard}
use Rattle.lat_machines.specs.values.Answers.{Broke, Answer, Circuit, StartRefused, DirectoryFull, KeptIs, Bad, NoLine, Busy, NoService, SessionsFull, CircuitsFull, IdsOut, Closed, Full, IdUsed, Halted}
use Rattle.lat_machines.specs.cores.Cores.{Core}
use Rattle.lat_machines.specs.server.Server.{ServerConfig, Server, ServerStep, open_server, server_step}
use Rattle.lat_machines.specs.node.Node.{NodeConfig, Node, NodeStep, open_node, node_step}

pub record Setups : Type 0 where
  pub server : ServerConfig
  pub node : NodeConfig

pub record Posted : Type 0 where
  pub by_server : Bool
  pub frame : OutFrame

pub record NotedEvent : Type 0 where
  pub event : ℕ  -- counted from 1
  pub answer : Answer

pub record Machines : Type 0 where
  pub server : Server
  pub node : Node
  pub posts : List Posted
  pub delivered : List ℕ
  pub noted : List NotedEvent
  pub count : ℕ  -- events so far

-- An event of one of the two, at its own moment. The ratings are those that the node's hook gives in it
pub data Move : Type 0 where
  Does : (server : Bool) → Event → (rates : List ℕ) → Move
  HearsFrame : (index now : ℕ) → (rates : List ℕ) → Move
  HearsForeign : (server : Bool) (from : ℕ) (payload : Reading) (now : ℕ) → (rates : List ℕ) → Move

abbrev pub own_of : Setups → Bool → ℕ
own_of u true = u.server.own
own_of u false = u.node.own

abbrev pub core_of : Machines → Bool → Core
core_of w true = w.server.core
core_of w false = w.node.core

abbrev pub post_all : Bool → List OutFrame → List Posted
post_all b [] = []
post_all b (f ∷ fs) = record { by_server = b; frame = f } ∷ post_all b fs

-- what the report notes of an answer
abbrev pub is_noted : Answer → Bool
is_noted (Bad field at) = true
is_noted (Circuit (Broke r)) = true
is_noted StartRefused = true
is_noted DirectoryFull = true
is_noted (KeptIs RecordsFull) = true
is_noted NoLine = true
is_noted Busy = true
is_noted NoService = true
is_noted SessionsFull = true
is_noted CircuitsFull = true
is_noted IdsOut = true
is_noted Closed = true
is_noted Full = true
is_noted IdUsed = true
is_noted Halted = true
is_noted _ = false

abbrev pub noted_too : ℕ → Answer → List NotedEvent → List NotedEvent
noted_too n a ns = cond (is_noted a) (ns ++ record { event = n; answer = a } ∷ []) ns

abbrev pub server_did : Machines → ServerStep → Machines
server_did w s = record w {
  server = s.state;
  posts = w.posts ++ post_all true s.frames;
  noted = noted_too (suc w.count) s.answer w.noted;
  count = suc w.count;
}

abbrev pub node_did : Machines → NodeStep → Machines
node_did w s = record w {
  node = s.state;
  posts = w.posts ++ post_all false s.frames;
  noted = noted_too (suc w.count) s.answer w.noted;
  count = suc w.count;
}

abbrev pub tell : Setups → Machines → Bool → Event → List ℕ → Machines
tell u w true e rates = server_did w (server_step u.server w.server e)
tell u w false e rates = node_did w (node_step u.node rates w.node e)

-- the frame was sent to the other end, or to everyone
abbrev pub is_for_other : Setups → Posted → Bool
is_for_other u p = nat_eq p.frame.to (own_of u (not p.by_server)) || nat_eq p.frame.to everyone

-- a frame as the other end hears it: with its own numbers
abbrev pub heard_as : Setups → Posted → ℕ → Event
heard_as u p now =
    Hears (own_of u p.by_server) (Whole p.frame.value) (Some (record { number = p.frame.number; acknowledgement = p.frame.acknowledgement })) now

abbrev pub counted : Machines → Machines
counted w = record w { count = suc w.count }

abbrev pub marked_delivered : ℕ → Machines → Machines
marked_delivered i w = record w { delivered = w.delivered ++ i ∷ [] }

abbrev pub comes : Setups → Machines → ℕ → ℕ → List ℕ → Option Posted → Machines
comes u w i now rates None = w
comes u w i now rates (Some p) =
    cond (is_for_other u p)
    (tell u (marked_delivered i w) (not p.by_server) (heard_as u p now) rates)
    (counted (marked_delivered i w))

abbrev pub is_own : Setups → ℕ → Bool
is_own u from = nat_eq from u.server.own || nat_eq from u.node.own

abbrev pub happens : Setups → Machines → Move → Machines
happens u w (Does b e rates) = cond (is_heard e) w (tell u w b e rates)
happens u w (HearsFrame i now rates) = comes u w i now rates (slice_get w.posts i)
happens u w (HearsForeign b from payload now rates) =
    cond (is_own u from)
    w
    (tell u w b (Hears from payload None now) rates)

abbrev pub run : Setups → List Move → Machines → Machines
run u [] w = w
run u (e ∷ es) w = run u es (happens u w e)

abbrev pub open_machines : Setups → Machines
open_machines u = record {
  server = open_server u.server;
  node = open_node u.node;
  posts = [];
  delivered = [];
  noted = [];
  count = 0;
}
