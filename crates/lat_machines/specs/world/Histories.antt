-- The runs of one machine, and the runs of two whose frames an honest carrier brings.
use Rattle.std.specs.Prelude.{◌≡◌, ℕ, Bool, true, false, not, cond, List, [], ◌∷◌, ◌++◌, Option, Some, None, slice_get}
use Rattle.lat_machines.specs.values.Frames.{Reading, Whole, OutFrame}
use Rattle.lat_machines.specs.values.Events.{Event, Hears}
use Rattle.lat_machines.specs.values.Answers.{Answer}
use Rattle.lat_machines.specs.server.Server.{ServerConfig, Server, server_step, open_server}
use Rattle.lat_machines.specs.node.Node.{NodeConfig, Node, node_step, open_node}
use Rattle.lat_machines.specs.world.Safe.{Fit, Safe}
use Rattle.lat_machines.specs.world.Machines.{Setups, Posted, Machines, post_all, Move, Does, HearsFrame, HearsForeign, own_of, is_for_other, is_own, happens, run, open_machines}
use Rattle.lat_machines.specs.world.Young.{IsYoung}

abbrev pub server_run : ServerConfig → List Event → Server → Server
server_run config [] state = state
server_run config (e ∷ es) state = server_run config es (server_step config state e).state

abbrev pub server_frames : ServerConfig → List Event → Server → List OutFrame
server_frames config [] state = []
server_frames config (e ∷ es) state =
    (server_step config state e).frames ++ server_frames config es (server_step config state e).state

abbrev pub server_answers : ServerConfig → List Event → Server → List Answer
server_answers config [] state = []
server_answers config (e ∷ es) state =
    (server_step config state e).answer ∷ server_answers config es (server_step config state e).state

-- a node's event with the ratings that were asked for in it
pub record RatedEvent : Type 0 where
  pub event : Event
  pub rates : List ℕ

abbrev pub node_run : NodeConfig → List RatedEvent → Node → Node
node_run config [] state = state
node_run config (e ∷ es) state = node_run config es (node_step config e.rates state e.event).state

abbrev pub node_frames : NodeConfig → List RatedEvent → Node → List OutFrame
node_frames config [] state = []
node_frames config (e ∷ es) state =
    (node_step config e.rates state e.event).frames ++ node_frames config es (node_step config e.rates state e.event).state

abbrev pub node_answers : NodeConfig → List RatedEvent → Node → List Answer
node_answers config [] state = []
node_answers config (e ∷ es) state =
    (node_step config e.rates state e.event).answer ∷ node_answers config es (node_step config e.rates state e.event).state

-- each machine of a world is the run of some history
pub record HasHistories (u : Setups) (m : Machines) : Type 0 where
  pub server : (events : List Event) × (m.server ≡ server_run u.server events (open_server u.server))
  pub node : (events : List RatedEvent) × (m.node ≡ node_run u.node events (open_node u.node))

-- Both histories in some order. A frame that was heard from the other end's address names the frame that it is
pub record Passed : Type 0 where
  pub server : Bool
  pub event : Event
  pub rates : List ℕ
  pub named : Option ℕ

abbrev pub server_part : List Passed → List Event
server_part [] = []
server_part (p ∷ ps) = cond p.server (p.event ∷ server_part ps) (server_part ps)

abbrev pub node_part : List Passed → List RatedEvent
node_part [] = []
node_part (p ∷ ps) = cond p.server (node_part ps) (record { event = p.event; rates = p.rates } ∷ node_part ps)

abbrev pub moment_of : Event → ℕ
moment_of (Hears from payload k now) = now
moment_of _ = 0

-- the move of the world that an event of a history is
abbrev pub foreign_or_own : Bool → Event → List ℕ → Move
foreign_or_own b (Hears from payload k now) rates = HearsForeign b from payload now rates
foreign_or_own b e rates = Does b e rates

abbrev pub move_by : Option ℕ → Bool → Event → List ℕ → Move
move_by None b e rates = foreign_or_own b e rates
move_by (Some i) b e rates = HearsFrame i (moment_of e) rates

abbrev pub move_of : Passed → Move
move_of p = move_by p.named p.server p.event p.rates

abbrev pub moves_of : List Passed → List Move
moves_of [] = []
moves_of (p ∷ ps) = move_of p ∷ moves_of ps

-- heard as bytes: no numbers come with it
abbrev pub HearsFrom : Event → ℕ → Reading → Type 0
HearsFrom e from payload = (now : ℕ) × (e ≡ Hears from payload None now)

-- What is named was sent by the other end to this one, or to everyone, with this payload, and is young. What is heard
-- without a name bears no end's own address
pub record Brought (u : Setups) (w : Machines) (b : Bool) (e : Event) (i : ℕ) : Type 0 where
  pub post : Posted
  pub found : slice_get w.posts i ≡ Some post
  pub by_other : post.by_server ≡ not b
  pub addressed : is_for_other u post ≡ true
  pub payload : HearsFrom e (own_of u (not b)) (Whole post.frame.value)
  pub young : IsYoung u w post

abbrev pub Unnamed : Setups → Event → Type 0
Unnamed u (Hears from payload k now) = (k ≡ None) × (is_own u from ≡ false)
Unnamed u _ = Unit {0}

abbrev pub HonestBy : Setups → Machines → Option ℕ → Bool → Event → Type 0
HonestBy u w None b e = Unnamed u e
HonestBy u w (Some i) b e = Brought u w b e i

-- each event, in the world that the events before it made
abbrev pub Honest : Setups → List Passed → Machines → Type 0
Honest u [] w = Unit {0}
Honest u (p ∷ ps) w = HonestBy u w p.named p.server p.event × Honest u ps (happens u w (move_of p))

-- all frames that the two made, in the order of the events
abbrev pub posts_by : Setups → Bool → Event → List ℕ → Server → Node → List Posted
posts_by u true e rates state node = post_all true (server_step u.server state e).frames
posts_by u false e rates state node = post_all false (node_step u.node rates node e).frames

abbrev pub server_next : Setups → Bool → Event → Server → Server
server_next u b e state = cond b (server_step u.server state e).state state

abbrev pub node_next : Setups → Bool → Event → List ℕ → Node → Node
node_next u b e rates node = cond b node (node_step u.node rates node e).state

abbrev pub posts_of : Setups → List Passed → Server → Node → List Posted
posts_of u [] state node = []
posts_of u (p ∷ ps) state node =
    posts_by u p.server p.event p.rates state node ++ posts_of u ps (server_next u p.server p.event state) (node_next u p.server p.event p.rates node)

-- The two machines of the world are then the runs of the two histories, its frames are theirs, and it is safe
pub record IsWorld (u : Setups) (order : List Passed) (m : Machines) : Type 0 where
  pub server : m.server ≡ server_run u.server (server_part order) (open_server u.server)
  pub node : m.node ≡ node_run u.node (node_part order) (open_node u.node)
  pub posts : m.posts ≡ posts_of u order (open_server u.server) (open_node u.node)
  pub safe : Safe u m

abbrev pub HistoriesAreAWorld : Type 0
HistoriesAreAWorld =
    (u : Setups) (order : List Passed) →
    Fit u →
    Honest u order (open_machines u) →
    IsWorld u order (run u (moves_of order) (open_machines u))
