-- The two numbers of a frame, and whether it is young, as they are tallied from what can be seen of a core: the marks of the
-- frames that a circuit sent, and the messages that it answered as taken.
use Rattle.std.specs.Prelude.{◌≡◌, ℕ, suc, ◌+◌, ◌-◌, Bool, true, false, not, cond, ◌&&◌, ◌||◌, List, [], ◌∷◌, length, Option, Some, None, nat_eq, nat_lt}
use Rattle.lat_model.specs.Lists.{Each}
use Rattle.lat_model.specs.ends.End.{Mark, Fresh, Again, Bare}
use Rattle.lat_machines.specs.values.Timing.{half_range}
use Rattle.lat_machines.specs.values.Messages.{Head, RunMessage, WideMessage}
use Rattle.lat_machines.specs.values.Frames.{FrameMark, OfRun, Plain, OfCircuit, Whole, OutFrame}
use Rattle.lat_machines.specs.values.Events.{Event, Hears}
use Rattle.lat_machines.specs.values.Answers.{Taken, Answer, Circuit}
use Rattle.lat_machines.specs.cores.Hearing.{names}
use Rattle.lat_machines.specs.cores.Cores.{Core}
use Rattle.lat_machines.specs.server.Server.{ServerConfig, Server, ServerStep, open_server, server_step}
use Rattle.lat_machines.specs.node.Node.{NodeConfig, Node, NodeStep, open_node, node_step}
use Rattle.lat_machines.specs.world.Machines.{Setups, Posted, Machines, core_of, own_of, Move, run, open_machines}
use Rattle.lat_machines.specs.world.Young.{head_of, IsYoung}
use Rattle.lat_machines.specs.world.Bears.{messages_of, Bears}
use Rattle.lat_machines.specs.world.Histories.{server_run, RatedEvent, node_run}

-- messages formed, and taken, by a circuit
abbrev pub formed_in : Core → ℕ → ℕ
formed_in c x = length (c.circuits.circuit_at x).end.half.link.sent

abbrev pub taken_in : Core → ℕ → ℕ
taken_in c x = length (c.circuits.circuit_at x).end.half.link.came

-- the greatest acknowledgement that a circuit has shown
abbrev pub shown_in : Core → ℕ → ℕ
shown_in c x = (c.circuits.circuit_at x).end.half.link.shown

-- a frame with a new message
abbrev pub new_messages : FrameMark → ℕ
new_messages (OfRun Fresh) = 1
new_messages (OfRun (Again back)) = 0
new_messages (OfRun Bare) = 0
new_messages Plain = 0

-- how many new messages of a circuit are among these frames
abbrev pub new_of : ℕ → List OutFrame → ℕ
new_of x [] = 0
new_of x (f ∷ fs) = cond (nat_eq f.circuit x) (new_messages f.mark) 0 + new_of x fs

-- the number that a mark tells, behind n messages
abbrev pub number_of : Mark → ℕ → ℕ
number_of Fresh n = suc n
number_of (Again back) n = n - back
number_of Bare n = n

abbrev pub TalliedBy : FrameMark → ℕ → ℕ → OutFrame → Type 0
TalliedBy (OfRun m) n a f = (f.number ≡ number_of m n) × (f.acknowledgement ≡ a)
TalliedBy Plain n a f = Unit {0}

-- frames in order: before them each circuit had formed so many messages, and it acknowledges so many
abbrev pub Tallied : (ℕ → ℕ) → (ℕ → ℕ) → List OutFrame → Type 0
Tallied formed taken [] = Unit {0}
Tallied formed taken (f ∷ fs) =
    TalliedBy f.mark (formed f.circuit) (taken f.circuit) f × Tallied (λ x. formed x + cond (nat_eq f.circuit x) (new_messages f.mark) 0) taken fs

-- one where the circuit answered that it took the message
abbrev pub taken_by : Event → Answer → ℕ → ℕ
taken_by (Hears from (Whole (OfCircuit (RunMessage h slots))) k now) (Circuit (Taken n)) x = cond (nat_eq h.to x) 1 0
taken_by (Hears from (Whole (OfCircuit (WideMessage h slots))) k now) (Circuit (Taken n)) x = cond (nat_eq h.to x) 1 0
taken_by e a x = 0

abbrev pub is_run : FrameMark → Bool
is_run (OfRun m) = true
is_run Plain = false

-- a RUN of a circuit is among these frames
abbrev pub sends_run : ℕ → List OutFrame → Bool
sends_run x [] = false
sends_run x (f ∷ fs) = (is_run f.mark && nat_eq f.circuit x) || sends_run x fs

-- An event: each frame bears the tallied numbers, a message that is taken counts for the frames of the same event, and the
-- counts go on. Where a RUN of a circuit goes out, it shows all that the circuit took; else what is shown stays
pub record TalliesOn (before : Core) (after : Core) (e : Event) (a : Answer) (frames : List OutFrame) : Type 0 where
  pub numbers : Tallied (formed_in before) (taken_in after) frames
  pub bears : Each (Bears (messages_of after)) frames
  pub formed : (x : ℕ) → formed_in after x ≡ formed_in before x + new_of x frames
  pub taken : (x : ℕ) → taken_in after x ≡ taken_in before x + taken_by e a x
  pub shown : (x : ℕ) → shown_in after x ≡ cond (sends_run x frames) (taken_in after x) (shown_in before x)

-- an event of a server, and of a node
abbrev pub ServerTallied : ServerConfig → Server → Event → Type 0
ServerTallied config state e =
    let s : ServerStep = server_step config state e in
    TalliesOn state.core s.state.core e s.answer s.frames

abbrev pub NodeTallied : NodeConfig → List ℕ → Node → Event → Type 0
NodeTallied config rates state e =
    let s : NodeStep = node_step config rates state e in
    TalliesOn state.core s.state.core e s.answer s.frames

-- at every event of every history
abbrev pub ServerTallies : Type 0
ServerTallies = (config : ServerConfig) (events : List Event) (e : Event) → ServerTallied config (server_run config events (open_server config)) e

abbrev pub NodeTallies : Type 0
NodeTallies =
    (config : NodeConfig) (events : List RatedEvent) (rates : List ℕ) (e : Event) →
    NodeTallied config rates (node_run config events (open_node config)) e

-- and at every event that either of two machines may be told next, in every run of the two
pub record RunTallies (u : Setups) (m : Machines) : Type 0 where
  pub server : (e : Event) → ServerTallied u.server m.server e
  pub node : (rates : List ℕ) (e : Event) → NodeTallied u.node rates m.node e

abbrev pub MachinesTally : Type 0
MachinesTally = (u : Setups) (moves : List Move) → RunTallies u (run u moves (open_machines u))

-- The test of youth that a program makes: where the circuit that a RUN names lives and its reply was heard, both numbers lie
-- less than half a range behind those tallied of the circuit that sent it
abbrev pub is_recent : ℕ → Core → OutFrame → Bool
is_recent r c f = nat_lt (formed_in c f.circuit) (f.number + r) && nat_lt (shown_in c f.circuit) (f.acknowledgement + r)

abbrev pub is_young_at : Setups → Machines → Posted → Option Head → Bool
is_young_at u w p None = true
is_young_at u w p (Some h) =
    let c : Core = core_of w (not p.by_server) in
    not (names c.circuits (own_of u p.by_server) h.to h.from)
    || is_recent (half_range (c.circuits.circuit_at h.to).end.wide) (core_of w p.by_server) p.frame

abbrev pub is_young : Setups → Machines → Posted → Bool
is_young u w p = is_young_at u w p (head_of p.frame.value)

pub record YoungIs (u : Setups) (w : Machines) (p : Posted) : Type 0 where
  pub passes : IsYoung u w p → is_young u w p ≡ true
  pub only : is_young u w p ≡ true → IsYoung u w p

abbrev pub YouthIsTallied : Type 0
YouthIsTallied = (u : Setups) (w : Machines) (p : Posted) → YoungIs u w p
