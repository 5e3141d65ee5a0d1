-- A frame that reads as a value is never answered as one of no layout.
use Rattle.std.proofs.Common.{◌≡◌, ◌≢◌, ℕ, Bool, true, false, cond, List, [], ◌∷◌, ◌++◌, Option, Some, None, nat_eq}
use Rattle.std.specs.List.{find}
use Rattle.lat_machines.specs.values.Names.{Name, same}
use Rattle.lat_machines.specs.values.Addresses.{everyone}
use Rattle.lat_machines.specs.values.Messages.{RunMessage, WideMessage, StartMessage, StopMessage}
use Rattle.lat_machines.specs.values.Notices.{Kept, KeptAs, Unknown, Action, Ask, Cancel, Command, AnnouncementNotice, CommandNotice, StatusNotice, SolicitNotice, ResponseNotice}
use Rattle.lat_machines.specs.values.Frames.{Value, OfCircuit, OfNotice, Whole, Malformed}
use Rattle.lat_machines.specs.values.Events.{Numbers}
use Rattle.lat_machines.specs.values.Answers.{Bad, Announced, Apart, DirectoryFull, NotKept, KeptIs, Ignored}
use Rattle.lat_machines.specs.server.Directory.{refuses, meets}
use Rattle.lat_machines.specs.server.Queue.{Cancels}
use Rattle.lat_machines.specs.server.Records.{kept_for}
use Rattle.lat_machines.specs.cores.Hearing.{StartFact, Repeats, Makes, Refuses, start_fact}
use Rattle.lat_machines.specs.cores.Cores.{at_moment}
use Rattle.lat_machines.specs.server.Server.{ServerConfig, Server, ServerStep, key_of, server_step}
use Rattle.lat_machines.specs.server.Server as Server
use Rattle.lat_machines.specs.node.Node.{NodeConfig, Node, start_answer, node_step}
use Rattle.lat_machines.specs.node.Node as Node
use Rattle.lat_machines.specs.world.Refusals.{ServerBadOnly, NodeBadOnly}

announced : (x y : Bool) (f a : ℕ) → cond x DirectoryFull (cond y Announced Apart) ≢ Bad f a
announced true y f a q = let z : ⊥ = cc in z
announced false true f a q = let z : ⊥ = cc in z
announced false false f a q = let z : ⊥ = cc in z

command : (config : ServerConfig) (st : Server) (from : ℕ) (m : Command) (x : Action) (f a : ℕ) → (Server.hears_command config st from m x).answer ≢ Bad f a
command config st from m Ask f a q = let z : ⊥ = cc in z
command config st from m Cancel f a q = go (kept_for (key_of m) (st.queue ++ Cancels (key_of m) ∷ [])) q
  where
    told : Option Kept → ServerStep
    told o = elim o [
      | None ↦ record { state = record st { queue = st.queue ++ Cancels (key_of m) ∷ [] }; answer = NotKept; frames = Server.status_frame from m Unknown ∷ [] }
      | Some k ↦ record { state = record st { queue = st.queue ++ Cancels (key_of m) ∷ [] }; answer = KeptIs k; frames = Server.status_frame from m (KeptAs k) ∷ [] }
    ]

    go : (o : Option Kept) → (told o).answer ≢ Bad f a
    go None q = let z : ⊥ = cc in z
    go (Some k) q = let z : ⊥ = cc in z

server_value : (config : ServerConfig) (st : Server) (from : ℕ) (v : Value) (k : Option Numbers) (f a : ℕ) → (Server.hears_value config st from v k).answer ≢ Bad f a
server_value config st from (OfCircuit (RunMessage h slots)) k f a q = let z : ⊥ = cc in z
server_value config st from (OfCircuit (WideMessage h slots)) k f a q = let z : ⊥ = cc in z
server_value config st from (OfCircuit (StartMessage true ask to source info)) k f a q = let z : ⊥ = cc in z
server_value config st from (OfCircuit (StartMessage false ask to source info)) k f a q = let z : ⊥ = cc in z
server_value config st from (OfCircuit (StopMessage master ask to source reason text)) k f a q = let z : ⊥ = cc in z
server_value config st from (OfNotice (AnnouncementNotice x)) k f a q = announced (refuses config.groups st.core.moment x st.heard) (meets config.groups x) f a q
server_value config st from (OfNotice (CommandNotice m)) k f a q = command config st from m m.action f a q
server_value config st from (OfNotice (ResponseNotice x)) k f a q = let z : ⊥ = cc in z
server_value config st from (OfNotice (StatusNotice x)) k f a q = let z : ⊥ = cc in z
server_value config st from (OfNotice (SolicitNotice x)) k f a q = let z : ⊥ = cc in z

node_value : (config : NodeConfig) (rates : List ℕ) (st : Node) (from : ℕ) (v : Value) (k : Option Numbers) (f a : ℕ) → (Node.hears_value config rates st from v k).answer ≢ Bad f a
node_value config rates st from (OfCircuit (RunMessage h slots)) k f a q = let z : ⊥ = cc in z
node_value config rates st from (OfCircuit (WideMessage h slots)) k f a q = let z : ⊥ = cc in z
node_value config rates st from (OfCircuit (StartMessage false ask to source info)) k f a q = let z : ⊥ = cc in z
node_value config rates st from (OfCircuit (StartMessage true ask to source info)) k f a q = by st.halted q
  where
    go : (x : StartFact) → start_answer x ≢ Bad f a
    go (Repeats x) q = let z : ⊥ = cc in z
    go (Makes x) q = let z : ⊥ = cc in z
    go Refuses q = let z : ⊥ = cc in z

    by : (n : Bool) → (cond n (Node.turns_away config st from source) (Node.starts config (Node.makes_way config st from source) from source info)).answer ≢ Bad f a
    by true q = let z : ⊥ = cc in z
    by false q = go (start_fact (Node.makes_way config st from source).core.circuits from source) q
node_value config rates st from (OfCircuit (StopMessage master ask to source reason text)) k f a q = let z : ⊥ = cc in z
node_value config rates st from (OfNotice (AnnouncementNotice x)) k f a q = let z : ⊥ = cc in z
node_value config rates st from (OfNotice (CommandNotice x)) k f a q = let z : ⊥ = cc in z
node_value config rates st from (OfNotice (ResponseNotice x)) k f a q = let z : ⊥ = cc in z
node_value config rates st from (OfNotice (StatusNotice x)) k f a q = let z : ⊥ = cc in z
node_value config rates st from (OfNotice (SolicitNotice x)) k f a q = go (find (same x.service) config.services) q
  where
    go : (o : Option Name) → (Node.solicited config rates st from x.id o).answer ≢ Bad f a
    go None q = let z : ⊥ = cc in z
    go (Some s) q = let z : ⊥ = cc in z

pub server_bad_only : ServerBadOnly
server_bad_only config st from (Malformed g b) k now f a q = let x : g ≡ f = cc in let y : b ≡ a = cc in cc
server_bad_only config st from (Whole v) k now f a q = absurd (go (nat_eq from everyone) q)
  where
    x : Server
    x = record st { core = at_moment now st.core }

    go : (n : Bool) → (cond n (Server.tells x Ignored) (Server.hears_value config x from v k)).answer ≢ Bad f a
    go true q = let z : ⊥ = cc in z
    go false q = server_value config x from v k f a q

pub node_bad_only : NodeBadOnly
node_bad_only config rates st from (Malformed g b) k now f a q = let x : g ≡ f = cc in let y : b ≡ a = cc in cc
node_bad_only config rates st from (Whole v) k now f a q = absurd (go (nat_eq from everyone) q)
  where
    x : Node
    x = record st { core = at_moment now st.core }

    go : (n : Bool) → (cond n (Node.tells x Ignored) (Node.hears_value config rates x from v k)).answer ≢ Bad f a
    go true q = let z : ⊥ = cc in z
    go false q = node_value config rates x from v k f a q
