-- A payload that reads as a value is never answered as one of no layout.
use Rattle.std.proofs.Common.{◌≢◌, ℕ, List, None, refl}
use Rattle.lat_machines.specs.values.Frames.{Value, Whole, Malformed}
use Rattle.lat_machines.specs.values.Events.{Hears}
use Rattle.lat_machines.specs.values.Answers.{Answer, Circuit, Started, StartRefused, Announced, DirectoryFull, KeptIs, NotKept, Noted, Apart, Solicited, Ignored, Bad, Done, Connected, Accepted, Took, NoLine, Busy, NoService, SessionsFull, CircuitsFull, IdsOut, Closed, Full, IdUsed, NotHere, Halted}
use Rattle.lat_machines.specs.server.Server.{ServerConfig, Server, server_step}
use Rattle.lat_machines.specs.node.Node.{NodeConfig, Node, node_step}
use Rattle.lat_machines.proofs.frames.Reads.{server_bad_only, node_bad_only}
use Rattle.lat_lines.specs.AnswerValues.{answer_of}
use Rattle.lat_runs.specs.Heard.{IsNotBad}

not_whole : (v : Value) (f a : ℕ) → Whole v ≢ Malformed f a
not_whole v f a e = let z : ⊥ = cc in z

pub server_whole : (config : ServerConfig) (st : Server) (from : ℕ) (v : Value) (now f a : ℕ) → (server_step config st (Hears from (Whole v) None now)).answer ≢ Bad f a
server_whole config st from v now f a q = not_whole v f a (server_bad_only config st from (Whole v) None now f a q)

pub node_whole : (config : NodeConfig) (rates : List ℕ) (st : Node) (from : ℕ) (v : Value) (now f a : ℕ) → (node_step config rates st (Hears from (Whole v) None now)).answer ≢ Bad f a
node_whole config rates st from v now f a q = not_whole v f a (node_bad_only config rates st from (Whole v) None now f a q)

-- as a core gives the answer
pub not_bad : (x : Answer) → ((f a : ℕ) → x ≢ Bad f a) → IsNotBad (answer_of x)
not_bad (Bad field at) n bad e = n field at refl
not_bad (Circuit heard) n bad e = let z : ⊥ = cc in z
not_bad (Started id) n bad e = let z : ⊥ = cc in z
not_bad StartRefused n bad e = let z : ⊥ = cc in z
not_bad Announced n bad e = let z : ⊥ = cc in z
not_bad DirectoryFull n bad e = let z : ⊥ = cc in z
not_bad (KeptIs kept) n bad e = let z : ⊥ = cc in z
not_bad NotKept n bad e = let z : ⊥ = cc in z
not_bad Noted n bad e = let z : ⊥ = cc in z
not_bad Apart n bad e = let z : ⊥ = cc in z
not_bad Solicited n bad e = let z : ⊥ = cc in z
not_bad Ignored n bad e = let z : ⊥ = cc in z
not_bad Done n bad e = let z : ⊥ = cc in z
not_bad (Connected circuit session) n bad e = let z : ⊥ = cc in z
not_bad (Accepted count) n bad e = let z : ⊥ = cc in z
not_bad (Took items) n bad e = let z : ⊥ = cc in z
not_bad NoLine n bad e = let z : ⊥ = cc in z
not_bad Busy n bad e = let z : ⊥ = cc in z
not_bad NoService n bad e = let z : ⊥ = cc in z
not_bad SessionsFull n bad e = let z : ⊥ = cc in z
not_bad CircuitsFull n bad e = let z : ⊥ = cc in z
not_bad IdsOut n bad e = let z : ⊥ = cc in z
not_bad Closed n bad e = let z : ⊥ = cc in z
not_bad Full n bad e = let z : ⊥ = cc in z
not_bad IdUsed n bad e = let z : ⊥ = cc in z
not_bad NotHere n bad e = let z : ⊥ = cc in z
not_bad Halted n bad e = let z : ⊥ = cc in z
