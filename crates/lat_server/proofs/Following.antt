-- What follows an event.
use Rattle.std.proofs.Common.{◌≡◌, sym, ap, ◌∙◌, subst, true, List, [], map}
use Rattle.lat_base.specs.declared.outbox.OutFrame.{OutFrame}
use Rattle.lat_machines.specs.cores.Cores.{Core}
use Rattle.lat_machines.specs.server.Queue.{QueueEvent, Request, records}
use Rattle.lat_machines.specs.server.Server.{ServerConfig, Server, ServerStep, Passing, finish_all, finished_requests, passed}
use Rattle.lat_payload.proofs.Frames.{adds_none, adds_then}
use Rattle.lat_queue.specs.Tables.{Table}
use Rattle.lat_queue.specs.Histories as queue
use Rattle.lat_queue.specs.Histories.{key_shown, is_first_answer, IsFirst}
use Rattle.lat_queue.proofs.RecordLemmas.{each_all}
use Rattle.lat_lines.specs.Kept as lines
use Rattle.lat_lines.specs.Stands as stands
use Rattle.lat_server.specs.Kept.{Kept, config_of}
use Rattle.lat_server.specs.Concluded.{Connects, finish_each}
use Rattle.lat_server.specs.Stands.{Stands}
use Rattle.lat_server.specs.Events.{Underway, HasPassed, Passes, all_lines, HasFollowed}
use Rattle.lat_server.proofs.KeptLemmas.{Firsts}
use Rattle.lat_server.proofs.ConcludedLemmas.{Finished, finished}

firsts_of : (t : Table) (q : List QueueEvent) → queue.Stands t q → Firsts q
firsts_of t q st = each_all (IsFirst t.offered q) (λ (r : Request). is_first_answer r.answer ≡ true) (records q) (λ r i. i.answered) st.firsts

pub followed : (k : Kept) (r : Table) (l : lines.Kept) (new : Kept) (s : Server) (t : ServerStep) (before middle after : List OutFrame) → Underway s t k before middle → Connects s.core t.state.core
    → ((q : List QueueEvent) → queue.Stands k.queue q → queue.Stands r (finish_each (map key_shown k.lines.freed) q)) → ((c : Core) → stands.Stands k.lines c → stands.Stands l c) → config_of (record k { lines = l; queue = r }) ≡ config_of k
    → Passes all_lines (record k { lines = l; queue = r }) new middle after → HasFollowed (passed (config_of k) t) new before after
followed k r l new s t before middle after u n f g e p =
    let m : Kept = record k { lines = l; queue = r } in
    let d : Core = t.state.core in
    let q : List QueueEvent = t.state.queue in
    let z : Finished s.core d q = finished s.core d q n (firsts_of k.queue q u.waiting) u.concluded in
    let same : finish_each (map key_shown k.lines.freed) q ≡ finish_all d d.seats q = ap (λ ks. finish_each ks q) u.freed ∙ sym z.same in
    let start : Passing = record { state = finished_requests t.state; frames = [] } in
    let st : Stands m (finished_requests t.state) = record { lines = g d u.core; directory = u.directory; queue = subst (queue.Stands r) same (f q u.waiting); solicits = u.solicits; gate = u.gate; concluded = z.concluded } in
    let done : HasPassed (all_lines (config_of m) start) new middle after = p start middle (record { state = st; frames = adds_none middle }) in
    let there : HasPassed (all_lines (config_of k) start) new middle after = subst (λ (c : ServerConfig). HasPassed (all_lines c start) new middle after) e done in
    record { state = there.state; frames = adds_then t.frames (all_lines (config_of k) start).frames before middle after u.frames there.frames }
