-- A machine that is halted stays so, and nothing but a halt halts it.
use Rattle.std.proofs.Common.{◌≡◌, ℕ, ◌+◌, refl, sym, ◌∙◌, Bool, true, false, cond, ◌&&◌, List, [], ◌∷◌, Option, Some, None, nat_eq, find}
use Rattle.lat_model.specs.sessions.Slots.{Slot}
use Rattle.lat_model.specs.sessions.Session.{Session, waits}
use Rattle.lat_model.specs.Lists.{upwards}
use Rattle.lat_model.specs.ends.End.{lives}
use Rattle.lat_machines.specs.values.Names.{Name, same}
use Rattle.lat_machines.specs.values.Addresses.{everyone}
use Rattle.lat_machines.specs.values.Messages.{Head, RunMessage, WideMessage, StartMessage, StopMessage}
use Rattle.lat_machines.specs.values.Notices.{AnnouncementNotice, CommandNotice, StatusNotice, SolicitNotice, ResponseNotice}
use Rattle.lat_machines.specs.values.Frames.{Value, OfCircuit, OfNotice, Whole, Malformed}
use Rattle.lat_machines.specs.values.Events.{Numbers, Event, Hears, Time, Connects, Puts, Sets, Takes, Attends, Closes, Requests, Withdraws, Announces, Avoids, Readies, Halts}
use Rattle.lat_machines.specs.values.Answers.{Ignored, IdUsed}
use Rattle.lat_machines.specs.cores.Hearing.{names, hear_run}
use Rattle.lat_machines.specs.cores.Cores.{at_moment}
use Rattle.lat_machines.specs.server.Server.{ServerConfig, Server, hears_announcement, server_event, server_step}
use Rattle.lat_machines.specs.server.Server as Server
use Rattle.lat_machines.specs.node.Node.{NodeConfig, Node, NodeStep, Requested, tells, request_of, Verdict, Accepts, Rejects, verdict, judged, asked_at, answers_one, answers_in, asked_on, answers_asked, heard_at, hears_run, turns_away, starts, makes_way, hears_value, solicited, requests_again, withdraws, node_step}
use Rattle.lat_laws.specs.halts.Dead.{ServerStaysHalted, NodeStaysHalted}
use Rattle.lat_laws.proofs.halts.Parts.{Parts, kinds, parts_cond, event_parts, passed_parts}

-- the server

halted_parts : (b : Bool) → Parts (λ s. s.halted ≡ b)
halted_parts b = record { core = λ st c p. p; queue = λ st q p. p; solicits = λ st n p. p }

abbrev IsHalt : Event → Type 0
IsHalt e = e ≡ Halts

pub event_halted : (config : ServerConfig) (st : Server) (b : Bool) → st.halted ≡ b → (e : Event) → (IsHalt e → b ≡ true) → (server_event config st e).state.halted ≡ b
event_halted config st b q = kinds (λ e. (IsHalt e → b ≡ true) → (server_event config st e).state.halted ≡ b)
    (λ e n w. event_parts config (λ s. s.halted ≡ b) (halted_parts b) st e n q)
    (λ from a k now w. (let t : Server = record st { core = at_moment now st.core } in parts_cond (λ s. s.halted ≡ b) (nat_eq from everyone) (Server.tells t Ignored) (hears_announcement config t from a) q q))
    (λ line w. q)
    (λ line ready w. q)
    (λ w. sym (w refl))

pub step_halted : (config : ServerConfig) (st : Server) (b : Bool) → st.halted ≡ b → (e : Event) → (IsHalt e → b ≡ true) → (server_step config st e).state.halted ≡ b
step_halted config st b q e w = passed_parts config (λ s. s.halted ≡ b) (halted_parts b) st e (event_halted config st b q e w)

pub halt_halts : (config : ServerConfig) (st : Server) → (server_step config st Halts).state.halted ≡ true
halt_halts config st = passed_parts config (λ s. s.halted ≡ true) (halted_parts true) st Halts refl

pub server_stays : ServerStaysHalted
server_stays config st e q = step_halted config st true q e (λ i. refl)

-- the node

node_cond : (b n : Bool) (s t : NodeStep) → s.state.halted ≡ b → t.state.halted ≡ b → (cond n s t).state.halted ≡ b
node_cond b true s t p q = p
node_cond b false s t p q = q

answers_halted : (config : NodeConfig) (x : ℕ) (ids : List ℕ) (st : Node) → (answers_in config x ids st).halted ≡ st.halted
answers_halted config x [] st = refl
answers_halted config x (id ∷ ids) st = answers_halted config x ids (answers_one config x st id) ∙ go (waits s) (verdict config st s.service s.request)
  where
    s : Session
    s = asked_at st x id

    go : (b : Bool) (v : Verdict) → (cond b (judged config st x id s.request v) st).halted ≡ st.halted
    go true (Accepts line) = refl
    go true (Rejects n) = refl
    go false v = refl

asked_halted : (config : NodeConfig) (x : ℕ) (st : Node) → (answers_asked config x st).halted ≡ st.halted
asked_halted config x st = go (lives (st.core.circuits.circuit_at x).end)
  where
    go : (b : Bool) → (cond b (answers_in config x (upwards 0 64) st) (record st { turned_away = st.turned_away + asked_on st x })).halted ≡ st.halted
    go true = answers_halted config x (upwards 0 64) st
    go false = refl

run_halted : (config : NodeConfig) (st : Node) (from : ℕ) (wide : Bool) (m : Head) (slots : List Slot) (k : Option Numbers) → (hears_run config st from wide m slots k).state.halted ≡ st.halted
run_halted config st from wide m slots k = go (names st.core.circuits from m.to m.from)
  where
    s : Node
    s = (heard_at config st (hear_run false st.core.circuits from wide m slots k st.core.moment)).state

    go : (b : Bool) → (cond b (answers_asked config m.to s) s).halted ≡ st.halted
    go true = asked_halted config m.to s
    go false = refl

value_halted : (config : NodeConfig) (rates : List ℕ) (st : Node) (from : ℕ) (v : Value) (k : Option Numbers) → (hears_value config rates st from v k).state.halted ≡ st.halted
value_halted config rates st from (OfCircuit (RunMessage m slots)) k = run_halted config st from false m slots k
value_halted config rates st from (OfCircuit (WideMessage m slots)) k = run_halted config st from true m slots k
value_halted config rates st from (OfCircuit (StartMessage true ask to source info)) k = node_cond st.halted st.halted (turns_away config st from source) (starts config (makes_way config st from source) from source info) refl refl
value_halted config rates st from (OfCircuit (StartMessage false ask to source info)) k = refl
value_halted config rates st from (OfCircuit (StopMessage master ask to source reason text)) k = refl
value_halted config rates st from (OfNotice (StatusNotice m)) k = refl
value_halted config rates st from (OfNotice (SolicitNotice m)) k = go (find (same m.service) config.services)
  where
    go : (o : Option Name) → (solicited config rates st from m.id o).state.halted ≡ st.halted
    go None = refl
    go (Some n) = refl
value_halted config rates st from (OfNotice (AnnouncementNotice a)) k = refl
value_halted config rates st from (OfNotice (CommandNotice m)) k = refl
value_halted config rates st from (OfNotice (ResponseNotice m)) k = refl

pub node_halted : (config : NodeConfig) (rates : List ℕ) (st : Node) (e : Event) → (IsHalt e → st.halted ≡ true) → (node_step config rates st e).state.halted ≡ st.halted
node_halted config rates st (Hears from (Malformed field at) k now) w = refl
node_halted config rates st (Hears from (Whole v) k now) w =
    let t : Node = record st { core = at_moment now st.core } in
    node_cond st.halted (nat_eq from everyone) (tells t Ignored) (hears_value config rates t from v k) refl (value_halted config rates t from v k)
node_halted config rates st (Time now) w = refl
node_halted config rates st (Connects line service) w = refl
node_halted config rates st (Puts line bytes) w = refl
node_halted config rates st (Sets line setting) w = refl
node_halted config rates st (Takes line n) w = refl
node_halted config rates st (Attends line flag) w = refl
node_halted config rates st (Closes line) w = refl
node_halted config rates st (Requests to id service) w = go (request_of id st)
  where
    go : (o : Option Requested) → (requests_again config st to id service o).state.halted ≡ st.halted
    go None = refl
    go (Some r) = node_cond st.halted (nat_eq r.to to && same r.service service) _ (tells st IdUsed) refl refl
node_halted config rates st (Withdraws id) w = go (request_of id st)
  where
    go : (o : Option Requested) → (withdraws config st o).state.halted ≡ st.halted
    go None = refl
    go (Some r) = refl
node_halted config rates st Announces w = refl
node_halted config rates st (Avoids line) w = refl
node_halted config rates st (Readies line ready) w = refl
node_halted config rates st Halts w = sym (w refl)

pub node_stays : NodeStaysHalted
node_stays config rates st e q = node_halted config rates st e (λ i. q) ∙ q
