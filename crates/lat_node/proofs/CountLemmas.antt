-- A node asks for as many ratings as its machine does, and so its frames are the machine's.
use Rattle.std.proofs.Common.{◌≡◌, ℕ, zero, suc, refl, sym, ap, ◌∙◌, Bool, true, false, cond, ◌&&◌, ◌||◌, List, [], ◌∷◌, length, Option, Some, None, nat_eq, nat_lt, is_some, position}
use Rattle.std.specs.List.{find, list_any}
use Rattle.std.proofs.lemmas.Bool.{true≢false}
use Rattle.lat_model.specs.Lists.{Each}
use Rattle.lat_model.specs.sessions.Calls.{Put, Set, Attend, Take, Close, put_count, took}
use Rattle.lat_model.specs.sessions.Session.{put_open, take_open, unframed}
use Rattle.lat_machines.specs.values.Frames.{Value, OfCircuit, OfNotice, Reading, Whole, Malformed}
use Rattle.lat_machines.specs.values.Names.{Name, same}
use Rattle.lat_machines.specs.values.Notices.{Ask, AnnouncementNotice, CommandNotice, StatusNotice, SolicitNotice, ResponseNotice}
use Rattle.lat_machines.specs.values.Events.{Numbers, Event, Hears, Time, Connects, Puts, Sets, Takes, Attends, Closes, Requests, Withdraws, Announces, Avoids, Readies, Halts}
use Rattle.lat_machines.specs.values.Answers.{Answer, Done, Accepted, Took, Closed, NoLine, Full, IdUsed, Ignored}
use Rattle.lat_machines.specs.values.Messages.{Message, RunMessage, WideMessage, StartMessage, StopMessage}
use Rattle.lat_machines.specs.values.Addresses.{everyone}
use Rattle.lat_machines.specs.cores.Cores.{Seat, Core, at_moment}
use Rattle.lat_machines.specs.cores.Lines.{used, sessions_of, session_of, seat_at, has_session, line_exists}
use Rattle.lat_machines.specs.cores.LineCalls.{Said, says, calls_on, put_on, set_on, attend_on, take_on, close_on, on_line}
use Rattle.lat_machines.specs.cores.Hearing.{StartFact, Repeats, Makes, Refuses, start_fact}
use Rattle.lat_machines.specs.node.Node.{NodeConfig, Node, Requested, Allowed, node_side, with_core, tells, command_frame, request_of, requests_again, withdraws, solicited, turns_away, makes_way, hears_start, hears_message, hears_value, node_step, rates_of}
use Rattle.lat_lines.specs.Events.{event_shown}
use Rattle.lat_node.specs.Places.{places_from, response_places, reading_places, event_places, asked_places, AreRates}
use Rattle.lat_node.specs.Laws.{MayOfSome, FramesAreMachines}
use Rattle.lat_node.proofs.FrameLemmas.{IsQuiet}
use Rattle.lat_node.proofs.VerdictLemmas.{position_any}

-- the answers that ask for none
abbrev Quiet : NodeConfig → Event → Answer → Type 0
Quiet config e a = rates_of config a e ≡ 0

quiet_cond : (P : Answer → Type 0) (b : Bool) (x y : Said) → P x.answer → P y.answer → P (cond b x y).answer
quiet_cond P true x y p q = p
quiet_cond P false x y p q = q

quiet_on : (P : Answer → Type 0) (lines : ℕ) (c : Core) (line : ℕ) (f : Seat → Said) → ((s : Seat) → P (f s).answer) → P Closed → P NoLine → P (on_line lines c line f).answer
quiet_on P lines c line f p q r =
    quiet_cond P (line_exists lines line) (cond (has_session c line) (f (seat_at c line)) (says c Closed)) (says c NoLine)
    (quiet_cond P (has_session c line) (f (seat_at c line)) (says c Closed) (p (seat_at c line)) q) r

quiet_request : (config : NodeConfig) (s : Node) (to id : ℕ) (service : Name) (o : Option Requested) → Quiet config (Requests to id service) (requests_again config s to id service o).answer
quiet_request config s to id service None = refl
quiet_request config s to id service (Some r) = go (nat_eq r.to to && same r.service service)
  where
    go : (b : Bool) → Quiet config (Requests to id service) (cond b (record { state = s; answer = Done; frames = command_frame config to id Ask service ∷ [] }) (tells s IdUsed)).answer
    go true = refl
    go false = refl

quiet_withdraw : (config : NodeConfig) (s : Node) (id : ℕ) (o : Option Requested) → Quiet config (Withdraws id) (withdraws config s o).answer
quiet_withdraw config s id None = refl
quiet_withdraw config s id (Some r) = refl

quiet_answer : (config : NodeConfig) (rates : List ℕ) (s : Node) (e : Event) → IsQuiet e → rates_of config (node_step config rates s e).answer e ≡ 0
quiet_answer config rates s (Hears from payload k now) q = absurd q
quiet_answer config rates s Announces q = absurd q
quiet_answer config rates s (Time now) q = refl
quiet_answer config rates s (Connects line service) q = refl
quiet_answer config rates s (Puts line bytes) q = quiet_on (Quiet config (Puts line bytes)) config.lines s.core line (λ t. put_on (node_side config) s.core t bytes)
    (λ t. quiet_cond (Quiet config (Puts line bytes)) (put_open (session_of s.core t)) (says (calls_on (node_side config) s.core t (Put t.id bytes)) (Accepted (put_count (session_of s.core t) (length bytes)))) (says s.core Closed) refl refl) refl refl
quiet_answer config rates s (Sets line setting) q = quiet_on (Quiet config (Sets line setting)) config.lines s.core line (λ t. set_on (node_side config) s.core t setting)
    (λ t. quiet_cond (Quiet config (Sets line setting)) (put_open (session_of s.core t))
    (cond (nat_lt (length (unframed (session_of s.core t))) 4096) (says (calls_on (node_side config) s.core t (Set t.id setting)) Done) (says s.core Full)) (says s.core Closed)
    (quiet_cond (Quiet config (Sets line setting)) (nat_lt (length (unframed (session_of s.core t))) 4096) (says (calls_on (node_side config) s.core t (Set t.id setting)) Done) (says s.core Full) refl refl) refl) refl refl
quiet_answer config rates s (Takes line n) q = quiet_on (Quiet config (Takes line n)) config.lines s.core line (λ t. take_on (node_side config) s.core t n)
    (λ t. quiet_cond (Quiet config (Takes line n)) (take_open (session_of s.core t)) (says (calls_on (node_side config) s.core t (Take t.id n)) (Took (took (sessions_of s.core t) t.id n))) (says s.core Closed) refl refl) refl refl
quiet_answer config rates s (Attends line flag) q = quiet_on (Quiet config (Attends line flag)) config.lines s.core line (λ t. attend_on (node_side config) s.core t flag)
    (λ t. quiet_cond (Quiet config (Attends line flag)) (put_open (session_of s.core t)) (says (calls_on (node_side config) s.core t (Attend t.id flag)) Done) (says s.core Closed) refl refl) refl refl
quiet_answer config rates s (Closes line) q = quiet_on (Quiet config (Closes line)) config.lines s.core line (λ t. close_on (node_side config) s.core t)
    (λ t. quiet_cond (Quiet config (Closes line)) (take_open (session_of s.core t)) (says (calls_on (node_side config) s.core t (Close t.id)) Done) (says s.core Closed) refl refl) refl refl
quiet_answer config rates s (Requests to id service) q = quiet_request config s to id service (request_of id s)
quiet_answer config rates s (Withdraws id) q = quiet_withdraw config s id (request_of id s)
quiet_answer config rates s (Avoids line) q = refl
quiet_answer config rates s (Readies line ready) q = refl
quiet_answer config rates s Halts q = refl

-- a circuit message asks for none
quiet_message : (config : NodeConfig) (s : Node) (from : ℕ) (m : Message) (x : ℕ) (r : Reading) (k : Option Numbers) (now : ℕ) → rates_of config (hears_message config s from m k).answer (Hears x r k now) ≡ 0
quiet_message config s from (RunMessage h slots) x r k now = refl
quiet_message config s from (WideMessage h slots) x r k now = refl
quiet_message config s from (StopMessage master ask to source reason text) x r k now = refl
quiet_message config s from (StartMessage false ask to source info) x r k now = refl
quiet_message config s from (StartMessage true ask to source info) x r k now = go s.halted (start_fact (makes_way config s from source).core.circuits from source)
  where
    go : (b : Bool) (f : StartFact) → rates_of config (cond b (turns_away config s from source) (hears_start config (makes_way config s from source) from source info f)).answer (Hears x r k now) ≡ 0
    go true f = refl
    go false (Repeats i) = refl
    go false (Makes i) = refl
    go false Refuses = refl

-- as many places as services

places_length : (first n : ℕ) → length (places_from first n) ≡ n
places_length first zero = refl
places_length first (suc n) = ap suc (places_length (suc first) n)

find_any : {X : Type 0} (p : X → Bool) (xs : List X) → is_some (find p xs) ≡ list_any p xs
find_any p [] = refl
find_any {X} p (x ∷ xs) = go (p x) (find_any p xs)
  where
    go : (b : Bool) → is_some (find p xs) ≡ list_any p xs → is_some (cond b (Some x) (find p xs)) ≡ (b || list_any p xs)
    go true more = refl
    go false more = more

-- a Solicit asks for as many as its service does
solicited_count : (config : NodeConfig) (rates : List ℕ) (s : Node) (from id : ℕ) (o : Option ℕ) (found : Option Name) (x : ℕ) (r : Reading) (k : Option Numbers) (now : ℕ) → is_some o ≡ is_some found →
    length (response_places config o) ≡ rates_of config (solicited config rates s from id found).answer (Hears x r k now)
solicited_count config rates s from id None None x r k now is = refl
solicited_count config rates s from id None (Some service) x r k now is = absurd (true≢false (sym is))
solicited_count config rates s from id (Some place) None x r k now is = absurd (true≢false is)
solicited_count config rates s from id (Some place) (Some service) x r k now is = ap suc (places_length 0 (length config.services))

value_count : (config : NodeConfig) (rates : List ℕ) (s : Node) (from : ℕ) (v : Value) (x : ℕ) (k : Option Numbers) (now : ℕ) →
    length (reading_places config (Whole v)) ≡ rates_of config (hears_value config rates s from v k).answer (Hears x (Whole v) k now)
value_count config rates s from (OfCircuit m) x k now = sym (quiet_message config s from m x (Whole (OfCircuit m)) k now)
value_count config rates s from (OfNotice (AnnouncementNotice a)) x k now = refl
value_count config rates s from (OfNotice (CommandNotice m)) x k now = refl
value_count config rates s from (OfNotice (StatusNotice t)) x k now = refl
value_count config rates s from (OfNotice (ResponseNotice r)) x k now = refl
value_count config rates s from (OfNotice (SolicitNotice n)) x k now =
    solicited_count config rates s from n.id (position (same n.service) config.services) (find (same n.service) config.services) x (Whole (OfNotice (SolicitNotice n))) k now
    (position_any (same n.service) config.services ∙ sym (find_any (same n.service) config.services))

event_count : (config : NodeConfig) (rates : List ℕ) (s : Node) (e : Event) → length (event_places config e) ≡ rates_of config (node_step config rates s e).answer e
event_count config rates s (Hears from (Malformed field at) k now) = go (nat_eq from everyone)
  where
    go : (b : Bool) → length (cond b [] (reading_places config (Malformed field at))) ≡ 0
    go true = refl
    go false = refl
event_count config rates s (Hears from (Whole v) k now) = go (nat_eq from everyone)
  where
    t : Node
    t = with_core s (at_moment now s.core)

    go : (b : Bool) → length (cond b [] (reading_places config (Whole v))) ≡ rates_of config (cond b (tells t Ignored) (hears_value config rates t from v k)).answer (Hears from (Whole v) k now)
    go true = refl
    go false = value_count config rates t from v from k now
event_count config rates s Announces = places_length 0 (length config.services)
event_count config rates s (Time now) = sym (quiet_answer config rates s (Time now) tt)
event_count config rates s (Connects line service) = sym (quiet_answer config rates s (Connects line service) tt)
event_count config rates s (Puts line bytes) = sym (quiet_answer config rates s (Puts line bytes) tt)
event_count config rates s (Sets line setting) = sym (quiet_answer config rates s (Sets line setting) tt)
event_count config rates s (Takes line n) = sym (quiet_answer config rates s (Takes line n) tt)
event_count config rates s (Attends line flag) = sym (quiet_answer config rates s (Attends line flag) tt)
event_count config rates s (Closes line) = sym (quiet_answer config rates s (Closes line) tt)
event_count config rates s (Requests to id service) = sym (quiet_answer config rates s (Requests to id service) tt)
event_count config rates s (Withdraws id) = sym (quiet_answer config rates s (Withdraws id) tt)
event_count config rates s (Avoids line) = sym (quiet_answer config rates s (Avoids line) tt)
event_count config rates s (Readies line ready) = sym (quiet_answer config rates s (Readies line ready) tt)
event_count config rates s Halts = sym (quiet_answer config rates s Halts tt)

asked_count : (halted : Bool) (ps : List ℕ) (n : ℕ) → length ps ≡ n → length (cond halted [] ps) ≡ cond halted 0 n
asked_count true ps n is = refl
asked_count false ps n is = is

-- ratings of places are as many, each of some place

rates_count : (may : ℕ → ℕ → ℕ → ℕ → Type 0) (held lines : ℕ) (ps rates : List ℕ) → AreRates may held lines ps rates → length rates ≡ length ps
rates_count may held lines [] [] are = refl
rates_count may held lines [] (r ∷ rates) are = absurd are
rates_count may held lines (p ∷ ps) [] are = absurd are
rates_count may held lines (p ∷ ps) (r ∷ rates) are = ap suc (rates_count may held lines ps rates are.1)

pub rates_each : (P : ℕ → Type 0) (may : ℕ → ℕ → ℕ → ℕ → Type 0) (held lines : ℕ) (ps rates : List ℕ) → ((place rate : ℕ) → may place held lines rate → P rate) → AreRates may held lines ps rates → Each P rates
rates_each P may held lines [] [] tells are = tt
rates_each P may held lines [] (r ∷ rates) tells are = absurd are
rates_each P may held lines (p ∷ ps) [] tells are = absurd are
rates_each P may held lines (p ∷ ps) (r ∷ rates) tells are = (tells p r are.0, rates_each P may held lines ps rates tells are.1)

-- what the machine allows where a rule may give these of some service
pub allowed_by : (may : ℕ → ℕ → ℕ → ℕ → Type 0) (config : NodeConfig) (s : Node) (e : Event) (rates : List ℕ) → AreRates may (used s.core) config.lines (asked_places config s e) rates → Allowed (MayOfSome may) config s e rates
allowed_by may config s e rates are = record {
  count =
      rates_count may (used s.core) config.lines (asked_places config s e) rates are
      ∙ asked_count s.halted (event_places config e) (rates_of config (node_step config rates s e).answer e) (event_count config rates s e);
  each = rates_each (MayOfSome may (used s.core) config.lines) may (used s.core) config.lines (asked_places config s e) rates (λ place rate m. (place, m)) are;
}

pub machines_frames : {H : Type 0} (may : H → ℕ → ℕ → ℕ → ℕ → Type 0) → FramesAreMachines may
machines_frames may m e frames went = record {
  made = (node_step m.config went.rates m.state (event_shown e)).frames;
  allowed = (went.rates, allowed_by (may m.rule) m.config m.state (event_shown e) went.rates went.each, refl);
  same = went.adds.same;
  readable = went.adds.readable;
}
