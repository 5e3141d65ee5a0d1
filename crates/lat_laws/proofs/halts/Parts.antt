-- What an event of a server leaves of all but its core, its queue and its solicit ids: only an announcement that is heard, an
-- avoid, a ready and a halt change the rest.
use Rattle.std.proofs.Common.{ℕ, Bool, true, false, cond, List, [], ◌∷◌, ◌++◌, Option, Some, None, nat_eq, nat_lt}
use Rattle.lat_model.specs.sessions.Sessions.{least_free}
use Rattle.lat_model.specs.Lists.{upwards}
use Rattle.lat_model.specs.circuits.Arriving.{living}
use Rattle.lat_model.specs.circuits.Ids.{next_id}
use Rattle.lat_machines.specs.values.Names.{Name}
use Rattle.lat_machines.specs.values.Addresses.{everyone}
use Rattle.lat_machines.specs.values.Messages.{RunMessage, WideMessage, StartMessage, StopMessage}
use Rattle.lat_machines.specs.values.Notices.{Kept, KeptAs, Unknown, Action, Ask, Cancel, Announcement, Command, AnnouncementNotice, CommandNotice, StatusNotice, SolicitNotice, ResponseNotice}
use Rattle.lat_machines.specs.values.Frames.{Value, OfCircuit, OfNotice, Whole, Malformed}
use Rattle.lat_machines.specs.values.Events.{Numbers, Event, Hears, Time, Connects, Puts, Sets, Takes, Attends, Closes, Requests, Withdraws, Announces, Avoids, Readies, Halts}
use Rattle.lat_machines.specs.values.Answers.{Connected, Ignored, Busy, NoLine, SessionsFull, CircuitsFull, IdsOut, NotKept, KeptIs, Halted}
use Rattle.lat_machines.specs.server.Directory.{Best, best}
use Rattle.lat_machines.specs.server.Queue.{QueueEvent, Cancels, Request}
use Rattle.lat_machines.specs.server.Records.{kept_for}
use Rattle.lat_machines.specs.cores.Cores.{Core, Doing, at_moment, circuit_to}
use Rattle.lat_machines.specs.cores.Lines.{has_session, line_exists}
use Rattle.lat_machines.specs.server.Server.{ServerConfig, Server, ServerStep, offer_on, tells, does, has_room, opens, connects_to, solicits_for, connect_event, status_frame, key_of, hears_command, hears_value, server_event, finished_requests, Passing, granting, grantable, grants_by, grant_line, grant_lines, server_step}

-- what doesn't depend on the core, the queue and the solicit ids
pub record Parts (P : Server → Type 0) : Type 0 where
  pub core : (st : Server) (c : Core) → P st → P (record st { core = c })
  pub queue : (st : Server) (q : List QueueEvent) → P st → P (record st { queue = q })
  pub solicits : (st : Server) (n : ℕ) → P st → P (record st { solicits = n })

-- all but announcements
abbrev pub IsPlainValue : Value → Type 0
IsPlainValue (OfNotice (AnnouncementNotice a)) = ⊥
IsPlainValue _ = Unit {0}

-- the other events
abbrev pub IsPlain : Event → Type 0
IsPlain (Hears from (Whole v) k now) = IsPlainValue v
IsPlain (Avoids line) = ⊥
IsPlain (Readies line ready) = ⊥
IsPlain Halts = ⊥
IsPlain _ = Unit {0}

-- what holds of every event, by its kind
pub kinds : (C : Event → Type 0) → ((e : Event) → IsPlain e → C e) → ((from : ℕ) (a : Announcement) (k : Option Numbers) (now : ℕ) → C (Hears from (Whole (OfNotice (AnnouncementNotice a))) k now)) → ((line : ℕ) → C (Avoids line)) → ((line : ℕ) (ready : Bool) → C (Readies line ready)) → C Halts → (e : Event) → C e
kinds C p a v r h (Hears from (Malformed field at) k now) = p (Hears from (Malformed field at) k now) tt
kinds C p a v r h (Hears from (Whole (OfCircuit m)) k now) = p (Hears from (Whole (OfCircuit m)) k now) tt
kinds C p a v r h (Hears from (Whole (OfNotice (AnnouncementNotice m))) k now) = a from m k now
kinds C p a v r h (Hears from (Whole (OfNotice (CommandNotice m))) k now) = p (Hears from (Whole (OfNotice (CommandNotice m))) k now) tt
kinds C p a v r h (Hears from (Whole (OfNotice (StatusNotice m))) k now) = p (Hears from (Whole (OfNotice (StatusNotice m))) k now) tt
kinds C p a v r h (Hears from (Whole (OfNotice (SolicitNotice m))) k now) = p (Hears from (Whole (OfNotice (SolicitNotice m))) k now) tt
kinds C p a v r h (Hears from (Whole (OfNotice (ResponseNotice m))) k now) = p (Hears from (Whole (OfNotice (ResponseNotice m))) k now) tt
kinds C p a v r h (Time now) = p (Time now) tt
kinds C p a v r h (Connects line service) = p (Connects line service) tt
kinds C p a v r h (Puts line bytes) = p (Puts line bytes) tt
kinds C p a v r h (Sets line setting) = p (Sets line setting) tt
kinds C p a v r h (Takes line n) = p (Takes line n) tt
kinds C p a v r h (Attends line flag) = p (Attends line flag) tt
kinds C p a v r h (Closes line) = p (Closes line) tt
kinds C p a v r h (Requests to id service) = p (Requests to id service) tt
kinds C p a v r h (Withdraws id) = p (Withdraws id) tt
kinds C p a v r h Announces = p Announces tt
kinds C p a v r h (Avoids line) = v line
kinds C p a v r h (Readies line ready) = r line ready
kinds C p a v r h Halts = h

pub parts_cond : (P : Server → Type 0) (n : Bool) (s t : ServerStep) → P s.state → P t.state → P (cond n s t).state
parts_cond P true s t p q = p
parts_cond P false s t p q = q

module _ (config : ServerConfig) (P : Server → Type 0) (h : Parts P) where
  connect_parts : (st : Server) (line : ℕ) (service : Name) → P st → P (connect_event config st line service).state
  connect_parts st line service p = go (line_exists config.lines line) (has_session st.core line) (best config.groups service st.core.moment st.heard)
    where
      reaches : (b : Best) → P (connects_to config st line service b).state
      reaches b =
          let x : ℕ = circuit_to st.core b.from in
          let d : Doing = opens config line b.from b.node service None None st.core in
          let o : P (record st { core = d.core }) = h.core st d.core p in
          parts_cond P (nat_eq x 0)
          (cond (nat_lt (living st.core.circuits) 8) (cond (nat_lt st.core.circuits.drawn 65535) (does st (Connected (next_id st.core.circuits) 1) d) (tells st IdsOut)) (tells st CircuitsFull))
          (cond (has_room st.core x) (does st (Connected x (least_free (st.core.circuits.circuit_at x).end.half.sessions)) d) (tells st SessionsFull))
          (parts_cond P (nat_lt (living st.core.circuits) 8) (cond (nat_lt st.core.circuits.drawn 65535) (does st (Connected (next_id st.core.circuits) 1) d) (tells st IdsOut)) (tells st CircuitsFull) (parts_cond P (nat_lt st.core.circuits.drawn 65535) (does st (Connected (next_id st.core.circuits) 1) d) (tells st IdsOut) o p) p)
          (parts_cond P (has_room st.core x) (does st (Connected x (least_free (st.core.circuits.circuit_at x).end.half.sessions)) d) (tells st SessionsFull) o p)

      go : (n m : Bool) (o : Option Best) → P (cond n (cond m (tells st Busy) (elim o [ None ↦ solicits_for config st service | Some b ↦ connects_to config st line service b ])) (tells st NoLine)).state
      go false m o = p
      go true true o = p
      go true false None = h.solicits st _ p
      go true false (Some b) = reaches b

  command_parts : (st : Server) (from : ℕ) (m : Command) (a : Action) → P st → P (hears_command config st from m a).state
  command_parts st from m Ask p = h.queue st _ p
  command_parts st from m Cancel p = go (kept_for (key_of m) (st.queue ++ Cancels (key_of m) ∷ []))
    where
      told : Option Kept → ServerStep
      told o = elim o [
        | None ↦ record { state = record st { queue = st.queue ++ Cancels (key_of m) ∷ [] }; answer = NotKept; frames = status_frame from m Unknown ∷ [] }
        | Some k ↦ record { state = record st { queue = st.queue ++ Cancels (key_of m) ∷ [] }; answer = KeptIs k; frames = status_frame from m (KeptAs k) ∷ [] }
      ]

      go : (o : Option Kept) → P (told o).state
      go None = h.queue st (st.queue ++ Cancels (key_of m) ∷ []) p
      go (Some k) = h.queue st (st.queue ++ Cancels (key_of m) ∷ []) p

  value_parts : (st : Server) (from : ℕ) (v : Value) (k : Option Numbers) → IsPlainValue v → P st → P (hears_value config st from v k).state
  value_parts st from (OfCircuit (RunMessage m slots)) k n p = h.core st _ p
  value_parts st from (OfCircuit (WideMessage m slots)) k n p = h.core st _ p
  value_parts st from (OfCircuit (StartMessage true ask to source info)) k n p = p
  value_parts st from (OfCircuit (StartMessage false ask to source info)) k n p = h.core st _ p
  value_parts st from (OfCircuit (StopMessage master ask to source reason text)) k n p = h.core st _ p
  value_parts st from (OfNotice (AnnouncementNotice a)) k n p = absurd n
  value_parts st from (OfNotice (CommandNotice m)) k n p = command_parts st from m m.action p
  value_parts st from (OfNotice (ResponseNotice m)) k n p = p
  value_parts st from (OfNotice (StatusNotice m)) k n p = p
  value_parts st from (OfNotice (SolicitNotice m)) k n p = p

  pub event_parts : (st : Server) (e : Event) → IsPlain e → P st → P (server_event config st e).state
  event_parts st (Hears from (Malformed field at) k now) n p = h.core st _ p
  event_parts st (Hears from (Whole v) k now) n p =
      let t : Server = record st { core = at_moment now st.core } in
      let q : P t = h.core st (at_moment now st.core) p in
      parts_cond P (nat_eq from everyone) (tells t Ignored) (hears_value config t from v k) q (value_parts t from v k n q)
  event_parts st (Time now) n p = h.core st _ p
  event_parts st (Connects line service) n p = parts_cond P st.halted (tells st Halted) (connect_event config st line service) p (connect_parts st line service p)
  event_parts st (Puts line bytes) n p = h.core st _ p
  event_parts st (Sets line setting) n p = h.core st _ p
  event_parts st (Takes line m) n p = h.core st _ p
  event_parts st (Attends line flag) n p = h.core st _ p
  event_parts st (Closes line) n p = h.core st _ p
  event_parts st (Requests to id service) n p = p
  event_parts st (Withdraws id) n p = p
  event_parts st Announces n p = p
  event_parts st (Avoids line) n p = absurd n
  event_parts st (Readies line ready) n p = absurd n
  event_parts st Halts n p = absurd n

  -- what follows an event

  line_parts : (line : ℕ) (o : Option Name) (g : Option Request) (p : Passing) → P p.state → P (grants_by config line o g p).state
  line_parts line None g p q = q
  line_parts line (Some service) None p q = q
  line_parts line (Some service) (Some r) p q =
      let c : Core = (granting config line service p r).state.core in
      h.queue (record (p.state) { core = c }) _ (h.core p.state c q)

  lines_parts : (lines : List ℕ) (p : Passing) → P p.state → P (grant_lines config lines p).state
  lines_parts [] p q = q
  lines_parts (line ∷ lines) p q = lines_parts lines (grant_line config p line) (line_parts line (offer_on line config.offers) (grantable p.state line (offer_on line config.offers)) p q)

  pub passed_parts : (st : Server) (e : Event) → P (server_event config st e).state → P (server_step config st e).state
  passed_parts st e p = lines_parts (upwards 0 config.lines) (record { state = finished_requests (server_event config st e).state; frames = [] }) (h.queue (server_event config st e).state _ p)
