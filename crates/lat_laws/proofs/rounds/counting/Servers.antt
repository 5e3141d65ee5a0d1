-- What holds of a server's core behind each event.
use Rattle.std.proofs.Common.{ℕ, refl, Bool, true, false, cond, List, [], ◌∷◌, ◌++◌, Option, Some, None, nat_eq, nat_lt}
use Rattle.lat_model.specs.sessions.Sessions.{Sessions, least_free}
use Rattle.lat_model.specs.sessions.Calls.{Call}
use Rattle.lat_model.specs.Lists.{updated, upwards}
use Rattle.lat_model.specs.circuits.Arriving.{living}
use Rattle.lat_model.specs.circuits.Ids.{ids, next_id}
use Rattle.lat_machines.specs.values.Names.{Name}
use Rattle.lat_machines.specs.values.Addresses.{everyone}
use Rattle.lat_machines.specs.values.Messages.{RunMessage, WideMessage, StartMessage, StopMessage}
use Rattle.lat_machines.specs.values.Notices.{Kept, KeptAs, Unknown, Action, Ask, Cancel, Command, AnnouncementNotice, CommandNotice, StatusNotice, SolicitNotice, ResponseNotice}
use Rattle.lat_machines.specs.values.Frames.{Value, OfCircuit, OfNotice, Whole, Malformed}
use Rattle.lat_machines.specs.values.Timing.{agreed_by}
use Rattle.lat_machines.specs.values.Keys.{Key}
use Rattle.lat_machines.specs.values.Events.{Numbers, Event, Hears, Time, Connects, Puts, Sets, Takes, Attends, Closes, Requests, Withdraws, Announces, Avoids, Readies, Halts}
use Rattle.lat_machines.specs.values.Answers.{Connected, Ignored, Busy, NoLine, SessionsFull, CircuitsFull, IdsOut, NotKept, KeptIs, Halted}
use Rattle.lat_machines.specs.server.Directory.{Best, best}
use Rattle.lat_machines.specs.server.Queue.{Cancels, Request}
use Rattle.lat_machines.specs.server.Records.{kept_for}
use Rattle.lat_machines.specs.cores.Acts.{call_at}
use Rattle.lat_machines.specs.cores.Cores.{Core, Doing, rests, acts, setup_of, at_moment, circuit_to}
use Rattle.lat_machines.specs.cores.Lines.{has_session, line_exists}
use Rattle.lat_machines.specs.cores.LineCalls.{put_on, set_on, attend_on, take_on, close_on}
use Rattle.lat_machines.specs.server.Server.{ServerConfig, Server, ServerStep, server_side, offer_on, tells, does, has_room, connects_on, opens, connects_to, solicits_for, connect_event, status_frame, key_of, hears_command, hears_value, server_event, finished_requests, Passing, grantable, grants_by, grant_line, grant_lines, server_step}
use Rattle.lat_laws.proofs.rounds.counting.Tables.{Holds, turned_same, call_turned, run_turned, stop_turned, reply_turned}
use Rattle.lat_laws.proofs.rounds.counting.Cores.{EventAllows, times_hold, line_holds, put_holds, set_holds, attend_holds, take_holds, close_holds, ends_hold}

module _ (n : ℕ → Bool) (R : ℕ → Sessions → Sessions → Type 0) (A : Call → Type 0) (P : Core → Type 0) (h : Holds n true R A P) (config : ServerConfig) (connects : (line x : ℕ) (service : Name) (key : Option Key) (request : Option ℕ) (c : Core) → P c → P (connects_on config line x service key request c).core) where
  opens_hold : (line address : ℕ) (node service : Name) (key : Option Key) (request : Option ℕ) (c : Core) → P c → P (opens config line address node service key request c).core
  opens_hold line address node service key request c p = go (nat_eq (circuit_to c address) 0)
    where
      named : Core
      named = record c { names = updated c.names (next_id c.circuits) node }

      made : Doing
      made = acts (server_side config) named (call_at (setup_of config.timing) named.circuits address named.moment)

      connected : (d : Doing) → P d.core → P (connects_on config line (circuit_to d.core address) service key request d.core).core
      connected d q = connects line (circuit_to d.core address) service key request d.core q

      go : (b : Bool) → P (connects_on config line (circuit_to (cond b made (rests c)).core address) service key request (cond b made (rests c)).core).core
      go true = connected made (h.turns c made.core p refl (call_turned n true R h.kept refl (setup_of config.timing) c.circuits address c.moment (h.drawn c p)))
      go false = connected (rests c) p

  step_cond : (b : Bool) (s t : ServerStep) → P s.state.core → P t.state.core → P (cond b s t).state.core
  step_cond true s t p q = p
  step_cond false s t p q = q

  connect_holds : (st : Server) (line : ℕ) (service : Name) → P st.core → P (connect_event config st line service).state.core
  connect_holds st line service p = go (line_exists config.lines line) (has_session st.core line) (best config.groups service st.core.moment st.heard)
    where
      reaches : (b : Best) → P (connects_to config st line service b).state.core
      reaches b =
          let x : ℕ = circuit_to st.core b.from in
          let d : Doing = opens config line b.from b.node service None None st.core in
          let o : P d.core = opens_hold line b.from b.node service None None st.core p in
          step_cond (nat_eq x 0)
          (cond (nat_lt (living st.core.circuits) 8) (cond (nat_lt st.core.circuits.drawn 65535) (does st (Connected (next_id st.core.circuits) 1) d) (tells st IdsOut)) (tells st CircuitsFull))
          (cond (has_room st.core x) (does st (Connected x (least_free (st.core.circuits.circuit_at x).end.half.sessions)) d) (tells st SessionsFull))
          (step_cond (nat_lt (living st.core.circuits) 8) (cond (nat_lt st.core.circuits.drawn 65535) (does st (Connected (next_id st.core.circuits) 1) d) (tells st IdsOut)) (tells st CircuitsFull) (step_cond (nat_lt st.core.circuits.drawn 65535) (does st (Connected (next_id st.core.circuits) 1) d) (tells st IdsOut) o p) p)
          (step_cond (has_room st.core x) (does st (Connected x (least_free (st.core.circuits.circuit_at x).end.half.sessions)) d) (tells st SessionsFull) o p)

      go : (a b : Bool) (o : Option Best) → P (cond a (cond b (tells st Busy) (elim o [ None ↦ solicits_for config st service | Some b ↦ connects_to config st line service b ])) (tells st NoLine)).state.core
      go false m o = p
      go true true o = p
      go true false None = p
      go true false (Some b) = reaches b

  command_holds : (st : Server) (from : ℕ) (m : Command) (a : Action) → P st.core → P (hears_command config st from m a).state.core
  command_holds st from m Ask p = p
  command_holds st from m Cancel p = go (kept_for (key_of m) (st.queue ++ Cancels (key_of m) ∷ []))
    where
      told : Option Kept → ServerStep
      told o = elim o [
        | None ↦ record { state = record st { queue = st.queue ++ Cancels (key_of m) ∷ [] }; answer = NotKept; frames = status_frame from m Unknown ∷ [] }
        | Some k ↦ record { state = record st { queue = st.queue ++ Cancels (key_of m) ∷ [] }; answer = KeptIs k; frames = status_frame from m (KeptAs k) ∷ [] }
      ]

      go : (o : Option Kept) → P (told o).state.core
      go None = p
      go (Some k) = p

  value_holds : (st : Server) (from : ℕ) (v : Value) (k : Option Numbers) → P st.core → P (hears_value config st from v k).state.core
  value_holds st from (OfCircuit (RunMessage a slots)) k p = h.turns st.core _ p refl (run_turned n true R h.kept true st.core.circuits from false a slots k st.core.moment)
  value_holds st from (OfCircuit (WideMessage a slots)) k p = h.turns st.core _ p refl (run_turned n true R h.kept true st.core.circuits from true a slots k st.core.moment)
  value_holds st from (OfCircuit (StartMessage true ask to source info)) k p = p
  value_holds st from (OfCircuit (StartMessage false ask to source info)) k p = h.turns st.core _ p refl (reply_turned n true R h.kept st.core.circuits from to source st.core.moment (agreed_by config.timing info))
  value_holds st from (OfCircuit (StopMessage master ask to source reason text)) k p = h.turns st.core _ p refl (stop_turned n true R h.kept true st.core.circuits from to source st.core.moment reason)
  value_holds st from (OfNotice (AnnouncementNotice a)) k p = p
  value_holds st from (OfNotice (CommandNotice m)) k p = command_holds st from m m.action p
  value_holds st from (OfNotice (ResponseNotice m)) k p = p
  value_holds st from (OfNotice (StatusNotice m)) k p = p
  value_holds st from (OfNotice (SolicitNotice m)) k p = p

  moment_holds : (c : Core) (now : ℕ) → P c → P (at_moment now c)
  moment_holds c now p = h.turns c (at_moment now c) p refl (turned_same n true R h.kept c.circuits)

  event_holds : (st : Server) (e : Event) → EventAllows A e → P st.core → P (server_event config st e).state.core
  event_holds st (Hears from (Malformed field at) k now) a p = moment_holds st.core now p
  event_holds st (Hears from (Whole v) k now) a p =
      let s : Server = record st { core = at_moment now st.core } in
      step_cond (nat_eq from everyone) (tells s Ignored) (hears_value config s from v k) (moment_holds st.core now p) (value_holds s from v k (moment_holds st.core now p))
  event_holds st (Time now) a p = times_hold n true R A P h (server_side config) (ids st.core.circuits) (rests (at_moment now st.core)) (moment_holds st.core now p)
  event_holds st (Connects line service) a p = step_cond st.halted (tells st Halted) (connect_event config st line service) p (connect_holds st line service p)
  event_holds st (Puts line bytes) a p = line_holds n true R A P h config.lines st.core line (λ s. put_on (server_side config) st.core s bytes) p (λ s. put_holds n true R A P h (server_side config) st.core s bytes a p)
  event_holds st (Sets line setting) a p = line_holds n true R A P h config.lines st.core line (λ s. set_on (server_side config) st.core s setting) p (λ s. set_holds n true R A P h (server_side config) st.core s setting a p)
  event_holds st (Takes line m) a p = line_holds n true R A P h config.lines st.core line (λ s. take_on (server_side config) st.core s m) p (λ s. take_holds n true R A P h (server_side config) st.core s m a p)
  event_holds st (Attends line flag) a p = line_holds n true R A P h config.lines st.core line (λ s. attend_on (server_side config) st.core s flag) p (λ s. attend_holds n true R A P h (server_side config) st.core s flag a p)
  event_holds st (Closes line) a p = line_holds n true R A P h config.lines st.core line (λ s. close_on (server_side config) st.core s) p (λ s. close_holds n true R A P h (server_side config) st.core s a p)
  event_holds st (Requests to id service) a p = p
  event_holds st (Withdraws id) a p = p
  event_holds st Announces a p = p
  event_holds st (Avoids line) a p = p
  event_holds st (Readies line ready) a p = p
  event_holds st Halts a p = ends_hold n true R A P h (server_side config) 3 (ids st.core.circuits) (rests st.core) p

  -- the grant pass

  line_grants_hold : (line : ℕ) (o : Option Name) (g : Option Request) (x : Passing) → P x.state.core → P (grants_by config line o g x).state.core
  line_grants_hold line None g x p = p
  line_grants_hold line (Some service) None x p = p
  line_grants_hold line (Some service) (Some g) x p = opens_hold line g.from g.key.node service (Some g.key) (Some g.key.request) x.state.core p

  pass_holds : (lines : List ℕ) (x : Passing) → P x.state.core → P (grant_lines config lines x).state.core
  pass_holds [] x p = p
  pass_holds (line ∷ lines) x p = pass_holds lines (grant_line config x line) (line_grants_hold line (offer_on line config.offers) (grantable x.state line (offer_on line config.offers)) x p)

  pub server_holds : (st : Server) (e : Event) → EventAllows A e → P st.core → P (server_step config st e).state.core
  server_holds st e a p = pass_holds (upwards 0 config.lines) (record { state = finished_requests (server_event config st e).state; frames = [] }) (event_holds st e a p)
