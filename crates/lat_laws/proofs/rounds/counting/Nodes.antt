-- What holds of a node's core behind each event.
use Rattle.std.proofs.Common.{◌≡◌, ℕ, ◌+◌, refl, Bool, true, false, cond, ◌&&◌, List, [], ◌∷◌, Option, Some, None, nat_eq}
use Rattle.std.specs.List.{find}
use Rattle.lat_model.specs.sessions.Slots.{Slot}
use Rattle.lat_model.specs.sessions.Session.{Session, waits}
use Rattle.lat_model.specs.sessions.Sessions.{Sessions}
use Rattle.lat_model.specs.sessions.Calls.{Call, RejectAsk}
use Rattle.lat_model.specs.Lists.{upwards}
use Rattle.lat_model.specs.ends.End.{lives}
use Rattle.lat_model.specs.circuits.Ids.{ids}
use Rattle.lat_machines.specs.values.Names.{Name, same}
use Rattle.lat_machines.specs.values.Addresses.{everyone}
use Rattle.lat_machines.specs.values.Messages.{Head, StartInfo, RunMessage, WideMessage, StartMessage, StopMessage}
use Rattle.lat_machines.specs.values.Notices.{Notice, AnnouncementNotice, CommandNotice, StatusNotice, SolicitNotice, ResponseNotice}
use Rattle.lat_machines.specs.values.Frames.{Value, OfCircuit, OfNotice, Whole, Malformed}
use Rattle.lat_machines.specs.values.Timing.{agreed_by}
use Rattle.lat_machines.specs.values.Events.{Numbers, Event, Hears, Time, Connects, Puts, Sets, Takes, Attends, Closes, Requests, Withdraws, Announces, Avoids, Readies, Halts}
use Rattle.lat_machines.specs.values.Answers.{Ignored}
use Rattle.lat_machines.specs.cores.Cores.{Core, rests, setup_of, at_moment, with_circuits}
use Rattle.lat_machines.specs.cores.Hearing.{names, hear_run, StartFact, Repeats, Makes, Refuses, start_fact, start_at, outlive}
use Rattle.lat_machines.specs.cores.LineCalls.{put_on, set_on, attend_on, take_on, close_on}
use Rattle.lat_machines.specs.node.Node.{NodeConfig, Node, NodeStep, node_side, heard_at, tells, Verdict, Accepts, Rejects, judged, verdict, asked_at, asked_on, answers_one, answers_in, answers_asked, hears_run, hears_start, hears_value, hears_notice, solicited, requests_again, withdraws, Requested, request_of, node_step, makes_way, starts, turns_away}
use Rattle.lat_laws.proofs.rounds.counting.Tables.{Turned, Holds, turned_same, run_turned, stop_turned, start_turned, outlived_turned}
use Rattle.lat_laws.proofs.rounds.counting.Cores.{EventAllows, times_hold, line_holds, local_holds, put_holds, set_holds, attend_holds, take_holds, close_holds, ends_hold}

module _ (n : ℕ → Bool) (R : ℕ → Sessions → Sessions → Type 0) (A : Call → Type 0) (P : Core → Type 0) (h : Holds n false R A P) (config : NodeConfig) (accepts : (st : Node) (x id line : ℕ) (request : Option ℕ) → waits (asked_at st x id) ≡ true → P st.core → P (judged config st x id request (Accepts line)).core) (refuses : (id reason : ℕ) → A (RejectAsk id reason)) where
  judged_holds : (st : Node) (x id : ℕ) (request : Option ℕ) (v : Verdict) → waits (asked_at st x id) ≡ true → P st.core → P (judged config st x id request v).core
  judged_holds st x id request (Rejects reason) w p = local_holds n false R A P h (node_side config) st.core x (RejectAsk id reason) (refuses id reason) p
  judged_holds st x id request (Accepts line) w p = accepts st x id line request w p

  one_holds : (st : Node) (x id : ℕ) → P st.core → P (answers_one config x st id).core
  one_holds st x id p = go (waits (asked_at st x id)) refl
    where
      s : Session
      s = asked_at st x id

      go : (b : Bool) → waits (asked_at st x id) ≡ b → P (cond b (judged config st x id s.request (verdict config st s.service s.request)) st).core
      go true q = judged_holds st x id s.request (verdict config st s.service s.request) q p
      go false q = p

  ones_hold : (x : ℕ) (ids : List ℕ) (st : Node) → P st.core → P (answers_in config x ids st).core
  ones_hold x [] st p = p
  ones_hold x (id ∷ ids) st p = ones_hold x ids (answers_one config x st id) (one_holds st x id p)

  pub asked_holds : (x : ℕ) (st : Node) → P st.core → P (answers_asked config x st).core
  asked_holds x st p = go (lives (st.core.circuits.circuit_at x).end)
    where
      go : (b : Bool) → P (cond b (answers_in config x (upwards 0 64) st) (record st { turned_away = st.turned_away + asked_on st x })).core
      go true = ones_hold x (upwards 0 64) st p
      go false = p

  then_holds : (b : Bool) (x : ℕ) (s : NodeStep) → P s.state.core → P (cond b (answers_asked config x s.state) s.state).core
  then_holds true x s p = asked_holds x s.state p
  then_holds false x s p = p

  run_holds : (st : Node) (from : ℕ) (wide : Bool) (a : Head) (k : Option Numbers) (slots : List Slot) → P st.core → P (hears_run config st from wide a slots k).state.core
  run_holds st from wide a k slots p = then_holds (names st.core.circuits from a.to a.from) a.to (heard_at config st (hear_run false st.core.circuits from wide a slots k st.core.moment)) (h.turns st.core _ p refl (run_turned n false R h.kept false st.core.circuits from wide a slots k st.core.moment))

  start_holds : (st : Node) (from source : ℕ) (info : StartInfo) → P st.core → P (hears_start config st from source info (start_fact st.core.circuits from source)).state.core
  start_holds st from source info p = go (start_fact st.core.circuits from source) (start_turned n false R h.kept refl (setup_of config.timing) st.core.circuits from source st.core.moment (agreed_by config.timing info) (h.drawn st.core p))
    where
      go : (f : StartFact) → Turned R st.core.circuits (start_at (setup_of config.timing) st.core.circuits from source st.core.moment (agreed_by config.timing info) f).table → P (hears_start config st from source info f).state.core
      go (Makes k) t = h.turns st.core _ p refl t
      go (Repeats k) t = h.turns st.core _ p refl t
      go Refuses t = h.turns st.core _ p refl t

  -- the slaves that a START follows
  way_holds : (st : Node) (from source : ℕ) → P st.core → P (makes_way config st from source).core
  way_holds st from source p = go config.prompt
    where
      go : (b : Bool) → P (with_circuits st.core (cond b (outlive from source (ids st.core.circuits) st.core.circuits) st.core.circuits))
      go true = h.turns st.core _ p refl (outlived_turned n false R h.kept from source (ids st.core.circuits) st.core.circuits)
      go false = h.turns st.core _ p refl (turned_same n false R h.kept st.core.circuits)

  step_cond : (b : Bool) (s t : NodeStep) → P s.state.core → P t.state.core → P (cond b s t).state.core
  step_cond true s t p q = p
  step_cond false s t p q = q

  notice_holds : (rates : List ℕ) (st : Node) (from : ℕ) (v : Notice) → P st.core → P (hears_notice config rates st from v).state.core
  notice_holds rates st from (StatusNotice s) p = p
  notice_holds rates st from (SolicitNotice s) p = go (find (same s.service) config.services)
    where
      go : (o : Option Name) → P (solicited config rates st from s.id o).state.core
      go None = p
      go (Some x) = p
  notice_holds rates st from (AnnouncementNotice a) p = p
  notice_holds rates st from (CommandNotice m) p = p
  notice_holds rates st from (ResponseNotice r) p = p

  value_holds : (rates : List ℕ) (st : Node) (from : ℕ) (v : Value) (k : Option Numbers) → P st.core → P (hears_value config rates st from v k).state.core
  value_holds rates st from (OfCircuit (RunMessage a slots)) k p = run_holds st from false a k slots p
  value_holds rates st from (OfCircuit (WideMessage a slots)) k p = run_holds st from true a k slots p
  value_holds rates st from (OfCircuit (StartMessage true ask to source info)) k p =
      let m : Node = makes_way config st from source in
      step_cond st.halted (turns_away config st from source) (starts config m from source info) (h.turns st.core _ p refl (turned_same n false R h.kept st.core.circuits)) (start_holds m from source info (way_holds st from source p))
  value_holds rates st from (OfCircuit (StartMessage false ask to source info)) k p = p
  value_holds rates st from (OfCircuit (StopMessage master ask to source reason text)) k p = h.turns st.core _ p refl (stop_turned n false R h.kept false st.core.circuits from to source st.core.moment reason)
  value_holds rates st from (OfNotice v) k p = notice_holds rates st from v p

  moment_holds : (c : Core) (now : ℕ) → P c → P (at_moment now c)
  moment_holds c now p = h.turns c (at_moment now c) p refl (turned_same n false R h.kept c.circuits)

  request_holds : (st : Node) (to id : ℕ) (service : Name) (o : Option Requested) → P st.core → P (requests_again config st to id service o).state.core
  request_holds st to id service None p = p
  request_holds st to id service (Some r) p = step_cond (nat_eq r.to to && same r.service service) _ _ p p

  withdraw_holds : (st : Node) (o : Option Requested) → P st.core → P (withdraws config st o).state.core
  withdraw_holds st None p = p
  withdraw_holds st (Some r) p = p

  pub node_holds : (rates : List ℕ) (st : Node) (e : Event) → EventAllows A e → P st.core → P (node_step config rates st e).state.core
  node_holds rates st (Hears from (Malformed field at) k now) a p = moment_holds st.core now p
  node_holds rates st (Hears from (Whole v) k now) a p =
      let s : Node = record st { core = at_moment now st.core } in
      step_cond (nat_eq from everyone) (tells s Ignored) (hears_value config rates s from v k) (moment_holds st.core now p) (value_holds rates s from v k (moment_holds st.core now p))
  node_holds rates st (Time now) a p = times_hold n false R A P h (node_side config) (ids st.core.circuits) (rests (at_moment now st.core)) (moment_holds st.core now p)
  node_holds rates st (Connects line service) a p = p
  node_holds rates st (Puts line bytes) a p = line_holds n false R A P h config.lines st.core line (λ s. put_on (node_side config) st.core s bytes) p (λ s. put_holds n false R A P h (node_side config) st.core s bytes a p)
  node_holds rates st (Sets line setting) a p = line_holds n false R A P h config.lines st.core line (λ s. set_on (node_side config) st.core s setting) p (λ s. set_holds n false R A P h (node_side config) st.core s setting a p)
  node_holds rates st (Takes line m) a p = line_holds n false R A P h config.lines st.core line (λ s. take_on (node_side config) st.core s m) p (λ s. take_holds n false R A P h (node_side config) st.core s m a p)
  node_holds rates st (Attends line flag) a p = line_holds n false R A P h config.lines st.core line (λ s. attend_on (node_side config) st.core s flag) p (λ s. attend_holds n false R A P h (node_side config) st.core s flag a p)
  node_holds rates st (Closes line) a p = line_holds n false R A P h config.lines st.core line (λ s. close_on (node_side config) st.core s) p (λ s. close_holds n false R A P h (node_side config) st.core s a p)
  node_holds rates st (Requests to id service) a p = request_holds st to id service (request_of id st) p
  node_holds rates st (Withdraws id) a p = withdraw_holds st (request_of id st) p
  node_holds rates st Announces a p = p
  node_holds rates st (Avoids line) a p = p
  node_holds rates st (Readies line ready) a p = p
  node_holds rates st Halts a p = ends_hold n false R A P h (node_side config) 3 (ids st.core.circuits) (rests st.core) p
