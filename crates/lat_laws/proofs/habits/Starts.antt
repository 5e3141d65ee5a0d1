-- A START that a node refuses.
use Rattle.std.proofs.Common.{◌≡◌, ℕ, refl, sym, ap, ◌∙◌, Bool, true, false, cond, ◌&&◌, List, length, Option, Some, None, nat_eq, nat_lt, find}
use Rattle.std.proofs.lemmas.Bool.{true≢false, false≢true}
use Rattle.lat_model.specs.sessions.Session.{put_open, take_open, unframed}
use Rattle.lat_machines.specs.values.Names.{Name, same}
use Rattle.lat_machines.specs.values.Addresses.{everyone}
use Rattle.lat_machines.specs.values.Messages.{StartInfo, RunMessage, WideMessage, StartMessage, StopMessage}
use Rattle.lat_machines.specs.values.Notices.{AnnouncementNotice, CommandNotice, StatusNotice, SolicitNotice, ResponseNotice}
use Rattle.lat_machines.specs.values.Frames.{Value, OfCircuit, OfNotice, Whole, Malformed}
use Rattle.lat_machines.specs.values.Events.{Numbers, Event, Hears, Time, Connects, Puts, Sets, Takes, Attends, Closes, Requests, Withdraws, Announces, Avoids, Readies, Halts}
use Rattle.lat_machines.specs.values.Answers.{Answer, StartRefused, Ignored, NoLine, Closed, Full, IdUsed}
use Rattle.lat_machines.specs.cores.Hearing.{StartFact, Repeats, Makes, Refuses, start_fact}
use Rattle.lat_machines.specs.cores.Cores.{Seat, Core, at_moment}
use Rattle.lat_machines.specs.cores.Lines.{session_of, seat_at, has_session, line_exists}
use Rattle.lat_machines.specs.cores.LineCalls.{Said, says, put_on, set_on, attend_on, take_on, close_on, on_line}
use Rattle.lat_machines.specs.node.Node.{NodeConfig, Node, NodeStep, Requested, node_side, open_node, request_of, tells, hears_start, solicited, hears_value, requests_again, withdraws, node_step, turns_away, starts, makes_way}
use Rattle.lat_machines.specs.world.Histories.{node_run}
use Rattle.lat_machines.specs.world.Refusals.{node_moved}
use Rattle.lat_laws.specs.habits.Refused.{IsTurnedAway, RefusedStartsStop, stops_alone}

abbrev is_refusal : Answer → Bool
is_refusal StartRefused = true
is_refusal a = false

abbrev PlainSaid : Said → Type 0
PlainSaid s = is_refusal s.answer ≡ false

said_cond : (n : Bool) (s t : Said) → PlainSaid s → PlainSaid t → PlainSaid (cond n s t)
said_cond true s t p q = p
said_cond false s t p q = q

line_plain : (lines : ℕ) (c : Core) (line : ℕ) (f : Seat → Said) → ((s : Seat) → PlainSaid (f s)) → PlainSaid (on_line lines c line f)
line_plain lines c line f p =
    said_cond (line_exists lines line) (cond (has_session c line) (f (seat_at c line)) (says c Closed)) (says c NoLine)
    (said_cond (has_session c line) (f (seat_at c line)) (says c Closed) (p (seat_at c line)) refl) refl

abbrev Refused : NodeConfig → Node → Event → NodeStep → Type 0
Refused config st e s = is_refusal s.answer ≡ true → IsTurnedAway config st e s

plain_refused : (config : NodeConfig) (st : Node) (e : Event) (s : NodeStep) → is_refusal s.answer ≡ false → Refused config st e s
plain_refused config st e s p q = absurd (true≢false (sym q ∙ p))

refused_cond : (config : NodeConfig) (st : Node) (e : Event) (n : Bool) (s t : NodeStep) → Refused config st e s → Refused config st e t → Refused config st e (cond n s t)
refused_cond config st e true s t p q = p
refused_cond config st e false s t p q = q

module _ (config : NodeConfig) (st : Node) (from : ℕ) (ask : Bool) (to source : ℕ) (info : StartInfo) (numbers : Option Numbers) (now : ℕ) where
  abbrev started : Event
  started = Hears from (Whole (OfCircuit (StartMessage true ask to source info))) numbers now

  -- refused in a state of which it is known whether it is halted
  away : (n : Bool) → st.halted ≡ n → (s : NodeStep) → s ≡ cond n (stops_alone st from source 3) (stops_alone (makes_way config st from source) from source 7) → IsTurnedAway config st started s
  away n i s q = record {
    from = from;
    ask = ask;
    to = to;
    source = source;
    info = info;
    numbers = numbers;
    now = now;
    event = refl;
    step = q ∙ ap (λ z. cond z (stops_alone st from source 3) (stops_alone (makes_way config st from source) from source 7)) (sym i);
  }

  fact_refused : st.halted ≡ false → (fact : StartFact) → Refused config st started (hears_start config (makes_way config st from source) from source info fact)
  fact_refused i (Repeats k) q = absurd (false≢true q)
  fact_refused i (Makes k) q = absurd (false≢true q)
  fact_refused i Refuses q = away false i (hears_start config (makes_way config st from source) from source info Refuses) refl

  start_refused : Refused config st started (cond st.halted (turns_away config st from source) (starts config (makes_way config st from source) from source info))
  start_refused = go st.halted refl
    where
      go : (n : Bool) → st.halted ≡ n → Refused config st started (cond n (turns_away config st from source) (starts config (makes_way config st from source) from source info))
      go true i q = away true i (turns_away config st from source) refl
      go false i q = fact_refused i (start_fact (makes_way config st from source).core.circuits from source) q

value_refused : (config : NodeConfig) (rates : List ℕ) (st : Node) (from : ℕ) (v : Value) (k : Option Numbers) (now : ℕ) → Refused config st (Hears from (Whole v) k now) (hears_value config rates st from v k)
value_refused config rates st from (OfCircuit (RunMessage x slots)) k now q = absurd (false≢true q)
value_refused config rates st from (OfCircuit (WideMessage x slots)) k now q = absurd (false≢true q)
value_refused config rates st from (OfCircuit (StartMessage true ask to source info)) k now q = start_refused config st from ask to source info k now q
value_refused config rates st from (OfCircuit (StartMessage false ask to source info)) k now q = absurd (false≢true q)
value_refused config rates st from (OfCircuit (StopMessage master ask to source reason text)) k now q = absurd (false≢true q)
value_refused config rates st from (OfNotice (StatusNotice m)) k now q = absurd (false≢true q)
value_refused config rates st from (OfNotice (SolicitNotice m)) k now q = absurd (true≢false (sym q ∙ go (find (same m.service) config.services)))
  where
    go : (o : Option Name) → is_refusal (solicited config rates st from m.id o).answer ≡ false
    go None = refl
    go (Some n) = refl
value_refused config rates st from (OfNotice (AnnouncementNotice a)) k now q = absurd (false≢true q)
value_refused config rates st from (OfNotice (CommandNotice m)) k now q = absurd (false≢true q)
value_refused config rates st from (OfNotice (ResponseNotice m)) k now q = absurd (false≢true q)

step_refused : (config : NodeConfig) (rates : List ℕ) (st : Node) (e : Event) → Refused config (node_moved e st) e (node_step config rates st e)
step_refused config rates st (Hears from (Malformed field at) k now) q = absurd (false≢true q)
step_refused config rates st (Hears from (Whole v) k now) q =
    let t : Node = record st { core = at_moment now st.core } in
    refused_cond config t (Hears from (Whole v) k now) (nat_eq from everyone) (tells t Ignored) (hears_value config rates t from v k) (λ q. absurd (false≢true q)) (value_refused config rates t from v k now) q
step_refused config rates st (Time now) q = absurd (false≢true q)
step_refused config rates st (Connects line service) q = absurd (false≢true q)
step_refused config rates st (Puts line bytes) q =
    plain_refused config st (Puts line bytes) (node_step config rates st (Puts line bytes))
    (line_plain config.lines st.core line (λ s. put_on (node_side config) st.core s bytes) (λ s. said_cond (put_open (session_of st.core s)) _ (says st.core Closed) refl refl)) q
step_refused config rates st (Sets line setting) q =
    plain_refused config st (Sets line setting) (node_step config rates st (Sets line setting))
    (line_plain config.lines st.core line (λ s. set_on (node_side config) st.core s setting)
    (λ s. said_cond (put_open (session_of st.core s)) _ (says st.core Closed) (said_cond (nat_lt (length (unframed (session_of st.core s))) 4096) _ (says st.core Full) refl refl) refl)) q
step_refused config rates st (Takes line n) q =
    plain_refused config st (Takes line n) (node_step config rates st (Takes line n))
    (line_plain config.lines st.core line (λ s. take_on (node_side config) st.core s n) (λ s. said_cond (take_open (session_of st.core s)) _ (says st.core Closed) refl refl)) q
step_refused config rates st (Attends line flag) q =
    plain_refused config st (Attends line flag) (node_step config rates st (Attends line flag))
    (line_plain config.lines st.core line (λ s. attend_on (node_side config) st.core s flag) (λ s. said_cond (put_open (session_of st.core s)) _ (says st.core Closed) refl refl)) q
step_refused config rates st (Closes line) q =
    plain_refused config st (Closes line) (node_step config rates st (Closes line))
    (line_plain config.lines st.core line (λ s. close_on (node_side config) st.core s) (λ s. said_cond (take_open (session_of st.core s)) _ (says st.core Closed) refl refl)) q
step_refused config rates st (Requests to id service) q = absurd (true≢false (sym q ∙ go (request_of id st)))
  where
    go : (o : Option Requested) → is_refusal (requests_again config st to id service o).answer ≡ false
    go None = refl
    go (Some r) = by (nat_eq r.to to && same r.service service)
      where
        again : NodeStep
        again = requests_again config st to id service None

        by : (n : Bool) → is_refusal (cond n (record { state = st; answer = again.answer; frames = again.frames }) (tells st IdUsed)).answer ≡ false
        by true = refl
        by false = refl
step_refused config rates st (Withdraws id) q = absurd (true≢false (sym q ∙ go (request_of id st)))
  where
    go : (o : Option Requested) → is_refusal (withdraws config st o).answer ≡ false
    go None = refl
    go (Some r) = refl
step_refused config rates st Announces q = absurd (false≢true q)
step_refused config rates st (Avoids line) q = absurd (false≢true q)
step_refused config rates st (Readies line ready) q = absurd (false≢true q)
step_refused config rates st Halts q = absurd (false≢true q)

pub refused_starts_stop : RefusedStartsStop
refused_starts_stop config es rates e q = step_refused config rates (node_run config es (open_node config)) e (ap is_refusal q)
