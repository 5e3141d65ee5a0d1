-- Each announcement of a node tells whether all its lines were held, and who told so isn't chosen.
use Rattle.std.proofs.Common.{◌≡◌, ℕ, suc, ◌≤◌, arith, refl, ap, ◌∙◌, subst, Bool, true, false, cond, ◌&&◌, List, [], ◌∷◌, map, length, Option, Some, None, nat_eq, find}
use Rattle.lat_model.specs.Lists.{Each}
use Rattle.lat_model.specs.ends.End.{Sent, Run, CallStart, ReplyStart, Stopped}
use Rattle.lat_model.specs.circuits.World.{Wired}
use Rattle.lat_model.proofs.numbers.Net.{each_at, each_append, each_imp}
use Rattle.lat_machines.specs.values.Names.{Name, same}
use Rattle.lat_machines.specs.values.Addresses.{everyone}
use Rattle.lat_machines.specs.values.Messages.{StartInfo, RunMessage, WideMessage, StartMessage, StopMessage, Head}
use Rattle.lat_machines.specs.values.Notices.{Service, Announcement, AnnouncementNotice, CommandNotice, StatusNotice, SolicitNotice, ResponseNotice}
use Rattle.lat_machines.specs.values.Frames.{Value, OfCircuit, OfNotice, Reading, Whole, Malformed, OutFrame}
use Rattle.lat_machines.specs.values.Timing.{agreed_by}
use Rattle.lat_machines.specs.values.Events.{Numbers, Event, Hears, Time, Connects, Puts, Sets, Takes, Attends, Closes, Requests, Withdraws, Announces, Avoids, Readies, Halts}
use Rattle.lat_machines.specs.values.Answers.{Ignored, IdUsed}
use Rattle.lat_machines.specs.cores.Acts.{Acted, time_at, end_at, stray_at}
use Rattle.lat_machines.specs.cores.Hearing.{hear_run, hear_stop_at, StartFact, start_fact, start_at}
use Rattle.lat_machines.specs.cores.Cores.{Core, Side, setup_of, sent_frame, Doing, rests, then_doing, with_circuits, acts, at_moment, time_each, end_each, ends_all, is_stranger, told_stranger}
use Rattle.lat_machines.specs.cores.Lines.{used}
use Rattle.lat_machines.specs.server.Directory.{rating_of}
use Rattle.lat_machines.specs.node.Node.{NodeConfig, Node, NodeStep, Requested, node_side, open_node, request_of, tells, rated, rest_rates, names_for, hears_start, solicited, hears_value, requests_again, withdraws, node_step, rates_of, hears_run, response, announcement, first_rate, farewell, turns_away, starts, makes_way}
use Rattle.lat_machines.specs.world.Histories.{node_run}
use Rattle.lat_laws.specs.habits.Fullness.{TellsFullness, IsAnnounced, AnnouncementsTellFullness, FullAreNotChosen}
use Rattle.lat_laws.proofs.habits.Chosen.{unwilling}
use Rattle.lat_model.specs.sessions.Slots.{Slot}
use Rattle.lat_model.specs.circuits.Events.{stray_stop}
use Rattle.lat_model.specs.circuits.Ids.{ids}

-- each rating of an announcement is as R says
abbrev Rates : (ℕ → Type 0) → Value → Type 0
Rates R (OfCircuit m) = Unit {0}
Rates R (OfNotice (AnnouncementNotice a)) = Each (λ (s : Service). R s.rating) a.services
Rates R (OfNotice (CommandNotice m)) = Unit {0}
Rates R (OfNotice (StatusNotice s)) = Unit {0}
Rates R (OfNotice (SolicitNotice s)) = Unit {0}
Rates R (OfNotice (ResponseNotice r)) = Unit {0}

abbrev AllRate : (ℕ → Type 0) → List OutFrame → Type 0
AllRate R fs = Each (λ (f : OutFrame). Rates R f.value) fs

module _ (R : ℕ → Type 0) where
  -- circuits announce nothing
  sent_rates : (k : Side) (c : Core) (by_server : Bool) (circuit to destination source : ℕ) (s : Sent) → Rates R (sent_frame k c (record { by_server = by_server; circuit = circuit; to = to; destination = destination; source = source; sent = s })).value
  sent_rates k c b x to destination source (Run m ask f) = tt
  sent_rates k c b x to destination source CallStart = tt
  sent_rates k c b x to destination source ReplyStart = tt
  sent_rates k c b x to destination source (Stopped r) = tt

  acts_rate : (k : Side) (c : Core) (ws : List Wired) → AllRate R (map (sent_frame k c) ws)
  acts_rate k c [] = tt
  acts_rate k c (w ∷ ws) = (sent_rates k c w.by_server w.circuit w.to w.destination w.source w.sent, acts_rate k c ws)

  doing_rates : (k : Side) (c : Core) (x : Acted) → AllRate R (acts k c x).frames
  doing_rates k c x = acts_rate k (with_circuits c x.table) x.sent

  times_rate : (k : Side) (xs : List ℕ) (d : Doing) → AllRate R d.frames → AllRate R (time_each k xs d).frames
  times_rate k [] d h = h
  times_rate k (x ∷ xs) d h = times_rate k xs (then_doing d (λ c. acts k c (time_at k.server c.circuits x c.moment))) (each_append (λ (f : OutFrame). Rates R f.value) d.frames (map (sent_frame k (with_circuits d.core (time_at k.server d.core.circuits x d.core.moment).table)) (time_at k.server d.core.circuits x d.core.moment).sent) h (doing_rates k d.core (time_at k.server d.core.circuits x d.core.moment)))

  ends_rate : (k : Side) (r : ℕ) (xs : List ℕ) (d : Doing) → AllRate R d.frames → AllRate R (end_each k r xs d).frames
  ends_rate k r [] d h = h
  ends_rate k r (x ∷ xs) d h = ends_rate k r xs (then_doing d (λ c. acts k c (end_at k.server c.circuits x r))) (each_append (λ (f : OutFrame). Rates R f.value) d.frames (map (sent_frame k (with_circuits d.core (end_at k.server d.core.circuits x r).table)) (end_at k.server d.core.circuits x r).sent) h (doing_rates k d.core (end_at k.server d.core.circuits x r)))

  -- what a stranger is told
  stranger_rates : (k : Side) (prompt : Bool) (c : Core) (from : ℕ) (m : Head) → AllRate R (told_stranger k prompt c from m)
  stranger_rates k prompt c from m = go (prompt && is_stranger c.circuits from m)
    where
      go : (n : Bool) → AllRate R (cond n (map (sent_frame k c) (stray_stop k.server from m.from m.to 5 ∷ [])) [])
      go true = acts_rate k c (stray_stop k.server from m.from m.to 5 ∷ [])
      go false = tt

  -- a farewell offers nothing
  farewell_rates : (config : NodeConfig) (halted : Bool) → AllRate R (farewell config halted)
  farewell_rates config true = tt
  farewell_rates config false = (tt, tt)

  -- enough ratings for all services
  rated_all : (services : List Name) (rates : List ℕ) → length services ≤ length rates → Each R rates → Each (λ (s : Service). R s.rating) (rated services rates)
  rated_all [] rates l h = tt
  rated_all (s ∷ ss) [] l h = absurd (omega (arith, l))
  rated_all (s ∷ ss) (r ∷ rs) l h = (h.0, rated_all ss rs (omega (arith, l)) h.1)

  rest_all : (services : List Name) (rates : List ℕ) → length rates ≡ suc (length services) → Each R rates → Each (λ (s : Service). R s.rating) (rated services (rest_rates rates))
  rest_all services [] q h = absurd (omega (arith, q))
  rest_all services (r ∷ rs) q h = rated_all services rs (omega (arith, q)) h.1

  module _ (config : NodeConfig) (rates : List ℕ) (h : Each R rates) where
    -- of a step at an event that asks for so many ratings, of a node that is halted or not
    abbrev StepRates : Bool → Event → NodeStep → Type 0
    StepRates halted e s = length rates ≡ cond halted 0 (rates_of config s.answer e) → AllRate R s.frames

    cond_rates : (halted : Bool) (e : Event) (n : Bool) (s t : NodeStep) → StepRates halted e s → StepRates halted e t → StepRates halted e (cond n s t)
    cond_rates halted e true s t p q = p
    cond_rates halted e false s t p q = q

    run_rates : (st : Node) (from : ℕ) (wide : Bool) (m : Head) (slots : List Slot) (k : Option Numbers) → AllRate R (hears_run config st from wide m slots k).frames
    run_rates st from wide m slots k =
        let x : Acted = (hear_run false st.core.circuits from wide m slots k st.core.moment).act in
        each_append (λ (f : OutFrame). Rates R f.value) (acts (node_side config) st.core x).frames (told_stranger (node_side config) config.prompt st.core from m)
        (doing_rates (node_side config) st.core x)
        (stranger_rates (node_side config) config.prompt st.core from m)

    start_rates : (st : Node) (from source : ℕ) (info : StartInfo) (fact : StartFact) → AllRate R (hears_start config st from source info fact).frames
    start_rates st from source info fact =
        let c : Core = names_for fact info.name st.core in
        doing_rates (node_side config) c (start_at (setup_of config.timing) c.circuits from source c.moment (agreed_by config.timing info) fact)

    solicited_rates : (from : ℕ) (payload : Reading) (k : Option Numbers) (now : ℕ) (st : Node) (id : ℕ) (o : Option Name) → StepRates st.halted (Hears from payload k now) (solicited config rates st from id o)
    solicited_rates from payload k now st id None q = tt
    solicited_rates from payload k now st id (Some n) q = go st.halted q
      where
        go : (z : Bool) → length rates ≡ cond z 0 (suc (length config.services)) → AllRate R (cond z [] (response config from id n (first_rate rates) ∷ announcement config (rest_rates rates) ∷ []))
        go true q = tt
        go false q = (tt, (rest_all config.services rates q h, tt))

    value_rates : (from : ℕ) (payload : Reading) (k : Option Numbers) (now : ℕ) (st : Node) (v : Value) → StepRates st.halted (Hears from payload k now) (hears_value config rates st from v k)
    value_rates from payload k now st (OfCircuit (RunMessage m slots)) q = run_rates st from false m slots k
    value_rates from payload k now st (OfCircuit (WideMessage m slots)) q = run_rates st from true m slots k
    value_rates from payload k now st (OfCircuit (StartMessage true ask to source info)) q = go st.halted
      where
        go : (n : Bool) → AllRate R (cond n (turns_away config st from source) (starts config (makes_way config st from source) from source info)).frames
        go true = doing_rates (node_side config) st.core (stray_at false st.core.circuits from source 0 3)
        go false = start_rates (makes_way config st from source) from source info (start_fact (makes_way config st from source).core.circuits from source)
    value_rates from payload k now st (OfCircuit (StartMessage false ask to source info)) q = tt
    value_rates from payload k now st (OfCircuit (StopMessage master ask to source reason text)) q = doing_rates (node_side config) st.core (hear_stop_at false st.core.circuits from to source st.core.moment reason).act
    value_rates from payload k now st (OfNotice (StatusNotice m)) q = tt
    value_rates from payload k now st (OfNotice (SolicitNotice m)) q = solicited_rates from payload k now st m.id (find (same m.service) config.services) q
    value_rates from payload k now st (OfNotice (AnnouncementNotice a)) q = tt
    value_rates from payload k now st (OfNotice (CommandNotice m)) q = tt
    value_rates from payload k now st (OfNotice (ResponseNotice m)) q = tt

    step_rates : (st : Node) (e : Event) → StepRates st.halted e (node_step config rates st e)
    step_rates st (Hears from (Malformed field at) k now) q = tt
    step_rates st (Hears from (Whole v) k now) q =
        let t : Node = record st { core = at_moment now st.core } in
        cond_rates st.halted (Hears from (Whole v) k now) (nat_eq from everyone) (tells t Ignored) (hears_value config rates t from v k) (λ z. tt) (value_rates from (Whole v) k now t v) q
    step_rates st (Time now) q = times_rate (node_side config) (ids st.core.circuits) (rests (at_moment now st.core)) tt
    step_rates st (Connects line service) q = tt
    step_rates st (Puts line bytes) q = tt
    step_rates st (Sets line setting) q = tt
    step_rates st (Takes line n) q = tt
    step_rates st (Attends line flag) q = tt
    step_rates st (Closes line) q = tt
    step_rates st (Requests to id service) q = go (request_of id st)
      where
        go : (o : Option Requested) → AllRate R (requests_again config st to id service o).frames
        go None = (tt, tt)
        go (Some r) = by (nat_eq r.to to && same r.service service)
          where
            again : NodeStep
            again = requests_again config st to id service None

            by : (n : Bool) → AllRate R (cond n (record { state = st; answer = again.answer; frames = again.frames }) (tells st IdUsed)).frames
            by true = (tt, tt)
            by false = tt
    step_rates st (Withdraws id) q = go (request_of id st)
      where
        go : (o : Option Requested) → AllRate R (withdraws config st o).frames
        go None = tt
        go (Some r) = (tt, tt)
    step_rates st Announces q = go st.halted q
      where
        go : (z : Bool) → length rates ≡ cond z 0 (length config.services) → AllRate R (cond z [] (announcement config rates ∷ []))
        go true q = tt
        go false q = (rated_all config.services rates (omega (arith, q)) h, tt)
    step_rates st (Avoids line) q = tt
    step_rates st (Readies line ready) q = tt
    step_rates st Halts q = each_append (λ (f : OutFrame). Rates R f.value) (ends_all (node_side config) 3 st.core).frames (farewell config st.halted) (ends_rate (node_side config) 3 (ids st.core.circuits) (rests st.core) tt) (farewell_rates config st.halted)

announced_tells : (config : NodeConfig) (st : Node) (a : Announcement) → IsAnnounced config st a → Each (λ (s : Service). TellsFullness (used st.core) config.lines s.rating) a.services
announced_tells config st a i =
    let R : ℕ → Type 0 = TellsFullness (used st.core) config.lines in
    subst (Rates R) i.value
    (each_at (λ (f : OutFrame). Rates R f.value) (node_step config i.rates st i.event).frames i.place i.frame (step_rates R config i.rates i.rated.each st i.event i.rated.count) i.sent)

pub tells_fullness : AnnouncementsTellFullness
tells_fullness config es a i = announced_tells config (node_run config es (open_node config)) a i

-- a node whose services are all rated 0

rated_none : (service : Name) (ss : List Service) → Each (λ (s : Service). s.rating ≡ 0) ss → rating_of service ss ≡ 0
rated_none service [] h = refl
rated_none service (s ∷ ss) h = go (same s.name service) (rated_none service ss h.1)
  where
    go : (b : Bool) → rating_of service ss ≡ 0 → cond b s.rating (rating_of service ss) ≡ 0
    go true r = h.0
    go false r = r

pub full_not_chosen : FullAreNotChosen
full_not_chosen config es a i q groups service now before after e b is l best =
    let st : Node = node_run config es (open_node config) in
    let none : Each (λ (s : Service). s.rating ≡ 0) a.services = each_imp (λ (s : Service). TellsFullness (used st.core) config.lines s.rating) (λ (s : Service). s.rating ≡ 0) (λ s t. t.1 q) a.services (announced_tells config st a i) in
    subst (λ (z : Announcement). same b.node z.node ≡ false) is
    (unwilling groups service now before after e b l (ap (λ (z : Announcement). rating_of service z.services) is ∙ rated_none service a.services none) best)
