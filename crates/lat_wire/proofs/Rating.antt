-- The frames of a node whose rule has one answer.
use Rattle.std.proofs.Common.{◌≡◌, ℕ, zero, suc, ◌≤◌, ap, ap₂, refl, arith, Bool, true, false, cond, List, [], ◌∷◌, length, replicate, Option, Some, None, nat_eq}
use Rattle.std.specs.List.{find}
use Rattle.lat_model.specs.Lists.{Each}
use Rattle.lat_machines.specs.values.Names.{Name, same}
use Rattle.lat_machines.specs.values.Addresses.{everyone}
use Rattle.lat_machines.specs.values.Notices.{Service, AnnouncementNotice, CommandNotice, StatusNotice, SolicitNotice, ResponseNotice}
use Rattle.lat_machines.specs.values.Frames.{Value, OfCircuit, OfNotice, Whole, Malformed, plain}
use Rattle.lat_machines.specs.values.Events.{Numbers, Event, Hears, Time, Connects, Puts, Sets, Takes, Attends, Closes, Requests, Withdraws, Announces, Avoids, Readies, Halts}
use Rattle.lat_machines.specs.values.Answers.{Ignored}
use Rattle.lat_machines.specs.cores.Cores.{at_moment}
use Rattle.lat_machines.specs.node.Node.{NodeConfig, Node, tells, rated, first_rate, rest_rates, announcement, response, solicited, hears_value, node_step, rates_of}

abbrev Are : ℕ → List ℕ → Type 0
Are r rates = Each (λ z. z ≡ r) rates

-- as many ratings as there are services, or more
rated_same : (ss : List Name) (rates : List ℕ) (r m : ℕ) → Are r rates → length rates ≡ length ss → length ss ≤ m → rated ss rates ≡ rated ss (replicate m r)
rated_same [] rates r m h n l = refl
rated_same (s ∷ ss) [] r m h n l = absurd (omega (arith, n))
rated_same (s ∷ ss) (x ∷ rates) r zero h n l = absurd (omega (arith, l))
rated_same (s ∷ ss) (x ∷ rates) r (suc m) h n l =
    ap₂ (λ y z. (let v : Service = record { rating = y; name = s; description = [] } in v) ∷ z) h.0 (rated_same ss rates r m h.1 (omega (arith, n)) (omega (arith, l)))

announcement_same : (config : NodeConfig) (rates : List ℕ) (r m : ℕ) → Are r rates → length rates ≡ length config.services → length config.services ≤ m → announcement config rates ≡ announcement config (replicate m r)
announcement_same config rates r m h n l = ap (λ z. plain everyone 0 (OfNotice (AnnouncementNotice (record { timer = config.timer; incarnation = config.incarnation; groups = config.groups; node = config.name; description = []; services = z })))) (rated_same config.services rates r m h n l)

-- a node that isn't halted
solicited_same : (config : NodeConfig) (rates : List ℕ) (r : ℕ) (st : Node) (from id now : ℕ) (service : Name) (halted : Bool) → Are r rates → length rates ≡ cond halted 0 (suc (length config.services)) → cond halted [] (response config from id service (first_rate rates) ∷ announcement config (rest_rates rates) ∷ []) ≡ cond halted [] (response config from id service (first_rate (replicate (suc (length config.services)) r)) ∷ announcement config (rest_rates (replicate (suc (length config.services)) r)) ∷ [])
solicited_same config rates r st from id now service true h n = refl
solicited_same config [] r st from id now service false h n = absurd (omega (arith, n))
solicited_same config (x ∷ rates) r st from id now service false h n =
    ap₂ (λ y z. response config from id service y ∷ z ∷ []) h.0 (announcement_same config rates r (length config.services) h.1 (omega (arith, n)) (omega arith))

value_same : (config : NodeConfig) (rates : List ℕ) (r : ℕ) (st : Node) (from : ℕ) (v : Value) (k : Option Numbers) (now : ℕ) → Are r rates → length rates ≡ cond st.halted 0 (rates_of config (hears_value config rates st from v k).answer (Hears from (Whole v) k now)) → (hears_value config rates st from v k).frames ≡ (hears_value config (replicate (suc (length config.services)) r) st from v k).frames
value_same config rates r st from (OfCircuit m) k now h n = refl
value_same config rates r st from (OfNotice (AnnouncementNotice a)) k now h n = refl
value_same config rates r st from (OfNotice (CommandNotice m)) k now h n = refl
value_same config rates r st from (OfNotice (StatusNotice s)) k now h n = refl
value_same config rates r st from (OfNotice (ResponseNotice s)) k now h n = refl
value_same config rates r st from (OfNotice (SolicitNotice s)) k now h n = go (find (same s.service) config.services) n
  where
    go : (o : Option Name) → length rates ≡ cond st.halted 0 (rates_of config (solicited config rates st from s.id o).answer (Hears from (Whole (OfNotice (SolicitNotice s))) k now)) → (solicited config rates st from s.id o).frames ≡ (solicited config (replicate (suc (length config.services)) r) st from s.id o).frames
    go None n = refl
    go (Some service) n = solicited_same config rates r st from s.id now service st.halted h n

announces_same : (config : NodeConfig) (rates : List ℕ) (r : ℕ) (halted : Bool) → Are r rates → length rates ≡ cond halted 0 (length config.services) → cond halted [] (announcement config rates ∷ []) ≡ cond halted [] (announcement config (replicate (suc (length config.services)) r) ∷ [])
announces_same config rates r true h n = refl
announces_same config rates r false h n = ap (λ z. z ∷ []) (announcement_same config rates r (suc (length config.services)) h n (omega arith))

-- with the ratings that an event asks for, and with as many as any event can ask for
pub frames_same : (config : NodeConfig) (rates : List ℕ) (r : ℕ) (st : Node) (e : Event) → Each (λ z. z ≡ r) rates → length rates ≡ cond st.halted 0 (rates_of config (node_step config rates st e).answer e) → (node_step config rates st e).frames ≡ (node_step config (replicate (suc (length config.services)) r) st e).frames
frames_same config rates r st (Hears from (Malformed field at) k now) h n = refl
frames_same config rates r st (Hears from (Whole v) k now) h n = go (nat_eq from everyone) n
  where
    x : Node
    x = record st { core = at_moment now st.core }

    go : (b : Bool) → length rates ≡ cond st.halted 0 (rates_of config (cond b (tells x Ignored) (hears_value config rates x from v k)).answer (Hears from (Whole v) k now)) → (cond b (tells x Ignored) (hears_value config rates x from v k)).frames ≡ (cond b (tells x Ignored) (hears_value config (replicate (suc (length config.services)) r) x from v k)).frames
    go true n = refl
    go false n = value_same config rates r x from v k now h n
frames_same config rates r st (Time now) h n = refl
frames_same config rates r st (Connects line service) h n = refl
frames_same config rates r st (Puts line bytes) h n = refl
frames_same config rates r st (Sets line setting) h n = refl
frames_same config rates r st (Takes line n) h m = refl
frames_same config rates r st (Attends line flag) h n = refl
frames_same config rates r st (Closes line) h n = refl
frames_same config rates r st (Requests to id service) h n = refl
frames_same config rates r st (Withdraws id) h n = refl
frames_same config rates r st Announces h n = announces_same config rates r st.halted h n
frames_same config rates r st (Avoids line) h n = refl
frames_same config rates r st (Readies line ready) h n = refl
frames_same config rates r st Halts h n = refl
