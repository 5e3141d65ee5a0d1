-- The queue of a server stays legal: only the grant pass grants, and it grants to the first that waits.
use Rattle.std.proofs.Common.{◌≡◌, ℕ, ◌⊎◌, inl, inr, ⊎_elim, refl, ap, ap₂, ◌∙◌, subst, Bool, true, false, not, cond, ◌&&◌, List, [], ◌∷◌, ◌++◌, Option, Some, None, nat_eq, nat_lt}
use Rattle.lat_model.specs.Lists.{upwards}
use Rattle.lat_model.specs.sessions.Sessions.{least_free}
use Rattle.lat_model.specs.circuits.Arriving.{living}
use Rattle.lat_machines.specs.values.Names.{Name}
use Rattle.lat_machines.specs.values.Addresses.{everyone}
use Rattle.lat_machines.specs.values.Messages.{Message, RunMessage, WideMessage, StartMessage, StopMessage}
use Rattle.lat_machines.specs.values.Notices.{Kept, KeptAs, Unknown, Action, Ask, Cancel, Command, Notice, AnnouncementNotice, CommandNotice, StatusNotice, SolicitNotice, ResponseNotice}
use Rattle.lat_machines.specs.values.Frames.{Value, OfCircuit, OfNotice, Reading, Whole, Malformed}
use Rattle.lat_machines.specs.server.Directory.{Best, best}
use Rattle.lat_machines.specs.values.Keys.{Key}
use Rattle.lat_machines.specs.server.Queue.{QueueEvent, Asks, Cancels, Grants, Finishes, Request, next_request, LegalQueue}
use Rattle.lat_machines.specs.server.Records.{ask_answer, kept_for, is_granted}
use Rattle.lat_machines.specs.values.Events.{Numbers, Event, Hears, Time, Connects, Puts, Sets, Takes, Attends, Closes, Requests, Withdraws, Announces, Avoids, Readies, Halts, is_heard}
use Rattle.lat_machines.specs.values.Answers.{Connected, NoLine, Busy, SessionsFull, CircuitsFull, IdsOut, Ignored, NotKept, KeptIs, Halted}
use Rattle.lat_machines.specs.cores.Cores.{Seat, Core, Doing, at_moment, circuit_to}
use Rattle.lat_machines.specs.cores.Lines.{over, has_session, line_exists}
use Rattle.lat_machines.specs.server.Server.{ServerConfig, Server, ServerStep, Passing, offer_on, tells, does, offered, has_room, can_open, opens, connects_to, solicits_for, connect_event, hears_message, hears_command, hears_notice, hears_value, hears, server_event, key_of, status_frame, finish_one, finish_all, finished_requests, fitting, grantable_on, grantable, grants_by, grant_line, grant_lines, server_step, may_grant}
use Rattle.lat_machines.specs.world.Machines.{Setups, Machines, Move, Does, HearsFrame, HearsForeign, Posted, tell, is_for_other, comes, is_own, happens, run, counted, marked_delivered, heard_as}
use Rattle.std.specs.Prelude.{slice_get}
use Rattle.lat_model.specs.circuits.Ids.{next_id}

-- where a list with one more at its end is parted

abbrev Parted : {A : Type 0} → List A → A → List A → A → List A → Type 0
Parted {A} h e before g after = ((after ≡ []) × (e ≡ g) × (h ≡ before)) ⊎ ((rest : List A) × (h ≡ before ++ g ∷ rest))

parted : {A : Type 0} (h : List A) (e : A) (before : List A) (g : A) (after : List A) → h ++ e ∷ [] ≡ before ++ g ∷ after → Parted h e before g after
parted [] e [] g after q = let a : after ≡ [] = cc in let b : e ≡ g = cc in inl (a, b, refl)
parted [] e (b ∷ []) g after q = let z : ⊥ = cc in absurd z
parted [] e (b ∷ c ∷ bs) g after q = let z : ⊥ = cc in absurd z
parted (x ∷ xs) e [] g after q = let a : x ≡ g = cc in inr (xs, ap (λ z. z ∷ xs) a)
parted {A} (x ∷ xs) e (b ∷ bs) g after q =
    let a : x ≡ b = cc in
    let r : xs ++ e ∷ [] ≡ bs ++ g ∷ after = cc in
    ⊎_elim {C = Parted (x ∷ xs) e (b ∷ bs) g after} (λ n. inl (n.0, n.1, ap₂ (λ y z. y ∷ z) a n.2)) (λ n. inr (n.0, ap₂ (λ y z. y ∷ z) a n.1)) (parted xs e bs g after r)

abbrev IsNext : Key → Name → List QueueEvent → Type 0
IsNext k service before = (r : Request) × (next_request service before ≡ Some r) × (r.key ≡ k)

legal_more : (h : List QueueEvent) (e : QueueEvent) → LegalQueue h → ((k : Key) (service : Name) → e ≡ Grants k service → IsNext k service h) → LegalQueue (h ++ e ∷ [])
legal_more h e l n before after k service q =
    ⊎_elim {C = IsNext k service before} (λ p. subst (IsNext k service) p.2 (n k service p.1)) (λ p. l before p.0 k service p.1) (parted h e before (Grants k service) after q)

legal_finish : (h : List QueueEvent) (j : Key) → LegalQueue h → LegalQueue (h ++ Finishes j ∷ [])
legal_finish h j l = legal_more h (Finishes j) l (λ k service q. let z : ⊥ = cc in absurd z)

legal_cancel : (h : List QueueEvent) (j : Key) → LegalQueue h → LegalQueue (h ++ Cancels j ∷ [])
legal_cancel h j l = legal_more h (Cancels j) l (λ k service q. let z : ⊥ = cc in absurd z)

legal_ask : (h : List QueueEvent) (j : Key) (from : ℕ) (s : Name) (a : Kept) → LegalQueue h → LegalQueue (h ++ Asks j from s a ∷ [])
legal_ask h j from s a l = legal_more h (Asks j from s a) l (λ k service q. let z : ⊥ = cc in absurd z)

legal_grant : (h : List QueueEvent) (r : Request) (s : Name) → next_request s h ≡ Some r → LegalQueue h → LegalQueue (h ++ Grants r.key s ∷ [])
legal_grant h r s n l = legal_more h (Grants r.key s) l (λ k service q. let a : r.key ≡ k = cc in let b : s ≡ service = cc in (r, subst (λ z. next_request z h ≡ Some r) b n, a))

pub legal_none : LegalQueue []
legal_none before after k service q = go before q
  where
    go : (b : List QueueEvent) → [] ≡ b ++ Grants k service ∷ after → IsNext k service before
    go [] q = let z : ⊥ = cc in absurd z
    go (b ∷ bs) q = let z : ⊥ = cc in absurd z

-- an event

abbrev Keeps : Server → Server → Type 0
Keeps st st' = LegalQueue st.queue → LegalQueue st'.queue

keeps_cond : (st : Server) (n : Bool) (s t : ServerStep) → Keeps st s.state → Keeps st t.state → Keeps st (cond n s t).state
keeps_cond st true s t p q = p
keeps_cond st false s t p q = q

keeps_connect : (config : ServerConfig) (st : Server) (line : ℕ) (service : Name) → Keeps st (connect_event config st line service).state
keeps_connect config st line service = go (line_exists config.lines line) (has_session st.core line) (best config.groups service st.core.moment st.heard)
  where
    reaches : (b : Best) → Keeps st (connects_to config st line service b).state
    reaches b =
        let x : ℕ = circuit_to st.core b.from in
        let d : Doing = opens config line b.from b.node service None None st.core in
        keeps_cond st (nat_eq x 0)
        (cond (nat_lt (living st.core.circuits) 8) (cond (nat_lt st.core.circuits.drawn 65535) (does st (Connected (next_id st.core.circuits) 1) d) (tells st IdsOut)) (tells st CircuitsFull))
        (cond (has_room st.core x) (does st (Connected x (least_free (st.core.circuits.circuit_at x).end.half.sessions)) d) (tells st SessionsFull))
        (keeps_cond st (nat_lt (living st.core.circuits) 8) (cond (nat_lt st.core.circuits.drawn 65535) (does st (Connected (next_id st.core.circuits) 1) d) (tells st IdsOut)) (tells st CircuitsFull) (keeps_cond st (nat_lt st.core.circuits.drawn 65535) (does st (Connected (next_id st.core.circuits) 1) d) (tells st IdsOut) (λ l. l) (λ l. l)) (λ l. l))
        (keeps_cond st (has_room st.core x) (does st (Connected x (least_free (st.core.circuits.circuit_at x).end.half.sessions)) d) (tells st SessionsFull) (λ l. l) (λ l. l))

    go : (n m : Bool) (o : Option Best) → Keeps st (cond n (cond m (tells st Busy) (elim o [ None ↦ solicits_for config st service | Some b ↦ connects_to config st line service b ])) (tells st NoLine)).state
    go false m o l = l
    go true true o l = l
    go true false None l = l
    go true false (Some b) l = reaches b l

keeps_command : (config : ServerConfig) (st : Server) (from : ℕ) (m : Command) (a : Action) → Keeps st (hears_command config st from m a).state
keeps_command config st from m Ask l = legal_ask st.queue (key_of m) from m.service (ask_answer (offered config) (key_of m) m.service st.queue) l
keeps_command config st from m Cancel l = go (kept_for (key_of m) (st.queue ++ Cancels (key_of m) ∷ []))
  where
    told : Option Kept → ServerStep
    told o = elim o [
      | None ↦ record { state = record st { queue = st.queue ++ Cancels (key_of m) ∷ [] }; answer = NotKept; frames = status_frame from m Unknown ∷ [] }
      | Some k ↦ record { state = record st { queue = st.queue ++ Cancels (key_of m) ∷ [] }; answer = KeptIs k; frames = status_frame from m (KeptAs k) ∷ [] }
    ]

    go : (o : Option Kept) → LegalQueue (told o).state.queue
    go None = legal_cancel st.queue (key_of m) l
    go (Some k) = legal_cancel st.queue (key_of m) l

keeps_message : (config : ServerConfig) (st : Server) (from : ℕ) (m : Message) (k : Option Numbers) → Keeps st (hears_message config st from m k).state
keeps_message config st from (RunMessage h slots) k l = l
keeps_message config st from (WideMessage h slots) k l = l
keeps_message config st from (StartMessage true ask to source info) k l = l
keeps_message config st from (StartMessage false ask to source info) k l = l
keeps_message config st from (StopMessage master ask to source reason text) k l = l

keeps_notice : (config : ServerConfig) (st : Server) (from : ℕ) (n : Notice) → Keeps st (hears_notice config st from n).state
keeps_notice config st from (AnnouncementNotice a) l = l
keeps_notice config st from (CommandNotice m) l = keeps_command config st from m m.action l
keeps_notice config st from (ResponseNotice r) l = l
keeps_notice config st from (StatusNotice s) l = l
keeps_notice config st from (SolicitNotice s) l = l

keeps_value : (config : ServerConfig) (st : Server) (from : ℕ) (v : Value) (k : Option Numbers) → Keeps st (hears_value config st from v k).state
keeps_value config st from (OfCircuit m) k = keeps_message config st from m k
keeps_value config st from (OfNotice n) k = keeps_notice config st from n

keeps_hear : (config : ServerConfig) (st : Server) (from : ℕ) (r : Reading) (k : Option Numbers) → Keeps st (hears config st from r k).state
keeps_hear config st from (Malformed field at) k l = l
keeps_hear config st from (Whole v) k l = keeps_cond st (nat_eq from everyone) (tells st Ignored) (hears_value config st from v k) (λ y. y) (keeps_value config st from v k) l

keeps_event : (config : ServerConfig) (st : Server) (e : Event) → Keeps st (server_event config st e).state
keeps_event config st (Hears from payload k now) l = keeps_hear config (record st { core = at_moment now st.core }) from payload k l
keeps_event config st (Time now) l = l
keeps_event config st (Connects line service) l = keeps_cond st st.halted (tells st Halted) (connect_event config st line service) (λ y. y) (keeps_connect config st line service) l
keeps_event config st (Puts line bytes) l = l
keeps_event config st (Sets line setting) l = l
keeps_event config st (Takes line n) l = l
keeps_event config st (Attends line flag) l = l
keeps_event config st (Closes line) l = l
keeps_event config st (Requests to id service) l = l
keeps_event config st (Withdraws id) l = l
keeps_event config st Announces l = l
keeps_event config st (Avoids line) l = l
keeps_event config st (Readies line ready) l = l
keeps_event config st Halts l = l

-- what follows it

keeps_finish : (c : Core) (ss : List Seat) (h : List QueueEvent) → LegalQueue h → LegalQueue (finish_all c ss h)
keeps_finish c [] h l = l
keeps_finish c (s ∷ ss) h l = keeps_finish c ss (finish_one c s.key (over c s) h) (go s.key (over c s))
  where
    go : (k : Option Key) (o : Bool) → LegalQueue (finish_one c k o h)
    go None o = l
    go (Some k) o = step (o && is_granted (kept_for k h))
      where
        step : (n : Bool) → LegalQueue (cond n (h ++ Finishes k ∷ []) h)
        step true = legal_finish h k l
        step false = l

-- a line that grants is ready
pub grantable_ready : (st : Server) (line : ℕ) (service : Name) (r : Request) → grantable st line (Some service) ≡ Some r → grantable_on st.core st.queue line service ≡ Some r
grantable_ready st line service r q = go (may_grant st line) q
  where
    go : (n : Bool) → cond n (grantable_on st.core st.queue line service) None ≡ Some r → grantable_on st.core st.queue line service ≡ Some r
    go true q = q
    go false q = let z : ⊥ = cc in absurd z

pub grantable_next : (st : Server) (line : ℕ) (service : Name) (r : Request) → grantable st line (Some service) ≡ Some r → next_request service st.queue ≡ Some r
grantable_next st line service r q = go (has_session st.core line) (next_request service st.queue) refl (grantable_ready st line service r q)
  where
    fit : (n : Bool) (x : Request) → cond n (Some x) None ≡ Some r → Some x ≡ Some r
    fit true x q = q
    fit false x q = let z : ⊥ = cc in absurd z

    go : (n : Bool) (o : Option Request) → next_request service st.queue ≡ o → cond n None (fitting st.core o) ≡ Some r → next_request service st.queue ≡ Some r
    go true o i q = let z : ⊥ = cc in absurd z
    go false None i q = let z : ⊥ = cc in absurd z
    go false (Some x) i q = i ∙ fit (can_open st.core x.from) x q

keeps_grant : (config : ServerConfig) (p : Passing) (line : ℕ) (o : Option Name) (r : Option Request) → grantable p.state line o ≡ r → LegalQueue p.state.queue → LegalQueue (grants_by config line o r p).state.queue
keeps_grant config p line None r q l = l
keeps_grant config p line (Some service) None q l = l
keeps_grant config p line (Some service) (Some r) q l = legal_grant p.state.queue r service (grantable_next p.state line service r q) l

keeps_lines : (config : ServerConfig) (lines : List ℕ) (p : Passing) → LegalQueue p.state.queue → LegalQueue (grant_lines config lines p).state.queue
keeps_lines config [] p l = l
keeps_lines config (line ∷ lines) p l = keeps_lines config lines (grant_line config p line) (keeps_grant config p line (offer_on line config.offers) (grantable p.state line (offer_on line config.offers)) refl l)

pub legal_step : (config : ServerConfig) (st : Server) (e : Event) → LegalQueue st.queue → LegalQueue (server_step config st e).state.queue
legal_step config st e l =
    let x : Server = (server_event config st e).state in
    keeps_lines config (upwards 0 config.lines) (record { state = finished_requests x; frames = [] }) (keeps_finish x.core x.core.seats x.queue (keeps_event config st e l))

-- every run

legal_tell : (u : Setups) (m : Machines) (b : Bool) (e : Event) (rates : List ℕ) → LegalQueue m.server.queue → LegalQueue (tell u m b e rates).server.queue
legal_tell u m true e rates l = legal_step u.server m.server e l
legal_tell u m false e rates l = l

legal_cond : (n : Bool) (x y : Machines) → LegalQueue x.server.queue → LegalQueue y.server.queue → LegalQueue (cond n x y).server.queue
legal_cond true x y p q = p
legal_cond false x y p q = q

legal_happens : (u : Setups) (m : Machines) (e : Move) → LegalQueue m.server.queue → LegalQueue (happens u m e).server.queue
legal_happens u m (Does b e rates) l = legal_cond (is_heard e) m (tell u m b e rates) l (legal_tell u m b e rates l)
legal_happens u m (HearsForeign b from payload now rates) l = legal_cond (is_own u from) m (tell u m b (Hears from payload None now) rates) l (legal_tell u m b (Hears from payload None now) rates l)
legal_happens u m (HearsFrame i now rates) l = go (slice_get m.posts i)
  where
    go : (o : Option Posted) → LegalQueue (comes u m i now rates o).server.queue
    go None = l
    go (Some p) = legal_cond (is_for_other u p) (tell u (marked_delivered i m) (not p.by_server) (heard_as u p now) rates) (counted (marked_delivered i m)) (legal_tell u (marked_delivered i m) (not p.by_server) (heard_as u p now) rates l) l

pub legal_run : (u : Setups) (es : List Move) (m : Machines) → LegalQueue m.server.queue → LegalQueue (run u es m).server.queue
legal_run u [] m l = l
legal_run u (e ∷ es) m l = legal_run u es (happens u m e) (legal_happens u m e l)
