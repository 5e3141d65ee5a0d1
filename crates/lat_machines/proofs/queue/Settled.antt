-- After each event of a server nothing is left to be finished or granted, so a pass behind an event that changes nothing
-- changes nothing.
use Rattle.std.proofs.Common.{◌≡◌, ℕ, zero, suc, ◌+◌, ◌<◌, ◌≤◌, arith, refl, sym, ap, ◌∙◌, subst, Bool, true, false, cond, List, [], ◌∷◌, ◌++◌, Option, Some, None, nat_eq, nat_lt}
use Rattle.std.proofs.lemmas.Bool.{true≢false}
use Rattle.lat_model.specs.sessions.Sessions.{least_free}
use Rattle.lat_model.specs.sessions.Session.{put_open, take_open}
use Rattle.lat_model.specs.sessions.Calls.{Call, Put, Set, Attend, Take, Close}
use Rattle.lat_model.specs.Lists.{updated, upwards}
use Rattle.lat_model.specs.circuits.Arriving.{living}
use Rattle.lat_model.specs.circuits.Ids.{ids, next_id}
use Rattle.lat_machines.specs.values.Names.{Name}
use Rattle.lat_machines.specs.values.Addresses.{everyone}
use Rattle.lat_machines.specs.values.Messages.{RunMessage, WideMessage, StartMessage, StopMessage}
use Rattle.lat_machines.specs.values.Notices.{Kept, KeptAs, Unknown, Action, Ask, Cancel, Command, AnnouncementNotice, CommandNotice, StatusNotice, SolicitNotice, ResponseNotice}
use Rattle.lat_machines.specs.values.Frames.{Value, OfCircuit, OfNotice, Whole, Malformed}
use Rattle.lat_machines.specs.values.Events.{Numbers, Event, Hears, Time, Connects, Puts, Sets, Takes, Attends, Closes, Requests, Withdraws, Announces, Avoids, Readies, Halts}
use Rattle.lat_machines.specs.values.Answers.{Answer, Connected, Ignored, Closed, Busy, NoLine, SessionsFull, CircuitsFull, IdsOut, NotKept, KeptIs, Halted}
use Rattle.lat_machines.specs.server.Directory.{Best, best}
use Rattle.lat_machines.specs.server.Queue.{QueueEvent, Asks, Cancels, Grants, Request}
use Rattle.lat_machines.specs.server.Records.{ask_answer, kept_for}
use Rattle.lat_machines.specs.cores.Acts.{call_at, time_at, end_at}
use Rattle.lat_machines.specs.cores.Cores.{Seat, Core, Doing, rests, then_doing, acts, setup_of, at_moment, time_each, circuit_to, end_each}
use Rattle.lat_machines.specs.cores.Lines.{session_of, seat_at, over, has_session, line_exists}
use Rattle.lat_machines.specs.cores.LineCalls.{Said, says, calls_on, put_on, set_on, attend_on, take_on, close_on, on_line}
use Rattle.lat_machines.specs.server.Server.{ServerConfig, Server, ServerStep, server_side, open_server, offered, offer_on, tells, does, has_room, connects_on, opens, connects_to, solicits_for, connect_event, status_frame, key_of, hears_command, hears_value, server_event, finish_all, finished_requests, Passing, granting, grantable, grants_by, grant_line, grant_lines, grant_pass, passed, server_step}
use Rattle.lat_machines.specs.world.Histories.{server_run}
use Rattle.lat_machines.specs.world.Safe.{NoGrant}
use Rattle.lat_machines.proofs.queue.Legal.{grantable_next}
use Rattle.lat_machines.proofs.queue.Rooms.{Ready}
use Rattle.lat_machines.proofs.queue.Grants.{Opened, opens_at, over_kept, grant_can, no_grant}
use Rattle.lat_machines.proofs.queue.Alone.{Sound, event_sound, line_grants_sound, pass_sound, first_quiet}
use Rattle.lat_machines.proofs.queue.Served.{Served, served_on, ended_on, grant_serves, Seated, AllServed, AllSeated, finish_seats, finish_none}

-- an event adds no line session of a request

abbrev KeptServed : Server → Server → Type 0
KeptServed st st' = AllServed st.queue st.core.seats → AllServed st'.queue st'.core.seats

served_cond : (st : Server) (n : Bool) (s t : ServerStep) → KeptServed st s.state → KeptServed st t.state → KeptServed st (cond n s t).state
served_cond st true s t p q = p
served_cond st false s t p q = q

all_on : (h : List QueueEvent) (e : QueueEvent) (ss : List Seat) → AllServed h ss → AllServed (h ++ e ∷ []) ss
all_on h e [] p = tt
all_on h e (s ∷ ss) p = (served_on h e s.key p.0, all_on h e ss p.1)

one_more : (h : List QueueEvent) (ss : List Seat) (s : Seat) → AllServed h ss → Served h s.key → AllServed h (ss ++ s ∷ [])
one_more h [] s p q = (q, tt)
one_more h (x ∷ ss) s p q = (p.0, one_more h ss s p.1 q)

opens_served : (config : ServerConfig) (line address : ℕ) (node service : Name) (c : Core) (h : List QueueEvent) → AllServed h c.seats → AllServed h (opens config line address node service None None c).core.seats
opens_served config line address node service c h p = go (nat_eq (circuit_to c address) 0)
  where
    named : Core
    named = record c { names = updated c.names (next_id c.circuits) node }

    made : Doing
    made = acts (server_side config) named (call_at (setup_of config.timing) named.circuits address named.moment)

    after : Doing → Core
    after d = (connects_on config line (circuit_to d.core address) service None None d.core).core

    go : (b : Bool) → AllServed h (after (cond b made (rests c))).seats
    go true = one_more h c.seats _ p tt
    go false = one_more h c.seats _ p tt

connect_served : (config : ServerConfig) (st : Server) (line : ℕ) (service : Name) → KeptServed st (connect_event config st line service).state
connect_served config st line service = go (line_exists config.lines line) (has_session st.core line) (best config.groups service st.core.moment st.heard)
  where
    reaches : (b : Best) → KeptServed st (connects_to config st line service b).state
    reaches b =
        let x : ℕ = circuit_to st.core b.from in
        let d : Doing = opens config line b.from b.node service None None st.core in
        let o : KeptServed st (record st { core = d.core }) = opens_served config line b.from b.node service st.core st.queue in
        served_cond st (nat_eq x 0)
        (cond (nat_lt (living st.core.circuits) 8) (cond (nat_lt st.core.circuits.drawn 65535) (does st (Connected (next_id st.core.circuits) 1) d) (tells st IdsOut)) (tells st CircuitsFull))
        (cond (has_room st.core x) (does st (Connected x (least_free (st.core.circuits.circuit_at x).end.half.sessions)) d) (tells st SessionsFull))
        (served_cond st (nat_lt (living st.core.circuits) 8) (cond (nat_lt st.core.circuits.drawn 65535) (does st (Connected (next_id st.core.circuits) 1) d) (tells st IdsOut)) (tells st CircuitsFull) (served_cond st (nat_lt st.core.circuits.drawn 65535) (does st (Connected (next_id st.core.circuits) 1) d) (tells st IdsOut) o (λ l. l)) (λ l. l))
        (served_cond st (has_room st.core x) (does st (Connected x (least_free (st.core.circuits.circuit_at x).end.half.sessions)) d) (tells st SessionsFull) o (λ l. l))

    go : (n m : Bool) (o : Option Best) → KeptServed st (cond n (cond m (tells st Busy) (elim o [ None ↦ solicits_for config st service | Some b ↦ connects_to config st line service b ])) (tells st NoLine)).state
    go false m o l = l
    go true true o l = l
    go true false None l = l
    go true false (Some b) l = reaches b l

command_served : (config : ServerConfig) (st : Server) (from : ℕ) (m : Command) (a : Action) → KeptServed st (hears_command config st from m a).state
command_served config st from m Ask l = all_on st.queue (Asks (key_of m) from m.service (ask_answer (offered config) (key_of m) m.service st.queue)) st.core.seats l
command_served config st from m Cancel l = go (kept_for (key_of m) (st.queue ++ Cancels (key_of m) ∷ []))
  where
    told : Option Kept → ServerStep
    told o = elim o [
      | None ↦ record { state = record st { queue = st.queue ++ Cancels (key_of m) ∷ [] }; answer = NotKept; frames = status_frame from m Unknown ∷ [] }
      | Some k ↦ record { state = record st { queue = st.queue ++ Cancels (key_of m) ∷ [] }; answer = KeptIs k; frames = status_frame from m (KeptAs k) ∷ [] }
    ]

    go : (o : Option Kept) → AllServed (told o).state.queue (told o).state.core.seats
    go None = all_on st.queue (Cancels (key_of m)) st.core.seats l
    go (Some k) = all_on st.queue (Cancels (key_of m)) st.core.seats l

value_served : (config : ServerConfig) (st : Server) (from : ℕ) (v : Value) (k : Option Numbers) → KeptServed st (hears_value config st from v k).state
value_served config st from (OfCircuit (RunMessage h slots)) k l = l
value_served config st from (OfCircuit (WideMessage h slots)) k l = l
value_served config st from (OfCircuit (StartMessage true ask to source info)) k l = l
value_served config st from (OfCircuit (StartMessage false ask to source info)) k l = l
value_served config st from (OfCircuit (StopMessage master ask to source reason text)) k l = l
value_served config st from (OfNotice (AnnouncementNotice a)) k l = l
value_served config st from (OfNotice (CommandNotice m)) k l = command_served config st from m m.action l
value_served config st from (OfNotice (ResponseNotice m)) k l = l
value_served config st from (OfNotice (StatusNotice m)) k l = l
value_served config st from (OfNotice (SolicitNotice m)) k l = l

-- time and local calls leave the line sessions

times_seats : (config : ServerConfig) (xs : List ℕ) (d : Doing) → (time_each (server_side config) xs d).core.seats ≡ d.core.seats
times_seats config [] d = refl
times_seats config (x ∷ xs) d = times_seats config xs (then_doing d (λ c. acts (server_side config) c (time_at true c.circuits x c.moment)))

ends_seats : (config : ServerConfig) (r : ℕ) (xs : List ℕ) (d : Doing) → (end_each (server_side config) r xs d).core.seats ≡ d.core.seats
ends_seats config r [] d = refl
ends_seats config r (x ∷ xs) d = ends_seats config r xs (then_doing d (λ c. acts (server_side config) c (end_at true c.circuits x r)))

said_seats : (ss : List Seat) (n : Bool) (x y : Said) → x.core.seats ≡ ss → y.core.seats ≡ ss → (cond n x y).core.seats ≡ ss
said_seats ss true x y p q = p
said_seats ss false x y p q = q

line_seats : (lines : ℕ) (c : Core) (line : ℕ) (f : Seat → Said) → ((s : Seat) → (f s).core.seats ≡ c.seats) → (on_line lines c line f).core.seats ≡ c.seats
line_seats lines c line f p =
    said_seats c.seats (line_exists lines line) (cond (has_session c line) (f (seat_at c line)) (says c Closed)) (says c NoLine)
    (said_seats c.seats (has_session c line) (f (seat_at c line)) (says c Closed) (p (seat_at c line)) refl) refl

call_seats : (config : ServerConfig) (c : Core) (s : Seat) (n : Bool) (x : Call) (a b : Answer) → (cond n (says (calls_on (server_side config) c s x) a) (says c b)).core.seats ≡ c.seats
call_seats config c s n x a b = said_seats c.seats n (says (calls_on (server_side config) c s x) a) (says c b) refl refl

event_served : (config : ServerConfig) (st : Server) (e : Event) → KeptServed st (server_event config st e).state
event_served config st (Hears from (Malformed field at) k now) l = l
event_served config st (Hears from (Whole v) k now) l =
    let s : Server = record st { core = at_moment now st.core } in
    served_cond s (nat_eq from everyone) (tells s Ignored) (hears_value config s from v k) (λ y. y) (value_served config s from v k) l
event_served config st (Time now) l = subst (AllServed st.queue) (sym (times_seats config (ids st.core.circuits) (rests (at_moment now st.core)))) l
event_served config st (Connects line service) l = served_cond st st.halted (tells st Halted) (connect_event config st line service) (λ y. y) (connect_served config st line service) l
event_served config st (Puts line bytes) l = subst (AllServed st.queue) (sym (line_seats config.lines st.core line (λ s. put_on (server_side config) st.core s bytes) (λ s. call_seats config st.core s (put_open (session_of st.core s)) (Put s.id bytes) _ Closed))) l
event_served config st (Sets line setting) l =
    subst (AllServed st.queue)
    (sym (line_seats config.lines st.core line (λ s. set_on (server_side config) st.core s setting) (λ s. said_seats st.core.seats (put_open (session_of st.core s)) _ (says st.core Closed) (call_seats config st.core s _ (Set s.id setting) _ _) refl))) l
event_served config st (Takes line n) l = subst (AllServed st.queue) (sym (line_seats config.lines st.core line (λ s. take_on (server_side config) st.core s n) (λ s. call_seats config st.core s (take_open (session_of st.core s)) (Take s.id n) _ Closed))) l
event_served config st (Attends line flag) l = subst (AllServed st.queue) (sym (line_seats config.lines st.core line (λ s. attend_on (server_side config) st.core s flag) (λ s. call_seats config st.core s (put_open (session_of st.core s)) (Attend s.id flag) _ Closed))) l
event_served config st (Closes line) l = subst (AllServed st.queue) (sym (line_seats config.lines st.core line (λ s. close_on (server_side config) st.core s) (λ s. call_seats config st.core s (take_open (session_of st.core s)) (Close s.id) _ Closed))) l
event_served config st (Requests to id service) l = l
event_served config st (Withdraws id) l = l
event_served config st Announces l = l
event_served config st (Avoids line) l = l
event_served config st (Readies line ready) l = l
event_served config st Halts l = subst (AllServed st.queue) (sym (ends_seats config 3 (ids st.core.circuits) (rests st.core))) l

-- the grant pass

abbrev PassSeated : Passing → Type 0
PassSeated p = AllSeated p.state.core p.state.queue p.state.core.seats

over_back : (c d : Core) (s : Seat) → (over c s ≡ false → over d s ≡ false) → over d s ≡ true → over c s ≡ true
over_back c d s h q = go (over c s) refl
  where
    go : (b : Bool) → over c s ≡ b → b ≡ true
    go true i = refl
    go false i = absurd (true≢false (sym q ∙ h i))

grant_seats : (config : ServerConfig) (line : ℕ) (service : Name) (p : Passing) (r : Request) → 0 < config.timing.sessions → Ready p.state.core → grantable p.state line (Some service) ≡ Some r → PassSeated p → PassSeated (granting config line service p r)
grant_seats config line service p r pos rd q h = subst (AllSeated d queue) (sym o.seats) (seats c.seats h)
  where
    c : Core
    c = p.state.core

    d : Core
    d = (granting config line service p r).state.core

    queue : List QueueEvent
    queue = p.state.queue ++ Grants r.key service ∷ []

    o : Opened c line (Some r.key) d
    o = opens_at config line r.from r.key.node service (Some r.key) (Some r.key.request) c pos rd (grant_can p.state line service r q)

    new : Seated d queue o.seat
    new = record {
      served = subst (Served queue) (sym o.has_key) (grant_serves p.state.queue service r (grantable_next p.state line service r q));
      ended = λ i. absurd (true≢false (sym i ∙ o.held));
    }

    seats : (ss : List Seat) → AllSeated c p.state.queue ss → AllSeated d queue (ss ++ o.seat ∷ [])
    seats [] h = (new, tt)
    seats (s ∷ ss) h = (
      record {
        served = served_on p.state.queue (Grants r.key service) s.key h.0.served;
        ended = λ i. ended_on p.state.queue (Grants r.key service) s.key (h.0.ended (over_back c d s (over_kept c d s o.grown) i));
      },
      seats ss h.1,
    )

line_seated : (config : ServerConfig) (p : Passing) (line : ℕ) → 0 < config.timing.sessions → Sound p.state.core.circuits → PassSeated p → PassSeated (grant_line config p line)
line_seated config p line pos rd h = go (offer_on line config.offers) (grantable p.state line (offer_on line config.offers)) refl
  where
    go : (o : Option Name) (r : Option Request) → grantable p.state line o ≡ r → PassSeated (grants_by config line o r p)
    go None r q = h
    go (Some s) None q = h
    go (Some s) (Some r) q = grant_seats config line s p r pos (record { masters = rd.masters; new = rd.new }) q h

lines_seated : (config : ServerConfig) (lines : List ℕ) (p : Passing) → 0 < config.timing.sessions → Sound p.state.core.circuits → PassSeated p → PassSeated (grant_lines config lines p)
lines_seated config [] p pos rd h = h
lines_seated config (line ∷ lines) p pos rd h =
    lines_seated config lines (grant_line config p line) pos
    (line_grants_sound config line (offer_on line config.offers) (grantable p.state line (offer_on line config.offers)) p rd) (line_seated config p line pos rd h)

-- every history

pub record Settled (config : ServerConfig) (st : Server) : Type 0 where
  pub sound : Sound st.core.circuits
  pub seated : AllSeated st.core st.queue st.core.seats
  pub quiet : NoGrant config st

all_served : (c : Core) (h : List QueueEvent) (ss : List Seat) → AllSeated c h ss → AllServed h ss
all_served c h [] p = tt
all_served c h (s ∷ ss) p = (p.0.served, all_served c h ss p.1)

settled_step : (config : ServerConfig) (st : Server) (e : Event) → 0 < config.timing.sessions → Settled config st → Settled config (server_step config st e).state
settled_step config st e pos g =
    let x : Server = (server_event config st e).state in
    let f : Server = finished_requests x in
    let r : Sound x.core.circuits = event_sound config st e g.sound in
    let p : AllSeated x.core (finish_all x.core x.core.seats x.queue) x.core.seats = finish_seats x.core x.core.seats x.queue (event_served config st e (all_served st.core st.queue st.core.seats g.seated)) in
    record {
      sound = pass_sound config (upwards 0 config.lines) (record { state = f; frames = [] }) r;
      seated = lines_seated config (upwards 0 config.lines) (record { state = f; frames = [] }) pos r p;
      quiet = no_grant config f pos (record { masters = r.masters; new = r.new });
    }

settled_on : (config : ServerConfig) (es : List Event) (st : Server) → 0 < config.timing.sessions → Settled config st → Settled config (server_run config es st)
settled_on config [] st pos g = g
settled_on config (e ∷ es) st pos g = settled_on config es (server_step config st e).state pos (settled_step config st e pos g)

pub settled : (config : ServerConfig) (es : List Event) → 0 < config.timing.sessions → Settled config (server_run config es (open_server config))
settled config es pos = settled_on config es (open_server config) pos (record { sound = record { masters = λ x. refl; new = λ k l. refl }; seated = tt; quiet = first_quiet config })

-- a pass that changes nothing

lines_none : (config : ServerConfig) (st : Server) (n k : ℕ) → ((line : ℕ) → 0 < line → line ≤ n + k → grantable st line (offer_on line config.offers) ≡ None) → grant_lines config (upwards n k) (record { state = st; frames = [] }) ≡ record { state = st; frames = [] }
lines_none config st n zero h = refl
lines_none config st n (suc k) h =
    ap (grant_lines config (upwards (suc n) k)) (one (offer_on (suc n) config.offers) (h (suc n) (omega arith) (omega arith)))
    ∙ lines_none config st (suc n) k (λ line a b. h line a (omega (arith, b)))
  where
    p : Passing
    p = record { state = st; frames = [] }

    one : (o : Option Name) → grantable st (suc n) o ≡ None → grants_by config (suc n) o (grantable st (suc n) o) p ≡ p
    one None q = refl
    one (Some s) q = ap (λ g. grants_by config (suc n) (Some s) g p) q

pub passes_nothing : (config : ServerConfig) (st : Server) (a : Answer) → AllSeated st.core st.queue st.core.seats → NoGrant config st → passed config (tells st a) ≡ tells st a
passes_nothing config st a p q =
    ap after (ap (λ z. record st { queue = z }) (finish_none st.core st.core.seats st.queue p))
    ∙ ap (λ (z : Passing). record { state = z.state; answer = a; frames = z.frames }) (lines_none config st 0 config.lines (λ line x y. q line x (omega (arith, y))))
  where
    after : Server → ServerStep
    after f = record { state = (grant_pass config f).state; answer = a; frames = (grant_pass config f).frames }

-- a moment more changes none of it
pub settled_at : (config : ServerConfig) (st : Server) (now : ℕ) → Settled config st → (AllSeated (at_moment now st.core) st.queue st.core.seats) × NoGrant config (record st { core = at_moment now st.core })
settled_at config st now g = (seats st.core.seats g.seated, λ line a b. go (offer_on line config.offers) line (g.quiet line a b))
  where
    go : (o : Option Name) (line : ℕ) → grantable st line o ≡ None → grantable (record st { core = at_moment now st.core }) line o ≡ None
    go None line q = refl
    go (Some s) line q = q

    seats : (ss : List Seat) → AllSeated st.core st.queue ss → AllSeated (at_moment now st.core) st.queue ss
    seats [] p = tt
    seats (s ∷ ss) p = (record { served = p.0.served; ended = p.0.ended }, seats ss p.1)
