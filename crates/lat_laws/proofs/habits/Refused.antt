-- Which events of a server are refused, and what they change.
use Rattle.std.proofs.Common.{◌≡◌, ℕ, ◌<◌, ◌⊎◌, inl, inr, ⊎_elim, refl, sym, ap, ◌∙◌, subst, Bool, true, false, cond, List, [], ◌∷◌, ◌++◌, length, Option, Some, None, nat_eq, nat_lt}
use Rattle.std.proofs.lemmas.Bool.{true≢false, false≢true, ne_eqb}
use Rattle.lat_model.specs.sessions.Session.{put_open, take_open, unframed}
use Rattle.lat_model.specs.sessions.Sessions.{least_free}
use Rattle.lat_model.specs.circuits.Arriving.{living}
use Rattle.lat_model.specs.circuits.Ids.{next_id}
use Rattle.lat_machines.specs.values.Names.{Name}
use Rattle.lat_machines.specs.values.Addresses.{everyone}
use Rattle.lat_machines.specs.values.Messages.{RunMessage, WideMessage, StartMessage, StopMessage}
use Rattle.lat_machines.specs.values.Notices.{Kept, Waiting, Granted, Cancelled, QueueFull, RecordsFull, KeptAs, Unknown, Action, Ask, Cancel, Announcement, Command, AnnouncementNotice, CommandNotice, StatusNotice, SolicitNotice, ResponseNotice}
use Rattle.lat_machines.specs.values.Notices as Notices
use Rattle.lat_machines.specs.values.Frames.{Value, OfCircuit, OfNotice, Whole, Malformed}
use Rattle.lat_machines.specs.values.Events.{Numbers, Event, Hears, Time, Connects, Puts, Sets, Takes, Attends, Closes, Requests, Withdraws, Announces, Avoids, Readies, Halts}
use Rattle.lat_machines.specs.values.Answers.{Answer, Announced, Apart, DirectoryFull, Ignored, Busy, NoLine, NoService, SessionsFull, CircuitsFull, IdsOut, Closed, Full, Connected, NotKept, KeptIs, Done, Halted}
use Rattle.lat_machines.specs.server.Directory.{Best, best, refuses, meets}
use Rattle.lat_machines.specs.server.Queue.{Asks, Cancels, Request, is_waiting, waits}
use Rattle.lat_machines.specs.server.Records.{kept_now, kept_for, new_answer, ask_answer}
use Rattle.lat_machines.specs.cores.Cores.{Seat, Core, Doing, at_moment, circuit_to}
use Rattle.lat_machines.specs.cores.Lines.{session_of, seat_at, has_session, line_exists, had_session}
use Rattle.lat_machines.specs.cores.LineCalls.{Said, says, put_on, set_on, attend_on, take_on, close_on, on_line}
use Rattle.lat_machines.specs.server.Server.{ServerConfig, Server, ServerStep, server_side, open_server, offered, tells, does, has_room, opens, connects_to, solicits_for, connect_event, hears_announcement, key_of, hears_command, hears_value, server_event, passed}
use Rattle.lat_machines.specs.world.Histories.{server_run}
use Rattle.lat_machines.specs.world.Safe.{NoGrant}
use Rattle.lat_machines.specs.world.Refusals.{server_moved}
use Rattle.lat_machines.proofs.queue.Served.{AllSeated}
use Rattle.lat_machines.proofs.queue.Settled.{Settled, settled, settled_at}
use Rattle.lat_laws.specs.habits.Refused.{server_before, IsUnserved, UnservedGrantsNothing, told_by, outcome_of, status_to, command_heard, IsNoted, refuses_command, RefusedCommandsGrantNothing, RepeatedCommandsGrantNothing}
use Rattle.lat_laws.proofs.habits.Waiting.{Still, turned_still, known_still, resting_still, resting_kept, unwaited, unwaited_still}
use Rattle.lat_laws.proofs.habits.Passes.{notes_pass, solicits_pass}

-- answers that are none of these

abbrev is_refused : Answer → Bool
is_refused NoService = true
is_refused a = refuses_command a

abbrev Plain : ServerStep → Type 0
Plain s = is_refused s.answer ≡ false

plain_cond : (n : Bool) (s t : ServerStep) → Plain s → Plain t → Plain (cond n s t)
plain_cond true s t p q = p
plain_cond false s t p q = q

abbrev PlainSaid : Said → Type 0
PlainSaid s = is_refused s.answer ≡ false

said_cond : (n : Bool) (s t : Said) → PlainSaid s → PlainSaid t → PlainSaid (cond n s t)
said_cond true s t p q = p
said_cond false s t p q = q

line_plain : (lines : ℕ) (c : Core) (line : ℕ) (f : Seat → Said) → ((s : Seat) → PlainSaid (f s)) → PlainSaid (on_line lines c line f)
line_plain lines c line f p =
    said_cond (line_exists lines line) (cond (has_session c line) (f (seat_at c line)) (says c Closed)) (says c NoLine)
    (said_cond (has_session c line) (f (seat_at c line)) (says c Closed) (p (seat_at c line)) refl) refl

-- of a server in front of an event: the two kinds of refusals, and that no request waits more or less by a command
record Notes (st : Server) (e : Event) (s : ServerStep) : Type 0 where
  pub noted : IsNoted st e s
  pub refused : refuses_command s.answer ≡ true
  pub still : Still st.queue (told_by noted.from noted.command noted.command.action s.answer)

abbrev Refused : ServerConfig → Server → Event → ServerStep → Type 0
Refused config st e s = is_refused s.answer ≡ true → (IsUnserved config st e s × (s.answer ≡ NoService)) ⊎ Notes st e s

plain_refused : (config : ServerConfig) (st : Server) (e : Event) (s : ServerStep) → Plain s → Refused config st e s
plain_refused config st e s p q = absurd (true≢false (sym q ∙ p))

connect_refused : (config : ServerConfig) (st : Server) (line : ℕ) (service : Name) → Refused config st (Connects line service) (connect_event config st line service)
connect_refused config st line service = go (line_exists config.lines line) (has_session st.core line) (best config.groups service st.core.moment st.heard)
  where
    e : Event
    e = Connects line service

    reaches : (b : Best) → Plain (connects_to config st line service b)
    reaches b =
        let x : ℕ = circuit_to st.core b.from in
        let d : Doing = opens config line b.from b.node service None None st.core in
        plain_cond (nat_eq x 0)
        (cond (nat_lt (living st.core.circuits) 8) (cond (nat_lt st.core.circuits.drawn 65535) (does st (Connected (next_id st.core.circuits) 1) d) (tells st IdsOut)) (tells st CircuitsFull))
        (cond (has_room st.core x) (does st (Connected x (least_free (st.core.circuits.circuit_at x).end.half.sessions)) d) (tells st SessionsFull))
        (plain_cond (nat_lt (living st.core.circuits) 8) (cond (nat_lt st.core.circuits.drawn 65535) (does st (Connected (next_id st.core.circuits) 1) d) (tells st IdsOut)) (tells st CircuitsFull)
        (plain_cond (nat_lt st.core.circuits.drawn 65535) (does st (Connected (next_id st.core.circuits) 1) d) (tells st IdsOut) refl refl) refl)
        (plain_cond (has_room st.core x) (does st (Connected x (least_free (st.core.circuits.circuit_at x).end.half.sessions)) d) (tells st SessionsFull) refl refl)

    go : (n m : Bool) (o : Option Best) → Refused config st e (cond n (cond m (tells st Busy) (elim o [ None ↦ solicits_for config st service | Some b ↦ connects_to config st line service b ])) (tells st NoLine))
    go false m o = plain_refused config st e (tells st NoLine) refl
    go true true o = plain_refused config st e (tells st Busy) refl
    go true false None = λ q. inl (record { line = line; service = service; event = refl; step = refl }, refl)
    go true false (Some b) = plain_refused config st e (connects_to config st line service b) (reaches b)

announced_plain : (config : ServerConfig) (st : Server) (from : ℕ) (a : Announcement) → Plain (hears_announcement config st from a)
announced_plain config st from a = go (refuses config.groups st.core.moment a st.heard) (meets config.groups a)
  where
    go : (n m : Bool) → is_refused (cond n DirectoryFull (cond m Announced Apart)) ≡ false
    go true m = refl
    go false true = refl
    go false false = refl

-- a command

ask_refused : (k : Kept) → refuses_command (KeptIs k) ≡ true → is_waiting k ≡ false
ask_refused (Waiting n) q = absurd (false≢true q)
ask_refused Granted q = refl
ask_refused Cancelled q = refl
ask_refused QueueFull q = refl
ask_refused Notices.NoService q = refl
ask_refused RecordsFull q = refl
ask_refused Notices.Done q = refl

cancel_refused : (k : Kept) → refuses_command (KeptIs k) ≡ true → unwaited k ≡ true
cancel_refused (Waiting n) q = absurd (false≢true q)
cancel_refused Granted q = absurd (false≢true q)
cancel_refused Cancelled q = absurd (false≢true q)
cancel_refused QueueFull q = refl
cancel_refused Notices.NoService q = refl
cancel_refused RecordsFull q = refl
cancel_refused Notices.Done q = absurd (false≢true q)

module _ (config : ServerConfig) (st : Server) (from : ℕ) (m : Command) (numbers : Option Numbers) (now : ℕ) where
  abbrev heard : Event
  heard = command_heard from m numbers now

  -- what is noted by an action that is the command's
  noted_by : (a : Action) (s : ServerStep) → m.action ≡ a → s ≡ record { state = record st { queue = st.queue ++ told_by from m a s.answer ∷ [] }; answer = s.answer; frames = status_to from m (outcome_of s.answer) ∷ [] } → IsNoted st heard s
  noted_by a s q p = record {
    from = from;
    command = m;
    numbers = numbers;
    now = now;
    event = refl;
    step = p ∙ ap (λ z. record { state = record st { queue = st.queue ++ told_by from m z s.answer ∷ [] }; answer = s.answer; frames = status_to from m (outcome_of s.answer) ∷ [] }) (sym q);
  }

  notes_by : (a : Action) (s : ServerStep) → m.action ≡ a → s ≡ record { state = record st { queue = st.queue ++ told_by from m a s.answer ∷ [] }; answer = s.answer; frames = status_to from m (outcome_of s.answer) ∷ [] } → refuses_command s.answer ≡ true → Still st.queue (told_by from m a s.answer) → Notes st heard s
  unfolding noted_by
  notes_by a s q p r still = record { noted = noted_by a s q p; refused = r; still = subst (λ z. Still st.queue (told_by from m z s.answer)) (sym q) still }

  command_refused : (a : Action) → m.action ≡ a → Refused config st heard (hears_command config st from m a)
  command_refused Ask q r =
      let k : Kept = ask_answer (offered config) (key_of m) m.service st.queue in
      inr (notes_by Ask (hears_command config st from m Ask) q refl r (turned_still st.queue (key_of m) from m.service k (ask_refused k r)))
  command_refused Cancel q r = go (kept_for (key_of m) (st.queue ++ Cancels (key_of m) ∷ [])) refl r
    where
      told : Option Kept → ServerStep
      told o = elim o [
        | None ↦ record { state = record st { queue = st.queue ++ Cancels (key_of m) ∷ [] }; answer = NotKept; frames = status_to from m Unknown ∷ [] }
        | Some k ↦ record { state = record st { queue = st.queue ++ Cancels (key_of m) ∷ [] }; answer = KeptIs k; frames = status_to from m (KeptAs k) ∷ [] }
      ]

      go : (o : Option Kept) → kept_for (key_of m) (st.queue ++ Cancels (key_of m) ∷ []) ≡ o → Refused config st heard (told o)
      go None i r = inr (notes_by Cancel (told None) q refl refl (unwaited_still st.queue (key_of m) None i tt))
      go (Some k) i r = inr (notes_by Cancel (told (Some k)) q refl r (unwaited_still st.queue (key_of m) (Some k) i (cancel_refused k r)))

value_refused : (config : ServerConfig) (st : Server) (from : ℕ) (v : Value) (k : Option Numbers) (now : ℕ) → Refused config st (Hears from (Whole v) k now) (hears_value config st from v k)
value_refused config st from (OfCircuit (RunMessage x slots)) k now q = absurd (false≢true q)
value_refused config st from (OfCircuit (WideMessage x slots)) k now q = absurd (false≢true q)
value_refused config st from (OfCircuit (StartMessage true ask to source info)) k now q = absurd (false≢true q)
value_refused config st from (OfCircuit (StartMessage false ask to source info)) k now q = absurd (false≢true q)
value_refused config st from (OfCircuit (StopMessage master ask to source reason text)) k now q = absurd (false≢true q)
value_refused config st from (OfNotice (AnnouncementNotice a)) k now q = plain_refused config st _ (hears_announcement config st from a) (announced_plain config st from a) q
value_refused config st from (OfNotice (CommandNotice m)) k now q = command_refused config st from m k now m.action refl q
value_refused config st from (OfNotice (ResponseNotice m)) k now q = absurd (false≢true q)
value_refused config st from (OfNotice (StatusNotice m)) k now q = absurd (false≢true q)
value_refused config st from (OfNotice (SolicitNotice m)) k now q = absurd (false≢true q)

refused_cond : (config : ServerConfig) (st : Server) (e : Event) (n : Bool) (s t : ServerStep) → Refused config st e s → Refused config st e t → Refused config st e (cond n s t)
refused_cond config st e true s t p q = p
refused_cond config st e false s t p q = q

event_refused : (config : ServerConfig) (st : Server) (e : Event) → Refused config (server_moved e st) e (server_event config st e)
event_refused config st (Hears from (Malformed field at) k now) q = absurd (false≢true q)
event_refused config st (Hears from (Whole v) k now) q =
    let s : Server = record st { core = at_moment now st.core } in
    refused_cond config s (Hears from (Whole v) k now) (nat_eq from everyone) (tells s Ignored) (hears_value config s from v k) (λ q. absurd (false≢true q)) (value_refused config s from v k now) q
event_refused config st (Time now) q = absurd (false≢true q)
event_refused config st (Connects line service) q = refused_cond config st (Connects line service) st.halted (tells st Halted) (connect_event config st line service) (λ r. absurd (false≢true r)) (connect_refused config st line service) q
event_refused config st (Puts line bytes) q =
    plain_refused config st (Puts line bytes) (server_event config st (Puts line bytes))
    (line_plain config.lines st.core line (λ s. put_on (server_side config) st.core s bytes) (λ s. said_cond (put_open (session_of st.core s)) _ (says st.core Closed) refl refl)) q
event_refused config st (Sets line setting) q =
    plain_refused config st (Sets line setting) (server_event config st (Sets line setting))
    (line_plain config.lines st.core line (λ s. set_on (server_side config) st.core s setting)
    (λ s. said_cond (put_open (session_of st.core s)) _ (says st.core Closed) (said_cond (nat_lt (length (unframed (session_of st.core s))) 4096) _ (says st.core Full) refl refl) refl)) q
event_refused config st (Takes line n) q =
    plain_refused config st (Takes line n) (server_event config st (Takes line n))
    (line_plain config.lines st.core line (λ s. take_on (server_side config) st.core s n) (λ s. said_cond (take_open (session_of st.core s)) _ (says st.core Closed) refl refl)) q
event_refused config st (Attends line flag) q =
    plain_refused config st (Attends line flag) (server_event config st (Attends line flag))
    (line_plain config.lines st.core line (λ s. attend_on (server_side config) st.core s flag) (λ s. said_cond (put_open (session_of st.core s)) _ (says st.core Closed) refl refl)) q
event_refused config st (Closes line) q =
    plain_refused config st (Closes line) (server_event config st (Closes line))
    (line_plain config.lines st.core line (λ s. close_on (server_side config) st.core s) (λ s. said_cond (take_open (session_of st.core s)) _ (says st.core Closed) refl refl)) q
event_refused config st (Requests to id service) q = absurd (false≢true q)
event_refused config st (Withdraws id) q = absurd (false≢true q)
event_refused config st Announces q = absurd (false≢true q)
event_refused config st (Avoids line) q = absurd (true≢false (sym q ∙ go (line_exists config.lines line) (had_session st.core line)))
  where
    go : (n m : Bool) → is_refused (cond n (cond m Done Closed) NoLine) ≡ false
    go true true = refl
    go true false = refl
    go false m = refl
event_refused config st (Readies line ready) q = absurd (true≢false (sym q ∙ go (line_exists config.lines line)))
  where
    go : (n : Bool) → is_refused (cond n Done NoLine) ≡ false
    go true = refl
    go false = refl
event_refused config st Halts q = absurd (false≢true q)

-- behind every history, with the pass

record Calm (config : ServerConfig) (st : Server) : Type 0 where
  pub seated : AllSeated st.core st.queue st.core.seats
  pub quiet : NoGrant config st

moved_calm : (config : ServerConfig) (st : Server) (e : Event) → Settled config st → Calm config (server_moved e st)
moved_calm config st (Hears from payload k now) g = (let p = settled_at config st now g in record { seated = p.0; quiet = p.1 })
moved_calm config st (Time now) g = record { seated = g.seated; quiet = g.quiet }
moved_calm config st (Connects line service) g = record { seated = g.seated; quiet = g.quiet }
moved_calm config st (Puts line bytes) g = record { seated = g.seated; quiet = g.quiet }
moved_calm config st (Sets line setting) g = record { seated = g.seated; quiet = g.quiet }
moved_calm config st (Takes line n) g = record { seated = g.seated; quiet = g.quiet }
moved_calm config st (Attends line flag) g = record { seated = g.seated; quiet = g.quiet }
moved_calm config st (Closes line) g = record { seated = g.seated; quiet = g.quiet }
moved_calm config st (Requests to id service) g = record { seated = g.seated; quiet = g.quiet }
moved_calm config st (Withdraws id) g = record { seated = g.seated; quiet = g.quiet }
moved_calm config st Announces g = record { seated = g.seated; quiet = g.quiet }
moved_calm config st (Avoids line) g = record { seated = g.seated; quiet = g.quiet }
moved_calm config st (Readies line ready) g = record { seated = g.seated; quiet = g.quiet }
moved_calm config st Halts g = record { seated = g.seated; quiet = g.quiet }

before_calm : (config : ServerConfig) (es : List Event) (e : Event) → 0 < config.timing.sessions → Calm config (server_before config es e)
before_calm config es e pos = moved_calm config (server_run config es (open_server config)) e (settled config es pos)

pub unserved_grants_nothing : UnservedGrantsNothing
unserved_grants_nothing config es e pos q = ⊎_elim {C = IsUnserved config st e (passed config s)} (λ u. passes u.0) (λ n. absurd (false≢true (sym (ap refuses_command q) ∙ n.refused))) (event_refused config (server_run config es (open_server config)) e (ap is_refused q))
  where
    st : Server
    st = server_before config es e

    s : ServerStep
    s = server_event config (server_run config es (open_server config)) e

    c : Calm config st
    c = before_calm config es e pos

    passes : IsUnserved config st e s → IsUnserved config st e (passed config s)
    passes u = record { line = u.line; service = u.service; event = u.event; step = ap (passed config) u.step ∙ solicits_pass config st _ NoService _ c.seated c.quiet }

pub refused_commands_grant_nothing : RefusedCommandsGrantNothing
refused_commands_grant_nothing config es e pos q = ⊎_elim {C = IsNoted st e (passed config s)} (λ u. absurd (false≢true (sym (ap refuses_command u.1) ∙ q))) passes (event_refused config (server_run config es (open_server config)) e (also s.answer q))
  where
    st : Server
    st = server_before config es e

    s : ServerStep
    s = server_event config (server_run config es (open_server config)) e

    c : Calm config st
    c = before_calm config es e pos

    also : (a : Answer) → refuses_command a ≡ true → is_refused a ≡ true
    also a r = go a r
      where
        go : (a : Answer) → refuses_command a ≡ true → is_refused a ≡ true
        go NoService r = refl
        go a r = r

    passes : Notes st e s → IsNoted st e (passed config s)
    passes n = record {
      from = n.noted.from;
      command = n.noted.command;
      numbers = n.noted.numbers;
      now = n.noted.now;
      event = n.noted.event;
      step = ap (passed config) n.noted.step ∙ notes_pass config st (told_by n.noted.from n.noted.command n.noted.command.action s.answer) s.answer (status_to n.noted.from n.noted.command (outcome_of s.answer)) n.still c.seated c.quiet;
    }

-- an action that is answered from the record
record Again (config : ServerConfig) (st : Server) (from : ℕ) (m : Command) (k : Kept) (a : Action) : Type 0 where
  pub step : hears_command config st from m a ≡ record { state = record st { queue = st.queue ++ told_by from m a (KeptIs k) ∷ [] }; answer = KeptIs k; frames = status_to from m (KeptAs k) ∷ [] }
  pub still : Still st.queue (told_by from m a (KeptIs k))

pub repeated_commands_grant_nothing : RepeatedCommandsGrantNothing
repeated_commands_grant_nothing config es from now m numbers r pos far found rests =
    let g : Again config st from m k m.action = again m.action rests in
    ap (passed config) (ap (λ b. cond b (tells st Ignored) (hears_command config st from m m.action)) (ne_eqb from everyone far) ∙ g.step)
    ∙ notes_pass config st (told_by from m m.action (KeptIs k)) (KeptIs k) (status_to from m (KeptAs k)) g.still c.seated c.quiet
  where
    e : Event
    e = command_heard from m numbers now

    st : Server
    st = server_before config es e

    k : Kept
    k = kept_now st.queue r

    c : Calm config st
    c = before_calm config es e pos

    asked : Kept → ServerStep
    asked z = record { state = record st { queue = st.queue ++ Asks (key_of m) from m.service z ∷ [] }; answer = KeptIs z; frames = status_to from m (KeptAs z) ∷ [] }

    cancelled : Option Kept → ServerStep
    cancelled o = elim o [
      | None ↦ record { state = record st { queue = st.queue ++ Cancels (key_of m) ∷ [] }; answer = NotKept; frames = status_to from m Unknown ∷ [] }
      | Some z ↦ record { state = record st { queue = st.queue ++ Cancels (key_of m) ∷ [] }; answer = KeptIs z; frames = status_to from m (KeptAs z) ∷ [] }
    ]

    told : Option Request → Kept
    told o = elim o [ None ↦ new_answer (offered config) m.service st.queue | Some y ↦ kept_now st.queue y ]

    again : (a : Action) → (a ≡ Cancel → waits r ≡ false) → Again config st from m k a
    again Ask w = record { step = ap asked (ap told found); still = known_still st.queue (key_of m) from m.service k r found }
    again Cancel w = record { step = ap cancelled (resting_kept st.queue (key_of m) r found (w refl)); still = resting_still st.queue (key_of m) r found (w refl) }
