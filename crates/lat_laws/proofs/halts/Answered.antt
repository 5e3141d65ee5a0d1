-- Only a connect of a halted server is answered by Halted.
use Rattle.std.proofs.Common.{◌≡◌, ℕ, refl, sym, ap, ◌∙◌, Bool, true, false, cond, [], ◌∷◌, ◌++◌, length, Option, Some, None, nat_eq, nat_lt}
use Rattle.std.proofs.lemmas.Bool.{true≢false, false≢true}
use Rattle.lat_model.specs.sessions.Session.{put_open, take_open, unframed}
use Rattle.lat_model.specs.sessions.Sessions.{least_free}
use Rattle.lat_model.specs.circuits.Arriving.{living}
use Rattle.lat_model.specs.circuits.Ids.{next_id}
use Rattle.lat_machines.specs.values.Names.{Name}
use Rattle.lat_machines.specs.values.Addresses.{everyone}
use Rattle.lat_machines.specs.values.Messages.{RunMessage, WideMessage, StartMessage, StopMessage}
use Rattle.lat_machines.specs.values.Notices.{Kept, KeptAs, Unknown, Action, Ask, Cancel, Announcement, Command, AnnouncementNotice, CommandNotice, StatusNotice, SolicitNotice, ResponseNotice}
use Rattle.lat_machines.specs.values.Frames.{Value, OfCircuit, OfNotice, Whole, Malformed}
use Rattle.lat_machines.specs.values.Events.{Numbers, Event, Hears, Time, Connects, Puts, Sets, Takes, Attends, Closes, Requests, Withdraws, Announces, Avoids, Readies, Halts}
use Rattle.lat_machines.specs.values.Answers.{Answer, Announced, Apart, DirectoryFull, Ignored, Done, Busy, NoLine, SessionsFull, CircuitsFull, IdsOut, Closed, Full, Connected, NotKept, KeptIs, Halted}
use Rattle.lat_machines.specs.server.Directory.{Best, best, refuses, meets}
use Rattle.lat_machines.specs.server.Queue.{Cancels}
use Rattle.lat_machines.specs.server.Records.{kept_for}
use Rattle.lat_machines.specs.cores.Cores.{Seat, Core, Doing, at_moment, circuit_to}
use Rattle.lat_machines.specs.cores.Lines.{session_of, seat_at, has_session, had_session, line_exists}
use Rattle.lat_machines.specs.cores.LineCalls.{Said, says, put_on, set_on, attend_on, take_on, close_on, on_line}
use Rattle.lat_machines.specs.server.Server.{ServerConfig, Server, ServerStep, server_side, tells, does, has_room, opens, connects_to, solicits_for, connect_event, status_frame, key_of, hears_announcement, hears_command, hears_value, server_event, server_step}
use Rattle.lat_laws.specs.halts.Idle.{IsHaltedConnect, HaltedIsAnswered}

abbrev is_halted : Answer → Bool
is_halted Halted = true
is_halted a = false

abbrev Plain : ServerStep → Type 0
Plain s = is_halted s.answer ≡ false

plain_cond : (n : Bool) (s t : ServerStep) → Plain s → Plain t → Plain (cond n s t)
plain_cond true s t p q = p
plain_cond false s t p q = q

abbrev PlainSaid : Said → Type 0
PlainSaid s = is_halted s.answer ≡ false

said_cond : (n : Bool) (s t : Said) → PlainSaid s → PlainSaid t → PlainSaid (cond n s t)
said_cond true s t p q = p
said_cond false s t p q = q

line_plain : (lines : ℕ) (c : Core) (line : ℕ) (f : Seat → Said) → ((s : Seat) → PlainSaid (f s)) → PlainSaid (on_line lines c line f)
line_plain lines c line f p =
    said_cond (line_exists lines line) (cond (has_session c line) (f (seat_at c line)) (says c Closed)) (says c NoLine)
    (said_cond (has_session c line) (f (seat_at c line)) (says c Closed) (p (seat_at c line)) refl) refl

connect_plain : (config : ServerConfig) (st : Server) (line : ℕ) (service : Name) → Plain (connect_event config st line service)
connect_plain config st line service = go (line_exists config.lines line) (has_session st.core line) (best config.groups service st.core.moment st.heard)
  where
    reaches : (b : Best) → Plain (connects_to config st line service b)
    reaches b =
        let x : ℕ = circuit_to st.core b.from in
        let d : Doing = opens config line b.from b.node service None None st.core in
        plain_cond (nat_eq x 0)
        (cond (nat_lt (living st.core.circuits) 8) (cond (nat_lt st.core.circuits.drawn 65535) (does st (Connected (next_id st.core.circuits) 1) d) (tells st IdsOut)) (tells st CircuitsFull))
        (cond (has_room st.core x) (does st (Connected x (least_free (st.core.circuits.circuit_at x).end.half.sessions)) d) (tells st SessionsFull))
        (plain_cond (nat_lt (living st.core.circuits) 8) (cond (nat_lt st.core.circuits.drawn 65535) (does st (Connected (next_id st.core.circuits) 1) d) (tells st IdsOut)) (tells st CircuitsFull)
        (plain_cond (nat_lt st.core.circuits.drawn 65535) (does st (Connected (next_id st.core.circuits) 1) d) (tells st IdsOut) refl refl) refl)
        (plain_cond (has_room st.core x) (does st (Connected x (least_free (st.core.circuits.circuit_at x).end.half.sessions)) d) (tells st SessionsFull) refl refl)

    go : (n m : Bool) (o : Option Best) → Plain (cond n (cond m (tells st Busy) (elim o [ None ↦ solicits_for config st service | Some b ↦ connects_to config st line service b ])) (tells st NoLine))
    go false m o = refl
    go true true o = refl
    go true false None = refl
    go true false (Some b) = reaches b

announced_plain : (config : ServerConfig) (st : Server) (from : ℕ) (a : Announcement) → Plain (hears_announcement config st from a)
announced_plain config st from a = go (refuses config.groups st.core.moment a st.heard) (meets config.groups a)
  where
    go : (n m : Bool) → is_halted (cond n DirectoryFull (cond m Announced Apart)) ≡ false
    go true m = refl
    go false true = refl
    go false false = refl

command_plain : (config : ServerConfig) (st : Server) (from : ℕ) (m : Command) (a : Action) → Plain (hears_command config st from m a)
command_plain config st from m Ask = refl
command_plain config st from m Cancel = go (kept_for (key_of m) (st.queue ++ Cancels (key_of m) ∷ []))
  where
    told : Option Kept → ServerStep
    told o = elim o [
      | None ↦ record { state = record st { queue = st.queue ++ Cancels (key_of m) ∷ [] }; answer = NotKept; frames = status_frame from m Unknown ∷ [] }
      | Some k ↦ record { state = record st { queue = st.queue ++ Cancels (key_of m) ∷ [] }; answer = KeptIs k; frames = status_frame from m (KeptAs k) ∷ [] }
    ]

    go : (o : Option Kept) → Plain (told o)
    go None = refl
    go (Some k) = refl

value_plain : (config : ServerConfig) (st : Server) (from : ℕ) (v : Value) (k : Option Numbers) → Plain (hears_value config st from v k)
value_plain config st from (OfCircuit (RunMessage x slots)) k = refl
value_plain config st from (OfCircuit (WideMessage x slots)) k = refl
value_plain config st from (OfCircuit (StartMessage true ask to source info)) k = refl
value_plain config st from (OfCircuit (StartMessage false ask to source info)) k = refl
value_plain config st from (OfCircuit (StopMessage master ask to source reason text)) k = refl
value_plain config st from (OfNotice (AnnouncementNotice a)) k = announced_plain config st from a
value_plain config st from (OfNotice (CommandNotice m)) k = command_plain config st from m m.action
value_plain config st from (OfNotice (ResponseNotice m)) k = refl
value_plain config st from (OfNotice (StatusNotice m)) k = refl
value_plain config st from (OfNotice (SolicitNotice m)) k = refl

event_answered : (config : ServerConfig) (st : Server) (e : Event) → is_halted (server_event config st e).answer ≡ true → IsHaltedConnect st e
event_answered config st (Hears from (Malformed field at) k now) q = absurd (false≢true q)
event_answered config st (Hears from (Whole v) k now) q =
    let t : Server = record st { core = at_moment now st.core } in
    absurd (true≢false (sym q ∙ plain_cond (nat_eq from everyone) (tells t Ignored) (hears_value config t from v k) refl (value_plain config t from v k)))
event_answered config st (Time now) q = absurd (false≢true q)
event_answered config st (Connects line service) q = go st.halted refl q
  where
    go : (n : Bool) → st.halted ≡ n → is_halted (cond n (tells st Halted) (connect_event config st line service)).answer ≡ true → IsHaltedConnect st (Connects line service)
    go true i r = record { line = line; service = service; event = refl; halted = i }
    go false i r = absurd (true≢false (sym r ∙ connect_plain config st line service))
event_answered config st (Puts line bytes) q =
    absurd (true≢false (sym q ∙ line_plain config.lines st.core line (λ s. put_on (server_side config) st.core s bytes) (λ s. said_cond (put_open (session_of st.core s)) _ (says st.core Closed) refl refl)))
event_answered config st (Sets line setting) q =
    absurd (true≢false (sym q ∙ line_plain config.lines st.core line (λ s. set_on (server_side config) st.core s setting)
    (λ s. said_cond (put_open (session_of st.core s)) _ (says st.core Closed) (said_cond (nat_lt (length (unframed (session_of st.core s))) 4096) _ (says st.core Full) refl refl) refl)))
event_answered config st (Takes line n) q =
    absurd (true≢false (sym q ∙ line_plain config.lines st.core line (λ s. take_on (server_side config) st.core s n) (λ s. said_cond (take_open (session_of st.core s)) _ (says st.core Closed) refl refl)))
event_answered config st (Attends line flag) q =
    absurd (true≢false (sym q ∙ line_plain config.lines st.core line (λ s. attend_on (server_side config) st.core s flag) (λ s. said_cond (put_open (session_of st.core s)) _ (says st.core Closed) refl refl)))
event_answered config st (Closes line) q =
    absurd (true≢false (sym q ∙ line_plain config.lines st.core line (λ s. close_on (server_side config) st.core s) (λ s. said_cond (take_open (session_of st.core s)) _ (says st.core Closed) refl refl)))
event_answered config st (Requests to id service) q = absurd (false≢true q)
event_answered config st (Withdraws id) q = absurd (false≢true q)
event_answered config st Announces q = absurd (false≢true q)
event_answered config st (Avoids line) q = absurd (true≢false (sym q ∙ go (line_exists config.lines line) (had_session st.core line)))
  where
    go : (n m : Bool) → is_halted (cond n (cond m Done Closed) NoLine) ≡ false
    go true true = refl
    go true false = refl
    go false m = refl
event_answered config st (Readies line ready) q = absurd (true≢false (sym q ∙ go (line_exists config.lines line)))
  where
    go : (n : Bool) → is_halted (cond n Done NoLine) ≡ false
    go true = refl
    go false = refl
event_answered config st Halts q = absurd (false≢true q)

pub halted_is_answered : HaltedIsAnswered
halted_is_answered config st e = (λ q. event_answered config st e (ap is_halted q), back)
  where
    back : IsHaltedConnect st e → (server_step config st e).answer ≡ Halted
    back i =
        ap (λ z. (server_step config st z).answer) i.event
        ∙ ap (λ b. (cond b (tells st Halted) (connect_event config st i.line i.service)).answer) i.halted
