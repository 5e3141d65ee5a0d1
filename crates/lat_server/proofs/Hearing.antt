-- What a server makes of what it hears, and of time.
use Rattle.std.proofs.Common.{◌≡◌, ◌≢◌, ℕ, refl, sym, ap, ◌∙◌, subst, Bool, true, false, cond, List, [], ◌∷◌, ◌++◌, map, Option, Some, None, max}
use Rattle.std.specs.Prelude.{Result, Ok, Err, if◌then◌else◌, IfOk, IfSome}
use Rattle.std.proofs.lemmas.List.{append-nil}
use Rattle.lat_base.specs.declared.answer.Answer as base
use Rattle.lat_base.specs.declared.answer.Answer.TheVariants as answers
use Rattle.lat_base.specs.declared.kept.Kept as base_kept
use Rattle.lat_base.specs.declared.outbox.OutFrame.{OutFrame}
use Rattle.lat_machines.specs.values.Names.{Name}
use Rattle.lat_machines.specs.values.Messages.{Message, RunMessage, WideMessage, StartMessage, StopMessage}
use Rattle.lat_machines.specs.values.Notices.{Kept as Known, Outcome, KeptAs, Unknown, Action, Ask, Cancel, Announcement, Command}
use Rattle.lat_machines.specs.values.Answers.{Answer, Announced, Apart, DirectoryFull, KeptIs, NotKept, Done}
use Rattle.lat_machines.specs.server.Directory.{meets, refuses, hear}
use Rattle.lat_machines.specs.server.Queue.{QueueEvent, Asks, Cancels}
use Rattle.lat_machines.specs.server.Records.{ask_answer, kept_for}
use Rattle.lat_machines.specs.cores.Cores.{Seat, Core, at_moment, passes_time}
use Rattle.lat_machines.specs.cores.Lines.{over}
use Rattle.lat_machines.specs.cores.LineCalls.{Said}
use Rattle.lat_machines.specs.server.Server.{ServerConfig, Server, ServerStep, server_side, offered, tells, with_core, does, said, hears_message, hears_announcement, status_frame, key_of, hears_command}
use Rattle.lat_payload.specs.Frames.{GoesOutAs, Emits}
use Rattle.lat_payload.specs.Notices.{IsSendable, outcome_shown}
use Rattle.lat_payload.proofs.Frames.{adds_none, adds_one, adds_then}
use Rattle.lat_dir.specs.declared.directory.DirFault.{DirFault}
use Rattle.lat_dir.specs.declared.directory.DirFault.TheVariants as faults
use Rattle.lat_dir.specs.Stands as dir
use Rattle.lat_dir.specs.Stands.{UnlessMemory}
use Rattle.lat_queue.specs.Tables.{Table, HasPlace}
use Rattle.lat_queue.specs.Histories.{key_shown, some_kept}
use Rattle.lat_queue.proofs.RecordLemmas.{map_twice}
use Rattle.lat_circuit.specs.Frames.{timing_shown}
use Rattle.lat_lines.specs.circuits.Hears.{HeardCore, heard_core}
use Rattle.lat_lines.specs.Strangers.{strangers_stop}
use Rattle.lat_lines.specs.Answers.{HasAnswered}
use Rattle.lat_lines.specs.AnswerValues.{answer_shown}
use Rattle.lat_lines.specs.Kept as lines
use Rattle.lat_lines.specs.Stands as stands
use Rattle.lat_lines.specs.Stands.{freed_key, freed_from}
use Rattle.lat_server.specs.declared.config.Offer.{Offer}
use Rattle.lat_server.specs.Config.{offer_shown}
use Rattle.lat_server.specs.Commands.{NotedCommand, noted, HasNoted, kept_answer, kept_outcome, announced_answer}
use Rattle.lat_server.specs.Kept.{Kept, config_of, AtRest}
use Rattle.lat_server.specs.Concluded.{Concluded}
use Rattle.lat_server.specs.Stands.{Stands}
use Rattle.lat_server.specs.Events.{HasDone}
use Rattle.lat_server.proofs.ConcludedLemmas.{concluded_more}

-- what follows from a result where there is one
pub if_ok : {A E : Type 0} (r : Result A E) (P Q : A → Type 0) → ((a : A) → P a → Q a) → IfOk r P → IfOk r Q
if_ok (Ok a) P Q f p = f a p
if_ok (Err e) P Q f p = tt

-- the moment frees no session

moved_freed : (now : ℕ) (c d : Core) (ss : List Seat) → freed_from (at_moment now c) d ss ≡ freed_from c d ss
moved_freed now c d [] = refl
moved_freed now c d (s ∷ ss) = ap (λ z. cond (over c s) z (cond (over d s) (freed_key s.key z) z)) (moved_freed now c d ss)

none_moved : (now : ℕ) (c : Core) (ss : List Seat) → freed_from c (at_moment now c) ss ≡ []
none_moved now c [] = refl
none_moved now c (s ∷ ss) = by (over c s) (none_moved now c ss)
  where
    by : (b : Bool) → freed_from c (at_moment now c) ss ≡ [] → cond b (freed_from c (at_moment now c) ss) (cond b (freed_key s.key (freed_from c (at_moment now c) ss)) (freed_from c (at_moment now c) ss)) ≡ []
    by true r = r
    by false r = r

abbrev at : ℕ → Server → Server
at now s = with_core s (at_moment now s.core)

-- nothing but the moment moves on
pub did_pass : (k : Kept) (s : Server) (now : ℕ) (l : lines.Kept) (a : base.Answer) (out : List OutFrame) → AtRest k → Stands k s → stands.Stands l (at_moment now s.core) → l.freed ≡ k.lines.freed → HasDone s (tells (at now s) (answer_shown a)) (record k { lines = l }) a out out
did_pass k s now l a out rest st m f = record {
  state = record { core = m; directory = st.directory; waiting = st.queue; solicits = st.solicits; gate = st.gate; concluded = st.concluded; freed = ap (map key_shown) (f ∙ rest.freed) ∙ sym (none_moved now s.core s.core.seats); frames = adds_none out };
  answered = refl;
}

-- time
pub did_time : (k : Kept) (s : Server) (now : ℕ) (l : lines.Kept) (d : dir.Kept) (before after : List OutFrame) → Stands k s → stands.HasStepped (at_moment now s.core) (passes_time (server_side (config_of k)) (at_moment now s.core)) l before after → dir.Stands d s.heard
    → HasDone s (does s Done (passes_time (server_side (config_of k)) (at_moment now s.core))) (record k { lines = l; directory = d }) answers.Done before after
did_time k s now l d before after st t h = record {
  state = record { core = t.state; directory = h; waiting = st.queue; solicits = st.solicits; gate = st.gate; concluded = st.concluded; freed = t.freed ∙ moved_freed now s.core (passes_time (server_side (config_of k)) (at_moment now s.core)).core s.core.seats; frames = t.frames };
  answered = refl;
}

-- a call on a line
pub did_call : (k : Kept) (s : Server) (l : lines.Kept) (a : base.Answer) (x : Said) (out : List OutFrame) → Stands k s → HasAnswered s.core x l a → HasDone s (said s x) (record k { lines = l }) a out out
did_call k s l a x out st t = record {
  state = record { core = t.state; directory = st.directory; waiting = st.queue; solicits = st.solicits; gate = st.gate; concluded = st.concluded; freed = t.freed; frames = adds_none out };
  answered = t.answered;
}

-- circuit messages

-- what the circuits do, and then the STOP for a stranger
abbrev heard_by : ServerConfig → Server → ℕ → Message → ServerStep
heard_by config s from m =
    let h : HeardCore = heard_core (server_side config) from m s.core in
    record { state = with_core s h.doing.core; answer = h.answer; frames = h.doing.frames ++ strangers_stop (server_side config) config.prompt s.core from m }

-- no frame more
none_more : (t : ServerStep) → t ≡ record t { frames = t.frames ++ [] }
none_more t = ap (λ fs. record t { frames = fs }) (sym (append-nil t.frames))

message_is : (config : ServerConfig) (s : Server) (from : ℕ) (m : Message) → hears_message config s from m None ≡ heard_by config s from m
message_is config s from (RunMessage h slots) = refl
message_is config s from (WideMessage h slots) = refl
message_is config s from (StartMessage true ask to source info) = refl
message_is config s from (StartMessage false ask to source info) = none_more (hears_message config s from (StartMessage false ask to source info) None)
message_is config s from (StopMessage master ask to source reason text) = none_more (hears_message config s from (StopMessage master ask to source reason text) None)

pub did_message : (k : Kept) (s : Server) (now from : ℕ) (m : Message) (l : lines.Kept) (a : base.Answer) (before middle after : List OutFrame) → Stands k s
    → stands.HasStepped (at_moment now s.core) (heard_core (server_side (config_of k)) from m (at_moment now s.core)).doing l before middle
    → answer_shown a ≡ (heard_core (server_side (config_of k)) from m (at_moment now s.core)).answer → Emits (strangers_stop (server_side (config_of k)) k.prompt (at_moment now s.core) from m) middle after
    → HasDone s (hears_message (config_of k) (at now s) from m None) (record k { lines = l }) a before after
did_message k s now from m l a before middle after st t e stop =
    let h : HeardCore = heard_core (server_side (config_of k)) from m (at_moment now s.core) in
    subst (λ z. HasDone s z (record k { lines = l }) a before after) (sym (message_is (config_of k) (at now s) from m))
    (record {
      state = record {
        core = t.state;
        directory = st.directory;
        waiting = st.queue;
        solicits = st.solicits;
        gate = st.gate;
        concluded = st.concluded;
        freed = t.freed ∙ moved_freed now s.core h.doing.core s.core.seats;
        frames = adds_then h.doing.frames (strangers_stop (server_side (config_of k)) k.prompt (at_moment now s.core) from m) before middle after t.frames stop;
      };
      answered = e;
    })

-- announcements

pub unless_out : (r : Result Bool DirFault) (P : Type 0) → r ≢ Err faults.Memory → UnlessMemory r P → P
unless_out (Ok b) P n p = p
unless_out (Err faults.Full) P n p = p
unless_out (Err faults.Memory) P n p = absurd (n refl)

announced_is : (r m : Bool) → announced_answer (if r then Err faults.Full else Ok m) ≡ cond r DirectoryFull (cond m Announced Apart)
announced_is true m = refl
announced_is false true = refl
announced_is false false = refl

pub did_announce : (k : Kept) (s : Server) (now from : ℕ) (m : Announcement) (l : lines.Kept) (d : dir.Kept) (a : base.Answer) (out : List OutFrame) → AtRest k → Stands k s → stands.Stands l (at_moment now s.core) → l.freed ≡ k.lines.freed
    → dir.Stands d (hear k.directory.groups (max s.core.moment now) from m s.heard)
    → answer_shown a ≡ announced_answer (if refuses k.directory.groups (max s.core.moment now) m s.heard then Err faults.Full else Ok (meets k.directory.groups m))
    → HasDone s (hears_announcement (config_of k) (at now s) from m) (record k { lines = l; directory = d }) a out out
did_announce k s now from m l d a out rest st c f h e = record {
  state = record { core = c; directory = h; waiting = st.queue; solicits = st.solicits; gate = st.gate; concluded = st.concluded; freed = ap (map key_shown) (f ∙ rest.freed) ∙ sym (none_moved now s.core s.core.seats); frames = adds_none out };
  answered = e ∙ announced_is (refuses k.directory.groups (max s.core.moment now) m s.heard) (meets k.directory.groups m);
}

-- commands

abbrev answer_of : Option Known → Answer
answer_of o = elim o [ None ↦ NotKept | Some k ↦ KeptIs k ]

abbrev outcome_of : Option Known → Outcome
outcome_of o = elim o [ None ↦ Unknown | Some k ↦ KeptAs k ]

abbrev noting : Server → ℕ → Command → NotedCommand → ServerStep
noting s from m n = record { state = record s { queue = n.events }; answer = answer_of n.kept; frames = status_frame from m (outcome_of n.kept) ∷ [] }

command_is : (config : ServerConfig) (s : Server) (from : ℕ) (m : Command) (a : Action) → hears_command config s from m a ≡ noting s from m (noted (offered config) from m a s.queue)
command_is config s from m Ask = refl
command_is config s from m Cancel = by (kept_for (key_of m) q)
  where
    q : List QueueEvent
    q = s.queue ++ Cancels (key_of m) ∷ []

    told : Option Known → ServerStep
    told o = elim o [
      | None ↦ record { state = record s { queue = q }; answer = NotKept; frames = status_frame from m Unknown ∷ [] }
      | Some k ↦ record { state = record s { queue = q }; answer = KeptIs k; frames = status_frame from m (KeptAs k) ∷ [] }
    ]

    by : (o : Option Known) → told o ≡ noting s from m (record { events = q; kept = o })
    by None = refl
    by (Some k) = refl

-- the services that are offered, by the queue and by the machine
pub same_offers : (k : Kept) → k.queue.offered ≡ map (λ (o : Offer). o.service) k.offers → offered (config_of k) ≡ k.queue.offered
same_offers k e = map_twice (λ o. o.service) offer_shown k.offers ∙ sym e

noted_concluded : (c : Core) (names : List Name) (from : ℕ) (m : Command) (a : Action) (q : List QueueEvent) → Concluded c q → Concluded c (noted names from m a q).events
noted_concluded c names from m Ask q p = concluded_more c q (Asks (key_of m) from m.service (ask_answer names (key_of m) m.service q)) c.seats (λ j. refl) p
noted_concluded c names from m Cancel q p = concluded_more c q (Cancels (key_of m)) c.seats (λ j. refl) p

answer_is : (o : Option base_kept.Kept) → answer_shown (kept_answer o) ≡ answer_of (some_kept o)
answer_is None = refl
answer_is (Some k) = refl

outcome_is : (o : Option base_kept.Kept) → outcome_shown (kept_outcome o) ≡ outcome_of (some_kept o)
outcome_is None = refl
outcome_is (Some k) = refl

pub place_sendable : (o : Option base_kept.Kept) → IfSome o HasPlace → IsSendable (kept_outcome o)
place_sendable None p = tt
place_sendable (Some k) p = p

pub did_command : (k : Kept) (s : Server) (now from : ℕ) (m : Command) (a : Action) (l : lines.Kept) (t : Table) (o : Option base_kept.Kept) (f : OutFrame) (before after : List OutFrame) → AtRest k → Stands k s → offered (config_of k) ≡ k.queue.offered
    → HasNoted (noted k.queue.offered from m a s.queue) t o → GoesOutAs f (status_frame from m (outcome_shown (kept_outcome o))) → after ≡ before ++ f ∷ [] → stands.Stands l (at_moment now s.core) → l.freed ≡ k.lines.freed
    → HasDone s (hears_command (config_of k) (at now s) from m a) (record k { lines = l; queue = t }) (kept_answer o) before after
did_command k s now from m a l t o f before after rest st same n e p c g =
    let x : NotedCommand = noted k.queue.offered from m a s.queue in
    let told : outcome_shown (kept_outcome o) ≡ outcome_of x.kept = outcome_is o ∙ ap outcome_of n.same in
    subst (λ z. HasDone s z (record k { lines = l; queue = t }) (kept_answer o) before after) (sym (command_is (config_of k) (at now s) from m a ∙ ap (λ ns. noting (at now s) from m (noted ns from m a s.queue)) same))
    (record {
      state = record {
        core = c;
        directory = st.directory;
        waiting = n.state;
        solicits = st.solicits;
        gate = st.gate;
        concluded = noted_concluded s.core k.queue.offered from m a s.queue st.concluded;
        freed = ap (map key_shown) (g ∙ rest.freed) ∙ sym (none_moved now s.core s.core.seats);
        frames = subst (Emits (status_frame from m (outcome_of x.kept) ∷ []) before) (sym p) (adds_one (status_frame from m (outcome_of x.kept)) f before (subst (λ y. GoesOutAs f (status_frame from m y)) told e));
      };
      answered = answer_is o ∙ ap answer_of n.same;
    })

-- the same side before and after
pub sides : (j k : lines.Kept) → lines.SameLines j k → lines.side_of k ≡ lines.side_of j
sides j k s =
    ap (λ b. record { server = b; timing = (lines.side_of k).timing; name = k.circuits.name }) s.core.server
    ∙ ap (λ t. record { server = j.circuits.server; timing = timing_shown t; name = k.circuits.name }) s.core.timing
    ∙ ap (λ n. record { server = j.circuits.server; timing = timing_shown j.circuits.timing; name = n }) s.core.name
