-- What a connect makes of a server.
use Rattle.std.proofs.Common.{◌≡◌, ℕ, ◌+◌, ◌%◌, refl, sym, ap, ◌∙◌, subst, Bool, true, false, cond, List, [], ◌∷◌, ◌++◌, map, Some, None, nat_eq, nat_lt}
use Rattle.std.specs.Prelude.{Result, Ok, Err, OnOk, OnErr}
use Rattle.lat_base.specs.declared.answer.Answer.TheVariants as base
use Rattle.lat_base.specs.declared.outbox.OutFrame.{OutFrame}
use Rattle.lat_model.specs.sessions.Sessions.{least_free}
use Rattle.lat_model.specs.circuits.Arriving.{living}
use Rattle.lat_model.specs.circuits.Ids.{next_id}
use Rattle.lat_machines.specs.values.Addresses.{everyone}
use Rattle.lat_machines.specs.values.Names.{Name}
use Rattle.lat_machines.specs.values.Notices.{SolicitNotice}
use Rattle.lat_machines.specs.values.Frames.{OfNotice, plain}
use Rattle.lat_machines.specs.values.Answers.{Answer, Connected, NoLine, Busy, SessionsFull, CircuitsFull, IdsOut}
use Rattle.lat_machines.specs.server.Directory.{Best, best}
use Rattle.lat_machines.specs.cores.Cores.{circuit_to}
use Rattle.lat_machines.specs.cores.Lines.{line_exists, has_session}
use Rattle.lat_machines.specs.server.Server.{ServerConfig, Server, ServerStep, server_side, tells, does, has_room, opens, connects_to, solicits_for, connect_event}
use Rattle.lat_payload.specs.Frames.{GoesOutAs, Emits}
use Rattle.lat_payload.proofs.Frames.{adds_none, adds_one}
use Rattle.lat_queue.specs.Histories.{key_shown}
use Rattle.lat_lines.specs.Kept as lines
use Rattle.lat_lines.specs.Stands as stands
use Rattle.lat_lines.specs.Opens.{opening}
use Rattle.lat_lines.specs.declared.opening.OpenFault.{OpenFault}
use Rattle.lat_lines.specs.declared.opening.OpenFault.TheVariants as faults
use Rattle.lat_server.specs.Kept.{Kept, config_of, AtRest}
use Rattle.lat_server.specs.Opened.{opened_answer}
use Rattle.lat_server.specs.Stands.{Stands}
use Rattle.lat_server.specs.Events.{Underway, HasDone}
use Rattle.lat_server.proofs.Openings.{opening_of, opening_frees_none, none_between}

-- its configuration and its lines say the same of it
pub same_side : (k : Kept) → k.lines.circuits.server ≡ true → server_side (config_of k) ≡ lines.side_of k.lines
same_side k q = ap (λ b. record { server = b; timing = (config_of k).timing; name = (config_of k).name }) (sym q)

-- where nothing but an answer is given
pub idle : (k : Kept) (s : Server) (a : Answer) (out : List OutFrame) → AtRest k → Stands k s → Underway s (tells s a) k out out
idle k s a out rest st = record {
  core = st.lines;
  directory = st.directory;
  waiting = st.queue;
  solicits = st.solicits;
  gate = st.gate;
  concluded = st.concluded;
  freed = ap (map key_shown) rest.freed ∙ sym (none_between s.core s.core.seats);
  frames = adds_none out;
}

-- the cases of a connect

pub at_no_line : (config : ServerConfig) (s : Server) (line : ℕ) (service : Name) → line_exists config.lines line ≡ false → connect_event config s line service ≡ tells s NoLine
at_no_line config s line service e = rw e

pub at_busy : (config : ServerConfig) (s : Server) (line : ℕ) (service : Name) → line_exists config.lines line ≡ true → has_session s.core line ≡ true → connect_event config s line service ≡ tells s Busy
at_busy config s line service e h = rw (e, h)

pub at_best : (config : ServerConfig) (s : Server) (line : ℕ) (service : Name) (b : Best) → line_exists config.lines line ≡ true → has_session s.core line ≡ false → best config.groups service s.core.moment s.heard ≡ Some b → connect_event config s line service ≡ connects_to config s line service b
at_best config s line service b e h i = rw (e, h, i)

pub at_none : (config : ServerConfig) (s : Server) (line : ℕ) (service : Name) → line_exists config.lines line ≡ true → has_session s.core line ≡ false → best config.groups service s.core.moment s.heard ≡ None → connect_event config s line service ≡ solicits_for config s service
at_none config s line service e h i = rw (e, h, i)

-- a session with the best node

abbrev connected_by : ServerConfig → Server → ℕ → Name → Best → Result (ℕ × ℕ) OpenFault → ServerStep
connected_by config s line service b (Ok ids) = does s (Connected ids.0 ids.1) (opens config line b.from b.node service None None s.core)
connected_by config s line service b (Err faults.SessionsFull) = tells s SessionsFull
connected_by config s line service b (Err faults.CircuitsFull) = tells s CircuitsFull
connected_by config s line service b (Err faults.IdsOut) = tells s IdsOut

connects_is : (config : ServerConfig) (s : Server) (line : ℕ) (service : Name) (b : Best) → connects_to config s line service b ≡ connected_by config s line service b (opening s.core b.from)
connects_is config s line service b = by (nat_eq x 0) (nat_lt (living s.core.circuits) 8) (nat_lt s.core.circuits.drawn 65535) (has_room s.core x)
  where
    x : ℕ
    x = circuit_to s.core b.from

    step : Answer → ServerStep
    step a = does s a (opens config line b.from b.node service None None s.core)

    id : ℕ
    id = least_free (s.core.circuits.circuit_at x).end.half.sessions

    by : (p q r t : Bool) → cond p (cond q (cond r (step (Connected (next_id s.core.circuits) 1)) (tells s IdsOut)) (tells s CircuitsFull)) (cond t (step (Connected x id)) (tells s SessionsFull))
        ≡ connected_by config s line service b (cond p (cond q (cond r (Ok (next_id s.core.circuits, 1)) (Err faults.IdsOut)) (Err faults.CircuitsFull)) (cond t (Ok (x, id)) (Err faults.SessionsFull)))
    by true true true t = refl
    by true true false t = refl
    by true false r t = refl
    by false q r true = refl
    by false q r false = refl

pub did_connect : (k : Kept) (s : Server) (line : ℕ) (service : Name) (b : Best) (l : lines.Kept) (r : Result (ℕ × ℕ) OpenFault) (before after : List OutFrame) → AtRest k → Stands k s → r ≡ opening s.core b.from
    → OnOk r (stands.Stands l (opens (config_of k) line b.from b.node service None None s.core).core × Emits (opens (config_of k) line b.from b.node service None None s.core).frames before after) → OnOk r (l.freed ≡ []) → OnErr r ((l ≡ k.lines) × (after ≡ before))
    → HasDone s (connects_to (config_of k) s line service b) (record k { lines = l }) (opened_answer r) before after
did_connect k s line service b l r before after rest st e o f n = subst (λ t. HasDone s t (record k { lines = l }) (opened_answer r) before after) (sym (connects_is (config_of k) s line service b ∙ ap (connected_by (config_of k) s line service b) (sym e))) (by r o f n)
  where
    same : (a : Answer) → (l ≡ k.lines) × (after ≡ before) → Underway s (tells s a) (record k { lines = l }) before after
    same a n = subst (λ z. Underway s (tells s a) (record k { lines = z }) before after) (sym n.0) (subst (Underway s (tells s a) k before) (sym n.1) (idle k s a before rest st))

    by : (r : Result (ℕ × ℕ) OpenFault)
        → OnOk r (stands.Stands l (opens (config_of k) line b.from b.node service None None s.core).core × Emits (opens (config_of k) line b.from b.node service None None s.core).frames before after) → OnOk r (l.freed ≡ []) → OnErr r ((l ≡ k.lines) × (after ≡ before))
        → HasDone s (connected_by (config_of k) s line service b r) (record k { lines = l }) (opened_answer r) before after
    by (Ok ids) o f n = record {
      state = record {
        core = o.0;
        directory = st.directory;
        waiting = st.queue;
        solicits = st.solicits;
        gate = st.gate;
        concluded = st.concluded;
        freed = ap (map key_shown) f ∙ sym (opening_frees_none k.lines.lines s.core (opens (config_of k) line b.from b.node service None None s.core).core None (opening_of (config_of k) line b.from b.node service None None s.core) st.lines.seated.each);
        frames = o.1;
      };
      answered = refl;
    }
    by (Err faults.SessionsFull) o f n = record { state = same SessionsFull n; answered = refl }
    by (Err faults.CircuitsFull) o f n = record { state = same CircuitsFull n; answered = refl }
    by (Err faults.IdsOut) o f n = record { state = same IdsOut n; answered = refl }

-- no node

pub did_solicit : (k : Kept) (s : Server) (service asker : Name) (f : OutFrame) (before after : List OutFrame) → AtRest k → Stands k s → asker ≡ k.lines.circuits.name
    → GoesOutAs f (plain everyone 0 (OfNotice (SolicitNotice (record { id = (k.solicits + 1) % 65536; asker = asker; service = service })))) → after ≡ before ++ f ∷ []
    → HasDone s (solicits_for (config_of k) s service) (record k { solicits = (k.solicits + 1) % 65536 }) base.NoService before after
did_solicit k s service asker f before after rest st a e n = record {
  state = record {
    core = st.lines;
    directory = st.directory;
    waiting = st.queue;
    solicits = ap (λ z. (z + 1) % 65536) st.solicits;
    gate = st.gate;
    concluded = st.concluded;
    freed = ap (map key_shown) rest.freed ∙ sym (none_between s.core s.core.seats);
    frames = subst (Emits (solicits_for (config_of k) s service).frames before) (sym n)
        (adds_one (plain everyone 0 (OfNotice (SolicitNotice (record { id = (s.solicits + 1) % 65536; asker = k.lines.circuits.name; service = service })))) f before
        (subst (λ x. GoesOutAs f (plain everyone 0 (OfNotice (SolicitNotice (record { id = (x + 1) % 65536; asker = k.lines.circuits.name; service = service }))))) st.solicits
        (subst (λ y. GoesOutAs f (plain everyone 0 (OfNotice (SolicitNotice (record { id = (k.solicits + 1) % 65536; asker = y; service = service }))))) a e)));
  };
  answered = refl;
}
