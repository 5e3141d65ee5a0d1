-- At a server no step gives an id to another session: only a session that is connected takes one.
use Rattle.std.proofs.Common.{◌≡◌, ℕ, refl, sym, ◌∙◌, subst, Bool, true, false, not, cond, ◌&&◌, ◌||◌, List, [], Option, nat_eq, nat_lt, eqb-true}
use Rattle.std.proofs.lemmas.Bool.{true≢false}
use Rattle.lat_model.specs.sessions.Slots.{Slot}
use Rattle.lat_model.specs.sessions.Session.{waits, put_open, take_open}
use Rattle.lat_model.specs.sessions.Sessions.{Sessions, named}
use Rattle.lat_model.specs.sessions.Offers.{Offers, offer}
use Rattle.lat_model.specs.sessions.Packing.{form, first_form, next_form}
use Rattle.lat_model.specs.sessions.Calls.{Call, Connect, Put, Set, Attend, Take, Close, Answer, RejectAsk, call, answer, reject}
use Rattle.lat_model.specs.numbers.Link.{Frame}
use Rattle.lat_model.specs.ends.End.{End, Step, lives, call_end, finish}
use Rattle.lat_model.specs.ends.Timers.{note_empty, time_step}
use Rattle.lat_model.specs.ends.Run.{run_end}
use Rattle.lat_model.specs.ends.Starting.{Agreed, hear_reply, hear_stop}
use Rattle.lat_model.specs.circuits.World.{CircuitEntry, Table}
use Rattle.lat_machines.specs.values.Messages.{Head}
use Rattle.lat_machines.specs.values.Events.{Numbers}
use Rattle.lat_machines.specs.values.Answers.{Again, Running, Ended}
use Rattle.lat_machines.specs.cores.Acts.{Acted, idle, steps_at, local_at, time_at, move_at, end_at}
use Rattle.lat_machines.specs.cores.Hearing.{HeardAct, foreign, names, fits_kind, numbers_at, run_frame, run_at, hear_run, hear_stop_at, hear_reply_at}
use Rattle.lat_laws.proofs.rounds.counting.Kept.{KeptByActs, to_time, to_run, to_stop, to_reply, is_none}
use Rattle.lat_laws.proofs.rounds.counting.Steps.{pack_by, hear_by}
use Rattle.lat_laws.proofs.tales.steps.Tables.{sess}

pub record SameIds (e : Sessions) (f : Sessions) : Type 0 where
  pub master : f.master ≡ true
  pub ids : (i : ℕ) → f.at_id i ≡ e.at_id i

abbrev pub KeepsIds : Sessions → Sessions → Type 0
KeepsIds e f = e.master ≡ true → SameIds e f

ids_same : (e : Sessions) → KeepsIds e e
ids_same e m = record { master = m; ids = λ i. refl }

ids_then : (a b c : Sessions) → KeepsIds a b → KeepsIds b c → KeepsIds a c
ids_then a b c f g m =
    let x : SameIds a b = f m in
    let y : SameIds b c = g x.master in
    record { master = y.master; ids = λ i. y.ids i ∙ x.ids i }

ids_form : (e : Sessions) (k room : ℕ) (x : Slot) → offer e.master e.ceiling room (e.session k) ≡ Offers x → KeepsIds e (form e k x)
ids_form e k room x o m = go (nat_eq (e.session k).generation 0)
  where
    go : (b : Bool) → SameIds e (cond b (first_form e k x) (next_form e k x))
    go true = record { master = m; ids = λ i. refl }
    go false = record { master = m; ids = λ i. refl }

abbrev Keeping : ℕ → Sessions → Sessions → Type 0
Keeping x e f = is_none x ≡ true → KeepsIds e f

ids_kept : KeptByActs is_none true Keeping
ids_kept = record {
  same = λ x e l. ids_same e;
  after = λ x a b c p q l. ids_then a b c (p l) (q l);
  packs = λ x room e l. pack_by KeepsIds ids_same ids_then ids_form room e;
  hears = λ x slots e l. hear_by KeepsIds ids_same ids_then (λ f y service request s m. absurd (true≢false (sym m ∙ s))) (λ f k y g m. record { master = m; ids = λ i. refl }) slots e;
  agrees = λ x k e l m. record { master = m; ids = λ i. refl };
  news = λ x e k c l m. absurd (true≢false (sym m ∙ l));
}

ids_cond : (b : Bool) (e f : Sessions) → KeepsIds e f → KeepsIds e (cond b f e)
ids_cond true e f h = h
ids_cond false e f h = ids_same e

-- calls but Connect
abbrev pub NoConnect : Call → Type 0
NoConnect (Connect service request) = ⊥
NoConnect _ = Unit {0}

ids_call : (e : Sessions) (c : Call) → NoConnect c → KeepsIds e (call e c)
ids_call e (Connect service request) n = absurd n
ids_call e (Put id bs) n = ids_cond (put_open (named e id)) e _ (λ m. record { master = m; ids = λ i. refl })
ids_call e (Set id t) n = ids_cond (put_open (named e id) && nat_lt _ 4096) e _ (λ m. record { master = m; ids = λ i. refl })
ids_call e (Attend id flag) n = ids_cond (put_open (named e id)) e _ (λ m. record { master = m; ids = λ i. refl })
ids_call e (Take id k) n = ids_cond (take_open (named e id)) e _ (λ m. record { master = m; ids = λ i. refl })
ids_call e (Close id) n = ids_cond (take_open (named e id)) e _ (λ m. record { master = m; ids = λ i. refl })
ids_call e (Answer id) n = ids_cond (not e.master && waits (named e id)) e (answer e id) (λ m. record { master = m; ids = λ i. refl })
ids_call e (RejectAsk id reason) n = ids_cond (not e.master && waits (named e id)) e (reject e id reason) (λ m. record { master = m; ids = λ i. refl })

-- acts

abbrev pub TableIds : Table → Table → Type 0
TableIds t v = (x : ℕ) → KeepsIds (sess t x) (sess v x)

pub table_same : (t : Table) → TableIds t t
table_same t x = ids_same (sess t x)

steps_ids : (b : Bool) (t : Table) (x : ℕ) (s : Step) → KeepsIds (sess t x) s.end.half.sessions → TableIds t (steps_at b t x s).table
steps_ids b t x s h y = go (nat_eq y x) refl
  where
    new : CircuitEntry
    new = record { address = (t.circuit_at x).address; end = (note_empty (t.circuit_at x).end s).end }

    go : (c : Bool) → nat_eq y x ≡ c → KeepsIds (sess t y) (cond c new (t.circuit_at y)).end.half.sessions
    go true q = subst (λ z. KeepsIds (sess t z) s.end.half.sessions) (sym (eqb-true y x q)) h
    go false q = ids_same (sess t y)

act_cond : (t : Table) (n : Bool) (a b : Acted) → TableIds t a.table → TableIds t b.table → TableIds t (cond n a b).table
act_cond t true a b p q = p
act_cond t false a b p q = q

heard_cond : (t : Table) (n : Bool) (a b : HeardAct) → TableIds t a.act.table → TableIds t b.act.table → TableIds t (cond n a b).act.table
heard_cond t true a b p q = p
heard_cond t false a b p q = q

pub local_ids : (b : Bool) (t : Table) (x : ℕ) (c : Call) → NoConnect c → TableIds t (local_at b t x c).table
local_ids b t x c n =
    let s : Step = record { end = call_end c (t.circuit_at x).end; sent = [] } in
    act_cond t (lives (t.circuit_at x).end) (steps_at b t x s) (idle t) (steps_ids b t x s (ids_call (sess t x) c n)) (table_same t)

pub time_ids : (b : Bool) (t : Table) (x now : ℕ) → TableIds t (time_at b t x now).table
time_ids b t x now = act_cond t (lives (t.circuit_at x).end) (steps_at b t x (time_step now (t.circuit_at x).end)) (idle t) (steps_ids b t x (time_step now (t.circuit_at x).end) (to_time is_none true Keeping ids_kept 0 now (t.circuit_at x).end refl)) (table_same t)

pub end_ids : (b : Bool) (t : Table) (x r : ℕ) → TableIds t (end_at b t x r).table
end_ids b t x r = act_cond t (lives (t.circuit_at x).end) (steps_at b t x (finish r (t.circuit_at x).end)) (idle t) (steps_ids b t x (finish r (t.circuit_at x).end) (ids_same (sess t x))) (table_same t)

move_ids : (b : Bool) (t : Table) (x now : ℕ) → TableIds t (move_at b t x now).table
move_ids b t x now =
    let s : Step = record { end = record ((t.circuit_at x).end) { moment = now }; sent = [] } in
    act_cond t (lives (t.circuit_at x).end) (steps_at b t x s) (idle t) (steps_ids b t x s (ids_same (sess t x))) (table_same t)

pub run_ids : (b : Bool) (t : Table) (from : ℕ) (wide : Bool) (h : Head) (slots : List Slot) (k : Option Numbers) (now : ℕ) → TableIds t (hear_run b t from wide h slots k now).act.table
run_ids b t from wide h slots k now =
    let e : End = (t.circuit_at h.to).end in
    let f : Frame (List Slot) = run_frame (numbers_at e h k) slots in
    heard_cond t (names t from h.to h.from) (run_at b t h.to (fits_kind e h.master wide) now h.ask f) (foreign t)
    (heard_cond t (fits_kind e h.master wide) _ _ (steps_ids b t h.to (run_end now h.ask f e).step (to_run is_none true Keeping ids_kept 0 now h.ask f e refl)) (move_ids b t h.to now))
    (table_same t)

pub stop_ids : (b : Bool) (t : Table) (from to source now reason : ℕ) → TableIds t (hear_stop_at b t from to source now reason).act.table
stop_ids b t from to source now reason =
    let c : CircuitEntry = t.circuit_at to in
    heard_cond t (nat_eq c.address from && (nat_eq c.end.peer source || nat_eq source 0) && lives c.end) (record { act = steps_at b t to (hear_stop now reason c.end); answer = Ended reason }) (foreign t)
    (steps_ids b t to (hear_stop now reason c.end) (to_stop is_none true Keeping ids_kept 0 now reason c.end refl)) (table_same t)

pub reply_ids : (t : Table) (from to source now : ℕ) (g : Agreed) → TableIds t (hear_reply_at t from to source now g).act.table
reply_ids t from to source now g =
    let c : CircuitEntry = t.circuit_at to in
    heard_cond t (nat_eq c.address from && lives c.end && (not c.end.running || nat_eq c.end.peer source)) (record { act = steps_at true t to (hear_reply now source g c.end); answer = cond c.end.running Again Running }) (foreign t)
    (steps_ids true t to (hear_reply now source g c.end) (to_reply is_none true Keeping ids_kept 0 now source g c.end refl)) (table_same t)
