-- What each step of an end keeps, each act on a table of circuits keeps at every circuit.
use Rattle.std.proofs.Common.{◌≡◌, ℕ, refl, sym, subst, Bool, true, false, not, cond, ◌&&◌, ◌||◌, List, [], ◌∷◌, Option, nat_eq, nat_lt, eqb-true}
use Rattle.std.proofs.lemmas.Bool.{false_from_ne_true}
use Rattle.lat_model.specs.sessions.Slots.{Slot}
use Rattle.lat_model.specs.sessions.Sessions.{Sessions}
use Rattle.lat_model.specs.sessions.Calls.{Call, call}
use Rattle.lat_model.specs.Lists.{updated}
use Rattle.lat_model.specs.ends.End.{End, Step, lives, call_end, finish, lapse}
use Rattle.lat_model.specs.ends.Timers.{time_step}
use Rattle.lat_model.specs.ends.Run.{run_end}
use Rattle.lat_model.specs.ends.Starting.{Agreed, Setup, again_start, hear_reply, hear_stop, void_sessions}
use Rattle.lat_model.specs.circuits.World.{CircuitEntry, Table}
use Rattle.lat_model.specs.circuits.Arriving.{living, slave_of}
use Rattle.lat_model.proofs.circuits.Ids.{drawn_behind, next_new, none_left}
use Rattle.lat_model.specs.circuits.Ids.{is_drawn, next_id, IdsStay}
use Rattle.lat_machines.specs.values.Messages.{Head}
use Rattle.lat_machines.specs.values.Events.{Numbers}
use Rattle.lat_machines.specs.values.Answers.{Ended, Again, Running}
use Rattle.lat_machines.specs.cores.Acts.{Acted, idle, steps_at, call_at, local_at, time_at, move_at, end_at}
use Rattle.lat_machines.specs.cores.Hearing.{HeardAct, foreign, names, fits_kind, numbers_at, run_frame, run_at, hear_run, hear_stop_at, hear_reply_at, Repeats, Makes, Refuses, start_fact, start_at, is_outlived, outlive_at, outlive}
use Rattle.lat_machines.specs.cores.Cores.{Core}
use Rattle.lat_laws.proofs.rounds.counting.Kept.{KeptByActs, to_time, to_run, to_again, to_stop, to_reply}

-- these ids were drawn
abbrev pub Olds : (ℕ → Bool) → Table → Type 0
Olds n t = (x : ℕ) → n x ≡ true → is_drawn t x ≡ true

olds_new : (n : ℕ → Bool) (t : Table) → Olds n t → n (next_id t) ≡ false
olds_new n t o = false_from_ne_true (n (next_id t)) (λ h. none_left t (next_id t) (o (next_id t) h) (next_new t.first t.drawn))

pub record Turned (R : ℕ → Sessions → Sessions → Type 0) (t : Table) (v : Table) : Type 0 where
  pub drawn : IdsStay t v
  pub at : (x : ℕ) → R x (t.circuit_at x).end.half.sessions (v.circuit_at x).end.half.sessions

module _ (n : ℕ → Bool) (side : Bool) (R : ℕ → Sessions → Sessions → Type 0) (c : KeptByActs n side R) where
  pub turned_same : (t : Table) → Turned R t t
  turned_same t = record { drawn = λ x l. l; at = λ x. c.same x (t.circuit_at x).end.half.sessions }

  pub turned_then : (t v w : Table) → Turned R t v → Turned R v w → Turned R t w
  turned_then t v w p q = record { drawn = λ x l. q.drawn x (p.drawn x l); at = λ x. c.after x (t.circuit_at x).end.half.sessions (v.circuit_at x).end.half.sessions (w.circuit_at x).end.half.sessions (p.at x) (q.at x) }

  upd_to : (f : ℕ → CircuitEntry) (y : ℕ) (v : CircuitEntry) → R y (f y).end.half.sessions v.end.half.sessions → (x : ℕ) → R x (f x).end.half.sessions (updated f y v x).end.half.sessions
  upd_to f y v h x = go (nat_eq x y) refl
    where
      go : (b : Bool) → nat_eq x y ≡ b → R x (f x).end.half.sessions (cond b v (f x)).end.half.sessions
      go true q = subst (λ z. R z (f z).end.half.sessions v.end.half.sessions) (sym (eqb-true x y q)) h
      go false q = c.same x (f x).end.half.sessions

  steps_turned : (b : Bool) (t : Table) (y : ℕ) (s : Step) → R y (t.circuit_at y).end.half.sessions s.end.half.sessions → Turned R t (steps_at b t y s).table
  steps_turned b t y s h = record { drawn = λ x l. l; at = upd_to t.circuit_at y _ h }

  act_cond : (t : Table) (b : Bool) (p q : Acted) → Turned R t p.table → Turned R t q.table → Turned R t (cond b p q).table
  act_cond t true p q h k = h
  act_cond t false p q h k = k

  heard_cond : (t : Table) (b : Bool) (p q : HeardAct) → Turned R t p.act.table → Turned R t q.act.table → Turned R t (cond b p q).act.table
  heard_cond t true p q h k = h
  heard_cond t false p q h k = k

  pub local_turned : (b : Bool) (t : Table) (y : ℕ) (k : Call) → R y (t.circuit_at y).end.half.sessions (call (t.circuit_at y).end.half.sessions k) → Turned R t (local_at b t y k).table
  local_turned b t y k h = act_cond t (lives (t.circuit_at y).end) (steps_at b t y (record { end = call_end k (t.circuit_at y).end; sent = [] })) (idle t) (steps_turned b t y (record { end = call_end k (t.circuit_at y).end; sent = [] }) h) (turned_same t)

  pub time_turned : (b : Bool) (t : Table) (y now : ℕ) → Turned R t (time_at b t y now).table
  time_turned b t y now = act_cond t (lives (t.circuit_at y).end) (steps_at b t y (time_step now (t.circuit_at y).end)) (idle t) (steps_turned b t y (time_step now (t.circuit_at y).end) (to_time n side R c y now (t.circuit_at y).end)) (turned_same t)

  move_turned : (b : Bool) (t : Table) (y now : ℕ) → Turned R t (move_at b t y now).table
  move_turned b t y now =
      let s : Step = record { end = record ((t.circuit_at y).end) { moment = now }; sent = [] } in
      act_cond t (lives (t.circuit_at y).end) (steps_at b t y s) (idle t) (steps_turned b t y s (c.same y (t.circuit_at y).end.half.sessions)) (turned_same t)

  -- an end that ends keeps its sessions
  pub end_turned : (b : Bool) (t : Table) (y r : ℕ) → Turned R t (end_at b t y r).table
  end_turned b t y r = act_cond t (lives (t.circuit_at y).end) (steps_at b t y (finish r (t.circuit_at y).end)) (idle t) (steps_turned b t y (finish r (t.circuit_at y).end) (c.same y (t.circuit_at y).end.half.sessions)) (turned_same t)

  outlived_at : (from source : ℕ) (t : Table) (y : ℕ) → Turned R t (outlive_at from source y t)
  outlived_at from source t y = go (is_outlived (t.circuit_at y) from source)
    where
      go : (b : Bool) → Turned R t (cond b (steps_at false t y (lapse 5 (t.circuit_at y).end)).table t)
      go true = steps_turned false t y (lapse 5 (t.circuit_at y).end) (c.same y (t.circuit_at y).end.half.sessions)
      go false = turned_same t

  pub outlived_turned : (from source : ℕ) (ys : List ℕ) (t : Table) → Turned R t (outlive from source ys t)
  outlived_turned from source [] t = turned_same t
  outlived_turned from source (y ∷ ys) t = turned_then t (outlive_at from source y t) (outlive from source ys (outlive_at from source y t)) (outlived_at from source t y) (outlived_turned from source ys (outlive_at from source y t))

  new_at : (b : Bool) → side ≡ b → (x : ℕ) (e : Sessions) (k m : ℕ) → n x ≡ false → R x e (void_sessions b k m)
  new_at b w x e k m l = subst (λ z. R x e (void_sessions z k m)) w (c.news x e k m l)

  pub call_turned : side ≡ true → (u : Setup) (t : Table) (address now : ℕ) → Olds n t → Turned R t (call_at u t address now).table
  call_turned w u t address now l = record { drawn = drawn_behind t.first t.drawn; at = upd_to t.circuit_at (next_id t) _ (new_at true w (next_id t) (t.circuit_at (next_id t)).end.half.sessions _ _ (olds_new n t l)) }

  pub run_turned : (b : Bool) (t : Table) (from : ℕ) (wide : Bool) (h : Head) (slots : List Slot) (k : Option Numbers) (now : ℕ) → Turned R t (hear_run b t from wide h slots k now).act.table
  run_turned b t from wide h slots k now =
      let e : End = (t.circuit_at h.to).end in
      let s : Step = (run_end now h.ask (run_frame (numbers_at e h k) slots) e).step in
      heard_cond t (names t from h.to h.from) (run_at b t h.to (fits_kind e h.master wide) now h.ask (run_frame (numbers_at e h k) slots)) (foreign t)
      (heard_cond t (fits_kind e h.master wide) _ _ (steps_turned b t h.to s (to_run n side R c h.to now h.ask (run_frame (numbers_at e h k) slots) e)) (move_turned b t h.to now))
      (turned_same t)

  pub stop_turned : (b : Bool) (t : Table) (from to source now r : ℕ) → Turned R t (hear_stop_at b t from to source now r).act.table
  stop_turned b t from to source now r =
      let k : CircuitEntry = t.circuit_at to in
      heard_cond t (nat_eq k.address from && (nat_eq k.end.peer source || nat_eq source 0) && lives k.end) (record { act = steps_at b t to (hear_stop now r k.end); answer = Ended r }) (foreign t) (steps_turned b t to (hear_stop now r k.end) (to_stop n side R c to now r k.end)) (turned_same t)

  pub reply_turned : (t : Table) (from to source now : ℕ) (g : Agreed) → Turned R t (hear_reply_at t from to source now g).act.table
  reply_turned t from to source now g =
      let k : CircuitEntry = t.circuit_at to in
      heard_cond t (nat_eq k.address from && lives k.end && (not k.end.running || nat_eq k.end.peer source)) (record { act = steps_at true t to (hear_reply now source g k.end); answer = cond k.end.running Again Running }) (foreign t) (steps_turned true t to (hear_reply now source g k.end) (to_reply n side R c to now source g k.end)) (turned_same t)

  -- a slave that is made has the next id
  pub start_turned : side ≡ false → (u : Setup) (t : Table) (from source now : ℕ) (g : Agreed) → Olds n t → Turned R t (start_at u t from source now g (start_fact t from source)).table
  start_turned w u t from source now g l = go (nat_eq (slave_of t from source) 0) (nat_lt (living t) 8 && nat_lt t.drawn 65535)
    where
      go : (a b : Bool) → Turned R t (start_at u t from source now g (cond a (cond b (Makes (next_id t)) Refuses) (Repeats (slave_of t from source)))).table
      go true true = record { drawn = drawn_behind t.first t.drawn; at = upd_to t.circuit_at (next_id t) _ (new_at false w (next_id t) (t.circuit_at (next_id t)).end.half.sessions _ _ (olds_new n t l)) }
      go true false = turned_same t
      go false b = steps_turned false t (slave_of t from source) (again_start now (t.circuit_at (slave_of t from source)).end) (to_again n side R c (slave_of t from source) now (t.circuit_at (slave_of t from source)).end)

-- What holds of a core, whatever its circuits do and whatever calls are made but those that make sessions or accept them
pub record Holds (n : ℕ → Bool) (side : Bool) (R : ℕ → Sessions → Sessions → Type 0) (Allows : Call → Type 0) (P : Core → Type 0) : Type 0 where
  pub kept : KeptByActs n side R
  pub calls : (x : ℕ) (e : Sessions) (k : Call) → Allows k → R x e (call e k)
  pub drawn : (c : Core) → P c → Olds n c.circuits
  pub turns : (c d : Core) → P c → d.seats ≡ c.seats → Turned R c.circuits d.circuits → P d
