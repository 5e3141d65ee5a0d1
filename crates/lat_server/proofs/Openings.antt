-- The opening of a session makes no other session free.
use Rattle.std.proofs.Common.{◌≡◌, ℕ, suc, ◌≤◌, arith, refl, sym, ap, ap₂, ◌∙◌, subst, Bool, true, false, not, cond, ◌&&◌, ◌||◌, List, [], ◌∷◌, ◌++◌, Option, nat_eq, nat_lt, eqb-true}
use Rattle.std.proofs.lemmas.Bool.{or_parts, not-false}
use Rattle.lat_model.specs.sessions.Session.{Session, free}
use Rattle.lat_model.specs.sessions.Sessions.{Sessions, held, least_free}
use Rattle.lat_model.specs.sessions.Calls.{Connect, connect, new_call}
use Rattle.lat_model.specs.Lists.{updated, Each}
use Rattle.lat_model.specs.ends.End.{lives, call_end}
use Rattle.lat_model.specs.ends.Timers.{note_empty}
use Rattle.lat_model.specs.circuits.World.{CircuitEntry, Table}
use Rattle.lat_model.specs.circuits.Ids.{next_id, is_drawn}
use Rattle.lat_model.proofs.circuits.Ids.{drawn_apart}
use Rattle.lat_model.proofs.sessions.Words.{upd_same, upd_other}
use Rattle.lat_machines.specs.values.Names.{Name}
use Rattle.lat_machines.specs.values.Keys.{Key}
use Rattle.lat_machines.specs.cores.Acts.{idle, steps_at, call_at, called, local_at}
use Rattle.lat_machines.specs.cores.Cores.{Seat, Core, Doing, rests, acts, setup_of, circuit_to}
use Rattle.lat_machines.specs.cores.Lines.{end_of, session_of, over}
use Rattle.lat_machines.specs.server.Server.{ServerConfig, server_side, calls_to, opens}
use Rattle.lat_lines.specs.Stands.{IsSeat, freed_key, freed_from, freed_between}

-- a session that isn't over

record HeldIn (z : CircuitEntry) (k : ℕ) : Type 0 where
  pub alive : lives z.end ≡ true
  pub kept : free (z.end.half.sessions.session k) ≡ false

abbrev Held : Table → ℕ → ℕ → Type 0
Held t y k = HeldIn (t.circuit_at y) k

not_over : (c : Core) (s : Seat) → over c s ≡ false → Held c.circuits s.circuit s.serial
not_over c s h =
    let o : (not (lives (end_of c s)) ≡ false) × (free (session_of c s) ≡ false) = or_parts (not (lives (end_of c s))) (free (session_of c s)) h in
    record { alive = not-false (lives (end_of c s)) o.0; kept = o.1 }

over_not : (c : Core) (s : Seat) → Held c.circuits s.circuit s.serial → over c s ≡ false
over_not c s h = ap₂ (λ a b. not a || b) h.alive h.kept

-- a session more on a circuit

abbrev connected : Table → ℕ → Name → Option ℕ → Table
connected t x service request = (local_at true t x (Connect service request)).table

abbrev stepped : Table → ℕ → Name → Option ℕ → CircuitEntry
stepped t x service request = record {
  address = (t.circuit_at x).address;
  end = (note_empty (t.circuit_at x).end (record { end = call_end (Connect service request) (t.circuit_at x).end; sent = [] })).end;
}

local_held : (t : Table) (x y k : ℕ) (service : Name) (request : Option ℕ) → Held t y k → Held (connected t x service request) y k
local_held t x y k service request h = by (lives (t.circuit_at x).end)
  where
    s : Sessions
    s = (t.circuit_at x).end.half.sessions

    held_still : (b : Bool) (z : Session) → free z ≡ false → free (cond b (new_call s service request) z) ≡ false
    held_still true z f = refl
    held_still false z f = f

    session : (m : Bool) → free (s.session k) ≡ false → free ((cond m (connect s service request) s).session k) ≡ false
    session true f = held_still (nat_eq k (suc s.made)) (s.session k) f
    session false f = f

    at : (b : Bool) → nat_eq y x ≡ b → HeldIn (cond b (stepped t x service request) (t.circuit_at y)) k
    at true i = record {
      alive = ap (λ z. lives (t.circuit_at z).end) (sym (eqb-true y x i)) ∙ h.alive;
      kept = session (s.master && nat_lt (held s) s.agreed) (ap (λ z. free ((t.circuit_at z).end.half.sessions.session k)) (sym (eqb-true y x i)) ∙ h.kept);
    }
    at false i = h

    by : (b : Bool) → Held (cond b (steps_at true t x (record { end = call_end (Connect service request) (t.circuit_at x).end; sent = [] })) (idle t)).table y k
    by true = at (nat_eq y x) refl
    by false = h

-- where one was made, it isn't over
local_made : (t : Table) (x : ℕ) (service : Name) (request : Option ℕ) → suc (t.circuit_at x).end.half.sessions.made ≤ ((connected t x service request).circuit_at x).end.half.sessions.made → Held (connected t x service request) x (suc (t.circuit_at x).end.half.sessions.made)
local_made t x service request l = by (lives (t.circuit_at x).end) refl l
  where
    s : Sessions
    s = (t.circuit_at x).end.half.sessions

    new : CircuitEntry
    new = stepped t x service request

    session : (m : Bool) → suc s.made ≤ (cond m (connect s service request) s).made → free ((cond m (connect s service request) s).session (suc s.made)) ≡ false
    session true l = ap free (upd_same s.session (suc s.made) (new_call s service request))
    session false l = absurd (omega (arith, l))

    by : (b : Bool) → lives (t.circuit_at x).end ≡ b
        → suc s.made ≤ ((cond b (steps_at true t x (record { end = call_end (Connect service request) (t.circuit_at x).end; sent = [] })) (idle t)).table.circuit_at x).end.half.sessions.made
        → Held (cond b (steps_at true t x (record { end = call_end (Connect service request) (t.circuit_at x).end; sent = [] })) (idle t)).table x (suc s.made)
    by true i l =
        let at : updated t.circuit_at x new x ≡ new = upd_same t.circuit_at x new in
        subst (λ (z : CircuitEntry). HeldIn z (suc s.made)) (sym at) (record { alive = i; kept = session (s.master && nat_lt (held s) s.agreed) (subst (λ (z : CircuitEntry). suc s.made ≤ z.end.half.sessions.made) at l) })
    by false i l = absurd (omega (arith, l))

-- a circuit more

call_held : (config : ServerConfig) (address : ℕ) (node : Name) (c : Core) (y k : ℕ) → is_drawn c.circuits y ≡ true → Held c.circuits y k → Held (calls_to config address node c).core.circuits y k
call_held config address node c y k l h = by (nat_eq (circuit_to c address) 0)
  where
    named : Core
    named = record c { names = updated c.names (next_id c.circuits) node }

    made : Doing
    made = acts (server_side config) named (call_at (setup_of config.timing) named.circuits address named.moment)

    new : CircuitEntry
    new = record { address = address; end = (called (setup_of config.timing) c.moment).end }

    by : (b : Bool) → Held (cond b made (rests c)).core.circuits y k
    by true = subst (λ (z : CircuitEntry). HeldIn z k) (sym (upd_other c.circuits.circuit_at (next_id c.circuits) new y (drawn_apart c.circuits.first c.circuits.drawn y l))) h
    by false = h

call_seats : (config : ServerConfig) (address : ℕ) (node : Name) (c : Core) → (calls_to config address node c).core.seats ≡ c.seats
call_seats config address node c = by (nat_eq (circuit_to c address) 0)
  where
    named : Core
    named = record c { names = updated c.names (next_id c.circuits) node }

    by : (b : Bool) → (cond b (acts (server_side config) named (call_at (setup_of config.timing) named.circuits address named.moment)) (rests c)).core.seats ≡ c.seats
    by true = refl
    by false = refl

-- an opening

pub record Opening (c : Core) (own : Option Key) (d : Core) : Type 0 where
  pub seat : Seat
  pub key : seat.key ≡ own
  pub seats : d.seats ≡ c.seats ++ seat ∷ []
  pub kept : (s : Seat) → is_drawn c.circuits s.circuit ≡ true → over c s ≡ false → over d s ≡ false
  pub held : (lines : ℕ) → IsSeat lines d seat → over d seat ≡ false

pub opening_of : (config : ServerConfig) (line address : ℕ) (node service : Name) (key : Option Key) (request : Option ℕ) (c : Core) → Opening c key (opens config line address node service key request c).core
opening_of config line address node service key request c = record {
  seat = s;
  key = refl;
  seats = ap (λ z. z ++ s ∷ []) (call_seats config address node c);
  kept = λ t l h. over_not e t (local_held d.circuits x t.circuit t.serial service request (call_held config address node c t.circuit t.serial l (not_over c t h)));
  held = λ lines i. over_not e s (local_made d.circuits x service request i.session.made.1);
}
  where
    d : Core
    d = (calls_to config address node c).core

    x : ℕ
    x = circuit_to d address

    s : Seat
    s = record { line = line; circuit = x; id = least_free (d.circuits.circuit_at x).end.half.sessions; serial = suc (d.circuits.circuit_at x).end.half.sessions.made; key = key }

    e : Core
    e = (opens config line address node service key request c).core

-- so it frees none

none_freed : (lines : ℕ) (c d : Core) (ss : List Seat) → ((s : Seat) → is_drawn c.circuits s.circuit ≡ true → over c s ≡ false → over d s ≡ false) → Each (IsSeat lines c) ss → freed_from c d ss ≡ []
none_freed lines c d [] h i = refl
none_freed lines c d (s ∷ ss) h i = by (over c s) refl (none_freed lines c d ss h i.1)
  where
    by : (b : Bool) → over c s ≡ b → freed_from c d ss ≡ [] → cond b (freed_from c d ss) (cond (over d s) (freed_key s.key (freed_from c d ss)) (freed_from c d ss)) ≡ []
    by true q r = r
    by false q r = ap (λ b. cond b (freed_key s.key (freed_from c d ss)) (freed_from c d ss)) (h s i.0.drawn q) ∙ r

pub opening_frees_none : (lines : ℕ) (c d : Core) (key : Option Key) → Opening c key d → Each (IsSeat lines c) c.seats → freed_between c d ≡ []
opening_frees_none lines c d key o i = none_freed lines c d c.seats o.kept i

pub none_between : (c : Core) (ss : List Seat) → freed_from c c ss ≡ []
none_between c [] = refl
none_between c (s ∷ ss) = by (over c s) (none_between c ss)
  where
    by : (b : Bool) → freed_from c c ss ≡ [] → cond b (freed_from c c ss) (cond b (freed_key s.key (freed_from c c ss)) (freed_from c c ss)) ≡ []
    by true r = r
    by false r = r
