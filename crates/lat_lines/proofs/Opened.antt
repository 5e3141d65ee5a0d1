-- A line's session that is connected, on a circuit that lives or is called.
use Rattle.std.proofs.Common.{◌≡◌, ◌≢◌, ℕ, suc, ◌≤◌, Bool, true, false, cond, ◌&&◌, nat_eq, nat_lt, ne_eqb, eqb-true, lt-ltb, min, List, [], ◌∷◌, ◌++◌, append-nil, map, Option, Some, None, Result, Ok, Err, refl, sym, ap, subst, ◌∙◌, arith}
use Rattle.std.proofs.lemmas.Bool.{true≢false, and_parts}
use Rattle.lat_model.specs.Lists.{Each, least}
use Rattle.lat_model.specs.sessions.Calls.{Call, Connect}
use Rattle.lat_model.specs.sessions.Sessions.{held, least_free}
use Rattle.lat_model.specs.ends.End.{lives, call_end}
use Rattle.lat_model.specs.circuits.Arriving.{living}
use Rattle.lat_model.specs.circuits.World.{CircuitEntry, Table}
use Rattle.lat_model.specs.circuits.Ids.{ids, next_id, is_drawn}
use Rattle.lat_model.proofs.circuits.Ids.{drawn_some, drawn_apart, next_unknown}
use Rattle.lat_model.proofs.circuits.IdLists.{Draw, draw, each_id}
use Rattle.lat_machines.proofs.queue.Rooms.{least_true}
use Rattle.lat_machines.specs.values.Names.{Name}
use Rattle.lat_machines.specs.values.Keys as keys
use Rattle.lat_machines.specs.cores.Acts.{called, local_at, steps_at, idle}
use Rattle.lat_machines.specs.cores.Cores.{Core, Side, Doing, rests, then_doing, circuit_to, setup_of, sent_frame}
use Rattle.lat_machines.specs.server.Server.{ServerConfig, server_side, has_room, calls_to, connects_on, opens}
use Rattle.lat_lines.specs.circuits.Stands.{calling}
use Rattle.lat_lines.specs.circuits.Opens.{called_core}
use Rattle.lat_lines.proofs.CircuitsHeld.{eqb_self}
use Rattle.lat_lines.specs.declared.opening.OpenFault.{OpenFault}
use Rattle.lat_lines.specs.declared.opening.OpenFault.TheVariants.{SessionsFull, CircuitsFull, IdsOut}
use Rattle.lat_lines.specs.Cores.{CoreLater}
use Rattle.lat_lines.specs.Opens.{opening, way, reaches, reached, seated_core}
use Rattle.lat_lines.proofs.CoresLater.{CoreOk, calling_later, calling_new, called_later}

-- the ids that an opening gives, by the way

abbrev pub given_ids : Core → ℕ → Option ℕ → ℕ × ℕ
given_ids c address None = (next_id c.circuits, 1)
given_ids c address (Some x) = (circuit_to c address, least_free (c.circuits.circuit_at (circuit_to c address)).end.half.sessions)

abbrev pub by_way : Core → ℕ → Result (Option ℕ) OpenFault → Result (ℕ × ℕ) OpenFault
by_way c address (Ok w) = Ok (given_ids c address w)
by_way c address (Err fault) = Err fault

pub opening_way : (c : Core) (address : ℕ) → opening c address ≡ by_way c address (way c address)
opening_way c address = by (nat_eq x 0) (nat_lt (living c.circuits) 8) (nat_lt c.circuits.drawn 65535) (has_room c x)
  where
    x : ℕ
    x = circuit_to c address

    ids : ℕ × ℕ
    ids = (x, least_free (c.circuits.circuit_at x).end.half.sessions)

    by : (a b d r : Bool) → cond a (cond b (cond d (Ok (next_id c.circuits, 1)) (Err IdsOut)) (Err CircuitsFull)) (cond r (Ok ids) (Err SessionsFull))
        ≡ by_way c address (cond a (cond b (cond d (Ok None) (Err IdsOut)) (Err CircuitsFull)) (cond r (Ok (Some x)) (Err SessionsFull)))
    by true true true r = refl
    by true true false r = refl
    by true false d r = refl
    by false b d true = refl
    by false b d false = refl

-- what a way tells

pub record Joins (c : Core) (address x : ℕ) : Type 0 where
  pub some : nat_eq (circuit_to c address) 0 ≡ false
  pub room : has_room c (circuit_to c address) ≡ true
  pub is : circuit_to c address ≡ x

abbrev okay : Result (Option ℕ) OpenFault → Bool
okay (Ok w) = true
okay (Err fault) = false

abbrev named : Result (Option ℕ) OpenFault → Option ℕ
named (Ok w) = w
named (Err fault) = None

abbrev known : Option ℕ → Bool
known None = false
known (Some x) = true

abbrev id_or : ℕ → Option ℕ → ℕ
id_or d None = d
id_or d (Some x) = x

pub joins : (c : Core) (address x : ℕ) → way c address ≡ Ok (Some x) → Joins c address x
joins c address x e = by (nat_eq y 0) refl (nat_lt (living c.circuits) 8) (nat_lt c.circuits.drawn 65535) (has_room c y) refl e
  where
    y : ℕ
    y = circuit_to c address

    by : (a : Bool) → nat_eq y 0 ≡ a → (b d r : Bool) → has_room c y ≡ r
        → cond a (cond b (cond d (Ok None) (Err IdsOut)) (Err CircuitsFull)) (cond r (Ok (Some y)) (Err SessionsFull)) ≡ Ok (Some x) → Joins c address x
    by true f true true r g e = absurd (true≢false (sym (ap (λ z. known (named z)) e)))
    by true f true false r g e = absurd (true≢false (sym (ap okay e)))
    by true f false d r g e = absurd (true≢false (sym (ap okay e)))
    by false f b d false g e = absurd (true≢false (sym (ap okay e)))
    by false f b d true g e = record { some = f; room = g; is = ap (λ z. id_or 0 (named z)) e }

-- a circuit is called only where none lives
pub called_way : (c : Core) (address : ℕ) → way c address ≡ Ok None → nat_eq (circuit_to c address) 0 ≡ true
called_way c address e = by (nat_eq y 0) refl (has_room c y) e
  where
    y : ℕ
    y = circuit_to c address

    by : (a : Bool) → nat_eq y 0 ≡ a → (r : Bool) → cond a (cond (nat_lt (living c.circuits) 8) (cond (nat_lt c.circuits.drawn 65535) (Ok None) (Err IdsOut)) (Err CircuitsFull)) (cond r (Ok (Some y)) (Err SessionsFull)) ≡ Ok None → nat_eq y 0 ≡ true
    by true f r e = f
    by false f true e = absurd (true≢false (ap (λ z. known (named z)) e))
    by false f false e = absurd (true≢false (sym (ap okay e)))

-- the circuit x of the core d, reached from c, is to have one more session
pub record Reached (k : Side) (c d : Core) (address x : ℕ) : Type 0 where
  pub lives : lives (d.circuits.circuit_at x).end ≡ true
  pub room : has_room d x ≡ true
  pub found : circuit_to d address ≡ x
  pub later : (a : Call) → CoreLater c (calling k x a d)

pub reached_living : (k : Side) (c : Core) (address x : ℕ) → CoreOk c → Joins c address x → Reached k c c address x
reached_living k c address x ok j =
    let p : ℕ → Bool = λ i. nat_eq (c.circuits.circuit_at i).address address && lives (c.circuits.circuit_at i).end in
    let some : circuit_to c address ≢ 0 = λ e. true≢false (sym (ap (λ z. nat_eq z 0) e) ∙ j.some) in
    let l : lives (c.circuits.circuit_at (circuit_to c address)).end ≡ true = (and_parts (nat_eq (c.circuits.circuit_at (circuit_to c address)).address address) (lives (c.circuits.circuit_at (circuit_to c address)).end) (least_true p (ids c.circuits) some)).1 in
    record {
      lives = subst (λ z. lives (c.circuits.circuit_at z).end ≡ true) j.is l;
      room = subst (λ z. has_room c z ≡ true) j.is j.room;
      found = j.is;
      later = λ a. calling_later k x a c ok;
    }

-- one id more is the first that passes, where none passed before
least_new : (p q : ℕ → Bool) (x : ℕ) (front back : List ℕ) → least p (front ++ back) ≡ 0 → Each (λ i. (i ≢ 0) × (q i ≡ p i)) (front ++ back) → q x ≡ true → least q (front ++ x ∷ back) ≡ x
least_new p q x [] back none same new = ap (λ b. cond b x (least q back)) new
least_new p q x (y ∷ front) back none same new = by (p y) refl none (λ z. least_new p q x front back z same.1 new)
  where
    by : (b : Bool) → p y ≡ b → cond b y (least p (front ++ back)) ≡ 0 → (least p (front ++ back) ≡ 0 → least q (front ++ x ∷ back) ≡ x) → cond (q y) y (least q (front ++ x ∷ back)) ≡ x
    by true e z ih = absurd (same.0.0 z)
    by false e z ih = ap (λ b. cond b y (least q (front ++ x ∷ back))) (same.0.1 ∙ e) ∙ ih z

pub reached_called : (k : Side) (c : Core) (address : ℕ) (node : Name) → CoreOk c → nat_eq (circuit_to c address) 0 ≡ true → 1 ≤ k.timing.sessions
    → Reached k c (called_core k address node c).core address (next_id c.circuits)
reached_called k c address node ok none some = record {
  lives = ap (λ z. lives z.end) new;
  room = ap (λ (z : CircuitEntry). nat_lt (held z.end.half.sessions) z.end.half.sessions.agreed) new ∙ lt-ltb 0 (min k.timing.sessions 64) (omega (arith, some));
  found =
      ap (least q) r.behind
      ∙ least_new p q x r.front r.back (ap (least p) (sym r.before) ∙ eqb-true (circuit_to c address) 0 none) (subst (Each (λ i. (i ≢ 0) × (q i ≡ p i))) r.before (each_id (λ i. (i ≢ 0) × (q i ≡ p i)) c.circuits.first c.circuits.drawn before))
      (ap (λ (z : CircuitEntry). nat_eq z.address address && lives z.end) new ∙ ap (λ b. b && true) (eqb_self address));
  later = λ a. calling_new k x a c d (called_later k address node c ok) (next_unknown c.circuits);
}
  where
    d : Core
    d = (called_core k address node c).core

    x : ℕ
    x = next_id c.circuits

    r : Draw c.circuits.first c.circuits.drawn
    r = draw c.circuits.first c.circuits.drawn

    entry : CircuitEntry
    entry = record { address = address; end = (called (setup_of k.timing) c.moment).end }

    p : ℕ → Bool
    p i = nat_eq (c.circuits.circuit_at i).address address && lives (c.circuits.circuit_at i).end

    q : ℕ → Bool
    q i = nat_eq (d.circuits.circuit_at i).address address && lives (d.circuits.circuit_at i).end

    new : d.circuits.circuit_at x ≡ entry
    new = ap (λ b. cond b entry (c.circuits.circuit_at x)) (eqb_self x)

    old : (i : ℕ) → i ≢ x → d.circuits.circuit_at i ≡ c.circuits.circuit_at i
    old i n = ap (λ b. cond b entry (c.circuits.circuit_at i)) (ne_eqb i x n)

    before : (i : ℕ) → is_drawn c.circuits i ≡ true → (i ≢ 0) × (q i ≡ p i)
    before i h = (
      drawn_some c.circuits.first c.circuits.drawn i h,
      ap (λ (z : CircuitEntry). nat_eq z.address address && lives z.end) (old i (drawn_apart c.circuits.first c.circuits.drawn i h)),
    )

-- its first id
pub first_free : (k : Side) (c : Core) (address : ℕ) (node : Name) → least_free ((called_core k address node c).core.circuits.circuit_at (next_id c.circuits)).end.half.sessions ≡ 1
first_free k c address node =
    ap (λ b. least_free (cond b (record { address = address; end = (called (setup_of k.timing) c.moment).end }) (c.circuits.circuit_at (next_id c.circuits))).end.half.sessions) (eqb_self (next_id c.circuits))

-- what the machines do

silent : (b : Bool) (t : Table) (x : ℕ) (a : Call) → (local_at b t x a).sent ≡ []
silent b t x a = by (lives (t.circuit_at x).end)
  where
    by : (l : Bool) → (cond l (steps_at b t x (record { end = call_end a (t.circuit_at x).end; sent = [] })) (idle t)).sent ≡ []
    by true = refl
    by false = refl

-- The server opens a session so: its core d has reached the circuit x
pub opens_so : (config : ServerConfig) (line address : ℕ) (node service : Name) (key : Option keys.Key) (request : Option ℕ) (c : Core) (done : Doing) (x : ℕ)
    → calls_to config address node c ≡ done → circuit_to done.core address ≡ x
    → opens config line address node service key request c ≡ then_doing done (connects_on config line x service key request)
opens_so config line address node service key request c done x e f =
    ap (λ r. then_doing r (λ d. connects_on config line (circuit_to d address) service key request d)) e
    ∙ ap (λ z. record { core = (connects_on config line z service key request done.core).core; frames = done.frames ++ (connects_on config line z service key request done.core).frames }) f

pub connects_core : (config : ServerConfig) (line x : ℕ) (service : Name) (key : Option keys.Key) (request : Option ℕ) (d : Core)
    → (connects_on config line x service key request d).core
    ≡ seated_core (calling (server_side config) x (Connect service request) d) (record { line = line; circuit = x; id = least_free (d.circuits.circuit_at x).end.half.sessions; serial = suc (d.circuits.circuit_at x).end.half.sessions.made; key = key })
connects_core config line x service key request d = refl

pub connects_frames : (config : ServerConfig) (line x : ℕ) (service : Name) (key : Option keys.Key) (request : Option ℕ) (done : Doing)
    → (then_doing done (connects_on config line x service key request)).frames ≡ done.frames
connects_frames config line x service key request done =
    ap (λ ws. done.frames ++ map (sent_frame (server_side config) (connects_on config line x service key request done.core).core) ws) (silent true done.core.circuits x (Connect service request))
    ∙ append-nil done.frames

-- the circuit that is reached, as the server does
pub calls_living : (config : ServerConfig) (address : ℕ) (node : Name) (c : Core) → nat_eq (circuit_to c address) 0 ≡ false → calls_to config address node c ≡ rests c
calls_living config address node c e = ap (λ b. cond b (called_core (server_side config) address node c) (rests c)) e

pub calls_new : (config : ServerConfig) (address : ℕ) (node : Name) (c : Core) → nat_eq (circuit_to c address) 0 ≡ true → calls_to config address node c ≡ called_core (server_side config) address node c
calls_new config address node c e = ap (λ b. cond b (called_core (server_side config) address node c) (rests c)) e

-- either way
pub reached_by : (k : Side) (c : Core) (address : ℕ) (node : Name) (w : Option ℕ) → CoreOk c → way c address ≡ Ok w → (w ≡ None → 1 ≤ k.timing.sessions)
    → Reached k c (reaches k address node w c).core address (reached (next_id c.circuits) w)
reached_by k c address node None ok e some = reached_called k c address node ok (called_way c address e) (some refl)
reached_by k c address node (Some x) ok e some = reached_living k c address x ok (joins c address x e)

pub calls_by : (config : ServerConfig) (c : Core) (address : ℕ) (node : Name) (w : Option ℕ) → way c address ≡ Ok w → calls_to config address node c ≡ reaches (server_side config) address node w c
calls_by config c address node None e = calls_new config address node c (called_way c address e)
calls_by config c address node (Some x) e = calls_living config address node c (joins c address x e).some

-- the ids that are given
pub given_by : (k : Side) (c : Core) (address : ℕ) (node : Name) (w : Option ℕ) → way c address ≡ Ok w
    → given_ids c address w ≡ (reached (next_id c.circuits) w, least_free ((reaches k address node w c).core.circuits.circuit_at (reached (next_id c.circuits) w)).end.half.sessions)
given_by k c address node None e = ap (λ i. (next_id c.circuits, i)) (sym (first_free k c address node))
given_by k c address node (Some x) e = ap (λ z. (z, least_free (c.circuits.circuit_at z).end.half.sessions)) (joins c address x e).is
