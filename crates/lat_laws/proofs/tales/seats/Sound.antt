-- What holds of the line sessions of a core in every run, and what an act that makes none leaves of it.
use Rattle.std.proofs.Common.{◌≡◌, ℕ, inl, inr, ⊎_elim, refl, sym, ap, ◌∙◌, subst, Bool, true, false, cond, ◌&&◌, List, [], ◌∷◌, ◌++◌, nat_eq}
use Rattle.lat_model.specs.sessions.Session.{Session, gone}
use Rattle.lat_model.specs.sessions.Calls.{Call, Connect, Put, Set, Attend, Take, Close, Answer, RejectAsk}
use Rattle.lat_model.specs.Lists.{Each}
use Rattle.lat_machines.specs.cores.Acts.{time_at, local_at, idle, steps_at, end_at}
use Rattle.lat_machines.specs.cores.Hearing.{hear_run, hear_stop_at, is_outlived, outlive_at}
use Rattle.lat_machines.specs.cores.Cores.{Seat, Core, Side, with_circuits, at_moment}
use Rattle.lat_machines.specs.cores.Lines.{session_of, over}
use Rattle.lat_laws.specs.rounds.Seated.{IsSeat, LaterTable, Placed, Seated}
use Rattle.lat_laws.proofs.rounds.ready.Seats.{seated_later}
use Rattle.lat_laws.proofs.rounds.ready.Laters.{accepts_none, later_same}
use Rattle.lat_laws.proofs.rounds.ready.Tables as Laters
use Rattle.lat_laws.proofs.tales.steps.Goes.{Ours, Untouched, went_untouched, IsQuiet}
use Rattle.lat_laws.proofs.tales.steps.Tables.{sess, TableGood, Turned, turned_same, turned_then, local_turn, time_turn, run_turn, stop_turn, end_turn}
use Rattle.lat_laws.proofs.tales.steps.Ids.{NoConnect, TableIds, table_same, local_ids, time_ids, run_ids, stop_ids, end_ids}
use Rattle.lat_laws.proofs.tales.steps.Walk.{Acts}
use Rattle.lat_model.specs.ends.End.{Step, lives, finish, lapse}
use Rattle.lat_model.specs.circuits.World.{Table}
use Rattle.std.proofs.lemmas.Bool.{false≢true}

-- two line sessions have sessions of their own
abbrev pub Apart : Seat → Seat → Type 0
Apart s t = s.circuit ≡ t.circuit → s.serial ≡ t.serial → ⊥

abbrev pub Distinct : List Seat → Type 0
Distinct [] = Unit {0}
Distinct (s ∷ ss) = Each (Apart s) ss × Distinct ss

-- the serial of the last line session of a circuit under an id
abbrev pub last_serial : ℕ → ℕ → ℕ → List Seat → ℕ
last_serial x i found [] = found
last_serial x i found (s ∷ ss) = last_serial x i (cond (nat_eq s.circuit x && nat_eq s.id i) s.serial found) ss

-- all but `seated`
pub record Rest (m : Bool) (c : Core) : Type 0 where
  pub good : TableGood c.circuits
  pub distinct : Distinct c.seats
  pub ours : (s : Seat) → IsSeat s c.seats → Ours (session_of c s)
  -- at a server an id leads to the last line session under it
  pub named : m ≡ true → (x i : ℕ) → last_serial x i 0 c.seats ≡ (sess c.circuits x).at_id i

pub record Sound (m : Bool) (lines : ℕ) (c : Core) : Type 0 where
  pub seated : Seated m lines c
  pub rest : Rest m c

-- what an act keeps that makes no line session
pub rest_act : (m : Bool) (lines : ℕ) (c d : Core) → d.seats ≡ c.seats → Turned c.circuits d.circuits → (m ≡ true → TableIds c.circuits d.circuits) → Sound m lines c → Rest m d
rest_act m lines c d q t i h = record {
  good = t.good;
  distinct = subst Distinct (sym q) h.rest.distinct;
  ours = λ s n. ours s (subst (IsSeat s) q n);
  named = λ w x k. ap (last_serial x k 0) q ∙ (h.rest.named w x k ∙ sym ((i w x (h.seated.good.masters x ∙ w)).ids k));
}
  where
    ours : (s : Seat) → IsSeat s c.seats → Ours (session_of d s)
    ours s n =
        let p : Placed lines c s = h.seated.placed s n in
        ((t.at s.circuit p.drawn).sessions.each s.serial p.made).ours (h.rest.ours s n)

pub sound_act : (m : Bool) (lines : ℕ) (c d : Core) → d.seats ≡ c.seats → LaterTable m c.circuits d.circuits → Turned c.circuits d.circuits → (m ≡ true → TableIds c.circuits d.circuits) → Sound m lines c → Sound m lines d
sound_act m lines c d q l t i h = record { seated = seated_later m lines c d q l h.seated; rest = rest_act m lines c d q t i h }

-- Of a core since `c`: the acts of an event, and then what is opened or accepted
pub record Still (m : Bool) (lines : ℕ) (c : Core) (d : Core) : Type 0 where
  pub sound : Sound m lines d
  pub table : Turned c.circuits d.circuits
  pub seats : d.seats ≡ c.seats

-- a line session that is held, and nothing was put or taken
pub record IsNew (d : Core) (s : Seat) : Type 0 where
  pub held : over d s ≡ false
  pub untouched : Untouched (session_of d s)

-- a session that a node has just accepted
pub record IsFirst (s : Session) : Type 0 where
  pub going : gone s ≡ false
  pub out : s.out ≡ []

pub record Fresh (m : Bool) (lines : ℕ) (c : Core) (d : Core) : Type 0 where
  pub sound : Sound m lines d
  pub table : Turned c.circuits d.circuits
  pub more : List Seat
  pub seats : d.seats ≡ c.seats ++ more
  pub new : Each (IsNew d) more
  pub first : m ≡ false → Each (λ s. IsFirst (session_of d s)) more

append_nil : {A : Type 0} → (xs : List A) → xs ++ [] ≡ xs
append_nil [] = refl
append_nil (x ∷ xs) = ap (λ z. x ∷ z) (append_nil xs)

pub still_none : (m : Bool) (lines : ℕ) (c : Core) → Sound m lines c → Still m lines c c
still_none m lines c h = record { sound = h; table = turned_same c.circuits h.rest.good; seats = refl }

pub still_fresh : (m : Bool) (lines : ℕ) (c d : Core) → Still m lines c d → Fresh m lines c d
still_fresh m lines c d s = record { sound = s.sound; table = s.table; more = []; seats = s.seats ∙ sym (append_nil c.seats); new = tt; first = λ q. tt }

pub still_act : (m : Bool) (lines : ℕ) (c d e : Core) → e.seats ≡ d.seats → LaterTable m d.circuits e.circuits → (TableGood d.circuits → Turned d.circuits e.circuits) → (m ≡ true → TableIds d.circuits e.circuits) → Still m lines c d → Still m lines c e
still_act m lines c d e q l t i s =
    let v : Turned d.circuits e.circuits = t s.sound.rest.good in
    record { sound = sound_act m lines d e q l v i s.sound; table = turned_then c.circuits d.circuits e.circuits s.table v; seats = q ∙ s.seats }

-- a circuit that is ended keeps its sessions
pub end_later : (m b : Bool) (t : Table) (x r : ℕ) → LaterTable m t (end_at b t x r).table
end_later m b t x r = go (lives (t.circuit_at x).end)
  where
    s : Step
    s = finish r (t.circuit_at x).end

    go : (n : Bool) → LaterTable m t (cond n (steps_at b t x s) (idle t)).table
    go true = Laters.steps_later m b t x s (λ q. absurd (false≢true q)) (later_same (sess t x))
    go false = Laters.table_same m t

pub outlive_later : (t : Table) (from source x : ℕ) → LaterTable false t (outlive_at from source x t)
outlive_later t from source x = go (is_outlived (t.circuit_at x) from source)
  where
    s : Step
    s = lapse 5 (t.circuit_at x).end

    go : (n : Bool) → LaterTable false t (cond n (steps_at false t x s).table t)
    go true = Laters.steps_later false false t x s (λ q. absurd (false≢true q)) (later_same (sess t x))
    go false = Laters.table_same false t

-- the calls of acts
abbrev pub IsStill : Call → Type 0
IsStill (Attend id flag) = Unit {0}
IsStill (Close id) = Unit {0}
IsStill (RejectAsk id reason) = Unit {0}
IsStill _ = ⊥

pub plain_quiet : (y : Call) → IsStill y → IsQuiet y × NoConnect y × (accepts_none y ≡ true)
plain_quiet (Attend id flag) p = (tt, tt, refl)
plain_quiet (Close id) p = (tt, tt, refl)
plain_quiet (RejectAsk id reason) p = (tt, tt, refl)
plain_quiet (Connect service request) p = absurd p
plain_quiet (Put id bs) p = absurd p
plain_quiet (Set id t) p = absurd p
plain_quiet (Take id n) p = absurd p
plain_quiet (Answer id) p = absurd p

pub still_acts : (lines : ℕ) (k : Side) (c : Core) → Acts k IsStill (Still k.server lines c)
still_acts lines k c = record {
  moment = λ d now s. still_act k.server lines c d (at_moment now d) refl (Laters.table_same k.server d.circuits) (turned_same d.circuits) (λ q. table_same d.circuits) s;
  renames = λ d ns s. still_act k.server lines c d (record d { names = ns }) refl (Laters.table_same k.server d.circuits) (turned_same d.circuits) (λ q. table_same d.circuits) s;
  calls = λ d x y p s. (let q : IsQuiet y × NoConnect y × (accepts_none y ≡ true) = plain_quiet y p in still_act k.server lines c d (with_circuits d (local_at k.server d.circuits x y).table) refl (Laters.local_later k.server k.server d.circuits x y q.2) (local_turn k.server d.circuits x y q.0) (λ w. local_ids k.server d.circuits x y q.1) s);
  times = λ d x s. still_act k.server lines c d (with_circuits d (time_at k.server d.circuits x d.moment).table) refl (Laters.time_at_later k.server k.server d.circuits x d.moment) (time_turn k.server d.circuits x d.moment) (λ w. time_ids k.server d.circuits x d.moment) s;
  ends = λ d x r s. still_act k.server lines c d (with_circuits d (end_at k.server d.circuits x r).table) refl (end_later k.server k.server d.circuits x r) (end_turn k.server d.circuits x r) (λ w. end_ids k.server d.circuits x r) s;
  runs = λ d from wide h slots n s. still_act k.server lines c d (with_circuits d (hear_run k.server d.circuits from wide h slots n d.moment).act.table) refl (Laters.run_at_later k.server k.server d.circuits from wide h slots n d.moment) (run_turn k.server d.circuits from wide h slots n d.moment) (λ w. run_ids k.server d.circuits from wide h slots n d.moment) s;
  stops = λ d from to source reason s. still_act k.server lines c d (with_circuits d (hear_stop_at k.server d.circuits from to source d.moment reason).act.table) refl (Laters.stop_at_later k.server k.server d.circuits from to source d.moment reason) (stop_turn k.server d.circuits from to source d.moment reason) (λ w. stop_ids k.server d.circuits from to source d.moment reason) s;
}

-- what was new is so behind an act that holds it
pub new_act : (m : Bool) (lines : ℕ) (c d : Core) (xs : List Seat) → Sound m lines c → Turned c.circuits d.circuits → ((s : Seat) → IsSeat s xs → IsSeat s c.seats) → ((s : Seat) → IsSeat s c.seats → over c s ≡ false → over d s ≡ false) → Each (IsNew c) xs → Each (IsNew d) xs
new_act m lines c d [] h t i o n = tt
new_act m lines c d (x ∷ xs) h t i o n = (one, new_act m lines c d xs h t (λ s j. i s (inr j)) o n.1)
  where
    there : IsSeat x c.seats
    there = i x (inl refl)

    p : Placed lines c x
    p = h.seated.placed x there

    one : IsNew d x
    one = record { held = o x there n.0.held; untouched = went_untouched (session_of c x) (session_of d x) ((t.at x.circuit p.drawn).sessions.each x.serial p.made) n.0.untouched }

-- one seat more

pub distinct_more : (xs : List Seat) (s : Seat) → Distinct xs → ((t : Seat) → IsSeat t xs → Apart t s) → Distinct (xs ++ s ∷ [])
distinct_more [] s d h = (tt, tt)
distinct_more (x ∷ xs) s d h = (each_more xs d.0, distinct_more xs s d.1 (λ t i. h t (inr i)))
  where
    each_more : (ys : List Seat) → Each (Apart x) ys → Each (Apart x) (ys ++ s ∷ [])
    each_more [] e = (h x (inl refl), tt)
    each_more (y ∷ ys) e = (e.0, each_more ys e.1)

pub serial_more : (x i found : ℕ) (xs : List Seat) (s : Seat) → last_serial x i found (xs ++ s ∷ []) ≡ cond (nat_eq s.circuit x && nat_eq s.id i) s.serial (last_serial x i found xs)
serial_more x i found [] s = refl
serial_more x i found (y ∷ ys) s = serial_more x i (cond (nat_eq y.circuit x && nat_eq y.id i) y.serial found) ys s

pub each_then : (P : Seat → Type 0) (xs ys : List Seat) → Each P xs → Each P ys → Each P (xs ++ ys)
each_then P [] ys p q = q
each_then P (x ∷ xs) ys p q = (p.0, each_then P xs ys p.1 q)

pub each_of : (P Q : Seat → Type 0) (xs : List Seat) → Each P xs → ((s : Seat) → IsSeat s xs → P s → Q s) → Each Q xs
each_of P Q [] p h = tt
each_of P Q (x ∷ xs) p h = (h x (inl refl) p.0, each_of P Q xs p.1 (λ s i. h s (inr i)))

pub append_seat : (xs more : List Seat) (s : Seat) → (xs ++ more) ++ s ∷ [] ≡ xs ++ (more ++ s ∷ [])
append_seat [] more s = refl
append_seat (x ∷ xs) more s = ap (λ z. x ∷ z) (append_seat xs more s)

pub seat_behind : (s : Seat) (xs ys : List Seat) → IsSeat s ys → IsSeat s (xs ++ ys)
seat_behind s [] ys h = h
seat_behind s (x ∷ xs) ys h = inr (seat_behind s xs ys h)

pub seat_before : (s : Seat) (xs ys : List Seat) → IsSeat s xs → IsSeat s (xs ++ ys)
seat_before s [] ys h = absurd h
seat_before s (x ∷ xs) ys h = ⊎_elim {C = IsSeat s (x ∷ xs ++ ys)} (λ q. inl q) (λ q. inr (seat_before s xs ys q)) h
