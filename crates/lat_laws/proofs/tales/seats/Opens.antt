-- A server opens a session: its line session is the last under its id, and is held.
use Rattle.std.proofs.Common.{◌≡◌, ℕ, suc, ◌<◌, inl, inr, ⊎_elim, refl, sym, ap, ap₂, ◌∙◌, subst, arith, Bool, true, false, not, cond, ◌&&◌, ◌||◌, List, [], ◌∷◌, ◌++◌, Option, nat_eq, eqb-true, eq-eqb, ◌≢◌}
use Rattle.std.proofs.lemmas.Bool.{and_parts, or_parts, true≢false, not-false, eqb-false}
use Rattle.lat_model.specs.sessions.Session.{free}
use Rattle.lat_model.specs.sessions.Sessions.{Sessions, least_free}
use Rattle.lat_model.specs.sessions.Calls.{Connect, connect, call, new_call}
use Rattle.lat_model.specs.Lists.{updated}
use Rattle.lat_model.specs.ends.End.{Step, lives}
use Rattle.lat_model.specs.ends.Timers.{note_empty}
use Rattle.lat_model.specs.circuits.World.{CircuitEntry, Table}
use Rattle.lat_model.proofs.sessions.Words.{upd_same, upd_other}
use Rattle.lat_model.specs.circuits.Ids.{next_id, ids}
use Rattle.lat_model.proofs.circuits.Ids.{drawn_apart}
use Rattle.lat_machines.specs.values.Names.{Name}
use Rattle.lat_machines.specs.values.Keys.{Key}
use Rattle.lat_machines.specs.cores.Acts.{Acted, idle, steps_at, call_at, called, local_at}
use Rattle.lat_machines.specs.cores.Cores.{Seat, Core, Doing, rests, acts, with_circuits, setup_of, circuit_to}
use Rattle.lat_machines.specs.cores.Lines.{end_of, session_of, over, has_session, line_exists}
use Rattle.lat_machines.specs.server.Server.{ServerConfig, server_side, has_room, may_call, can_open, connects_on, opens}
use Rattle.lat_machines.proofs.queue.Rooms.{Called, call_opens, test_of, least_true, Grown}
use Rattle.lat_machines.proofs.queue.Grants.{Opened, opens_at}
use Rattle.lat_laws.specs.rounds.Seated.{IsSeat, Placed}
use Rattle.lat_laws.proofs.rounds.ready.Seats.{is_either, seated_later}
use Rattle.lat_laws.proofs.rounds.ready.Opens.{opens_seated}
use Rattle.lat_laws.proofs.rounds.ready.Tables.{call_at_later}
use Rattle.lat_laws.proofs.tales.steps.Goes.{Ours, Untouched}
use Rattle.lat_laws.proofs.tales.steps.Tables.{sess, Turned, turned_then, local_turn, call_turn}
use Rattle.lat_laws.proofs.tales.seats.Sound.{last_serial, Rest, Sound, IsNew, Fresh, new_act, distinct_more, serial_more, each_then, append_seat, seat_behind}

-- a line session more, with nothing put or taken
pub record Opens (m : Bool) (c : Core) (d : Core) : Type 0 where
  pub rest : Rest m d
  pub seat : Seat
  pub seats : d.seats ≡ c.seats ++ seat ∷ []
  pub untouched : Untouched (session_of d seat)

-- a session connected on a circuit that lives and has room

module _ (config : ServerConfig) (line x : ℕ) (service : Name) (key : Option Key) (request : Option ℕ) (c : Core) (h : Sound true config.lines c) (l : lives (c.circuits.circuit_at x).end ≡ true) (room : has_room c x ≡ true) where
  t : Table
  t = c.circuits

  e : Sessions
  e = (c.circuits.circuit_at x).end.half.sessions

  abbrev s : Seat
  s = record { line = line; circuit = x; id = least_free (c.circuits.circuit_at x).end.half.sessions; serial = suc (c.circuits.circuit_at x).end.half.sessions.made; key = key }

  abbrev with_sess : Sessions → Step
  with_sess z = record { end = record ((c.circuits.circuit_at x).end) { half = record ((c.circuits.circuit_at x).end.half) { sessions = z } }; sent = [] }

  abbrev new : CircuitEntry
  new = record { address = (c.circuits.circuit_at x).address; end = (note_empty (c.circuits.circuit_at x).end (with_sess (connect (c.circuits.circuit_at x).end.half.sessions service request))).end }

  abbrev connected : Table
  connected = (steps_at true c.circuits x (with_sess (connect (c.circuits.circuit_at x).end.half.sessions service request))).table

  table_is : (local_at true c.circuits x (Connect service request)).table ≡ connected
  table_is =
      ap (λ b. (cond {A = Acted} b (steps_at true c.circuits x (with_sess (call (sess c.circuits x) (Connect service request)))) (idle c.circuits)).table) l
      ∙ ap (λ z. (steps_at true c.circuits x (with_sess z)).table) (ap₂ (λ a b. cond (a && b) (connect (sess c.circuits x) service request) (sess c.circuits x)) (h.seated.good.masters x) room)

  at_x : connected.circuit_at x ≡ new
  at_x = upd_same c.circuits.circuit_at x new

  abbrev d : Core
  d = record c { circuits = connected; seats = c.seats ++ s ∷ [] }

  turned : Turned c.circuits connected
  turned = subst (Turned c.circuits) table_is (local_turn true c.circuits x (Connect service request) tt h.rest.good)

  old_ours : (y : Seat) → IsSeat y c.seats → Ours (session_of d y)
  old_ours y n =
      let p : Placed config.lines c y = h.seated.placed y n in
      ((turned.at y.circuit p.drawn).sessions.each y.serial p.made).ours (h.rest.ours y n)

  new_session : session_of d s ≡ new_call (sess c.circuits x) service request
  new_session = ap (λ (z : CircuitEntry). z.end.half.sessions.session (suc (sess c.circuits x).made)) at_x ∙ upd_same (sess c.circuits x).session (suc (sess c.circuits x).made) (new_call (sess c.circuits x) service request)

  named : (y i : ℕ) → last_serial y i 0 (c.seats ++ s ∷ []) ≡ (sess connected y).at_id i
  named y i = serial_more y i 0 c.seats s ∙ go (nat_eq x y) refl (nat_eq (least_free (sess c.circuits x)) i) refl
    where
      at : (b : Bool) → nat_eq y x ≡ b → sess connected y ≡ (cond b new (c.circuits.circuit_at y)).end.half.sessions
      at b q = ap (λ z. (cond z new (c.circuits.circuit_at y)).end.half.sessions) q

      go : (a : Bool) → nat_eq x y ≡ a → (b : Bool) → nat_eq (least_free (sess c.circuits x)) i ≡ b → cond (a && b) (suc (sess c.circuits x).made) (last_serial y i 0 c.seats) ≡ (sess connected y).at_id i
      go true q true r = sym (ap (λ (z : Sessions). z.at_id i) (at true (eq-eqb y x (sym (eqb-true x y q)))) ∙ ap (λ b. cond b (suc (sess c.circuits x).made) ((sess c.circuits x).at_id i)) (eq-eqb i (least_free (sess c.circuits x)) (sym (eqb-true (least_free (sess c.circuits x)) i r))))
      go true q false r =
          h.rest.named refl y i ∙ (ap (λ z. (sess c.circuits z).at_id i) (sym (eqb-true x y q))
          ∙ sym (ap (λ (z : Sessions). z.at_id i) (at true (eq-eqb y x (sym (eqb-true x y q)))) ∙ upd_other (sess c.circuits x).at_id (least_free (sess c.circuits x)) (suc (sess c.circuits x).made) i (λ z. eqb-false (least_free (sess c.circuits x)) i r (sym z))))
      go false q b r = h.rest.named refl y i ∙ ap (λ (z : CircuitEntry). z.end.half.sessions.at_id i) (sym (upd_other c.circuits.circuit_at x new y (λ z. eqb-false x y q (sym z))))

  rest : Rest true d
  rest = record {
    good = turned.good;
    distinct = distinct_more c.seats s h.rest.distinct (λ y n a b. absurd (let p : Placed config.lines c y = h.seated.placed y n in let m : (sess c.circuits y.circuit).made ≡ (sess c.circuits x).made = ap (λ z. (sess c.circuits z).made) a in omega (arith, p.made, m, b)));
    ours = λ y n. ⊎_elim {C = Ours (session_of d y)} (λ q. old_ours y q) (λ q. subst (λ z. Ours (session_of d z)) (sym q) (subst Ours (sym new_session) (record { accepted = refl; rejects = refl }))) (is_either y s c.seats n);
    named = λ w. named;
  }

  pub connects_rest : Opens true c (connects_on config line x service key request c).core
  connects_rest = subst (λ (z : Table). Opens true c (record c { circuits = z; seats = c.seats ++ s ∷ [] })) (sym table_is) (record { rest = rest; seat = s; seats = refl; untouched = subst Untouched (sym new_session) (record { put = refl; taken = refl }) })

-- a session opened, on a circuit that is called where none lives

none_serial : (x i : ℕ) (xs : List Seat) → ((s : Seat) → IsSeat s xs → s.circuit ≢ x) → last_serial x i 0 xs ≡ 0
none_serial x i [] h = refl
none_serial x i (s ∷ xs) h = ap (λ b. last_serial x i (cond (b && nat_eq s.id i) s.serial 0) xs) (off (nat_eq s.circuit x) refl) ∙ none_serial x i xs (λ t n. h t (inr n))
  where
    off : (b : Bool) → nat_eq s.circuit x ≡ b → nat_eq s.circuit x ≡ false
    off true q = absurd (h s (inl refl) (eqb-true s.circuit x q))
    off false q = q

called_rest : (config : ServerConfig) (address : ℕ) (c : Core) → Sound true config.lines c → Rest true (with_circuits c (call_at (setup_of config.timing) c.circuits address c.moment).table)
called_rest config address c h = record {
  good = turned.good;
  distinct = h.rest.distinct;
  ours = λ y n. (let p : Placed config.lines c y = h.seated.placed y n in ((turned.at y.circuit p.drawn).sessions.each y.serial p.made).ours (h.rest.ours y n));
  named = λ w y i. named y i (nat_eq y (next_id c.circuits)) refl;
}
  where
    t : Table
    t = (call_at (setup_of config.timing) c.circuits address c.moment).table

    turned : Turned c.circuits t
    turned = call_turn (setup_of config.timing) c.circuits address c.moment h.rest.good

    new : CircuitEntry
    new = record { address = address; end = (called (setup_of config.timing) c.moment).end }

    named : (y i : ℕ) (b : Bool) → nat_eq y (next_id c.circuits) ≡ b → last_serial y i 0 c.seats ≡ (sess t y).at_id i
    named y i true q =
        none_serial y i c.seats (λ s n. (let p : Placed config.lines c s = h.seated.placed s n in let e : y ≡ next_id c.circuits = eqb-true y (next_id c.circuits) q in λ z. drawn_apart c.circuits.first c.circuits.drawn s.circuit p.drawn (z ∙ e)))
        ∙ sym (ap (λ z. (sess t z).at_id i) (eqb-true y (next_id c.circuits) q) ∙ ap (λ (z : CircuitEntry). z.end.half.sessions.at_id i) (upd_same c.circuits.circuit_at (next_id c.circuits) new))
    named y i false q = h.rest.named refl y i ∙ sym (ap (λ (z : CircuitEntry). z.end.half.sessions.at_id i) (upd_other c.circuits.circuit_at (next_id c.circuits) new y (eqb-false y (next_id c.circuits) q)))

opens_rest : (config : ServerConfig) (line address : ℕ) (node service : Name) (key : Option Key) (request : Option ℕ) (c : Core) → 0 < config.timing.sessions → can_open c address ≡ true → Sound true config.lines c → Opens true c (opens config line address node service key request c).core
opens_rest config line address node service key request c pos can h = go (nat_eq (circuit_to c address) 0) refl can
  where
    named_core : Core
    named_core = record c { names = updated c.names (next_id c.circuits) node }

    made : Doing
    made = acts (server_side config) named_core (call_at (setup_of config.timing) named_core.circuits address named_core.moment)

    after : Doing → Core
    after d = (connects_on config line (circuit_to d.core address) service key request d.core).core

    go : (b : Bool) → nat_eq (circuit_to c address) 0 ≡ b → cond b (may_call c) (has_room c (circuit_to c address)) ≡ true → Opens true c (after (cond b made (rests c)))
    go false i can = connects_rest config line (circuit_to c address) service key request c h (and_parts (nat_eq (c.circuits.circuit_at (circuit_to c address)).address address) (lives (c.circuits.circuit_at (circuit_to c address)).end) (least_true (test_of c.circuits address) (ids c.circuits) (eqb-false (circuit_to c address) 0 i))).1 can
    go true i can =
        let k : Called named_core address (with_circuits named_core (call_at (setup_of config.timing) named_core.circuits address named_core.moment).table) = call_opens (setup_of config.timing) named_core address named_core.moment pos (record { masters = h.seated.good.masters; new = h.seated.good.new }) (eqb-true (circuit_to c address) 0 i) can in
        let r : Rest true (with_circuits c (call_at (setup_of config.timing) c.circuits address c.moment).table) = called_rest config address c h in
        let z : Opens true made.core (after made) = connects_rest config line (circuit_to made.core address) service key request made.core
        (record {
          seated = seated_later true config.lines c made.core refl (call_at_later (setup_of config.timing) c.circuits address c.moment) h.seated;
          rest = record { good = r.good; distinct = r.distinct; ours = r.ours; named = r.named };
        })
        (ap (λ z. lives (made.core.circuits.circuit_at z).end) k.at ∙ k.alive) (ap (has_room made.core) k.at ∙ k.some) in
        record { rest = z.rest; seat = z.seat; seats = z.seats; untouched = z.untouched }

opens_turned : (config : ServerConfig) (line address : ℕ) (node service : Name) (key : Option Key) (request : Option ℕ) (c : Core) → Sound true config.lines c → Turned c.circuits (opens config line address node service key request c).core.circuits
opens_turned config line address node service key request c h = go (nat_eq (circuit_to c address) 0)
  where
    named_core : Core
    named_core = record c { names = updated c.names (next_id c.circuits) node }

    made : Doing
    made = acts (server_side config) named_core (call_at (setup_of config.timing) named_core.circuits address named_core.moment)

    after : Doing → Core
    after d = (connects_on config line (circuit_to d.core address) service key request d.core).core

    called_turned : Turned c.circuits made.core.circuits
    called_turned = call_turn (setup_of config.timing) c.circuits address c.moment h.rest.good

    go : (b : Bool) → Turned c.circuits (after (cond b made (rests c))).circuits
    go true = turned_then c.circuits made.core.circuits (after made).circuits called_turned (local_turn true made.core.circuits (circuit_to made.core address) (Connect service request) tt called_turned.good)
    go false = local_turn true c.circuits (circuit_to c address) (Connect service request) tt h.rest.good

over_kept : (c d : Core) (s : Seat) → Grown c d → over c s ≡ false → over d s ≡ false
over_kept c d s g h =
    let o : (not (lives (end_of c s)) ≡ false) × (free (session_of c s) ≡ false) = or_parts (not (lives (end_of c s))) (free (session_of c s)) h in
    let k : (lives (end_of d s) ≡ true) × (free (session_of d s) ≡ false) = g.kept s.circuit s.serial (not-false (lives (end_of c s)) o.0) o.1 in
    ap₂ (λ a b. not a || b) k.0 k.1

last_same : (xs : List Seat) (a b : Seat) → xs ++ a ∷ [] ≡ xs ++ b ∷ [] → a ≡ b
last_same [] a b q = cc
last_same (x ∷ xs) a b q = last_same xs a b (let r : xs ++ a ∷ [] ≡ xs ++ b ∷ [] = cc in r)

pub opens_fresh : (config : ServerConfig) (b : Core) (line address : ℕ) (node service : Name) (key : Option Key) (request : Option ℕ) (c : Core) → 0 < config.timing.sessions → can_open c address ≡ true → line_exists config.lines line ≡ true → has_session c line ≡ false → Fresh true config.lines b c → Fresh true config.lines b (opens config line address node service key request c).core
opens_fresh config b line address node service key request c pos can ex fr f = record {
  sound = record { seated = opens_seated config line address node service key request c pos f.sound.seated can ex fr; rest = r.rest };
  table = turned_then b.circuits c.circuits d.circuits f.table t;
  more = f.more ++ r.seat ∷ [];
  seats = r.seats ∙ (ap (λ z. z ++ r.seat ∷ []) f.seats ∙ append_seat b.seats f.more r.seat);
  new = each_then (IsNew d) f.more (r.seat ∷ []) (new_act true config.lines c d f.more f.sound t (λ s i. subst (IsSeat s) (sym f.seats) (seat_behind s b.seats f.more i)) (λ s i. over_kept c d s o.grown) f.new) (record { held = ap (over d) (last_same c.seats r.seat o.seat (sym r.seats ∙ o.seats)) ∙ o.held; untouched = r.untouched }, tt);
  first = λ q. absurd (true≢false q);
}
  where
    d : Core
    d = (opens config line address node service key request c).core

    o : Opened c line key d
    o = opens_at config line address node service key request c pos (record { masters = f.sound.seated.good.masters; new = f.sound.seated.good.new }) can

    r : Opens true c d
    r = opens_rest config line address node service key request c pos can f.sound

    t : Turned c.circuits d.circuits
    t = opens_turned config line address node service key request c f.sound
