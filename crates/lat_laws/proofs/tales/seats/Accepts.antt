-- A node accepts a session: its line session has a session that no other has, and is held.
use Rattle.std.proofs.Common.{◌≡◌, ℕ, ⊎_elim, refl, sym, ap, ap₂, ◌∙◌, subst, Bool, true, false, not, cond, ◌&&◌, ◌||◌, [], ◌∷◌, ◌++◌, Option, None, nat_eq, eqb-true}
use Rattle.std.proofs.lemmas.Bool.{and_parts, or_parts, true≢false}
use Rattle.lat_model.specs.sessions.Slots.{turned}
use Rattle.lat_model.specs.sessions.Session.{Session, free, gone, rejected, stopped, answered, waits}
use Rattle.lat_model.specs.sessions.Sessions.{Sessions, named}
use Rattle.lat_model.specs.sessions.Calls.{Answer, RejectAsk, answer, reject, call}
use Rattle.lat_model.specs.ends.End.{Step, lives, call_end}
use Rattle.lat_model.specs.ends.Timers.{note_empty}
use Rattle.lat_model.specs.circuits.World.{CircuitEntry, Table}
use Rattle.lat_model.proofs.sessions.Words.{upd_same, upd_other}
use Rattle.lat_machines.specs.values.Names.{Name}
use Rattle.lat_machines.specs.cores.Acts.{Acted, idle, steps_at, local_at}
use Rattle.lat_machines.specs.cores.Cores.{Seat, Core, with_circuits}
use Rattle.lat_machines.specs.cores.Lines.{session_of, over}
use Rattle.lat_machines.specs.node.Node.{NodeConfig, Node, Accepts, verdict, judged, asked_at}
use Rattle.lat_laws.specs.rounds.Seated.{IsSeat, Placed}
use Rattle.lat_laws.proofs.rounds.ready.Laters.{waits_goes}
use Rattle.lat_laws.proofs.rounds.ready.Seats.{is_either}
use Rattle.lat_laws.proofs.rounds.ready.Opens.{Answering, judged_answering}
use Rattle.lat_laws.proofs.rounds.ready.Tables.{local_later}
use Rattle.lat_laws.proofs.tales.steps.Goes.{Good, Ours, Untouched, waits_alien, off}
use Rattle.lat_laws.proofs.tales.steps.Tables.{sess, Turned, turned_then, local_turn}
use Rattle.lat_laws.proofs.tales.seats.Sound.{Rest, Sound, IsNew, IsFirst, Fresh, new_act, sound_act, distinct_more, each_then, each_of, append_seat, seat_behind}

carry : (P : Seat → Type 0) (y s : Seat) → y ≡ s → P s → P y
carry P y s q h = subst P (sym q) h

unrejected : (s : Session) → gone s ≡ false → s.rejects ≡ false
unrejected s h = (or_parts s.rejects (turned s.came) (or_parts (rejected s) (stopped s) h).0).0

waits_here : (s : Session) → waits s ≡ true → gone s ≡ false
waits_here s h = off (gone s) (and_parts (not (answered s)) (not (gone s)) h).1

-- who waits wasn't accepted yet
unaccepted : (e : Sessions) (id : ℕ) → e.master ≡ false → Good e → waits (named e id) ≡ true → (named e id).accepted ≡ false
unaccepted e id m g w = go (named e id).accepted refl
  where
    go : (b : Bool) → (named e id).accepted ≡ b → (named e id).accepted ≡ false
    go true q = absurd (waits_alien e id m w g (record { accepted = q; rejects = unrejected (named e id) (waits_here (named e id) w) }))
    go false q = q

module _ (config : NodeConfig) (x id : ℕ) (c : Core) (h : Sound false config.lines c) (l : lives (c.circuits.circuit_at x).end ≡ true) (w : waits (named (c.circuits.circuit_at x).end.half.sessions id) ≡ true) where
  abbrev with_sess : Sessions → Step
  with_sess z = record { end = record ((c.circuits.circuit_at x).end) { half = record ((c.circuits.circuit_at x).end.half) { sessions = z } }; sent = [] }

  abbrev new : CircuitEntry
  new = record { address = (c.circuits.circuit_at x).address; end = (note_empty (c.circuits.circuit_at x).end (with_sess (answer (sess c.circuits x) id))).end }

  abbrev answering : Table
  answering = (steps_at false c.circuits x (with_sess (answer (sess c.circuits x) id))).table

  table_is : (local_at false c.circuits x (Answer id)).table ≡ answering
  table_is =
      ap (λ b. (cond {A = Acted} b (steps_at false c.circuits x (with_sess (call (sess c.circuits x) (Answer id)))) (idle c.circuits)).table) l
      ∙ ap (λ z. (steps_at false c.circuits x (with_sess z)).table) (ap₂ (λ a b. cond (not a && b) (answer (sess c.circuits x) id) (sess c.circuits x)) (h.seated.good.masters x) w)

  at_x : answering.circuit_at x ≡ new
  at_x = upd_same c.circuits.circuit_at x new

  abbrev seat : ℕ → ℕ → Seat
  seat line serial = record { line = line; circuit = x; id = id; serial = serial; key = None }

  abbrev core_with : Table → ℕ → Core
  core_with v line = record c { circuits = v; seats = c.seats ++ seat line ((v.circuit_at x).end.half.sessions.at_id id) ∷ [] }

  serial_is : (sess answering x).at_id id ≡ (sess c.circuits x).at_id id
  serial_is = ap (λ (z : CircuitEntry). z.end.half.sessions.at_id id) at_x

  onward : Turned c.circuits answering
  onward = subst (Turned c.circuits) table_is (local_turn false c.circuits x (Answer id) tt h.rest.good)

  -- whether a session is free doesn't change, nor whether a circuit lives
  frees : (y k : ℕ) → free ((sess answering y).session k) ≡ free ((sess c.circuits y).session k)
  frees y k = go (nat_eq y x) refl
    where
      at : (b : Bool) → nat_eq k ((sess c.circuits x).at_id id) ≡ b → free (cond b (record (named (sess c.circuits x) id) { accepted = true }) ((sess c.circuits x).session k)) ≡ free ((sess c.circuits x).session k)
      at true q = ap (λ z. free ((sess c.circuits x).session z)) (sym (eqb-true k ((sess c.circuits x).at_id id) q))
      at false q = refl

      go : (b : Bool) → nat_eq y x ≡ b → free ((cond b new (c.circuits.circuit_at y)).end.half.sessions.session k) ≡ free ((sess c.circuits y).session k)
      go true q = at (nat_eq k ((sess c.circuits x).at_id id)) refl ∙ ap (λ z. free ((sess c.circuits z).session k)) (sym (eqb-true y x q))
      go false q = refl

  alives : (y : ℕ) → lives (answering.circuit_at y).end ≡ lives (c.circuits.circuit_at y).end
  alives y = go (nat_eq y x) refl
    where
      go : (b : Bool) → nat_eq y x ≡ b → lives (cond b new (c.circuits.circuit_at y)).end ≡ lives (c.circuits.circuit_at y).end
      go true q = ap (λ z. lives (c.circuits.circuit_at z).end) (sym (eqb-true y x q))
      go false q = refl

  new_session : (sess answering x).session ((sess answering x).at_id id) ≡ record (named (sess c.circuits x) id) { accepted = true }
  new_session = ap (λ k. (sess answering x).session k) serial_is ∙ (ap (λ (z : CircuitEntry). z.end.half.sessions.session ((sess c.circuits x).at_id id)) at_x ∙ upd_same (sess c.circuits x).session ((sess c.circuits x).at_id id) (record (named (sess c.circuits x) id) { accepted = true }))

  new_ours : Ours ((sess answering x).session ((sess answering x).at_id id))
  new_ours = subst Ours (sym new_session) (record { accepted = refl; rejects = unrejected (named (sess c.circuits x) id) (waits_here (named (sess c.circuits x) id) w) })

  rest : (line : ℕ) → Rest false (core_with answering line)
  rest line = record {
    good = onward.good;
    distinct = distinct_more c.seats s h.rest.distinct (λ y n a b. true≢false (sym (h.seated.placed y n).accepted ∙ (ap₂ (λ i k. ((sess c.circuits i).session k).accepted) a (b ∙ serial_is) ∙ unaccepted (sess c.circuits x) id (h.seated.good.masters x) (h.rest.good x) w)));
    ours = λ y n. ⊎_elim {C = Ours (session_of (core_with answering line) y)} (λ q. old y q) (λ q. carry (λ z. Ours (session_of (core_with answering line) z)) y s q new_ours) (is_either y s c.seats n);
    named = λ q. absurd (true≢false (sym q));
  }
    where
      s : Seat
      s = seat line ((sess answering x).at_id id)

      old : (y : Seat) → IsSeat y c.seats → Ours (session_of (core_with answering line) y)
      old y n = (let p : Placed config.lines c y = h.seated.placed y n in ((onward.at y.circuit p.drawn).sessions.each y.serial p.made).ours (h.rest.ours y n))

  over_same : (line : ℕ) (s : Seat) → over (core_with answering line) s ≡ over c s
  over_same line s = ap₂ (λ a b. not a || b) (alives s.circuit) (frees s.circuit s.serial)

  new_held : (line : ℕ) → over (core_with answering line) (seat line ((sess answering x).at_id id)) ≡ false
  new_held line =
      ap₂ (λ a b. not a || b) (alives x ∙ l) (ap (λ k. free ((sess answering x).session k)) serial_is ∙ (frees x ((sess c.circuits x).at_id id) ∙ waits_goes (named (sess c.circuits x) id) w))

  new_untouched : Untouched ((sess answering x).session ((sess answering x).at_id id))
  new_untouched = (let u : Untouched (named (sess c.circuits x) id) = (h.rest.good x).unseen ((sess c.circuits x).at_id id) (unaccepted (sess c.circuits x) id (h.seated.good.masters x) (h.rest.good x) w) in subst Untouched (sym new_session) (record { put = u.put; taken = u.taken }))

  new_first : IsFirst ((sess answering x).session ((sess answering x).at_id id))
  new_first =
      let g : gone (named (sess c.circuits x) id) ≡ false = waits_here (named (sess c.circuits x) id) w in
      subst IsFirst (sym new_session) (record { going = g; out = (h.rest.good x).silent ((sess c.circuits x).at_id id) (unaccepted (sess c.circuits x) id (h.seated.good.masters x) (h.rest.good x) w) (unrejected (named (sess c.circuits x) id) g) })

  stays : (y k : ℕ) → IsFirst ((sess c.circuits y).session k) → IsFirst ((sess answering y).session k)
  stays y k f = go (nat_eq y x) refl
    where
      at : (b : Bool) → nat_eq k ((sess c.circuits x).at_id id) ≡ b → IsFirst ((sess c.circuits x).session k) → IsFirst (cond b (record (named (sess c.circuits x) id) { accepted = true }) ((sess c.circuits x).session k))
      at true q i = (let j : IsFirst (named (sess c.circuits x) id) = subst (λ z. IsFirst ((sess c.circuits x).session z)) (eqb-true k ((sess c.circuits x).at_id id) q) i in record { going = j.going; out = j.out })
      at false q i = i

      go : (b : Bool) → nat_eq y x ≡ b → IsFirst ((cond b new (c.circuits.circuit_at y)).end.half.sessions.session k)
      go true q = at (nat_eq k ((sess c.circuits x).at_id id)) refl (subst (λ z. IsFirst ((sess c.circuits z).session k)) (eqb-true y x q) f)
      go false q = f

  -- what it leaves, but for the lines
  pub record Accepted (line : ℕ) (v : Table) : Type 0 where
    pub rest : Rest false (core_with v line)
    pub table : Turned c.circuits v
    pub new : IsNew (core_with v line) (seat line ((v.circuit_at x).end.half.sessions.at_id id))
    pub first : IsFirst ((v.circuit_at x).end.half.sessions.session ((v.circuit_at x).end.half.sessions.at_id id))
    pub stay : (s : Seat) → IsFirst (session_of c s) → IsFirst (session_of (core_with v line) s)
    pub old : (s : Seat) → over (core_with v line) s ≡ over c s

  pub accepted_one : (line : ℕ) → Accepted line (local_at false c.circuits x (Answer id)).table
  accepted_one line = subst (Accepted line) (sym table_is) (record { rest = rest line; table = onward; new = record { held = new_held line; untouched = new_untouched }; first = new_first; stay = λ s. stays s.circuit s.serial; old = λ s. over_same line s })

pub accepts_fresh : (config : NodeConfig) (b : Core) (st : Node) (x id line : ℕ) (request : Option ℕ) (service : Name) → waits (asked_at st x id) ≡ true → verdict config st service request ≡ Accepts line → lives (st.core.circuits.circuit_at x).end ≡ true → Fresh false config.lines b st.core → Fresh false config.lines b (judged config st x id request (Accepts line)).core
accepts_fresh config b st x id line request service w v l f = record {
  sound = record {
    seated = (subst (λ y. Answering config.lines x (judged config st x id request y).core) v (judged_answering config st x id request service w (record { seated = f.sound.seated; alive = l }))).seated;
    rest = a.rest;
  };
  table = turned_then b.circuits st.core.circuits d.circuits f.table a.table;
  more = f.more ++ s ∷ [];
  seats = ap (λ z. z ++ s ∷ []) f.seats ∙ append_seat b.seats f.more s;
  new = each_then (IsNew d) f.more (s ∷ []) (new_act false config.lines st.core d f.more f.sound a.table (λ y i. subst (IsSeat y) (sym f.seats) (seat_behind y b.seats f.more i)) (λ y i o. a.old y ∙ o) f.new) (a.new, tt);
  first = λ q. each_then (λ y. IsFirst (session_of d y)) f.more (s ∷ []) (each_of (λ y. IsFirst (session_of st.core y)) (λ y. IsFirst (session_of d y)) f.more (f.first q) (λ y i o. a.stay y o)) (a.first, tt);
}
  where
    a : Accepted config x id st.core f.sound l w line (local_at false st.core.circuits x (Answer id)).table
    a = accepted_one config x id st.core f.sound l w line

    d : Core
    d = (judged config st x id request (Accepts line)).core

    s : Seat
    s = record { line = line; circuit = x; id = id; serial = (d.circuits.circuit_at x).end.half.sessions.at_id id; key = None }

-- a session that is turned away has no line

refuse_same : (e : Sessions) (id reason k : ℕ) → Good e → e.master ≡ false → Ours (e.session k) → (call e (RejectAsk id reason)).session k ≡ e.session k
refuse_same e id reason k g m o = go (not e.master && waits (named e id)) refl
  where
    go : (b : Bool) → (not e.master && waits (named e id)) ≡ b → (cond b (reject e id reason) e).session k ≡ e.session k
    go false q = refl
    go true q = upd_other e.session (e.at_id id) (record (named e id) { rejects = true; reason = reason }) k (λ z. waits_alien e id m (and_parts (not e.master) (waits (named e id)) q).1 g (subst (λ y. Ours (e.session y)) z o))

refuse_session : (c : Core) (x id reason : ℕ) (s : Seat) → ((y : ℕ) → Good (sess c.circuits y)) → ((y : ℕ) → (sess c.circuits y).master ≡ false) → Ours (session_of c s) → session_of (with_circuits c (local_at false c.circuits x (RejectAsk id reason)).table) s ≡ session_of c s
refuse_session c x id reason s g m o = go (lives (c.circuits.circuit_at x).end)
  where
    step : Step
    step = record { end = call_end (RejectAsk id reason) (c.circuits.circuit_at x).end; sent = [] }

    new : CircuitEntry
    new = record { address = (c.circuits.circuit_at x).address; end = (note_empty (c.circuits.circuit_at x).end step).end }

    at : (b : Bool) → nat_eq s.circuit x ≡ b → (cond b new (c.circuits.circuit_at s.circuit)).end.half.sessions.session s.serial ≡ session_of c s
    at true q =
        let e : s.circuit ≡ x = eqb-true s.circuit x q in
        refuse_same (sess c.circuits x) id reason s.serial (g x) (m x) (subst (λ z. Ours ((sess c.circuits z).session s.serial)) e o) ∙ ap (λ z. (sess c.circuits z).session s.serial) (sym e)
    at false q = refl

    go : (l : Bool) → session_of (with_circuits c (cond {A = Acted} l (steps_at false c.circuits x step) (idle c.circuits)).table) s ≡ session_of c s
    go true = at (nat_eq s.circuit x) refl
    go false = refl

refuse_over : (c : Core) (x id reason : ℕ) (s : Seat) → ((y : ℕ) → Good (sess c.circuits y)) → ((y : ℕ) → (sess c.circuits y).master ≡ false) → Ours (session_of c s) → over (with_circuits c (local_at false c.circuits x (RejectAsk id reason)).table) s ≡ over c s
refuse_over c x id reason s g m o = go (lives (c.circuits.circuit_at x).end) (nat_eq s.circuit x) refl
  where
    step : Step
    step = record { end = call_end (RejectAsk id reason) (c.circuits.circuit_at x).end; sent = [] }

    new : CircuitEntry
    new = record { address = (c.circuits.circuit_at x).address; end = (note_empty (c.circuits.circuit_at x).end step).end }

    at : (b : Bool) → nat_eq s.circuit x ≡ b → (not (lives (cond b new (c.circuits.circuit_at s.circuit)).end) || free ((cond b new (c.circuits.circuit_at s.circuit)).end.half.sessions.session s.serial)) ≡ over c s
    at true q =
        let e : s.circuit ≡ x = eqb-true s.circuit x q in
        ap₂ (λ a b. not a || b) (ap (λ z. lives (c.circuits.circuit_at z).end) (sym e))
        (ap free (refuse_same (sess c.circuits x) id reason s.serial (g x) (m x) (subst (λ z. Ours ((sess c.circuits z).session s.serial)) e o)) ∙ ap (λ z. free ((sess c.circuits z).session s.serial)) (sym e))
    at false q = refl

    go : (l b : Bool) → nat_eq s.circuit x ≡ b → over (with_circuits c (cond {A = Acted} l (steps_at false c.circuits x step) (idle c.circuits)).table) s ≡ over c s
    go true b q = at (nat_eq s.circuit x) refl
    go false b q = refl

pub refuses_fresh : (lines : ℕ) (b c : Core) (x id reason : ℕ) → Fresh false lines b c → Fresh false lines b (with_circuits c (local_at false c.circuits x (RejectAsk id reason)).table)
refuses_fresh lines b c x id reason f = record {
  sound = sound_act false lines c d refl (local_later false false c.circuits x (RejectAsk id reason) refl) t (λ q. absurd (true≢false (sym q))) f.sound;
  table = turned_then b.circuits c.circuits d.circuits f.table t;
  more = f.more;
  seats = f.seats;
  new = new_act false lines c d f.more f.sound t (λ y i. subst (IsSeat y) (sym f.seats) (seat_behind y b.seats f.more i)) (λ y i o. refuse_over c x id reason y f.sound.rest.good f.sound.seated.good.masters (f.sound.rest.ours y i) ∙ o) f.new;
  first = λ q. each_of (λ y. IsFirst (session_of c y)) (λ y. IsFirst (session_of d y)) f.more (f.first q) (λ y i o. subst IsFirst (sym (refuse_session c x id reason y f.sound.rest.good f.sound.seated.good.masters (f.sound.rest.ours y (subst (IsSeat y) (sym f.seats) (seat_behind y b.seats f.more i))))) o);
}
  where
    d : Core
    d = with_circuits c (local_at false c.circuits x (RejectAsk id reason)).table

    t : Turned c.circuits d.circuits
    t = local_turn false c.circuits x (RejectAsk id reason) tt f.sound.rest.good
