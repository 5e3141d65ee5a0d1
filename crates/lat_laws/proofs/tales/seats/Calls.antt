-- A Put, a Set or a Take on a line: its session gets what the answer says, every other stays.
use Rattle.std.proofs.Common.{◌≡◌, ℕ, ◌≤◌, ◌⊎◌, inl, inr, ⊎_elim, refl, sym, ap, ap₂, ◌∙◌, subst, Bool, true, false, not, cond, ◌||◌, List, [], ◌∷◌, ◌++◌, length, Some, None, nat_eq, eqb-true}
use Rattle.std.proofs.lemmas.Bool.{true≢false, not-true, eqb-false}
use Rattle.lat_model.specs.sessions.Slots.{Item, items, starts, credits, costs}
use Rattle.lat_model.specs.sessions.Session.{Session, blank, free, rejected}
use Rattle.lat_model.specs.sessions.Sessions.{Sessions}
use Rattle.lat_model.specs.sessions.Calls.{Call, call, touch, took}
use Rattle.lat_model.specs.Lists.{updated, Each}
use Rattle.lat_model.specs.ends.End.{Step, lives, call_end}
use Rattle.lat_model.specs.ends.Timers.{note_empty}
use Rattle.lat_model.specs.circuits.World.{CircuitEntry, Table}
use Rattle.lat_model.proofs.sessions.Words.{upd_same, upd_other, upd_all}
use Rattle.lat_machines.specs.values.Answers.{Answer, NoLine, Closed}
use Rattle.lat_machines.specs.cores.Acts.{Acted, idle, steps_at, local_at}
use Rattle.lat_machines.specs.cores.Cores.{Seat, no_seat, Core, Side}
use Rattle.lat_machines.specs.cores.Lines.{end_of, session_of, over, last_on, seat_at, has_session, line_exists}
use Rattle.lat_machines.specs.cores.Books.{EndedClosed, EndedRejected, EndedCircuit, reject_reason, end_reason}
use Rattle.lat_machines.specs.cores.LineCalls.{Said, says, calls_on, on_line}
use Rattle.lat_laws.specs.rounds.Seated.{IsSeat, Placed}
use Rattle.lat_laws.proofs.rounds.ready.Laters.{accepts_none}
use Rattle.lat_laws.proofs.rounds.ready.Tables.{local_later}
use Rattle.lat_laws.proofs.rounds.ready.Seats.{over_parts, seated_later}
use Rattle.lat_laws.specs.tales.Items.{taken_of}
use Rattle.lat_laws.specs.tales.Rows.{Figures, figures_of}
use Rattle.lat_laws.proofs.tales.steps.Goes.{Good, Ours, Untouched, free_blank}
use Rattle.lat_laws.proofs.tales.steps.Tables.{sess}
use Rattle.lat_laws.proofs.tales.steps.Ids.{NoConnect, local_ids}
use Rattle.lat_laws.proofs.tales.seats.Sound.{Apart, Distinct, Sound}
use Rattle.lat_laws.proofs.tales.seats.Follows.{Follows, follows_same}

append_nil : {A : Type 0} → (xs : List A) → xs ++ [] ≡ xs
append_nil [] = refl
append_nil (x ∷ xs) = ap (λ z. x ∷ z) (append_nil xs)

-- whoever has the session of a line session is that one
pub distinct_is : (xs : List Seat) (s t : Seat) → Distinct xs → IsSeat s xs → IsSeat t xs → s.circuit ≡ t.circuit → s.serial ≡ t.serial → s ≡ t
distinct_is [] s t d i j a b = absurd i
distinct_is (x ∷ xs) s t d i j a b = ⊎_elim {C = s ≡ t}
    (λ p. ⊎_elim {C = s ≡ t} (λ q. p ∙ sym q) (λ q. absurd (apart xs t d.0 q (ap (λ (z : Seat). z.circuit) (sym p) ∙ a) (ap (λ (z : Seat). z.serial) (sym p) ∙ b))) j)
    (λ p. ⊎_elim {C = s ≡ t} (λ q. absurd (apart xs s d.0 p (ap (λ (z : Seat). z.circuit) (sym q) ∙ sym a) (ap (λ (z : Seat). z.serial) (sym q) ∙ sym b))) (λ q. distinct_is xs s t d.1 p q a b) j)
    i
  where
    apart : (ys : List Seat) (y : Seat) → Each (Apart x) ys → IsSeat y ys → Apart x y
    apart [] y e i = absurd i
    apart (z ∷ zs) y e i = ⊎_elim {C = Apart x y} (λ q. subst (Apart x) (sym q) e.0) (λ q. apart zs y e.1 q) i

-- a session that takes the place of one that is held, with the same face
pub record Touches (e : Sessions) (k : ℕ) (y : Call) (new : Session) : Type 0 where
  pub called : call e y ≡ touch e k new
  pub id : new.id ≡ (e.session k).id
  pub came : new.came ≡ (e.session k).came
  pub accepted : new.accepted ≡ (e.session k).accepted
  pub rejects : new.rejects ≡ (e.session k).rejects
  pub generation : new.generation ≡ (e.session k).generation
  pub within : new.taken ≤ length (items new.came)
  pub none_accepted : accepts_none y ≡ true
  pub none_connected : NoConnect y

module _ (k : Side) (lines : ℕ) (c : Core) (h : Sound k.server lines c) (s : Seat) (n : IsSeat s c.seats) (o : over c s ≡ false) (y : Call) (new : Session) (w : Touches (c.circuits.circuit_at s.circuit).end.half.sessions s.serial y new) where
  abbrev step : Step
  step = record { end = call_end y (c.circuits.circuit_at s.circuit).end; sent = [] }

  abbrev entry : CircuitEntry
  entry = record { address = (c.circuits.circuit_at s.circuit).address; end = (note_empty (c.circuits.circuit_at s.circuit).end step).end }

  abbrev after : Table
  after = (local_at k.server c.circuits s.circuit y).table

  abbrev stepped : Table
  stepped = (steps_at k.server c.circuits s.circuit step).table

  abbrev d : Core
  d = calls_on k c s y

  parts : (lives (end_of c s) ≡ true) × (free (session_of c s) ≡ false)
  parts = over_parts c s o

  table_is : after ≡ stepped
  table_is = ap (λ b. (cond {A = Acted} b (steps_at k.server c.circuits s.circuit step) (idle c.circuits)).table) parts.0

  at_own : after.circuit_at s.circuit ≡ entry
  at_own = ap (λ (z : Table). z.circuit_at s.circuit) table_is ∙ upd_same c.circuits.circuit_at s.circuit entry

  at_other : (x : ℕ) → (x ≡ s.circuit → ⊥) → after.circuit_at x ≡ c.circuits.circuit_at x
  at_other x q = ap (λ (z : Table). z.circuit_at x) table_is ∙ upd_other c.circuits.circuit_at s.circuit entry x q

  -- what the circuits show but their sessions
  record Face (x : ℕ) (z : CircuitEntry) : Type 0 where
    pub address : z.address ≡ (c.circuits.circuit_at x).address
    pub alive : lives z.end ≡ lives (c.circuits.circuit_at x).end
    pub reason : end_reason z.end ≡ end_reason (c.circuits.circuit_at x).end
    pub running : z.end.running ≡ (c.circuits.circuit_at x).end.running
    pub peer : z.end.peer ≡ (c.circuits.circuit_at x).end.peer

  face : (x : ℕ) → Face x (after.circuit_at x)
  face x = go (nat_eq x s.circuit) refl
    where
      go : (b : Bool) → nat_eq x s.circuit ≡ b → Face x (after.circuit_at x)
      go true q = (let e : x ≡ s.circuit = eqb-true x s.circuit q in subst (λ z. Face z (after.circuit_at z)) (sym e) (subst (Face s.circuit) (sym at_own) (record { address = refl; alive = refl; reason = refl; running = refl; peer = refl })))
      go false q = subst (Face x) (sym (at_other x (eqb-false x s.circuit q))) (record { address = refl; alive = refl; reason = refl; running = refl; peer = refl })

  own_sessions : sess after s.circuit ≡ touch (sess c.circuits s.circuit) s.serial new
  own_sessions = ap (λ (z : CircuitEntry). z.end.half.sessions) at_own ∙ w.called

  pub own_session : session_of d s ≡ new
  own_session = ap (λ (z : Sessions). z.session s.serial) own_sessions ∙ upd_same (sess c.circuits s.circuit).session s.serial new

  other_session : (x j : ℕ) → (x ≡ s.circuit → j ≡ s.serial → ⊥) → (sess after x).session j ≡ (sess c.circuits x).session j
  other_session x j q = go (nat_eq x s.circuit) refl
    where
      go : (b : Bool) → nat_eq x s.circuit ≡ b → (sess after x).session j ≡ (sess c.circuits x).session j
      go true r =
          let e : x ≡ s.circuit = eqb-true x s.circuit r in
          ap (λ z. (sess after z).session j) e ∙ (ap (λ (z : Sessions). z.session j) own_sessions ∙ (upd_other (sess c.circuits s.circuit).session s.serial new j (q e) ∙ ap (λ z. (sess c.circuits z).session j) (sym e)))
      go false r = ap (λ (z : CircuitEntry). z.end.half.sessions.session j) (at_other x (eqb-false x s.circuit r))

  some : (sess c.circuits s.circuit).session s.serial ≡ blank → ⊥
  some = free_blank (session_of c s) parts.1

  touched_good : Good (touch (sess c.circuits s.circuit) s.serial new)
  touched_good =
      let e : Sessions = sess c.circuits s.circuit in
      let g : Good e = h.rest.good s.circuit in
      record {
        none = upd_other e.session s.serial new 0 (λ z. some (ap e.session (sym z) ∙ g.none)) ∙ g.none;
        past = λ j l. upd_other e.session s.serial new j (λ z. some (ap e.session (sym z) ∙ g.past j l)) ∙ g.past j l;
        at_made = g.at_made;
        asked = λ m j a l. starting j (g.asked m j a l);
        within = λ j. upd_all (λ (z : Session). z.taken ≤ length (items z.came)) e.session s.serial new w.within g.within j;
        unseen = λ j. upd_all (λ (z : Session). z.accepted ≡ false → Untouched z) e.session s.serial new (λ a. absurd (true≢false (sym (w.accepted ∙ (h.rest.ours s n).accepted) ∙ a))) g.unseen j;
        silent = λ j. upd_all (λ (z : Session). z.accepted ≡ false → z.rejects ≡ false → z.out ≡ []) e.session s.serial new (λ a b. absurd (true≢false (sym (w.accepted ∙ (h.rest.ours s n).accepted) ∙ a))) g.silent j;
      }
    where
      starting : (j : ℕ) → starts ((sess c.circuits s.circuit).session j).came ≡ true → starts (updated (sess c.circuits s.circuit).session s.serial new j).came ≡ true
      starting j q = go (nat_eq j s.serial) refl
        where
          go : (b : Bool) → nat_eq j s.serial ≡ b → starts (cond b new ((sess c.circuits s.circuit).session j)).came ≡ true
          go true r = ap starts (w.came ∙ ap (λ z. ((sess c.circuits s.circuit).session z).came) (sym (eqb-true j s.serial r))) ∙ q
          go false r = q

  good : (x : ℕ) → Good (sess after x)
  good x = go (nat_eq x s.circuit) refl
    where
      go : (b : Bool) → nat_eq x s.circuit ≡ b → Good (sess after x)
      go true q = subst (λ z. Good (sess after z)) (sym (eqb-true x s.circuit q)) (subst Good (sym own_sessions) touched_good)
      go false q = subst (λ (z : CircuitEntry). Good z.end.half.sessions) (sym (at_other x (eqb-false x s.circuit q))) (h.rest.good x)

  apart : (t : Seat) → IsSeat t c.seats → (t ≡ s → ⊥) → t.circuit ≡ s.circuit → t.serial ≡ s.serial → ⊥
  apart t i q a b = q (distinct_is c.seats t s h.rest.distinct i n a b)

  other_seat : (t : Seat) → IsSeat t c.seats → (t ≡ s → ⊥) → session_of d t ≡ session_of c t
  other_seat t i q = other_session t.circuit t.serial (apart t i q)

  ours : (t : Seat) → IsSeat t c.seats → Ours (session_of d t)
  ours t i = go (nat_eq t.circuit s.circuit) refl (nat_eq t.serial s.serial) refl
    where
      old : (t.circuit ≡ s.circuit → t.serial ≡ s.serial → ⊥) → Ours (session_of d t)
      old q = subst Ours (sym (other_session t.circuit t.serial q)) (h.rest.ours t i)

      go : (a : Bool) → nat_eq t.circuit s.circuit ≡ a → (b : Bool) → nat_eq t.serial s.serial ≡ b → Ours (session_of d t)
      go true p true q =
          let e : session_of d t ≡ new = ap₂ (λ x j. (sess after x).session j) (eqb-true t.circuit s.circuit p) (eqb-true t.serial s.serial q) ∙ own_session in
          let u : Ours (session_of c s) = h.rest.ours s n in
          subst Ours (sym e) (record { accepted = w.accepted ∙ u.accepted; rejects = w.rejects ∙ u.rejects })
      go true p false q = old (λ a b. eqb-false t.serial s.serial q b)
      go false p b q = old (λ a b. eqb-false t.circuit s.circuit p a)

  pub touch_sound : Sound k.server lines d
  touch_sound = record {
    seated = seated_later k.server lines c d refl (local_later k.server k.server c.circuits s.circuit y w.none_accepted) h.seated;
    rest = record {
      good = good;
      distinct = h.rest.distinct;
      ours = ours;
      named = λ m x i. h.rest.named m x i ∙ sym ((local_ids k.server c.circuits s.circuit y w.none_connected x (h.seated.good.masters x ∙ m)).ids i);
    };
  }

  pub touch_own : (put took : List Item) → new.put ≡ (session_of c s).put ++ put → taken_of new ≡ taken_of (session_of c s) ++ took → Follows c d s put took
  touch_own put took p q = record {
    puts = ap (λ (z : Session). z.put) own_session ∙ p;
    takes = ap taken_of own_session ∙ q;
    generation = λ z. ap (λ (z : Session). z.generation) own_session ∙ w.generation;
    final = λ v. absurd (true≢false (sym v ∙ o));
    address = (face s.circuit).address;
    running = λ r. ((face s.circuit).running ∙ r, (face s.circuit).peer);
  }

  pub touch_other : (t : Seat) → IsSeat t c.seats → (t ≡ s → ⊥) → Follows c d t [] []
  touch_other t i q =
      let e : session_of d t ≡ session_of c t = other_seat t i q in
      let f : Face t.circuit (after.circuit_at t.circuit) = face t.circuit in
      record {
        puts = ap (λ (z : Session). z.put) e ∙ sym (append_nil (session_of c t).put);
        takes = ap taken_of e ∙ sym (append_nil (taken_of (session_of c t)));
        generation = λ z. ap (λ (z : Session). z.generation) e;
        final = λ v. (ap₂ (λ a (z : Session). not a || free z) f.alive e ∙ v, figures_same t e f);
        address = f.address;
        running = λ r. (f.running ∙ r, f.peer);
      }
    where
      told : Session → Bool → ℕ → Figures
      told z a r = record {
        given = credits z.out;
        used_up = costs z.out;
        end =
            cond (rejected z) (Some (EndedRejected (reject_reason z)))
            (cond (free z) (Some EndedClosed) (cond a None (Some (EndedCircuit r))));
      }

      figures_same : (t : Seat) → session_of d t ≡ session_of c t → Face t.circuit (after.circuit_at t.circuit) → figures_of d t ≡ figures_of c t
      figures_same t e f = ap₂ (λ z a. told z a (end_reason (after.circuit_at t.circuit).end)) e f.alive ∙ ap (told (session_of c t) (lives (end_of c t))) f.reason

-- what is told of a call on a line

pub record Told (m : Bool) (lines : ℕ) (c : Core) (line : ℕ) (put : Answer → List Item) (took : Answer → List Item) (r : Said) : Type 0 where
  pub seats : r.core.seats ≡ c.seats
  pub sound : Sound m lines r.core
  pub own : (s : Seat) → IsSeat s c.seats → s ≡ seat_at c line → Follows c r.core s (put r.answer) (took r.answer)
  pub other : (s : Seat) → IsSeat s c.seats → (s ≡ seat_at c line → ⊥) → Follows c r.core s [] []

pub told_none : (m : Bool) (lines : ℕ) (c : Core) (line : ℕ) (put took : Answer → List Item) (a : Answer) → Sound m lines c → put a ≡ [] → took a ≡ [] → Told m lines c line put took (says c a)
told_none m lines c line put took a h p q = record {
  seats = refl;
  sound = h;
  own = λ s i e. subst (λ z. Follows c c s z (took a)) (sym p) (subst (Follows c c s []) (sym q) (follows_same c s));
  other = λ s i e. follows_same c s;
}

pub told_touch : (k : Side) (lines : ℕ) (c : Core) (line : ℕ) (put took : Answer → List Item) (a : Answer) (y : Call) (new : Session) (h : Sound k.server lines c) (n : IsSeat (seat_at c line) c.seats) (o : over c (seat_at c line) ≡ false) (w : Touches (c.circuits.circuit_at (seat_at c line).circuit).end.half.sessions (seat_at c line).serial y new) → new.put ≡ (session_of c (seat_at c line)).put ++ put a → taken_of new ≡ taken_of (session_of c (seat_at c line)) ++ took a → Told k.server lines c line put took (says (calls_on k c (seat_at c line) y) a)
told_touch k lines c line put took a y new h n o w p q = record {
  seats = refl;
  sound = touch_sound k lines c h (seat_at c line) n o y new w;
  own = λ s i e. subst (λ z. Follows c (calls_on k c (seat_at c line) y) z (put a) (took a)) (sym e) (touch_own k lines c h (seat_at c line) n o y new w (put a) (took a) p q);
  other = λ s i e. touch_other k lines c h (seat_at c line) n o y new w s i e;
}

-- a line that has a session

last_is : (line : ℕ) (s : Seat) (xs : List Seat) → (last_on line s xs ≡ s) ⊎ IsSeat (last_on line s xs) xs
last_is line s [] = inl refl
last_is line s (x ∷ xs) = go (nat_eq x.line line) (λ y. last_is line y xs)
  where
    go : (b : Bool) → ((y : Seat) → (last_on line y xs ≡ y) ⊎ IsSeat (last_on line y xs) xs) → (last_on line (cond b x s) xs ≡ s) ⊎ ((last_on line (cond b x s) xs ≡ x) ⊎ IsSeat (last_on line (cond b x s) xs) xs)
    go true h = inr (h x)
    go false h = ⊎_elim {C = (last_on line s xs ≡ s) ⊎ ((last_on line s xs ≡ x) ⊎ IsSeat (last_on line s xs) xs)} (λ q. inl q) (λ q. inr (inr q)) (h s)

pub seat_or_none : (c : Core) (line : ℕ) → (seat_at c line ≡ no_seat) ⊎ IsSeat (seat_at c line) c.seats
seat_or_none c line = last_is line no_seat c.seats

pub none_over : (m : Bool) (lines : ℕ) (c : Core) → Sound m lines c → over c no_seat ≡ true
none_over m lines c h = go (lives (end_of c no_seat)) (ap free (h.rest.good 0).none)
  where
    go : (b : Bool) → free (session_of c no_seat) ≡ true → (not b || free (session_of c no_seat)) ≡ true
    go true f = f
    go false f = refl

pub held_seat : (m : Bool) (lines : ℕ) (c : Core) (line : ℕ) → Sound m lines c → over c (seat_at c line) ≡ false → IsSeat (seat_at c line) c.seats
held_seat m lines c line h o = ⊎_elim {C = IsSeat (seat_at c line) c.seats} (λ q. absurd (true≢false (sym (none_over m lines c h) ∙ (ap (over c) (sym q) ∙ o)))) (λ q. q) (seat_or_none c line)

-- its id leads to its session
pub id_leads : (m : Bool) (lines : ℕ) (c : Core) (s : Seat) → Sound m lines c → IsSeat s c.seats → over c s ≡ false → (sess c.circuits s.circuit).at_id s.id ≡ s.serial
id_leads m lines c s h n o =
    let p : Placed lines c s = h.seated.placed s n in
    ap (sess c.circuits s.circuit).at_id (sym p.id) ∙ (h.seated.good.found s.circuit).holds s.serial (over_parts c s o).1

pub line_told : (m : Bool) (lines : ℕ) (c : Core) (line : ℕ) (put took : Answer → List Item) (f : Seat → Said) → Sound m lines c → put NoLine ≡ [] → took NoLine ≡ [] → put Closed ≡ [] → took Closed ≡ [] → (IsSeat (seat_at c line) c.seats → over c (seat_at c line) ≡ false → Told m lines c line put took (f (seat_at c line))) → Told m lines c line put took (on_line lines c line f)
line_told m lines c line put took f h p q r t w = go (line_exists lines line) (has_session c line) refl
  where
    go : (a b : Bool) → has_session c line ≡ b → Told m lines c line put took (cond a (cond b (f (seat_at c line)) (says c Closed)) (says c NoLine))
    go false b e = told_none m lines c line put took NoLine h p q
    go true false e = told_none m lines c line put took Closed h r t
    go true true e = (let o : over c (seat_at c line) ≡ false = not-true (over c (seat_at c line)) e in w (held_seat m lines c line h o) o)

pub told_cond : (m : Bool) (lines : ℕ) (c : Core) (line : ℕ) (put took : Answer → List Item) (b : Bool) (x y : Said) → (b ≡ true → Told m lines c line put took x) → (b ≡ false → Told m lines c line put took y) → Told m lines c line put took (cond b x y)
told_cond m lines c line put took true x y p q = p refl
told_cond m lines c line put took false x y p q = q refl
