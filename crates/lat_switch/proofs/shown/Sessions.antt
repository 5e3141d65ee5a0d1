-- What the events of a server put on one of its sessions and take from it.
use Rattle.std.proofs.Common.{◌≡◌, ◌≢◌, ℕ, ◌<◌, ◌⊎◌, inl, inr, ⊎_elim, refl, sym, ap, ap₂, ◌∙◌, subst, Bool, true, false, cond, ◌&&◌, List, [], ◌∷◌, ◌++◌, nat_eq, eqb-true, eq-eqb, append_assoc}
use Rattle.std.proofs.lemmas.Bool.{true≢false, and_parts}
use Rattle.lat_model.specs.Lists.{Each}
use Rattle.lat_model.specs.sessions.Slots.{Item}
use Rattle.lat_model.specs.sessions.Session.{Session}
use Rattle.lat_machines.specs.values.Events.{Event}
use Rattle.lat_machines.specs.values.Answers.{Answer}
use Rattle.lat_machines.specs.cores.Cores.{Seat, Core}
use Rattle.lat_machines.specs.cores.Lines.{session_of, seat_at}
use Rattle.lat_machines.specs.server.Server.{ServerConfig, Server, server_step}
use Rattle.lat_laws.specs.rounds.Seated.{IsSeat}
use Rattle.lat_switch.specs.Shown.{is_same}
use Rattle.lat_laws.specs.tales.Items.{taken_of, line_of, put_by, taken_by}
use Rattle.lat_laws.proofs.tales.steps.Goes.{Untouched}
use Rattle.lat_laws.proofs.tales.seats.Sound.{Apart, Distinct, Sound, IsNew, seat_behind, seat_before}
use Rattle.lat_laws.proofs.tales.seats.Follows.{Follows}
use Rattle.lat_laws.proofs.tales.seats.Calls.{seat_or_none, distinct_is}
use Rattle.lat_laws.proofs.tales.seats.Told.{Tale, server_tale}
use Rattle.lat_laws.proofs.tales.rows.By.{none_taken, distinct_apart, append_nil}

same_self : (s : Seat) → is_same s s ≡ true
same_self s = ap₂ (λ a b. a && b) (eq-eqb s.circuit s.circuit refl) (eq-eqb s.serial s.serial refl)

-- what an event puts on the session x, and takes from it
abbrev pub put_to : Seat → Core → Event → Answer → List Item
put_to x c e a = cond (is_same (seat_at c (line_of e)) x) (put_by e a) []

abbrev pub took_from : Seat → Core → Event → Answer → List Item
took_from x c e a = cond (is_same (seat_at c (line_of e)) x) (taken_by e a) []

-- a session that a core doesn't have yet
pub record IsAway (x : Seat) (c : Core) : Type 0 where
  pub serial : x.serial ≢ 0
  pub apart : (s : Seat) → IsSeat s c.seats → Apart s x

-- between two cores the session x got these items, and gave those
pub record Gets (x : Seat) (c d : Core) (put took : List Item) : Type 0 where
  pub more : List Seat
  pub seats : d.seats ≡ c.seats ++ more
  pub old : IsSeat x c.seats → ((session_of d x).put ≡ (session_of c x).put ++ put) × (taken_of (session_of d x) ≡ taken_of (session_of c x) ++ took)
  pub new : IsSeat x more → ((session_of d x).put ≡ put) × (taken_of (session_of d x) ≡ took)
  pub away : IsAway x d → (put ≡ []) × (took ≡ [])

pub gets_none : (x : Seat) (c : Core) → Gets x c c [] []
gets_none x c = record {
  more = [];
  seats = sym (append_nil c.seats);
  old = λ i. (sym (append_nil (session_of c x).put), sym (append_nil (taken_of (session_of c x))));
  new = λ i. absurd i;
  away = λ w. (refl, refl);
}

-- a session that was made has a serial number
has_serial : (lines : ℕ) (c : Core) (x : Seat) → Sound true lines c → IsSeat x c.seats → x.serial ≢ 0
has_serial lines c x h i z =
    absurd (true≢false
    (sym (h.rest.ours x i).accepted
    ∙ ap (λ n. ((c.circuits.circuit_at x.circuit).end.half.sessions.session n).accepted) z
    ∙ ap (λ (v : Session). v.accepted) (h.rest.good x.circuit).none))

split_seat : (x : Seat) (xs ys : List Seat) → IsSeat x (xs ++ ys) → IsSeat x xs ⊎ IsSeat x ys
split_seat x [] ys i = inr i
split_seat x (s ∷ xs) ys i =
    ⊎_elim {C = IsSeat x (s ∷ xs) ⊎ IsSeat x ys}
    (λ q. inl (inl q))
    (λ q. ⊎_elim {C = IsSeat x (s ∷ xs) ⊎ IsSeat x ys} (λ p. inl (inr p)) (λ p. inr p) (split_seat x xs ys q))
    i

away_before : (lines : ℕ) (x : Seat) (d e : Core) (more : List Seat) → Sound true lines e → e.seats ≡ d.seats ++ more → IsSeat x more → IsAway x d
away_before lines x d e more h seats i = record {
  serial = has_serial lines e x h (subst (IsSeat x) (sym seats) (seat_behind x d.seats more i));
  apart = λ s j. distinct_apart d.seats more s x (subst Distinct seats h.rest.distinct) j i;
}

away_still : (x : Seat) (d e : Core) (more : List Seat) → e.seats ≡ d.seats ++ more → IsAway x e → IsAway x d
away_still x d e more seats w = record { serial = w.serial; apart = λ s j. w.apart s (subst (IsSeat s) (sym seats) (seat_before s d.seats more j)) }

pub gets_then : (lines : ℕ) (x : Seat) (c d e : Core) (p q r s : List Item) → Sound true lines e → Gets x c d p q → Gets x d e r s
    → Gets x c e (p ++ r) (q ++ s)
gets_then lines x c d e p q r s h f g = record {
  more = f.more ++ g.more;
  seats = g.seats ∙ ap (λ z. z ++ g.more) f.seats ∙ append_assoc c.seats f.more g.more;
  old = λ i.
      (let a = f.old i in
      let b = g.old (subst (IsSeat x) (sym f.seats) (seat_before x c.seats f.more i)) in (
        b.0 ∙ ap (λ z. z ++ r) a.0 ∙ append_assoc (session_of c x).put p r,
        b.1 ∙ ap (λ z. z ++ s) a.1 ∙ append_assoc (taken_of (session_of c x)) q s,
      ));
  new = λ i. ⊎_elim {C = ((session_of e x).put ≡ p ++ r) × (taken_of (session_of e x) ≡ q ++ s)}
      (λ j.
      (let a = f.new j in
      let b = g.old (subst (IsSeat x) (sym f.seats) (seat_behind x c.seats f.more j)) in
      (b.0 ∙ ap (λ z. z ++ r) a.0, b.1 ∙ ap (λ z. z ++ s) a.1)))
      (λ j.
      (let a = f.away (away_before lines x d e g.more h g.seats j) in
      let b = g.new j in
      (b.0 ∙ ap (λ z. z ++ r) (sym a.0), b.1 ∙ ap (λ z. z ++ s) (sym a.1))))
      (split_seat x f.more g.more i);
  away = λ w.
      (let a = f.away (away_still x d e g.more g.seats w) in
      let b = g.away w in
      (ap₂ (λ y z. y ++ z) a.0 b.0, ap₂ (λ y z. y ++ z) a.1 b.1));
}

-- one event
module _ (config : ServerConfig) (st : Server) (e : Event) (x : Seat) (pos : 0 < config.timing.sessions) (h : Sound true config.lines st.core) where
  abbrev c : Core
  c = st.core

  abbrev d : Core
  d = (server_step config st e).state.core

  abbrev a : Answer
  a = (server_step config st e).answer

  tale : Tale true config.lines st.core (server_step config st e).state.core e (server_step config st e).answer
  tale = server_tale config st e pos h

  -- whoever is away isn't the newest of a line
  not_newest : IsAway x c → is_same (seat_at c (line_of e)) x ≡ false
  not_newest w = by (is_same (seat_at c (line_of e)) x) refl
    where
      by : (b : Bool) → is_same (seat_at c (line_of e)) x ≡ b → is_same (seat_at c (line_of e)) x ≡ false
      by false q = q
      by true q =
          let p = and_parts (nat_eq (seat_at c (line_of e)).circuit x.circuit) (nat_eq (seat_at c (line_of e)).serial x.serial) q in
          let i : (seat_at c (line_of e)).circuit ≡ x.circuit = eqb-true (seat_at c (line_of e)).circuit x.circuit p.0 in
          let j : (seat_at c (line_of e)).serial ≡ x.serial = eqb-true (seat_at c (line_of e)).serial x.serial p.1 in
          ⊎_elim {C = is_same (seat_at c (line_of e)) x ≡ false}
          (λ z. absurd (w.serial (sym j ∙ ap (λ (s : Seat). s.serial) z)))
          (λ z. absurd (w.apart (seat_at c (line_of e)) z i j))
          (seat_or_none c (line_of e))

  no_items : IsAway x c → (put_to x c e a ≡ []) × (took_from x c e a ≡ [])
  no_items w = (ap (λ b. cond b (put_by e a) []) (not_newest w), ap (λ b. cond b (taken_by e a) []) (not_newest w))

  got : IsSeat x c.seats → (b : Bool) → is_same (seat_at c (line_of e)) x ≡ b
      → ((session_of d x).put ≡ (session_of c x).put ++ cond b (put_by e a) [])
      × (taken_of (session_of d x) ≡ taken_of (session_of c x) ++ cond b (taken_by e a) [])
  got i true q =
      let p = and_parts (nat_eq (seat_at c (line_of e)).circuit x.circuit) (nat_eq (seat_at c (line_of e)).serial x.serial) q in
      let k : (seat_at c (line_of e)).circuit ≡ x.circuit = eqb-true (seat_at c (line_of e)).circuit x.circuit p.0 in
      let j : (seat_at c (line_of e)).serial ≡ x.serial = eqb-true (seat_at c (line_of e)).serial x.serial p.1 in
      let same : x ≡ seat_at c (line_of e) =
      ⊎_elim {C = x ≡ seat_at c (line_of e)}
      (λ z. absurd (has_serial config.lines c x h i (sym j ∙ ap (λ (s : Seat). s.serial) z)))
      (λ z. distinct_is c.seats x (seat_at c (line_of e)) h.rest.distinct i z (sym k) (sym j))
      (seat_or_none c (line_of e)) in
      let f : Follows c d x (put_by e a) (taken_by e a) = tale.own x i same in
      (f.puts, f.takes)
  got i false q =
      let f : Follows c d x [] [] = tale.other x i (λ z. true≢false (sym (ap (λ s. is_same s x) (sym z) ∙ same_self x) ∙ q)) in
      (f.puts, f.takes)

  pub step_gets : Gets x st.core (server_step config st e).state.core
      (put_to x st.core e (server_step config st e).answer)
      (took_from x st.core e (server_step config st e).answer)
  step_gets = record {
    more = tale.more;
    seats = tale.seats;
    old = λ i. got i (is_same (seat_at c (line_of e)) x) refl;
    new = λ i. (
        let u : Untouched (session_of d x) = untouched tale.more tale.new i in
        let n = no_items (away_before config.lines x c d tale.more tale.sound tale.seats i) in
        (u.put ∙ sym n.0, none_taken (session_of d x) u ∙ sym n.1));
    away = λ w. no_items (away_still x c d tale.more tale.seats w);
  }
    where
      untouched : (more : List Seat) → Each (IsNew d) more → IsSeat x more → Untouched (session_of d x)
      untouched [] n i = absurd i
      untouched (s ∷ ss) n i =
          ⊎_elim {C = Untouched (session_of d x)} (λ q. subst (λ z. Untouched (session_of d z)) (sym q) n.0.untouched) (λ q. untouched ss n.1 q) i
