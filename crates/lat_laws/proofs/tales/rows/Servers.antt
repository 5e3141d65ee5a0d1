-- An event of the server: what it does with the rows keeps them.
use Rattle.std.proofs.Common.{◌≡◌, ◌≢◌, ℕ, suc, ◌+◌, ◌<◌, ◌⊎◌, inl, inr, ⊎_elim, refl, sym, ap, ap₂, ◌∙◌, subst, arith, Bool, true, false, cond, List, [], ◌∷◌, ◌++◌, length, drop, nat_eq, eqb-true, eq-eqb}
use Rattle.std.proofs.lemmas.Bool.{true≢false}
use Rattle.lat_model.specs.sessions.Slots.{Item}
use Rattle.lat_model.specs.sessions.Session.{Session, blank}
use Rattle.lat_model.specs.Lists.{Each}
use Rattle.lat_machines.specs.values.Events.{Event}
use Rattle.lat_machines.specs.values.Answers.{Answer}
use Rattle.lat_machines.specs.cores.Cores.{Seat, no_seat, Core}
use Rattle.lat_machines.specs.cores.Lines.{session_of, last_on, seat_at}
use Rattle.lat_machines.specs.server.Server.{server_step}
use Rattle.lat_machines.specs.world.Machines.{Setups, Machines, tell}
use Rattle.lat_machines.specs.world.Reports.{is_partner, partner_in, partner}
use Rattle.lat_laws.specs.rounds.Seated.{IsSeat}
use Rattle.lat_laws.proofs.rounds.ready.Seats.{last_more}
use Rattle.lat_laws.specs.tales.Items.{taken_of, line_of, put_by, taken_by}
use Rattle.lat_laws.specs.tales.Mates.{mate_in, mate}
use Rattle.lat_laws.specs.tales.Rows.{Figures, figures_of, RowAfter, RowsAfter, KeepsRow, Pairs, KeepsRows, newest_place}
use Rattle.lat_laws.specs.tales.Keeping.{change, with_items, adds, new_row, connects, connects_all, new_seats, rows_at}
use Rattle.lat_laws.proofs.tales.steps.Goes.{Untouched}
use Rattle.lat_laws.proofs.tales.seats.Sound.{Apart, Distinct, IsNew, seat_before, seat_behind}
use Rattle.lat_laws.proofs.tales.seats.Follows.{Follows}
use Rattle.lat_laws.proofs.tales.seats.Calls.{seat_or_none}
use Rattle.lat_laws.proofs.tales.seats.Told.{Tale, server_tale}
use Rattle.lat_laws.proofs.tales.mates.Reach.{Reach}
use Rattle.lat_laws.proofs.tales.mates.Partners.{Mates, mates_of, mates_are, one_server, one_node, none_partner}
use Rattle.lat_laws.proofs.tales.mates.Places.{IsAt, at_seat, at_front, mate_at, mate_none, MateFound, mate_found, partner_none, partner_is, PartnerFound, partner_found, newest_more}
use Rattle.lat_laws.proofs.tales.mates.Matched.{HasMate, Homed, server_stays}
use Rattle.lat_laws.proofs.tales.rows.Pairs.{pairs_each, Changed, pairs_change, pairs_more, pairs_length}
use Rattle.lat_laws.proofs.tales.rows.By.{RowBy, by_row, append_nil, line_some, is_newest, none_on_zero, older_over, none_taken, newest_is_at, at_newest, distinct_front, distinct_apart, append_one, drop_front, updated_line}

module _ (u : Setups) (w : Machines) (e : Event) (rates : List ℕ) (pos : 0 < u.server.timing.sessions) (r : Reach u w) (homed : Homed u w) (rx : Reach u (tell u w true e rates)) where
  abbrev x : Machines
  x = tell u w true e rates

  abbrev c : Core
  c = w.server.core

  abbrev d : Core
  d = (server_step u.server w.server e).state.core

  abbrev n : Core
  n = w.node.core

  abbrev a : Answer
  a = (server_step u.server w.server e).answer

  tale : Tale true u.server.lines w.server.core (server_step u.server w.server e).state.core e (server_step u.server w.server e).answer
  tale = server_tale u.server w.server e pos r.sound.server

  old_seat : (s : Seat) → IsSeat s w.server.core.seats → IsSeat s (server_step u.server w.server e).state.core.seats
  old_seat s i = subst (IsSeat s) (sym tale.seats) (seat_before s c.seats tale.more i)

  some_line : (s : Seat) → IsSeat s c.seats → s.line ≢ 0
  some_line s i = line_some u.server.lines s (r.sound.server.seated.placed s i).line

  -- what the event left of a session
  follows : (s : Seat) → IsSeat s c.seats → (p : List Item) × (q : List Item) × Follows c d s p q
  follows s i = ⊎_elim {C = (p : List Item) × (q : List Item) × Follows c d s p q} (λ z. (put_by e a, taken_by e a, tale.own s i z)) (λ z. ([], [], tale.other s i z)) (is_newest (line_of e) c.seats s r.sound.server.rest.distinct (some_line s i) i)

  -- who belonged together does so
  stays : (s t : Seat) → IsSeat s c.seats → IsSeat t n.seats → Mates u w s t → Mates u x s t
  stays s t i j m = (let f : (p : List Item) × (q : List Item) × Follows c d s p q = follows s i in server_stays u w r s t j m f.0 f.1 e rates f.2)

  stay_partners : (s t : Seat) → IsSeat s c.seats → IsSeat t n.seats → is_partner u w s t ≡ true → is_partner u x s t ≡ true
  stay_partners s t i j q = mates_are u x s t (stays s t i j (mates_of u w s t q))

  -- who belongs together now, did so before, or the server's is new
  mate_before : (s t : Seat) → IsSeat t n.seats → is_partner u x s t ≡ true → HasMate u w t
  mate_before s t j q = homed t j (mates_of u x s t q).node_address

  were_partners : (s t : Seat) → IsSeat s d.seats → IsSeat t n.seats → is_partner u x s t ≡ true → IsSeat s c.seats × (is_partner u w s t ≡ true)
  were_partners s t i j q =
      let h : HasMate u w t = mate_before s t j q in
      let z : s ≡ h.seat = one_server u x rx h.seat s t (old_seat h.seat h.is_seat) i j (stay_partners h.seat t h.is_seat j h.partner) q in
      (subst (λ y. IsSeat y c.seats) (sym z) h.is_seat, ap (λ y. is_partner u w y t) z ∙ h.partner)

  partner_old : (s : Seat) → IsSeat s c.seats → partner u x s ≡ partner u w s
  partner_old s i = ⊎_elim {C = partner u x s ≡ partner u w s} none some (partner_found u w s n.seats)
    where
      none : (partner_in u w s n.seats ≡ no_seat) × ((t : Seat) → IsSeat t n.seats → is_partner u w s t ≡ false) → partner u x s ≡ partner u w s
      none z = partner_none u x s n.seats (λ t j. still t j (is_partner u x s t) refl) ∙ sym z.0
        where
          still : (t : Seat) → IsSeat t n.seats → (b : Bool) → is_partner u x s t ≡ b → is_partner u x s t ≡ false
          still t j true q = absurd (true≢false (sym (were_partners s t (old_seat s i) j q).1 ∙ z.1 t j))
          still t j false q = q

      some : PartnerFound u w s n.seats → partner u x s ≡ partner u w s
      some z =
          let p : is_partner u x s (partner u w s) ≡ true = stay_partners s (partner u w s) i z.is_seat z.partner in
          partner_is u x s (partner u w s) n.seats z.is_seat p (λ v j q. one_node u x rx s (partner u w s) v z.is_seat j p q)

  apart_self : (s : Seat) → Apart s s → ⊥
  apart_self s h = h refl refl

  partner_new : (s : Seat) → IsSeat s tale.more → partner u x s ≡ no_seat
  partner_new s i = partner_none u x s n.seats (λ t j. never t j (is_partner u x s t) refl)
    where
      never : (t : Seat) → IsSeat t n.seats → (b : Bool) → is_partner u x s t ≡ b → is_partner u x s t ≡ false
      never t j true q = absurd (apart_self s (distinct_apart c.seats tale.more s s (subst Distinct tale.seats rx.sound.server.rest.distinct) (were_partners s t (subst (IsSeat s) (sym tale.seats) (seat_behind s c.seats tale.more i)) j q).0 i))
      never t j false q = q

  mate_same : (t : Seat) → (t ≡ no_seat) ⊎ IsSeat t n.seats → mate u x t ≡ mate u w t
  mate_same t (inl z) = mate_none u x t 0 d.seats (λ v j. ap (is_partner u x v) z ∙ none_partner u x rx v) ∙ sym (mate_none u w t 0 c.seats (λ v j. ap (is_partner u w v) z ∙ none_partner u w r v))
  mate_same t (inr i) = ⊎_elim {C = mate u x t ≡ mate u w t} none some (mate_found u w t 0 c.seats)
    where
      none : (mate_in u w t 0 c.seats ≡ 0) × ((v : Seat) → IsSeat v c.seats → is_partner u w v t ≡ false) → mate u x t ≡ mate u w t
      none z = mate_none u x t 0 d.seats (λ v j. still v j (is_partner u x v t) refl) ∙ sym z.0
        where
          still : (v : Seat) → IsSeat v d.seats → (b : Bool) → is_partner u x v t ≡ b → is_partner u x v t ≡ false
          still v j true q = (let h : IsSeat v c.seats × (is_partner u w v t ≡ true) = were_partners v t j i q in absurd (true≢false (sym h.1 ∙ z.1 v h.0)))
          still v j false q = q

      some : MateFound u w t 0 c.seats → mate u x t ≡ mate u w t
      some z =
          let k : IsSeat z.seat c.seats = at_seat z.seat (mate u w t) 0 c.seats z.at in
          let p : is_partner u x z.seat t ≡ true = stay_partners z.seat t k i z.partner in
          mate_at u x t z.seat (mate u w t) 0 d.seats rx.sound.server.rest.distinct (subst (IsAt z.seat (mate u w t) 0) (sym tale.seats) (at_front z.seat (mate u w t) 0 c.seats tale.more z.at)) p (λ v j q. one_server u x rx z.seat v t (old_seat z.seat k) j i p q)

  -- the items of the event

  row_adds : (s : Seat) (v : RowAfter) (p q : List Item) → IsSeat s c.seats → Follows c d s p q → KeepsRow u w s v → RowBy u x (seat_at c) (seat_at n) (partner u x s) s (with_items true p q v)
  row_adds s v p q i f k = subst (λ t. RowBy u x (seat_at c) (seat_at n) t s (with_items true p q v)) (sym (partner_old s i)) (record {
    line = k.line;
    circuit = k.circuit;
    id = k.id;
    node_line = k.node_line;
    put_up = ap (λ z. z ++ p) k.put_up ∙ sym f.puts;
    taken_up = k.taken_up;
    put_down = k.put_down;
    taken_down = ap (λ z. z ++ q) k.taken_down ∙ sym f.takes;
    server = λ h. k.server h ∙ sym (f.final (older_over true u.server.lines c s r.sound.server i h)).1;
    node = k.node;
  })

  row_none : (s : Seat) (v : RowAfter) → IsSeat s c.seats → Follows c d s [] [] → KeepsRow u w s v → RowBy u x (seat_at c) (seat_at n) (partner u x s) s v
  row_none s v i f k = subst (λ t. RowBy u x (seat_at c) (seat_at n) t s v) (sym (partner_old s i)) (record {
    line = k.line;
    circuit = k.circuit;
    id = k.id;
    node_line = k.node_line;
    put_up = k.put_up ∙ (sym (append_nil (session_of c s).put) ∙ sym f.puts);
    taken_up = k.taken_up;
    put_down = k.put_down;
    taken_down = k.taken_down ∙ (sym (append_nil (taken_of (session_of c s))) ∙ sym f.takes);
    server = λ h. k.server h ∙ sym (f.final (older_over true u.server.lines c s r.sound.server i h)).1;
    node = k.node;
  })

  -- What is kept beside the sessions `xs` of the server
  record Beside (xs : List Seat) (k : RowsAfter) : Type 0 where
    pub rows : Pairs (λ s v. RowBy u x (λ line. last_on line no_seat xs) (seat_at n) (partner u x s) s v) xs k.rows
    pub server_lines : (line : ℕ) → k.server_lines line ≡ newest_place line 0 0 xs
    pub node_lines : (line : ℕ) → k.node_lines line ≡ mate u x (seat_at n line)

  added : (k : RowsAfter) → KeepsRows u w k → Beside c.seats (adds true (line_of e) (put_by e a) (taken_by e a) k)
  added k h = record {
    rows = pairs_change (KeepsRow u w) (λ s v. RowBy u x (seat_at c) (seat_at n) (partner u x s) s v) (with_items true (put_by e a) (taken_by e a)) (k.server_lines (line_of e)) 0 c.seats k.rows (λ s v j i q. at s v j i q) h.rows;
    server_lines = h.server_lines;
    node_lines = λ line. h.node_lines line ∙ sym (mate_same (seat_at n line) (seat_or_none n line));
  }
    where
      at : (s : Seat) (v : RowAfter) (j : ℕ) → IsAt s j 0 c.seats → KeepsRow u w s v → Changed (λ s v. RowBy u x (seat_at c) (seat_at n) (partner u x s) s v) s v (with_items true (put_by e a) (taken_by e a)) j (0 + k.server_lines (line_of e))
      at s v j i q = record {
        here = λ z. row_adds s v (put_by e a) (taken_by e a) (at_seat s j 0 c.seats i) (tale.own s (at_seat s j 0 c.seats i) (at_newest (line_of e) c.seats s j i (place z))) q;
        else = λ z. row_none s v (at_seat s j 0 c.seats i) (tale.other s (at_seat s j 0 c.seats i) (λ y. z (unplace (newest_is_at (line_of e) c.seats s j r.sound.server.rest.distinct (some_line s (at_seat s j 0 c.seats i)) i (sym y))))) q;
      }
        where
          place : j ≡ 0 + k.server_lines (line_of e) → j ≡ newest_place (line_of e) 0 0 c.seats
          place z = omega (arith, z, h.server_lines (line_of e))

          unplace : j ≡ newest_place (line_of e) 0 0 c.seats → j ≡ 0 + k.server_lines (line_of e)
          unplace z = omega (arith, z, h.server_lines (line_of e))

  -- the new sessions

  connected : (xs : List Seat) (s : Seat) (k : RowsAfter) → Distinct (xs ++ s ∷ []) → ((y : Seat) → IsSeat y xs → y.line ≢ 0) → IsNew d s → IsSeat s tale.more → Beside xs k → Beside (xs ++ s ∷ []) (connects s (figures_of d (last_on s.line no_seat xs)) k)
  connected xs s k ds lines new i b = record {
    rows = pairs_more (λ y v. RowBy u x (λ line. last_on line no_seat (xs ++ s ∷ [])) (seat_at n) (partner u x y) y v) xs (change (k.server_lines s.line) (λ v. record v { server = f }) k.rows) s (new_row s) (pairs_change (λ y v. RowBy u x (λ line. last_on line no_seat xs) (seat_at n) (partner u x y) y v) (λ y v. RowBy u x (λ line. last_on line no_seat (xs ++ s ∷ [])) (seat_at n) (partner u x y) y v) (λ v. record v { server = f }) (k.server_lines s.line) 0 xs k.rows at b.rows) fresh;
    server_lines = λ line. updated_line k.server_lines s.line (suc (length k.rows)) line ∙ (ap₂ (λ y z. cond (nat_eq s.line line) y z) (ap suc (pairs_length (λ y v. RowBy u x (λ line. last_on line no_seat xs) (seat_at n) (partner u x y) y v) xs k.rows b.rows)) (b.server_lines line) ∙ sym (newest_more line 0 0 xs s ∙ ap (λ z. cond (nat_eq s.line line) (suc z) (newest_place line 0 0 xs)) (plus (length xs))));
    node_lines = b.node_lines;
  }
    where
      f : Figures
      f = figures_of d (last_on s.line no_seat xs)

      plus : (n : ℕ) → 0 + n ≡ n
      plus n = omega arith

      d_xs : Distinct xs
      d_xs = distinct_front xs (s ∷ []) ds

      newest_is : (line : ℕ) → last_on line no_seat (xs ++ s ∷ []) ≡ cond (nat_eq s.line line) s (last_on line no_seat xs)
      newest_is line = last_more line no_seat xs s

      fresh : RowBy u x (λ line. last_on line no_seat (xs ++ s ∷ [])) (seat_at n) (partner u x s) s (new_row s)
      fresh = subst (λ t. RowBy u x (λ line. last_on line no_seat (xs ++ s ∷ [])) (seat_at n) t s (new_row s)) (sym (partner_new s i)) (record {
        line = refl;
        circuit = refl;
        id = refl;
        node_line = refl;
        put_up = sym new.untouched.put;
        taken_up = sym (none_taken (session_of n no_seat) untouched);
        put_down = sym untouched.put;
        taken_down = sym (none_taken (session_of d s) new.untouched);
        server = λ h. absurd (h (newest_is s.line ∙ ap (λ q. cond q s (last_on s.line no_seat xs)) (eq-eqb s.line s.line refl)));
        node = λ h. absurd (h (none_on_zero false u.node.lines n r.sound.node));
      })
        where
          untouched : Untouched (session_of n no_seat)
          untouched = (let z : session_of n no_seat ≡ blank = (r.sound.node.rest.good 0).none in record { put = ap (λ (y : Session). y.put) z; taken = ap (λ (y : Session). y.taken) z })

      at : (y : Seat) (v : RowAfter) (j : ℕ) → IsAt y j 0 xs → RowBy u x (λ line. last_on line no_seat xs) (seat_at n) (partner u x y) y v → Changed (λ y v. RowBy u x (λ line. last_on line no_seat (xs ++ s ∷ [])) (seat_at n) (partner u x y) y v) y v (λ v. record v { server = f }) j (0 + k.server_lines s.line)
      at y v j a q = record {
        here = λ z. (let h : y ≡ last_on s.line no_seat xs = at_newest s.line xs y j a (omega (arith, z, b.server_lines s.line)) in record { line = q.line; circuit = q.circuit; id = q.id; node_line = q.node_line; put_up = q.put_up; taken_up = q.taken_up; put_down = q.put_down; taken_down = q.taken_down; server = λ o. ap (figures_of d) (sym h); node = q.node });
        else = λ z. record { line = q.line; circuit = q.circuit; id = q.id; node_line = q.node_line; put_up = q.put_up; taken_up = q.taken_up; put_down = q.put_down; taken_down = q.taken_down; server = λ o. q.server (λ t. older z o t (nat_eq s.line y.line) refl); node = q.node };
      }
        where
          older : (j ≡ 0 + k.server_lines s.line → ⊥) → (last_on y.line no_seat (xs ++ s ∷ []) ≡ y → ⊥) → last_on y.line no_seat xs ≡ y → (c : Bool) → nat_eq s.line y.line ≡ c → ⊥
          older z o t false e = o (newest_is y.line ∙ (ap (λ g. cond g s (last_on y.line no_seat xs)) e ∙ t))
          older z o t true e = z (let l : j ≡ newest_place y.line 0 0 xs = newest_is_at y.line xs y j d_xs (lines y (at_seat y j 0 xs a)) a t in omega (arith, l ∙ ap (λ g. newest_place g 0 0 xs) (sym (eqb-true s.line y.line e)), b.server_lines s.line))

  connected_all : (xs ss : List Seat) (k : RowsAfter) → d.seats ≡ xs ++ ss → Each (IsNew d) ss → ((s : Seat) → IsSeat s ss → IsSeat s tale.more) → Beside xs k → Beside d.seats (connects_all d xs ss k)
  connected_all xs [] k q new i b = subst (λ z. Beside z k) (sym (q ∙ append_nil xs)) b
  connected_all xs (s ∷ ss) k q new i b =
      let q2 : d.seats ≡ (xs ++ s ∷ []) ++ ss = q ∙ append_one xs ss s in
      connected_all (xs ++ s ∷ []) ss (connects s (figures_of d (last_on s.line no_seat xs)) k) q2 new.1 (λ y j. i y (inr j))
      (connected xs s k (distinct_front (xs ++ s ∷ []) ss (subst Distinct q2 rx.sound.server.rest.distinct)) (λ y j. line_some u.server.lines y (rx.sound.server.seated.placed y (subst (IsSeat y) (sym q) (seat_before y xs (s ∷ ss) j))).line) new.0 (i s (inl refl)) b)

  pub server_keeps : (k : RowsAfter) → KeepsRows u w k → KeepsRows u (tell u w true e rates) (rows_at u w true e rates k)
  server_keeps k h = record {
    rows = pairs_each (λ s v. RowBy u x (seat_at d) (seat_at n) (partner u x s) s v) (KeepsRow u x) 0 d.seats kept.rows (λ s v j i q. by_row u x s v q) b.rows;
    server_lines = b.server_lines;
    node_lines = b.node_lines;
  }
    where
      news : new_seats c d ≡ tale.more
      news = ap (drop (length c.seats)) tale.seats ∙ drop_front c.seats tale.more

      kept : RowsAfter
      kept = connects_all d c.seats (new_seats c d) (adds true (line_of e) (put_by e a) (taken_by e a) k)

      b : Beside d.seats (connects_all d c.seats (new_seats c d) (adds true (line_of e) (put_by e a) (taken_by e a) k))
      b = connected_all c.seats (new_seats c d) (adds true (line_of e) (put_by e a) (taken_by e a) k) (tale.seats ∙ ap (λ z. c.seats ++ z) (sym news)) (subst (Each (IsNew d)) (sym news) tale.new) (λ s i. subst (IsSeat s) news i) (added k h)

  pub server_homed : Homed u (tell u w true e rates)
  server_homed t i q = (let h : HasMate u w t = homed t i q in record { seat = h.seat; is_seat = old_seat h.seat h.is_seat; partner = stay_partners h.seat t h.is_seat i h.partner })
