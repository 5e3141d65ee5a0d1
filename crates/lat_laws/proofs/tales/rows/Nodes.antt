-- An event of the node: what it does with the rows keeps them.
use Rattle.std.proofs.Common.{◌≡◌, ◌≢◌, ℕ, ◌+◌, ◌<◌, ◌⊎◌, inl, inr, ⊎_elim, refl, sym, ap, ◌∙◌, subst, arith, Bool, true, false, cond, List, [], ◌∷◌, ◌++◌, length, drop, nat_eq, eqb-true, eq-eqb}
use Rattle.std.proofs.lemmas.Bool.{true≢false}
use Rattle.lat_model.specs.sessions.Slots.{Item}
use Rattle.lat_model.specs.sessions.Session.{Session, blank}
use Rattle.lat_model.specs.Lists.{Each}
use Rattle.lat_machines.specs.values.Events.{Event}
use Rattle.lat_machines.specs.values.Answers.{Answer}
use Rattle.lat_machines.specs.cores.Cores.{Seat, no_seat, Core}
use Rattle.lat_machines.specs.cores.Lines.{session_of, last_on, seat_at}
use Rattle.lat_machines.specs.node.Node.{node_step}
use Rattle.lat_machines.specs.world.Machines.{Setups, Machines, tell}
use Rattle.lat_machines.specs.world.Reports.{is_partner, partner_in, partner}
use Rattle.lat_laws.specs.rounds.Seated.{IsSeat}
use Rattle.lat_laws.proofs.rounds.ready.Seats.{last_more}
use Rattle.lat_laws.specs.tales.Items.{taken_of, line_of, put_by, taken_by}
use Rattle.lat_laws.specs.tales.Mates.{mate_in, mate, mate_by_ids}
use Rattle.lat_laws.specs.tales.Rows.{Figures, figures_of, RowAfter, RowsAfter, KeepsRow, Pairs, KeepsRows, newest_place}
use Rattle.lat_laws.specs.tales.Keeping.{change, with_items, adds, accepts, accepts_all, new_seats, rows_at}
use Rattle.lat_laws.proofs.tales.steps.Goes.{Untouched}
use Rattle.lat_laws.proofs.tales.seats.Sound.{Distinct, Sound, IsNew, IsFirst, seat_before, seat_behind}
use Rattle.lat_laws.proofs.tales.seats.Follows.{Follows}
use Rattle.lat_laws.proofs.tales.seats.Calls.{seat_or_none}
use Rattle.lat_laws.proofs.tales.seats.Told.{Tale, node_tale}
use Rattle.lat_laws.proofs.tales.mates.Reach.{Reach}
use Rattle.lat_laws.proofs.tales.mates.Partners.{mates_of, mates_are, one_server, one_node, none_partner}
use Rattle.lat_laws.proofs.tales.mates.Places.{IsAt, at_seat, at_above, one_seat, mate_at, mate_none, MateFound, mate_found, partner_none, partner_is, PartnerFound, partner_found, newest_at}
use Rattle.lat_laws.proofs.tales.mates.Matched.{HasMate, Homed, node_stays, new_mate, mate_found_by_ids}
use Rattle.lat_laws.proofs.tales.rows.Pairs.{pairs_each, Changed, pairs_change}
use Rattle.lat_laws.proofs.tales.rows.By.{RowBy, by_row, append_nil, line_some, is_newest, none_on_zero, older_over, none_taken, distinct_front, distinct_apart, append_one, drop_front, updated_line}

partner_more : (u : Setups) (w : Machines) (s t : Seat) (xs : List Seat) → is_partner u w s t ≡ false → partner_in u w s (xs ++ t ∷ []) ≡ partner_in u w s xs
partner_more u w s t [] h = ap (λ b. cond b t no_seat) h
partner_more u w s t (x ∷ xs) h = ap (λ z. cond (is_partner u w s x) x z) (partner_more u w s t xs h)

module _ (u : Setups) (w : Machines) (e : Event) (rates : List ℕ) (r : Reach u w) (homed : Homed u w) (rx : Reach u (tell u w false e rates)) where
  abbrev x : Machines
  x = tell u w false e rates

  abbrev v : Core
  v = w.server.core

  abbrev c : Core
  c = w.node.core

  abbrev d : Core
  d = (node_step u.node rates w.node e).state.core

  abbrev a : Answer
  a = (node_step u.node rates w.node e).answer

  tale : Tale false u.node.lines w.node.core (node_step u.node rates w.node e).state.core e (node_step u.node rates w.node e).answer
  tale = node_tale u.node rates w.node e r.sound.node

  old_seat : (t : Seat) → IsSeat t c.seats → IsSeat t d.seats
  old_seat t i = subst (IsSeat t) (sym tale.seats) (seat_before t c.seats tale.more i)

  some_line : (t : Seat) → IsSeat t c.seats → t.line ≢ 0
  some_line t i = line_some u.node.lines t (r.sound.node.seated.placed t i).line

  follows : (t : Seat) → IsSeat t c.seats → (p : List Item) × (q : List Item) × Follows c d t p q
  follows t i = ⊎_elim {C = (p : List Item) × (q : List Item) × Follows c d t p q} (λ z. (put_by e a, taken_by e a, tale.own t i z)) (λ z. ([], [], tale.other t i z)) (is_newest (line_of e) c.seats t r.sound.node.rest.distinct (some_line t i) i)

  stay_partners : (s t : Seat) → IsSeat t c.seats → is_partner u w s t ≡ true → is_partner u x s t ≡ true
  stay_partners s t i q = (let f : (p : List Item) × (q : List Item) × Follows c d t p q = follows t i in mates_are u x s t (node_stays u w r s t i (mates_of u w s t q) f.0 f.1 e rates f.2))

  were_partners : (s t : Seat) → IsSeat s v.seats → IsSeat t c.seats → is_partner u x s t ≡ true → is_partner u w s t ≡ true
  were_partners s t i j q =
      let f : (p : List Item) × (q : List Item) × Follows c d t p q = follows t j in
      let h : HasMate u w t = homed t j (sym f.2.address ∙ (mates_of u x s t q).node_address) in
      let z : s ≡ h.seat = one_server u x rx h.seat s t h.is_seat i (old_seat t j) (stay_partners h.seat t j h.partner) q in
      ap (λ y. is_partner u w y t) z ∙ h.partner

  mate_same : (t : Seat) → (t ≡ no_seat) ⊎ IsSeat t c.seats → mate u x t ≡ mate u w t
  mate_same t (inl z) = mate_none u x t 0 v.seats (λ y j. ap (is_partner u x y) z ∙ none_partner u x rx y) ∙ sym (mate_none u w t 0 v.seats (λ y j. ap (is_partner u w y) z ∙ none_partner u w r y))
  mate_same t (inr i) = ⊎_elim {C = mate u x t ≡ mate u w t} none some (mate_found u w t 0 v.seats)
    where
      none : (mate_in u w t 0 v.seats ≡ 0) × ((y : Seat) → IsSeat y v.seats → is_partner u w y t ≡ false) → mate u x t ≡ mate u w t
      none z = mate_none u x t 0 v.seats (λ y j. still y j (is_partner u x y t) refl) ∙ sym z.0
        where
          still : (y : Seat) → IsSeat y v.seats → (b : Bool) → is_partner u x y t ≡ b → is_partner u x y t ≡ false
          still y j true q = absurd (true≢false (sym (were_partners y t j i q) ∙ z.1 y j))
          still y j false q = q

      some : MateFound u w t 0 v.seats → mate u x t ≡ mate u w t
      some z =
          let p : is_partner u x z.seat t ≡ true = stay_partners z.seat t i z.partner in
          mate_at u x t z.seat (mate u w t) 0 v.seats r.sound.server.rest.distinct z.at p (λ y j q. one_server u x rx z.seat y t (at_seat z.seat (mate u w t) 0 v.seats z.at) j (old_seat t i) p q)

  partner_same : (s : Seat) → IsSeat s v.seats → partner_in u x s c.seats ≡ partner u w s
  partner_same s i = ⊎_elim {C = partner_in u x s c.seats ≡ partner u w s} none some (partner_found u w s c.seats)
    where
      none : (partner_in u w s c.seats ≡ no_seat) × ((t : Seat) → IsSeat t c.seats → is_partner u w s t ≡ false) → partner_in u x s c.seats ≡ partner u w s
      none z = partner_none u x s c.seats (λ t j. still t j (is_partner u x s t) refl) ∙ sym z.0
        where
          still : (t : Seat) → IsSeat t c.seats → (b : Bool) → is_partner u x s t ≡ b → is_partner u x s t ≡ false
          still t j true q = absurd (true≢false (sym (were_partners s t i j q) ∙ z.1 t j))
          still t j false q = q

      some : PartnerFound u w s c.seats → partner_in u x s c.seats ≡ partner u w s
      some z =
          let p : is_partner u x s (partner u w s) ≡ true = stay_partners s (partner u w s) z.is_seat z.partner in
          partner_is u x s (partner u w s) c.seats z.is_seat p (λ y j q. one_node u x rx s (partner u w s) y (old_seat (partner u w s) z.is_seat) (old_seat y j) p q)

  -- a session whose mate stands at a place is the partner of that one
  partner_there : (s t : Seat) (j : ℕ) (xs : List Seat) → IsSeat t xs → ((y : Seat) → IsSeat y xs → IsSeat y d.seats) → IsAt s j 0 v.seats → j ≡ mate u x t → partner_in u x s xs ≡ t
  partner_there s t j xs i h at q = ⊎_elim {C = partner_in u x s xs ≡ t}
      (λ z. absurd (let l : 0 < j = at_above s j 0 v.seats at in omega (arith, l, q, z.0)))
      (λ z. there z (one_seat s z.seat j 0 v.seats at (subst (λ y. IsAt z.seat y 0 v.seats) (sym q) z.at)))
      (mate_found u x t 0 v.seats)
    where
      there : (z : MateFound u x t 0 v.seats) → s ≡ z.seat → partner_in u x s xs ≡ t
      there z y =
          let p : is_partner u x s t ≡ true = ap (λ g. is_partner u x g t) y ∙ z.partner in
          partner_is u x s t xs i p (λ g k o. one_node u x rx s t g (h t i) (h g k) p o)

  mate_there : (s t : Seat) (j : ℕ) → IsAt s j 0 v.seats → IsSeat t d.seats → is_partner u x s t ≡ true → j ≡ mate u x t
  mate_there s t j at i p = sym (mate_at u x t s j 0 v.seats r.sound.server.rest.distinct at p (λ y k q. one_server u x rx s y t (at_seat s j 0 v.seats at) k i p q))

  none_untouched : (core : Core) → Sound false u.node.lines core → Untouched (session_of core no_seat)
  none_untouched core h = (let z : session_of core no_seat ≡ blank = (h.rest.good 0).none in record { put = ap (λ (y : Session). y.put) z; taken = ap (λ (y : Session). y.taken) z })

  -- What is kept beside the sessions `xs` of the node
  record Beside (xs : List Seat) (k : RowsAfter) : Type 0 where
    pub rows : Pairs (λ s y. RowBy u x (seat_at v) (λ line. last_on line no_seat xs) (partner_in u x s xs) s y) v.seats k.rows
    pub server_lines : (line : ℕ) → k.server_lines line ≡ newest_place line 0 0 v.seats
    pub node_lines : (line : ℕ) → k.node_lines line ≡ mate u x (last_on line no_seat xs)

  -- the items of the event

  row_adds : (s t : Seat) (y : RowAfter) (p q : List Item) → partner u w s ≡ t → IsSeat t c.seats → Follows c d t p q → KeepsRow u w s y → RowBy u x (seat_at v) (seat_at c) t s (with_items false p q y)
  row_adds s t y p q z i f k = record {
    line = k.line;
    circuit = k.circuit;
    id = k.id;
    node_line = k.node_line ∙ ap (λ (g : Seat). g.line) z;
    put_up = k.put_up;
    taken_up = ap (λ g. g ++ q) (k.taken_up ∙ ap (λ g. taken_of (session_of c g)) z) ∙ sym f.takes;
    put_down = ap (λ g. g ++ p) (k.put_down ∙ ap (λ g. (session_of c g).put) z) ∙ sym f.puts;
    taken_down = k.taken_down;
    server = k.server;
    node = λ h. k.node (λ g. h (ap (λ (y : Seat). seat_at c y.line) (sym z) ∙ (g ∙ z))) ∙ (ap (figures_of c) z ∙ sym (f.final (older_over false u.node.lines c t r.sound.node i h)).1);
  }

  row_same : (s t : Seat) (y : RowAfter) → partner u w s ≡ t → IsSeat t c.seats → Follows c d t [] [] → KeepsRow u w s y → RowBy u x (seat_at v) (seat_at c) t s y
  row_same s t y z i f k = record {
    line = k.line;
    circuit = k.circuit;
    id = k.id;
    node_line = k.node_line ∙ ap (λ (g : Seat). g.line) z;
    put_up = k.put_up;
    taken_up = k.taken_up ∙ (ap (λ g. taken_of (session_of c g)) z ∙ (sym (append_nil (taken_of (session_of c t))) ∙ sym f.takes));
    put_down = k.put_down ∙ (ap (λ g. (session_of c g).put) z ∙ (sym (append_nil (session_of c t).put) ∙ sym f.puts));
    taken_down = k.taken_down;
    server = k.server;
    node = λ h. k.node (λ g. h (ap (λ (y : Seat). seat_at c y.line) (sym z) ∙ (g ∙ z))) ∙ (ap (figures_of c) z ∙ sym (f.final (older_over false u.node.lines c t r.sound.node i h)).1);
  }

  row_none : (s : Seat) (y : RowAfter) → partner u w s ≡ no_seat → KeepsRow u w s y → RowBy u x (seat_at v) (seat_at c) no_seat s y
  row_none s y z k = record {
    line = k.line;
    circuit = k.circuit;
    id = k.id;
    node_line = k.node_line ∙ ap (λ (g : Seat). g.line) z;
    put_up = k.put_up;
    taken_up = k.taken_up ∙ (ap (λ g. taken_of (session_of c g)) z ∙ (none_taken (session_of c no_seat) (none_untouched c r.sound.node) ∙ sym (none_taken (session_of d no_seat) (none_untouched d rx.sound.node))));
    put_down = k.put_down ∙ (ap (λ g. (session_of c g).put) z ∙ ((none_untouched c r.sound.node).put ∙ sym (none_untouched d rx.sound.node).put));
    taken_down = k.taken_down;
    server = k.server;
    node = λ h. absurd (h (none_on_zero false u.node.lines c r.sound.node));
  }

  added : (k : RowsAfter) → KeepsRows u w k → Beside c.seats (adds false (line_of e) (put_by e a) (taken_by e a) k)
  added k h = record {
    rows = pairs_change (KeepsRow u w) (λ s y. RowBy u x (seat_at v) (seat_at c) (partner_in u x s c.seats) s y) (with_items false (put_by e a) (taken_by e a)) (k.node_lines (line_of e)) 0 v.seats k.rows at h.rows;
    server_lines = h.server_lines;
    node_lines = λ line. h.node_lines line ∙ sym (mate_same (seat_at c line) (seat_or_none c line));
  }
    where
      t0 : Seat
      t0 = seat_at c (line_of e)

      own_mate : mate u x t0 ≡ mate u w t0
      own_mate = mate_same t0 (seat_or_none c (line_of e))

      at : (s : Seat) (y : RowAfter) (j : ℕ) → IsAt s j 0 v.seats → KeepsRow u w s y → Changed (λ s y. RowBy u x (seat_at v) (seat_at c) (partner_in u x s c.seats) s y) s y (with_items false (put_by e a) (taken_by e a)) j (0 + k.node_lines (line_of e))
      at s y j i q = record { here = λ z. here (place z) (seat_or_none c (line_of e)); else = λ z. other z (partner_found u w s c.seats) }
        where
          is : IsSeat s v.seats
          is = at_seat s j 0 v.seats i

          place : j ≡ 0 + k.node_lines (line_of e) → j ≡ mate u x t0
          place z = omega (arith, z, h.node_lines (line_of e), own_mate)

          here : j ≡ mate u x t0 → (t0 ≡ no_seat) ⊎ IsSeat t0 c.seats → RowBy u x (seat_at v) (seat_at c) (partner_in u x s c.seats) s (with_items false (put_by e a) (taken_by e a) y)
          here z (inl g) = absurd (let l : 0 < j = at_above s j 0 v.seats i in let m : mate u x t0 ≡ 0 = mate_none u x t0 0 v.seats (λ b o. ap (is_partner u x b) g ∙ none_partner u x rx b) in omega (arith, l, z, m))
          here z (inr g) =
              let p : partner_in u x s c.seats ≡ t0 = partner_there s t0 j c.seats g old_seat i z in
              subst (λ b. RowBy u x (seat_at v) (seat_at c) b s (with_items false (put_by e a) (taken_by e a) y)) (sym p) (row_adds s t0 y (put_by e a) (taken_by e a) (sym (partner_same s is) ∙ p) g (tale.own t0 g refl) q)

          other : (j ≡ 0 + k.node_lines (line_of e) → ⊥) → ((partner_in u w s c.seats ≡ no_seat) × ((t : Seat) → IsSeat t c.seats → is_partner u w s t ≡ false)) ⊎ PartnerFound u w s c.seats → RowBy u x (seat_at v) (seat_at c) (partner_in u x s c.seats) s y
          other z (inl g) = subst (λ b. RowBy u x (seat_at v) (seat_at c) b s y) (sym (partner_same s is ∙ g.0)) (row_none s y g.0 q)
          other z (inr g) = subst (λ b. RowBy u x (seat_at v) (seat_at c) b s y) (sym (partner_same s is)) (row_same s (partner u w s) y refl g.is_seat (tale.other (partner u w s) g.is_seat not_own) q)
            where
              not_own : partner u w s ≡ t0 → ⊥
              not_own b = z (let m : j ≡ mate u x t0 = mate_there s t0 j i (subst (λ o. IsSeat o d.seats) b (old_seat (partner u w s) g.is_seat)) (ap (is_partner u x s) (sym b) ∙ stay_partners s (partner u w s) g.is_seat g.partner) in omega (arith, m, h.node_lines (line_of e), own_mate))

  -- the new sessions

  accepted : (xs : List Seat) (t : Seat) (k : RowsAfter) → Distinct (xs ++ t ∷ []) → ((y : Seat) → IsSeat y (xs ++ t ∷ []) → IsSeat y d.seats) → IsNew d t → IsFirst (session_of d t) → Beside xs k → Beside (xs ++ t ∷ []) (accepts t.line (mate_by_ids u x t) (figures_of d (last_on t.line no_seat xs)) k)
  accepted xs t k ds all new first b = record {
    rows = pairs_change Middle (λ s y. RowBy u x (seat_at v) (λ line. last_on line no_seat (xs ++ t ∷ [])) (partner_in u x s (xs ++ t ∷ [])) s y) (λ y. record y { node_line = t.line }) m 0 v.seats (change (k.node_lines t.line) (λ y. record y { node = f }) k.rows) joined (pairs_change (λ s y. RowBy u x (seat_at v) (λ line. last_on line no_seat xs) (partner_in u x s xs) s y) Middle (λ y. record y { node = f }) (k.node_lines t.line) 0 v.seats k.rows left b.rows);
    server_lines = b.server_lines;
    node_lines = λ line. updated_line k.node_lines t.line m line ∙ (lines line (nat_eq t.line line) ∙ ap (mate u x) (sym (newest_is line)));
  }
    where
      f : Figures
      f = figures_of d (last_on t.line no_seat xs)

      m : ℕ
      m = mate_by_ids u x t

      t_in : IsSeat t (xs ++ t ∷ [])
      t_in = seat_behind t xs (t ∷ []) (inl refl)

      before : (y : Seat) → IsSeat y xs → IsSeat y d.seats
      before y i = all y (seat_before y xs (t ∷ []) i)

      t_seat : IsSeat t d.seats
      t_seat = all t t_in

      m_is : mate u x t ≡ m
      m_is = mate_found_by_ids u x rx t t_seat new first

      t_line : t.line ≢ 0
      t_line = line_some u.node.lines t (rx.sound.node.seated.placed t t_seat).line

      newest_is : (line : ℕ) → last_on line no_seat (xs ++ t ∷ []) ≡ cond (nat_eq t.line line) t (last_on line no_seat xs)
      newest_is line = last_more line no_seat xs t

      lines : (line : ℕ) (g : Bool) → cond g m (k.node_lines line) ≡ mate u x (cond g t (last_on line no_seat xs))
      lines line true = sym m_is
      lines line false = b.node_lines line

      Middle : Seat → RowAfter → Type 0
      Middle s y = RowBy u x (seat_at v) (λ line. last_on line no_seat (xs ++ t ∷ [])) (partner_in u x s xs) s y

      -- the line's session before leaves its figures
      left : (s : Seat) (y : RowAfter) (j : ℕ) → IsAt s j 0 v.seats → RowBy u x (seat_at v) (λ line. last_on line no_seat xs) (partner_in u x s xs) s y → Changed Middle s y (λ y. record y { node = f }) j (0 + k.node_lines t.line)
      left s y j i q = record {
        here = λ z. record { line = q.line; circuit = q.circuit; id = q.id; node_line = q.node_line; put_up = q.put_up; taken_up = q.taken_up; put_down = q.put_down; taken_down = q.taken_down; server = q.server; node = λ o. ap (figures_of d) (sym (was (place z))) };
        else = λ z. record { line = q.line; circuit = q.circuit; id = q.id; node_line = q.node_line; put_up = q.put_up; taken_up = q.taken_up; put_down = q.put_down; taken_down = q.taken_down; server = q.server; node = λ o. q.node (λ g. older z o g (partner_found u x s xs) (nat_eq t.line (partner_in u x s xs).line) refl) };
      }
        where
          t1 : Seat
          t1 = last_on t.line no_seat xs

          place : j ≡ 0 + k.node_lines t.line → j ≡ mate u x t1
          place z = omega (arith, z, b.node_lines t.line)

          t1_in : j ≡ mate u x t1 → IsSeat t1 xs
          t1_in z = ⊎_elim {C = IsSeat t1 xs}
              (λ g. absurd (let l : 0 < j = at_above s j 0 v.seats i in let o : mate u x t1 ≡ 0 = mate_none u x t1 0 v.seats (λ c p. ap (is_partner u x c) g.1 ∙ none_partner u x rx c) in omega (arith, l, z, o)))
              (λ g. at_seat t1 (newest_place t.line 0 0 xs) 0 xs g.0)
              (newest_at t.line 0 0 no_seat xs)

          was : j ≡ mate u x t1 → partner_in u x s xs ≡ t1
          was z = partner_there s t1 j xs (t1_in z) before i z

          older : (j ≡ 0 + k.node_lines t.line → ⊥) → (last_on (partner_in u x s xs).line no_seat (xs ++ t ∷ []) ≡ partner_in u x s xs → ⊥) → last_on (partner_in u x s xs).line no_seat xs ≡ partner_in u x s xs → ((partner_in u x s xs ≡ no_seat) × ((y : Seat) → IsSeat y xs → is_partner u x s y ≡ false)) ⊎ PartnerFound u x s xs → (c : Bool) → nat_eq t.line (partner_in u x s xs).line ≡ c → ⊥
          older z o g h false n = o (newest_is (partner_in u x s xs).line ∙ (ap (λ c. cond c t (last_on (partner_in u x s xs).line no_seat xs)) n ∙ g))
          older z o g (inl h) true n = t_line (eqb-true t.line (partner_in u x s xs).line n ∙ ap (λ (y : Seat). y.line) h.0)
          older z o g (inr h) true n =
              let same : partner_in u x s xs ≡ t1 = sym g ∙ ap (λ c. last_on c no_seat xs) (sym (eqb-true t.line (partner_in u x s xs).line n)) in
              z (let l : j ≡ mate u x t1 = mate_there s t1 j i (subst (λ y. IsSeat y d.seats) same (before (partner_in u x s xs) h.is_seat)) (ap (is_partner u x s) (sym same) ∙ h.partner) in omega (arith, l, b.node_lines t.line))

      -- and the new one finds its row
      joined : (s : Seat) (y : RowAfter) (j : ℕ) → IsAt s j 0 v.seats → Middle s y → Changed (λ s y. RowBy u x (seat_at v) (λ line. last_on line no_seat (xs ++ t ∷ [])) (partner_in u x s (xs ++ t ∷ [])) s y) s y (λ y. record y { node_line = t.line }) j (0 + m)
      joined s y j i q = record { here = λ z. here (omega (arith, z, m_is)); else = λ z. other (is_partner u x s t) refl (λ p. z (let l : j ≡ mate u x t = mate_there s t j i t_seat p in omega (arith, l, m_is))) }
        where
          here : j ≡ mate u x t → RowBy u x (seat_at v) (λ line. last_on line no_seat (xs ++ t ∷ [])) (partner_in u x s (xs ++ t ∷ [])) s (record y { node_line = t.line })
          here z = subst (λ c. RowBy u x (seat_at v) (λ line. last_on line no_seat (xs ++ t ∷ [])) c s (record y { node_line = t.line })) (sym p) (record {
            line = q.line;
            circuit = q.circuit;
            id = q.id;
            node_line = refl;
            put_up = q.put_up;
            taken_up = q.taken_up ∙ (ap (λ g. taken_of (session_of d g)) none ∙ (none_taken (session_of d no_seat) (none_untouched d rx.sound.node) ∙ sym (none_taken (session_of d t) new.untouched)));
            put_down = q.put_down ∙ (ap (λ g. (session_of d g).put) none ∙ ((none_untouched d rx.sound.node).put ∙ sym new.untouched.put));
            taken_down = q.taken_down;
            server = q.server;
            node = λ o. absurd (o (newest_is t.line ∙ ap (λ c. cond c t (last_on t.line no_seat xs)) (eq-eqb t.line t.line refl)));
          })
            where
              p : partner_in u x s (xs ++ t ∷ []) ≡ t
              p = partner_there s t j (xs ++ t ∷ []) t_in all i z

              none : partner_in u x s xs ≡ no_seat
              none = ⊎_elim {C = partner_in u x s xs ≡ no_seat} (λ g. g.0) (λ g. absurd (twice g)) (partner_found u x s xs)
                where
                  twice : PartnerFound u x s xs → ⊥
                  twice g =
                      let mine : is_partner u x s t ≡ true = ap (is_partner u x s) (sym p) ∙ found in
                      let same : t ≡ partner_in u x s xs = one_node u x rx s (partner_in u x s xs) t (before (partner_in u x s xs) g.is_seat) t_seat g.partner mine in
                      distinct_apart xs (t ∷ []) (partner_in u x s xs) t ds g.is_seat (inl refl) (ap (λ (y : Seat). y.circuit) (sym same)) (ap (λ (y : Seat). y.serial) (sym same))
                    where
                      found : is_partner u x s (partner_in u x s (xs ++ t ∷ [])) ≡ true
                      found = ⊎_elim {C = is_partner u x s (partner_in u x s (xs ++ t ∷ [])) ≡ true} (λ h. absurd (t_line (ap (λ (y : Seat). y.line) (sym p ∙ h.0)))) (λ h. h.partner) (partner_found u x s (xs ++ t ∷ []))

          other : (c : Bool) → is_partner u x s t ≡ c → (is_partner u x s t ≡ true → ⊥) → RowBy u x (seat_at v) (λ line. last_on line no_seat (xs ++ t ∷ [])) (partner_in u x s (xs ++ t ∷ [])) s y
          other true p n = absurd (n p)
          other false p n = subst (λ c. RowBy u x (seat_at v) (λ line. last_on line no_seat (xs ++ t ∷ [])) c s y) (sym (partner_more u x s t xs p)) q

  accepted_all : (xs ts : List Seat) (k : RowsAfter) → d.seats ≡ xs ++ ts → Each (IsNew d) ts → Each (λ t. IsFirst (session_of d t)) ts → Beside xs k → Beside d.seats (accepts_all u x xs ts k)
  accepted_all xs [] k q new first b = subst (λ z. Beside z k) (sym (q ∙ append_nil xs)) b
  accepted_all xs (t ∷ ts) k q new first b =
      let q2 : d.seats ≡ (xs ++ t ∷ []) ++ ts = q ∙ append_one xs ts t in
      accepted_all (xs ++ t ∷ []) ts (accepts t.line (mate_by_ids u x t) (figures_of d (last_on t.line no_seat xs)) k) q2 new.1 first.1
      (accepted xs t k (distinct_front (xs ++ t ∷ []) ts (subst Distinct q2 rx.sound.node.rest.distinct)) (λ y i. subst (IsSeat y) (sym q2) (seat_before y (xs ++ t ∷ []) ts i)) new.0 first.0 b)

  pub node_keeps : (k : RowsAfter) → KeepsRows u w k → KeepsRows u (tell u w false e rates) (rows_at u w false e rates k)
  node_keeps k h = record {
    rows = pairs_each (λ s y. RowBy u x (seat_at v) (seat_at d) (partner u x s) s y) (KeepsRow u x) 0 v.seats kept.rows (λ s y j i q. by_row u x s y q) b.rows;
    server_lines = b.server_lines;
    node_lines = b.node_lines;
  }
    where
      news : new_seats c d ≡ tale.more
      news = ap (drop (length c.seats)) tale.seats ∙ drop_front c.seats tale.more

      kept : RowsAfter
      kept = accepts_all u x c.seats (new_seats c d) (adds false (line_of e) (put_by e a) (taken_by e a) k)

      b : Beside d.seats (accepts_all u x c.seats (new_seats c d) (adds false (line_of e) (put_by e a) (taken_by e a) k))
      b = accepted_all c.seats (new_seats c d) (adds false (line_of e) (put_by e a) (taken_by e a) k) (tale.seats ∙ ap (λ z. c.seats ++ z) (sym news)) (subst (Each (IsNew d)) (sym news) tale.new) (subst (Each (λ t. IsFirst (session_of d t))) (sym news) (tale.first refl)) (added k h)

  in_each : (t : Seat) (ts : List Seat) → Each (IsNew d) ts → Each (λ t. IsFirst (session_of d t)) ts → IsSeat t ts → IsNew d t × IsFirst (session_of d t)
  in_each t [] p q i = absurd i
  in_each t (y ∷ ys) p q i = ⊎_elim {C = IsNew d t × IsFirst (session_of d t)} (λ z. (subst (IsNew d) (sym z) p.0, subst (λ g. IsFirst (session_of d g)) (sym z) q.0)) (λ z. in_each t ys p.1 q.1 z) i

  seat_either : (t : Seat) (xs ys : List Seat) → IsSeat t (xs ++ ys) → IsSeat t xs ⊎ IsSeat t ys
  seat_either t [] ys i = inr i
  seat_either t (y ∷ xs) ys i = ⊎_elim {C = IsSeat t (y ∷ xs) ⊎ IsSeat t ys} (λ z. inl (inl z)) (λ z. ⊎_elim {C = IsSeat t (y ∷ xs) ⊎ IsSeat t ys} (λ g. inl (inr g)) (λ g. inr g) (seat_either t xs ys z)) i

  pub node_homed : Homed u (tell u w false e rates)
  node_homed t i q = ⊎_elim {C = HasMate u x t} old fresh (seat_either t c.seats tale.more (subst (IsSeat t) tale.seats i))
    where
      old : IsSeat t c.seats → HasMate u x t
      old j =
          let f : (p : List Item) × (q : List Item) × Follows c d t p q = follows t j in
          let h : HasMate u w t = homed t j (sym f.2.address ∙ q) in
          record { seat = h.seat; is_seat = h.is_seat; partner = stay_partners h.seat t j h.partner }

      fresh : IsSeat t tale.more → HasMate u x t
      fresh j = (let n : IsNew d t × IsFirst (session_of d t) = in_each t tale.more tale.new (tale.first refl) j in new_mate u x rx t i n.0 n.1 q)
