-- A line that has no session has one from now on.
use Rattle.std.proofs.Common.{◌≡◌, ◌≢◌, ℕ, suc, ◌+◌, Bool, true, false, not, cond, ◌&&◌, ◌||◌, nat_le, nat_eq, eq-eqb, eqb-true, List, [], ◌∷◌, ◌++◌, append_assoc, length, length-append, map, filter, find, Option, Some, None, refl, sym, ap, ap₂, subst, ◌∙◌, arith}
use Rattle.std.specs.Option.{option_map, is_some}
use Rattle.std.proofs.lemmas.Bool.{true≢false, not-false, eqb-false, or_parts, or_from}
use Rattle.std.proofs.lemmas.List.{map-append}
use Rattle.std.proofs.lemmas.Option.{none-some}
use Rattle.lat_model.specs.Lists.{Each}
use Rattle.lat_base.specs.declared.book.LineSession as base
use Rattle.lat_model.specs.sessions.Slots.{items, credits, costs}
use Rattle.lat_model.specs.sessions.Session.{Session, free, rejected, stopped, peer}
use Rattle.lat_model.specs.sessions.Sessions.{named}
use Rattle.lat_model.specs.ends.End.{lives}
use Rattle.lat_model.specs.circuits.Ids.{is_drawn}
use Rattle.lat_queue.specs.Histories.{some_key}
use Rattle.lat_queue.specs.declared.key.Key.{Key}
use Rattle.lat_machines.specs.values.Keys as keys
use Rattle.lat_machines.specs.cores.Cores.{Seat, no_seat, Core}
use Rattle.lat_machines.specs.cores.Lines.{end_of, sessions_of, session_of, over, last_on, seat_at, has_session, saturated_count}
use Rattle.lat_machines.specs.cores.Books.{SessionEnd, EndedClosed, EndedRejected, EndedCircuit, reject_reason, end_reason, seat_end, LineSession, line_session, line_history, book_of, book}
use Rattle.lat_circuit.specs.Kept as circuit
use Rattle.lat_lines.specs.circuits.Kept as circuits
use Rattle.lat_lines.specs.circuits.Stands as stands
use Rattle.lat_lines.proofs.CircuitsHeld.{each_push}
use Rattle.lat_stream.specs.Kept.{saturated}
use Rattle.lat_lines.specs.declared.seat.Seat as own
use Rattle.lat_lines.specs.Kept.{Kept, Holds, Apart, IsLine}
use Rattle.lat_lines.specs.Stands.{Present, IsSeat, NoneOn, Latest, Stands, present, seat_shown, seat_info, session_shown, session_info}
use Rattle.lat_lines.specs.Opens.{seated_core, session_begun}
use Rattle.lat_lines.specs.Later.{asked_for, Leads}
use Rattle.lat_lines.specs.circuits.Info.{telling_of}
use Rattle.lat_lines.proofs.OnLines.{none_last}

abbrev with_seats : Core → List Seat → Core
with_seats c ts = record c { seats = ts }

-- one more line session behind the others

present_push : (c : Core) (ts : List Seat) (n : ℕ) (ss : List Seat) (t : Seat) → over c t ≡ false → present (with_seats c ts) n (ss ++ t ∷ []) ≡ present c n ss ++ seat_info c (suc (n + length ss)) t ∷ []
present_push c ts n [] t o =
    ap (λ b. cond b [] (seat_info c (suc n) t ∷ [])) o ∙ ap (λ m. seat_info c (suc m) t ∷ []) (omega arith)
present_push c ts n (x ∷ xs) t o = by (over c x) (present_push c ts (suc n) xs t o ∙ ap (λ m. present c (suc n) xs ++ seat_info c (suc m) t ∷ []) (omega arith))
  where
    new : Present
    new = seat_info c (suc (n + suc (length xs))) t

    by : (b : Bool) → present (with_seats c ts) (suc n) (xs ++ t ∷ []) ≡ present c (suc n) xs ++ new ∷ []
        → cond b (present (with_seats c ts) (suc n) (xs ++ t ∷ [])) (seat_info c (suc n) x ∷ present (with_seats c ts) (suc n) (xs ++ t ∷ [])) ≡ cond b (present c (suc n) xs) (seat_info c (suc n) x ∷ present c (suc n) xs) ++ new ∷ []
    by true ih = ih
    by false ih = ap (λ z. seat_info c (suc n) x ∷ z) ih

history_push : (c : Core) (ts : List Seat) (line n : ℕ) (ss : List Seat) (t : Seat) → line_history (with_seats c ts) line n (ss ++ t ∷ []) ≡ cond (nat_eq t.line line) (line_session c (suc (n + length ss)) t ∷ []) [] ++ line_history c line n ss
history_push c ts line n [] t = by (nat_eq t.line line) ∙ ap (λ m. cond (nat_eq t.line line) (line_session c (suc m) t ∷ []) [] ++ []) (omega arith)
  where
    by : (b : Bool) → cond b (line_session c (suc n) t ∷ []) [] ≡ cond b (line_session c (suc n) t ∷ []) [] ++ []
    by true = refl
    by false = refl
history_push c ts line n (x ∷ xs) t =
    ap (λ z. z ++ here) (history_push c ts line (suc n) xs t ∙ ap (λ m. new m ++ line_history c line (suc n) xs) (omega arith))
    ∙ append_assoc (new (n + suc (length xs))) (line_history c line (suc n) xs) here
  where
    here : List LineSession
    here = cond (nat_eq x.line line) (line_session c (suc n) x ∷ []) []

    new : ℕ → List LineSession
    new m = cond (nat_eq t.line line) (line_session c (suc m) t ∷ []) []

last_push : (line : ℕ) (d : Seat) (ss : List Seat) (t : Seat) → last_on line d (ss ++ t ∷ []) ≡ cond (nat_eq t.line line) t (last_on line d ss)
last_push line d [] t = refl
last_push line d (x ∷ xs) t = last_push line (cond (nat_eq x.line line) x d) xs t

ended_push : (c : Core) (ts : List Seat) (ss : List Seat) (t : Seat) → over c t ≡ false → length (filter (over (with_seats c ts)) (ss ++ t ∷ [])) ≡ length (filter (over c) ss)
ended_push c ts [] t o = ap (λ b. length (cond b (t ∷ []) [])) o
ended_push c ts (x ∷ xs) t o = by (over c x) (ended_push c ts xs t o)
  where
    by : (b : Bool) → length (filter (over (with_seats c ts)) (xs ++ t ∷ [])) ≡ length (filter (over c) xs)
        → length (cond b (x ∷ filter (over (with_seats c ts)) (xs ++ t ∷ [])) (filter (over (with_seats c ts)) (xs ++ t ∷ []))) ≡ length (cond b (x ∷ filter (over c) xs) (filter (over c) xs))
    by true ih = ap suc ih
    by false ih = ih

-- the last session of a line before the present one is as it was

last_before : (x : LineSession) (xs : List LineSession) → (book_of true (x ∷ xs)).last ≡ (book_of false xs).last
last_before x [] = refl
last_before x (y ∷ ys) = refl

book_push : (c : Core) (line : ℕ) (t : Seat) → over c t ≡ false → has_session c t.line ≡ false → (book (seated_core c t) line).last ≡ (book c line).last
book_push c line t o h = by (nat_eq t.line line) refl
  where
    d : Core
    d = seated_core c t

    new : LineSession
    new = line_session c (suc (length c.seats)) t

    past : line_history d line 0 d.seats ≡ cond (nat_eq t.line line) (new ∷ []) [] ++ line_history c line 0 c.seats
    past = history_push c (c.seats ++ t ∷ []) line 0 c.seats t ∙ ap (λ m. cond (nat_eq t.line line) (line_session c (suc m) t ∷ []) [] ++ line_history c line 0 c.seats) (omega arith)

    held : has_session d line ≡ not (over c (cond (nat_eq t.line line) t (seat_at c line)))
    held = ap (λ s. not (over c s)) (last_push line no_seat c.seats t)

    by : (b : Bool) → nat_eq t.line line ≡ b → (book d line).last ≡ (book c line).last
    by true e =
        let mine : has_session d line ≡ true = held ∙ ap (λ b. not (over c (cond b t (seat_at c line)))) e ∙ ap not o in
        let none : has_session c line ≡ false = subst (λ z. has_session c z ≡ false) (eqb-true t.line line e) h in
        ap₂ (λ b hs. (book_of b hs).last) mine (past ∙ ap (λ b. cond b (new ∷ []) [] ++ line_history c line 0 c.seats) e)
        ∙ last_before new (line_history c line 0 c.seats)
        ∙ sym (ap (λ b. (book_of b (line_history c line 0 c.seats)).last) none)
    by false e =
        ap₂ (λ b hs. (book_of b hs).last) (held ∙ ap (λ b. not (over c (cond b t (seat_at c line)))) e) (past ∙ ap (λ b. cond b (new ∷ []) [] ++ line_history c line 0 c.seats) e)

-- what holds of each line session

seats_push : (lines : ℕ) (c : Core) (ts : List Seat) (ss : List Seat) (t : Seat) → Each (IsSeat lines c) ss → IsSeat lines c t → Each (IsSeat lines (with_seats c ts)) (ss ++ t ∷ [])
seats_push lines c ts [] t e s = (record { line = s.line; drawn = s.drawn; session = s.session; id = s.id }, tt)
seats_push lines c ts (x ∷ xs) t e s = (record { line = e.0.line; drawn = e.0.drawn; session = e.0.session; id = e.0.id }, seats_push lines c ts xs t e.1 s)

latest_push : (c : Core) (ts : List Seat) (line : ℕ) (d : Seat) (ss : List Seat) (t : Seat) → t.line ≡ line → Latest c ss → over c (last_on line d ss) ≡ true → Latest (with_seats c ts) (ss ++ t ∷ [])
latest_push c ts line d [] t e l o = (λ h. tt, tt)
latest_push c ts line d (x ∷ xs) t e l o =
    (λ h. each_push (λ (s : Seat). s.line ≢ x.line) xs t (l.0 h) (other h), latest_push c ts line (cond (nat_eq x.line line) x d) xs t e l.1 o)
  where
    other : over c x ≡ false → t.line ≢ x.line
    other h same =
        let on : nat_eq x.line line ≡ true = eq-eqb x.line line (sym same ∙ e) in
        let none : NoneOn line xs = subst (λ z. NoneOn z xs) (sym same ∙ e) (l.0 h) in
        let is : last_on line (cond (nat_eq x.line line) x d) xs ≡ x = ap (λ b. last_on line (cond b x d) xs) on ∙ none_last line x xs none in
        true≢false (sym (subst (λ z. over c z ≡ true) is o) ∙ h)

-- the circuits have no part in it

circuits_seated : (c : Core) (ts : List Seat) (qs : List circuit.Kept) → Each (stands.IsCircuit c) qs → Each (stands.IsCircuit (with_seats c ts)) qs
circuits_seated c ts [] e = tt
circuits_seated c ts (q ∷ qs) e = (record { end = e.0.end; address = e.0.address; name = e.0.name }, circuits_seated c ts qs e.1)

pub stands_seated : (k : circuits.Kept) (c : Core) (ts : List Seat) → stands.Stands k c → stands.Stands k (record c { seats = ts })
stands_seated k c ts st = record { own = st.own; moment = st.moment; first = st.first; drawn = st.drawn; each = circuits_seated c ts k.held st.each; all = st.all }

-- The line of t has the session t from now on, and s is kept of it
pub record Begins (k : Kept) (c : Core) (t : Seat) (s : own.Seat) : Type 0 where
  pub none : has_session c t.line ≡ false
  pub going : over c t ≡ false
  pub seat : IsSeat k.lines c t
  pub shown : seat_shown s ≡ seat_info c (suc (length c.seats)) t

pub stands_push : (k : Kept) (c : Core) (t : Seat) (s : own.Seat) (made : ℕ) → Stands k c → Begins k c t s → made ≡ saturated (suc (length c.seats))
    → Stands (record k { seats = k.seats ++ s ∷ []; made = made }) (seated_core c t)
stands_push k c t s made st b m = record {
  circuits = stands_seated k.circuits c ts st.circuits;
  seated = record {
    seats = map-append seat_shown k.seats (s ∷ []) ∙ ap₂ (λ ps p. ps ++ p ∷ []) st.seated.seats b.shown ∙ sym (present_push c ts 0 c.seats t b.going ∙ ap (λ m. present c 0 c.seats ++ seat_info c (suc m) t ∷ []) (omega arith));
    last = λ line l. st.seated.last line l ∙ ap (option_map session_info) (sym (book_push c line t b.going b.none));
    made = m ∙ ap saturated (omega (arith, length-append c.seats (t ∷ [])));
    finished = st.seated.finished ∙ ap saturated_count (sym (ended_push c ts c.seats t b.going));
    each = seats_push k.lines c ts c.seats t st.seated.each b.seat;
    latest = latest_push c ts t.line no_seat c.seats t refl st.seated.latest (not-false (over c (seat_at c t.line)) b.none);
    unheard = st.seated.unheard;
  };
  none = st.none;
}
  where
    ts : List Seat
    ts = c.seats ++ t ∷ []

-- what is kept of the lines

pub none_is : {X : Type 0} (o : Option X) → is_some o ≡ false → o ≡ None
none_is None e = refl
none_is (Some x) e = absurd (true≢false e)

pub none_found : (line : ℕ) (ss : List own.Seat) → find (λ (s : own.Seat). nat_eq s.line line) ss ≡ None → Each (λ (s : own.Seat). s.line ≢ line) ss
none_found line [] e = tt
none_found line (s ∷ ss) e = by (nat_eq s.line line) refl e (none_found line ss)
  where
    by : (b : Bool) → nat_eq s.line line ≡ b → cond b (Some s) (find (λ (s : own.Seat). nat_eq s.line line) ss) ≡ None
        → (find (λ (s : own.Seat). nat_eq s.line line) ss ≡ None → Each (λ (s : own.Seat). s.line ≢ line) ss) → Each (λ (s : own.Seat). s.line ≢ line) (s ∷ ss)
    by true f e ih = absurd (none-some s (sym e))
    by false f e ih = (eqb-false s.line line f, ih e)

abbrev line_in : own.Seat → ℕ
line_in s = s.line

apart_push : (ss : List own.Seat) (s : own.Seat) → Apart (map line_in ss) → Each (λ (x : own.Seat). x.line ≢ s.line) ss → Apart (map line_in (ss ++ s ∷ []))
apart_push [] s a e = (tt, tt)
apart_push (x ∷ xs) s a e = (others xs a.0, apart_push xs s a.1 e.1)
  where
    others : (ys : List own.Seat) → Each (λ y. y ≢ x.line) (map line_in ys) → Each (λ y. y ≢ x.line) (map line_in (ys ++ s ∷ []))
    others [] f = (λ z. e.0 (sym z), tt)
    others (y ∷ ys) f = (f.0, others ys f.1)

pub holds_push : (k : Kept) (s : own.Seat) (made : ℕ) → Holds k → IsLine k.lines s.line → Each (λ (x : own.Seat). x.line ≢ s.line) k.seats → s.session.end ≡ None
    → Holds (record k { seats = k.seats ++ s ∷ []; made = made })
holds_push k s made h l e n = record {
  lines = h.lines;
  each = each_push (λ (x : own.Seat). IsLine k.lines x.line) k.seats s h.each l;
  apart = apart_push k.seats s h.apart e;
  unended = each_push (λ (x : own.Seat). x.session.end ≡ None) k.seats s h.unended n;
  last = h.last;
}

-- what is told of the session that is seated

not_ended : (c : Core) (t : Seat) → over c t ≡ false → seat_end c t ≡ None
not_ended c t o =
    let p = or_parts (not (lives (end_of c t))) (free (session_of c t)) o in
    let r = or_parts (rejected (session_of c t)) (stopped (session_of c t) && (((session_of c t).closed || nat_le (length (items (session_of c t).came)) (session_of c t).taken))) p.1 in
    ap (λ b. cond b (Some (EndedRejected (reject_reason (session_of c t)))) (cond (free (session_of c t)) (Some EndedClosed) (cond (lives (end_of c t)) None (Some (EndedCircuit (end_reason (end_of c t))))))) r.0
    ∙ ap (λ b. cond b (Some EndedClosed) (cond (lives (end_of c t)) None (Some (EndedCircuit (end_reason (end_of c t)))))) p.1
    ∙ ap (λ b. cond b None (Some (EndedCircuit (end_reason (end_of c t))))) (not-false (lives (end_of c t)) p.0)

abbrev told_of : Core → ℕ → Seat → Session → List ℕ × Option ℕ → Option SessionEnd → LineSession
told_of c n t s wanted end = record {
  number = saturated n;
  peer_address = (c.circuits.circuit_at t.circuit).address;
  service = wanted.0;
  request = wanted.1;
  circuit = t.circuit;
  session = t.id;
  peer_circuit = (end_of c t).peer;
  peer_session = peer s;
  given = saturated (credits s.out);
  used_up = saturated (costs s.out);
  end = end;
}

pub begins : (k : Kept) (c : Core) (t : Seat) (key : Option Key) (u : base.LineSession) (service : List ℕ) (request : Option ℕ) → Stands k c → has_session c t.line ≡ false → IsLine k.lines t.line → lives (end_of c t) ≡ true → Leads (sessions_of c t) t.id t.serial
    → asked_for (named (sessions_of c t) t.id) ≡ (service, request) → is_drawn c.circuits t.circuit ≡ true → t.key ≡ some_key key
    → session_shown u ≡ session_begun (saturated (suc (length c.seats))) t.circuit t.id service request (telling_of c t.circuit t.id)
    → Begins k c t (record { line = t.line; key = key; session = u })
begins k c t key u service request st h l alive leads wanted drawn e is =
    let going : over c t ≡ false = or_from (not (lives (end_of c t))) (free (session_of c t)) (ap not alive) leads.taken in
    let same : session_shown u ≡ session_info (line_session c (suc (length c.seats)) t) =
    is
    ∙ ap (λ w. told_of c (suc (length c.seats)) t (named (sessions_of c t) t.id) w None) (sym wanted)
    ∙ ap₂ (λ s end. told_of c (suc (length c.seats)) t s (asked_for s) end) (ap (sessions_of c t).session leads.at_id) (sym (not_ended c t going)) in
    record {
      none = h;
      going = going;
      seat = record { line = l; drawn = drawn; session = leads.accepted; id = leads.id };
      shown = ap₂ (present_of t.line) (sym e) same;
    }
  where
    present_of : ℕ → Option keys.Key → LineSession → Present
    present_of line key s = record { line = line; key = key; session = s }
