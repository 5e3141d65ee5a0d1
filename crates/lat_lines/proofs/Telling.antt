-- What lines tell of their sessions.
use Rattle.std.proofs.Common.{◌≡◌, ℕ, zero, suc, ◌+◌, ◌-◌, Bool, true, false, cond, ◌&&◌, List, [], ◌∷◌, length, find, Option, Some, None, slice_get, refl, sym, ap, ap₂, subst, ◌∙◌, arith}
use Rattle.std.specs.Option.{option_map}
use Rattle.std.specs.List.{range_with_len}
use Rattle.lat_model.specs.Lists.{least, upwards}
use Rattle.lat_lines.specs.circuits.Opens.{id_or_zero}
use Rattle.lat_base.specs.declared.book.LineSession as base
use Rattle.lat_base.specs.declared.state.SessionState.TheVariants as states
use Rattle.lat_model.specs.sessions.Session.{Session, Free, state, take_open}
use Rattle.lat_model.specs.sessions.Sessions.{named}
use Rattle.lat_model.specs.sessions.Slots.{items}
use Rattle.lat_model.specs.ends.End.{End, lives}
use Rattle.lat_machines.specs.cores.Books.{LineSession, LineBook, book_of, book, line_history}
use Rattle.lat_machines.specs.cores.Cores.{Core}
use Rattle.lat_machines.specs.cores.Lines.{session_of, seat_at, has_session, line_state, waiting_at}
use Rattle.lat_machines.specs.cores.Looks.{put_room, room_at}
use Rattle.lat_stream.specs.Kept.{state_of}
use Rattle.lat_circuit.specs.Info.{session_state}
use Rattle.lat_lines.specs.declared.seat.Seat as own
use Rattle.lat_lines.specs.Kept.{Kept, IsLine, side_of}
use Rattle.lat_lines.specs.Stands.{Stands, session_shown, session_info, last_shown}
use Rattle.lat_lines.proofs.OnLines.{HasSeat, Found}
use Rattle.lat_lines.proofs.HeldSeats.{held_seat, circuit_is, id_is}

-- the book

abbrev pub book_with : Option LineSession → Option LineSession → LineBook
book_with p l = record { present = p; last = l }

none_present : (h : List LineSession) → (book_of false h).present ≡ None
none_present [] = refl
none_present (x ∷ xs) = refl

first_present : (x : LineSession) (xs : List LineSession) → (book_of true (x ∷ xs)).present ≡ Some x
first_present x [] = refl
first_present x (y ∷ ys) = refl

abbrev pub session_in : own.Seat → base.LineSession
session_in s = s.session

pub present_told : (c : Core) (line : ℕ) (o : Option own.Seat) → Found c line o → option_map session_shown (option_map session_in o) ≡ option_map session_info (book c line).present
present_told c line None f = sym (ap (λ b. option_map session_info (book_of b (line_history c line 0 c.seats)).present) f ∙ ap (option_map session_info) (none_present (line_history c line 0 c.seats)))
present_told c line (Some s) f =
    ap (λ p. Some p.session) f.shown
    ∙ sym (ap₂ (λ b h. option_map session_info (book_of b h).present) f.holds f.history ∙ ap (option_map session_info) (first_present _ f.before))

pub last_told : (k : Kept) (c : Core) (line : ℕ) (o : Option base.LineSession) → Stands k c → IsLine k.lines line → slice_get k.last (line - 1) ≡ Some o
    → option_map session_shown o ≡ option_map session_info (book c line).last
last_told k c line o st l e = by o ∙ ap last_shown (sym e) ∙ st.seated.last line l
  where
    by : (o : Option base.LineSession) → option_map session_shown o ≡ last_shown (Some o)
    by None = refl
    by (Some s) = refl

-- the state

pub state_told : (k : Kept) (c : Core) (line : ℕ) (s : own.Seat) → Stands k c → HasSeat c line s
    → (lives (c.circuits.circuit_at s.session.circuit).end ≡ true → (c.circuits.circuit_at s.session.circuit).end.half.sessions.master ≡ k.circuits.server)
    → session_state (c.circuits.circuit_at s.session.circuit).end s.session.session ≡ state_of (line_state (side_of k) c line)
state_told k c line s st f side =
    let h = held_seat k c line st f.holds in
    let x = (seat_at c line).circuit in
    let e : End = (c.circuits.circuit_at x).end in
    let here = circuit_is c line s f in
    let master : e.half.sessions.master ≡ k.circuits.server = subst (λ z. lives (c.circuits.circuit_at z).end ≡ true → (c.circuits.circuit_at z).end.half.sessions.master ≡ k.circuits.server) here side h.lives in
    ap₂ (λ z i. session_state (c.circuits.circuit_at z).end i) here (id_is c line s f)
    ∙ ap (λ b. cond b (state_of (state e.half.sessions.master (named e.half.sessions (seat_at c line).id))) states.Free) h.lives
    ∙ ap₂ (λ m t. state_of (state m t)) master h.named
    ∙ ap (λ b. state_of (cond b (state k.circuits.server (session_of c (seat_at c line))) Free)) (sym f.holds)

pub state_none : (k : Kept) (c : Core) (line : ℕ) → has_session c line ≡ false → states.Free ≡ state_of (line_state (side_of k) c line)
state_none k c line f = ap (λ b. state_of (cond b (state k.circuits.server (session_of c (seat_at c line))) Free)) (sym f)

-- the items that a take could give

abbrev pub takes_at : Core → ℕ → ℕ → ℕ
takes_at c x id =
    let t : Session = named (c.circuits.circuit_at x).end.half.sessions id in
    cond (lives (c.circuits.circuit_at x).end && take_open t) (length (items t.came) - t.taken) 0

pub waiting_told : (k : Kept) (c : Core) (line : ℕ) (s : own.Seat) → Stands k c → HasSeat c line s → takes_at c s.session.circuit s.session.session ≡ waiting_at c line
waiting_told k c line s st f =
    let h = held_seat k c line st f.holds in
    let t : Session = session_of c (seat_at c line) in
    ap₂ (takes_at c) (circuit_is c line s f) (id_is c line s f)
    ∙ ap₂ (λ b (u : Session). cond (b && take_open u) (length (items u.came) - u.taken) 0) h.lives h.named
    ∙ ap (λ b. cond (b && take_open t) (length (items t.came) - t.taken) 0) (sym f.holds)

pub waiting_none : (c : Core) (line : ℕ) → has_session c line ≡ false → 0 ≡ waiting_at c line
waiting_none c line f =
    let t : Session = session_of c (seat_at c line) in
    ap (λ b. cond (b && take_open t) (length (items t.came) - t.taken) 0) (sym f)

-- the bytes that a put could take

abbrev pub puts_at : Core → ℕ → ℕ → ℕ
puts_at c x id = cond (lives (c.circuits.circuit_at x).end) (put_room (named (c.circuits.circuit_at x).end.half.sessions id)) 0

pub room_told : (k : Kept) (c : Core) (line : ℕ) (s : own.Seat) → Stands k c → HasSeat c line s → puts_at c s.session.circuit s.session.session ≡ room_at c line
room_told k c line s st f =
    let h = held_seat k c line st f.holds in
    ap₂ (puts_at c) (circuit_is c line s f) (id_is c line s f)
    ∙ ap₂ (λ b u. cond b (put_room u) 0) h.lives h.named
    ∙ ap (λ b. cond b (put_room (session_of c (seat_at c line))) 0) (sym f.holds)

pub room_none : (c : Core) (line : ℕ) → has_session c line ≡ false → 0 ≡ room_at c line
room_none c line f = ap (λ b. cond b (put_room (session_of c (seat_at c line))) 0) (sym f)

-- the least line without a session

id_kept : (o : Option ℕ) → id_or_zero o ≡ id_or_zero (option_map (λ x. x) o)
id_kept None = refl
id_kept (Some x) = refl

least_found : (p : ℕ → Bool) (a n : ℕ) → id_or_zero (find p (range_with_len (suc a) n)) ≡ least p (upwards a n)
least_found p a zero = refl
least_found p a (suc n) =
    let next : suc a + 1 ≡ suc (suc a) = omega arith in
    by (p (suc a)) (ap (λ z. id_or_zero (find p (range_with_len z n))) next ∙ least_found p (suc a) n)
  where
    by : (b : Bool) → id_or_zero (find p (range_with_len (suc a + 1) n)) ≡ least p (upwards (suc a) n)
        → id_or_zero (cond b (Some (suc a)) (find p (range_with_len (suc a + 1) n))) ≡ cond b (suc a) (least p (upwards (suc a) n))
    by true ih = refl
    by false ih = ih

pub least_told : (p : ℕ → Bool) (n : ℕ) (o : Option ℕ) → option_map (λ x. x) o ≡ find p (range_with_len 1 n) → id_or_zero o ≡ least p (upwards 0 n)
least_told p n o e = id_kept o ∙ ap id_or_zero e ∙ least_found p 0 n
