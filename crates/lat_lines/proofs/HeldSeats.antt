-- What is known of the session that a line has.
use Rattle.std.proofs.Common.{◌≡◌, ℕ, Bool, true, false, cond, List, [], ◌∷◌, nat_eq, sym, ap, ◌∙◌}
use Rattle.std.proofs.lemmas.Bool.{true≢false, not-true}
use Rattle.lat_model.specs.Lists.{Each}
use Rattle.lat_model.specs.sessions.Session.{free}
use Rattle.lat_model.specs.sessions.Sessions.{named}
use Rattle.lat_model.specs.ends.End.{lives}
use Rattle.lat_machines.specs.cores.Cores.{Seat, no_seat, Core}
use Rattle.lat_machines.specs.cores.Lines.{end_of, sessions_of, session_of, over, last_on, seat_at, has_session}
use Rattle.lat_lines.specs.declared.seat.Seat as own
use Rattle.lat_lines.specs.Kept.{Kept}
use Rattle.lat_lines.specs.Stands.{IsSeat, Stands}
use Rattle.lat_lines.proofs.reaping.Held.{stood_at}
use Rattle.lat_lines.proofs.reaping.Seats.{not_over}
use Rattle.lat_lines.proofs.OnLines.{HasSeat, no_seat_over}

-- Its circuit lives, it isn't free, and its id leads to it
pub record IsHeld (lines : ℕ) (c : Core) (s : Seat) : Type 0 where
  pub seat : IsSeat lines c s
  pub lives : lives (end_of c s) ≡ true
  pub taken : free (session_of c s) ≡ false
  pub at_id : (sessions_of c s).at_id s.id ≡ s.serial
  pub named : named (sessions_of c s) s.id ≡ session_of c s

-- what holds of each line session holds of a line's last one, unless it is over
each_last : (P : Seat → Type 0) (c : Core) (line : ℕ) (d : Seat) (ss : List Seat) → (over c d ≡ false → P d) → Each P ss → over c (last_on line d ss) ≡ false → P (last_on line d ss)
each_last P c line d [] f e o = f o
each_last P c line d (x ∷ xs) f e o = each_last P c line (cond (nat_eq x.line line) x d) xs (by (nat_eq x.line line)) e.1 o
  where
    by : (b : Bool) → over c (cond b x d) ≡ false → P (cond b x d)
    by true o = e.0
    by false o = f o

pub held_seat : (k : Kept) (c : Core) (line : ℕ) → Stands k c → has_session c line ≡ true → IsHeld k.lines c (seat_at c line)
held_seat k c line st h =
    let s : Seat = seat_at c line in
    let o : over c s ≡ false = not-true (over c s) h in
    let p = not_over c s o in
    let seat : IsSeat k.lines c s = each_last (IsSeat k.lines c) c line no_seat c.seats (λ z. absurd (true≢false (sym (no_seat_over k c st) ∙ z))) st.seated.each o in
    let good = (stood_at k.circuits c s.circuit st.circuits (st.circuits.all s.circuit p.0)).good in
    let at : (sessions_of c s).at_id s.id ≡ s.serial = ap (sessions_of c s).at_id (sym seat.id) ∙ good.holds s.serial p.1 in
    record { seat = seat; lives = p.0; taken = p.1; at_id = at; named = ap (sessions_of c s).session at }

-- what is kept of it has its ids

pub circuit_is : (c : Core) (line : ℕ) (s : own.Seat) → HasSeat c line s → s.session.circuit ≡ (seat_at c line).circuit
circuit_is c line s f = ap (λ p. p.session.circuit) f.shown

pub id_is : (c : Core) (line : ℕ) (s : own.Seat) → HasSeat c line s → s.session.session ≡ (seat_at c line).id
id_is c line s f = ap (λ p. p.session.session) f.shown
