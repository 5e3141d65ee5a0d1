-- One new session more has become a row, or is matched to one.
use Rattle.std.proofs.Common.{◌≡◌, ◌≢◌, ℕ, suc, ◌+◌, ⊎_elim, refl, sym, ap, ◌∙◌, subst, arith, Bool, true, false, cond, List, [], ◌∷◌, ◌++◌, length, Option, Some, None, nat_eq}
use Rattle.std.proofs.lemmas.Bool.{true≢false, eqb-false}
use Rattle.lat_model.specs.Lists.{updated}
use Rattle.lat_machines.specs.cores.Cores.{Seat, no_seat, Core}
use Rattle.lat_machines.specs.cores.Books.{LineSession, line_session, book}
use Rattle.lat_machines.specs.cores.Lines.{last_on}
use Rattle.lat_machines.specs.world.Machines.{Setups, Machines}
use Rattle.lat_replay.specs.roster.Roster as rosters
use Rattle.lat_replay.specs.roster.Roster.{HasRows}
use Rattle.lat_replay.proofs.roster.Found.{found_accepts}
use Rattle.lat_laws.specs.tales.Books.{newest_of, newest_info}
use Rattle.lat_laws.specs.tales.Keeping.{connects, accepts}
use Rattle.lat_laws.specs.tales.Mates.{mate_by_ids}
use Rattle.lat_laws.specs.tales.Rows.{RowsAfter, figures_of, newest_place}
use Rattle.lat_laws.proofs.tales.mates.Places.{IsAt, one_seat, newest_at, newest_more}
use Rattle.lat_laws.proofs.tales.rows.Books.{book_newest}
use Rattle.lat_laws.proofs.tales.rows.By.{append_one, updated_line}
use Rattle.lat_replay.specs.roster.Following.{Stage}

more_placed : (f : ℕ → ℕ) (a line : ℕ) (s : Seat) (front : List Seat) → (f line ≢ 0 → newest_place line 0 0 front ≢ 0) → updated f s.line a line ≢ 0 → newest_place line 0 0 (front ++ s ∷ []) ≢ 0
more_placed f a line s front h n z = go (nat_eq s.line line) refl
  where
    place : cond (nat_eq s.line line) (suc (0 + length front)) (newest_place line 0 0 front) ≡ 0
    place = sym (newest_more line 0 0 front s) ∙ z

    go : (b : Bool) → nat_eq s.line line ≡ b → ⊥
    go true q = (let e : suc (0 + length front) ≡ 0 = sym (ap (λ b. cond b (suc (0 + length front)) (newest_place line 0 0 front)) q) ∙ place in omega (arith, e))
    go false q = h (λ y. n (updated_line f s.line a line ∙ (ap (λ b. cond b a (f line)) q ∙ y))) (sym (ap (λ b. cond b (suc (0 + length front)) (newest_place line 0 0 front)) q) ∙ place)

pub connected : (u : Setups) (x : Machines) (front rest : List Seat) (s : Seat) (k target : RowsAfter) (old new : rosters.Kept) → Stage u x true front (s ∷ rest) k target old → HasRows new (connects s (figures_of x.server.core (last_on s.line no_seat front)) k) → Stage u x true (front ++ s ∷ []) rest (connects s (figures_of x.server.core (last_on s.line no_seat front)) k) target new
connected u x front rest s k target old new h shows = record {
  seats = h.seats ∙ append_one front rest s;
  books = h.books.1;
  shows = shows;
  leads = h.leads;
  placed = λ line. more_placed k.server_lines (suc (length k.rows)) line s front (h.placed line);
  named = λ z. absurd (true≢false z);
}

pub accepted : (u : Setups) (x : Machines) (front rest : List Seat) (t : Seat) (k target : RowsAfter) (old new : rosters.Kept) → Stage u x false front (t ∷ rest) k target old → HasRows new (accepts t.line (mate_by_ids u x t) (figures_of x.node.core (last_on t.line no_seat front)) k) → Stage u x false (front ++ t ∷ []) rest (accepts t.line (mate_by_ids u x t) (figures_of x.node.core (last_on t.line no_seat front)) k) target new
accepted u x front rest t k target old new h shows = record {
  seats = h.seats ∙ append_one front rest t;
  books = h.books.1;
  shows = shows;
  leads = h.leads;
  placed = λ line. more_placed k.node_lines (mate_by_ids u x t) line t front (h.placed line);
  named = λ z circuit id. found_accepts t.line (mate_by_ids u x t) (figures_of x.node.core (last_on t.line no_seat front)) k circuit id ∙ h.named z circuit id;
}

-- a present session is the one of its number

told_present : (o l : Option LineSession) (s : LineSession) → o ≡ Some s → newest_info (record { present = o; last = l }) ≡ Some s
told_present None l s q = let z : ⊥ = cc in absurd z
told_present (Some y) l s q = q

same_session : (a b : LineSession) → Some a ≡ Some b → a ≡ b
same_session a b h = cc

none_session : (s : LineSession) → None ≡ Some s → ⊥
none_session s h = cc

record IsNumbered (c : Core) (line number : ℕ) : Type 0 where
  pub seat : Seat
  pub at : IsAt seat number 0 c.seats
  pub line_is : seat.line ≡ line

numbered : (c : Core) (line : ℕ) (s : LineSession) → (book c line).present ≡ Some s → IsNumbered c line s.number
numbered c line s h = go (nat_eq place 0) refl
  where
    place : ℕ
    place = newest_place line 0 0 c.seats

    is : newest_of c line c.seats ≡ Some s
    is = sym (book_newest c line) ∙ told_present (book c line).present (book c line).last s h

    go : (b : Bool) → nat_eq (newest_place line 0 0 c.seats) 0 ≡ b → IsNumbered c line s.number
    go true q = absurd (none_session s (sym (ap (λ b. cond b None (Some (line_session c (newest_place line 0 0 c.seats) (last_on line no_seat c.seats)))) q) ∙ is))
    go false q = ⊎_elim {C = IsNumbered c line s.number}
        (λ z. absurd (eqb-false (newest_place line 0 0 c.seats) 0 q z.0))
        (λ z. record { seat = last_on line no_seat c.seats; at = subst (λ n. IsAt (last_on line no_seat c.seats) n 0 c.seats) number z.0; line_is = z.1 })
        (newest_at line 0 0 no_seat c.seats)
      where
        same : Some (line_session c (newest_place line 0 0 c.seats) (last_on line no_seat c.seats)) ≡ Some s
        same = sym (ap (λ b. cond b None (Some (line_session c (newest_place line 0 0 c.seats) (last_on line no_seat c.seats)))) q) ∙ is

        session : line_session c (newest_place line 0 0 c.seats) (last_on line no_seat c.seats) ≡ s
        session = same_session (line_session c (newest_place line 0 0 c.seats) (last_on line no_seat c.seats)) s same

        number : newest_place line 0 0 c.seats ≡ s.number
        number = ap (λ (y : LineSession). y.number) session

pub one_line : (c : Core) (line other : ℕ) (s t : LineSession) → (book c line).present ≡ Some s → (book c other).present ≡ Some t → s.number ≡ t.number → line ≡ other
one_line c line other s t h i q =
    let a : IsNumbered c line s.number = numbered c line s h in
    let b : IsNumbered c other t.number = numbered c other t i in
    let e : a.seat ≡ b.seat = one_seat a.seat b.seat s.number 0 c.seats a.at (subst (λ n. IsAt b.seat n 0 c.seats) (sym q) b.at) in
    sym a.line_is ∙ (ap (λ (z : Seat). z.line) e ∙ b.line_is)
