-- The station of a line's newest session stands in the line's book.
use Rattle.std.proofs.Common.{◌≡◌, ℕ, suc, ◌≤◌, Bool, true, false, cond, nat_eq, ne_eqb, List, [], ◌∷◌, ◌++◌, append_assoc, append-nil, Option, Some, None, refl, sym, ap, ◌∙◌, arith}
use Rattle.std.specs.Option.{option_map, option_or}
use Rattle.lat_base.specs.declared.addr.Addr.{Addr}
use Rattle.lat_base.specs.declared.book.LineSession as base
use Rattle.lat_base.specs.declared.book.LineBook as base_book
use Rattle.lat_machines.specs.values.Addresses.{address}
use Rattle.lat_machines.specs.cores.Books.{LineSession, LineBook, line_session, line_history, book_of, book}
use Rattle.lat_machines.specs.cores.Cores.{Seat, no_seat, Core}
use Rattle.lat_machines.specs.cores.Lines.{last_on, has_session}
use Rattle.lat_lines.specs.Peers.{newest_peer}
use Rattle.lat_lines.specs.Stands.{book_shown, book_info}

-- the peer of a line session, where it is of the line
abbrev peer_on : Core → ℕ → Seat → Option ℕ
peer_on c line s = cond (nat_eq s.line line) (Some (c.circuits.circuit_at s.circuit).address) None

-- that of the newest of some
abbrev first_peer : List LineSession → Option ℕ
first_peer [] = None
first_peer (x ∷ xs) = Some x.peer_address

-- behind those that came before, of which D was the last
newest_last : (c : Core) (line n : ℕ) (d : Seat) (before : List LineSession) (ss : List Seat) → first_peer before ≡ peer_on c line d
    → first_peer (line_history c line n ss ++ before) ≡ peer_on c line (last_on line d ss)
newest_last c line n d before [] h = h
newest_last c line n d before (s ∷ ss) h =
    ap first_peer (append_assoc (line_history c line (suc n) ss) (here (nat_eq s.line line)) before)
    ∙ newest_last c line (suc n) (cond (nat_eq s.line line) s d) (here (nat_eq s.line line) ++ before) ss (by (nat_eq s.line line) refl)
  where
    here : Bool → List LineSession
    here b = cond b (line_session c (suc n) s ∷ []) []

    by : (b : Bool) → nat_eq s.line line ≡ b → first_peer (here b ++ before) ≡ peer_on c line (cond b s d)
    by true e = ap (λ t. cond t (Some (c.circuits.circuit_at s.circuit).address) None) (sym e)
    by false e = h

-- the present session of a book, or the last one
abbrev pub peer_in : LineBook → Option ℕ
peer_in b = elim b.present [
  | Some x ↦ Some x.peer_address
  | None ↦ option_map (λ (x : LineSession). x.peer_address) b.last
]

book_first : (b : Bool) (h : List LineSession) → peer_in (book_of b h) ≡ first_peer h
book_first true [] = refl
book_first false [] = refl
book_first false (x ∷ xs) = refl
book_first true (x ∷ []) = refl
book_first true (x ∷ y ∷ ys) = refl

pub book_peer : (c : Core) (line : ℕ) → 1 ≤ line → peer_in (book c line) ≡ newest_peer c line
book_peer c line l =
    book_first (has_session c line) (line_history c line 0 c.seats)
    ∙ ap first_peer (sym (append-nil (line_history c line 0 c.seats)))
    ∙ newest_last c line 0 no_seat [] c.seats (ap (λ b. cond b (Some (c.circuits.circuit_at 0).address) None) (sym (ne_eqb 0 line (λ e. absurd (omega (arith, l, e))))))

-- and in what is told of it

info_peer : (b : LineBook) → peer_in (book_info b) ≡ peer_in b
info_peer b = by b.present b.last
  where
    by : (p l : Option LineSession) → peer_in (book_info (record { present = p; last = l })) ≡ peer_in (record { present = p; last = l })
    by None None = refl
    by None (Some x) = refl
    by (Some x) l = refl

abbrev pub peer_of : base.LineSession → Addr
peer_of s = s.peer

shown_peer : (b : base_book.LineBook) → peer_in (book_shown b) ≡ option_map (λ (a : Addr). address a.0) (option_map peer_of (option_or b.present b.last))
shown_peer b = by b.present b.last
  where
    by : (p l : Option base.LineSession) → peer_in (book_shown (record { present = p; last = l })) ≡ option_map (λ (a : Addr). address a.0) (option_map peer_of (option_or p l))
    by None None = refl
    by None (Some x) = refl
    by (Some x) l = refl

pub told_peer : (c : Core) (line : ℕ) (b : base_book.LineBook) (o : Option Addr) → 1 ≤ line → book_shown b ≡ book_info (book c line) → o ≡ option_map peer_of (option_or b.present b.last)
    → option_map (λ (a : Addr). address a.0) o ≡ newest_peer c line
told_peer c line b o l e is = ap (option_map (λ (a : Addr). address a.0)) is ∙ sym (shown_peer b) ∙ ap peer_in e ∙ info_peer (book c line) ∙ book_peer c line l
