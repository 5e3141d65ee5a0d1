-- The last session of a line that is over.
use Rattle.std.proofs.Common.{◌≡◌, ◌≢◌, ℕ, zero, suc, ◌-◌, ◌<◌, Bool, true, false, not, cond, ◌&&◌, List, [], ◌∷◌, ◌++◌, map, length, Option, Some, None, option_map, nat_eq, eqb-true, ne_eqb, slice_get, slice_set, length-set, refl, sym, ap, subst, ◌∙◌, arith}
use Rattle.std.proofs.lemmas.Bool.{both_ways, eqb-false, eq-eqb}
use Rattle.std.proofs.lemmas.List.{append_assoc, append-nil}
use Rattle.lat_base.specs.declared.book.LineSession as base
use Rattle.lat_model.specs.Lists.{Each}
use Rattle.lat_machines.specs.cores.Books.{LineSession, line_session, line_history, book_of, book}
use Rattle.lat_machines.specs.cores.Cores.{Seat, no_seat, Core}
use Rattle.lat_machines.specs.cores.Lines.{over, last_on, has_session}
use Rattle.lat_lines.specs.circuits.Kept as circuits
use Rattle.lat_lines.specs.declared.seat.Seat as own
use Rattle.lat_lines.specs.Kept.{IsLine}
use Rattle.lat_lines.specs.Stands.{Present, IsSeat, NoneOn, Latest, session_shown, session_info, seat_shown, seat_info, last_shown}
use Rattle.lat_lines.specs.Looks.{is_over, last_after}
use Rattle.lat_lines.proofs.reaping.Seats.{Between, still_over, told_over}
use Rattle.lat_lines.proofs.reaping.After.{later}
use Rattle.lat_lines.proofs.reaping.Noted.{ends, same_over}

-- of these line sessions, which come behind the first n, the last one of the line that is over
abbrev pub last_over : Core → ℕ → ℕ → List Seat → Option LineSession → Option LineSession
last_over c line n [] x = x
last_over c line n (s ∷ ss) x = last_over c line (suc n) ss (cond (nat_eq s.line line && over c s) (Some (line_session c (suc n) s)) x)

pub none_over : (c : Core) (line n : ℕ) (ss : List Seat) (x : Option LineSession) → NoneOn line ss → last_over c line n ss x ≡ x
none_over c line n [] x e = refl
none_over c line n (s ∷ ss) x e = ap (λ b. last_over c line (suc n) ss (cond (b && over c s) (Some (line_session c (suc n) s)) x)) (ne_eqb s.line line e.0) ∙ none_over c line (suc n) ss x e.1

-- a book has it: of a line's sessions at most the last one isn't over

abbrev last_of_book : Bool → List LineSession → Option LineSession
last_of_book busy xs = (book_of busy xs).last

abbrev first : List LineSession → Option LineSession
first [] = None
first (x ∷ xs) = Some x

busy_last : (x : LineSession) (xs : List LineSession) → last_of_book true (x ∷ xs) ≡ first xs
busy_last x [] = refl
busy_last x (y ∷ ys) = refl

idle_last : (xs : List LineSession) → last_of_book false xs ≡ first xs
idle_last [] = refl
idle_last (x ∷ xs) = refl

-- the history so far is xs, with the line session s as the newest, if any; the rest has none of the line where s isn't over
record SoFar (c : Core) (line : ℕ) (ss : List Seat) (s : Seat) (xs : List LineSession) (x : Option LineSession) : Type 0 where
  last : last_of_book (not (over c s)) xs ≡ x
  alone : over c s ≡ false → xs ≢ [] → NoneOn line ss

book_last : (c : Core) (line n : ℕ) (ss : List Seat) (s : Seat) (xs : List LineSession) (x : Option LineSession) → Latest c ss → SoFar c line ss s xs x
    → last_of_book (not (over c (last_on line s ss))) (line_history c line n ss ++ xs) ≡ last_over c line n ss x
book_last c line n [] s xs x l h = h.last
book_last c line n (t ∷ ts) s xs x l h = by (nat_eq t.line line) refl (over c t) refl (book_last c line (suc n) ts)
  where
    rest : List LineSession
    rest = line_history c line (suc n) ts

    here : LineSession
    here = line_session c (suc n) t

    -- the newest so far is over, or there is none
    before : nat_eq t.line line ≡ true → x ≡ first xs
    before e = go (over c s) refl xs h.last h.alone
      where
        go : (b : Bool) → over c s ≡ b → (ys : List LineSession) → last_of_book (not (over c s)) ys ≡ x → (over c s ≡ false → ys ≢ [] → NoneOn line (t ∷ ts)) → x ≡ first ys
        go true o ys i a = sym i ∙ ap (λ b. last_of_book (not b) ys) o ∙ idle_last ys
        go false o [] i a = sym i
        go false o (y ∷ ys) i a = absurd ((a o (λ z. cc)).0 (eqb-true t.line line e))

    by : (e : Bool) → nat_eq t.line line ≡ e → (o : Bool) → over c t ≡ o
        → ((s : Seat) (xs : List LineSession) (x : Option LineSession) → Latest c ts → SoFar c line ts s xs x → last_of_book (not (over c (last_on line s ts))) (rest ++ xs) ≡ last_over c line (suc n) ts x)
        → last_of_book (not (over c (last_on line (cond e t s) ts))) ((rest ++ cond e (here ∷ []) []) ++ xs) ≡ last_over c line (suc n) ts (cond (e && o) (Some here) x)
    by false e o i ih =
        ap (λ ys. last_of_book (not (over c (last_on line s ts))) (ys ++ xs)) (append-nil rest)
        ∙ ih s xs x l.1 (record { last = h.last; alone = λ p q. (h.alone p q).1 })
    by true e true i ih =
        ap (last_of_book (not (over c (last_on line t ts)))) (append_assoc rest (here ∷ []) xs)
        ∙ ih t (here ∷ xs) (Some here) l.1 (record { last = ap (λ b. last_of_book (not b) (here ∷ xs)) i; alone = λ p q. absurd (both_ways (over c t) p i) })
    by true e false i ih =
        ap (last_of_book (not (over c (last_on line t ts)))) (append_assoc rest (here ∷ []) xs)
        ∙ ih t (here ∷ xs) x l.1 (record { last = ap (λ b. last_of_book (not b) (here ∷ xs)) i ∙ busy_last here xs ∙ sym (before e); alone = λ p q. subst (λ z. NoneOn z ts) (eqb-true t.line line e) (l.0 p) })

pub last_booked : (c : Core) (line : ℕ) → Latest c c.seats → (book c line).last ≡ last_over c line 0 c.seats None
last_booked c line l =
    ap (last_of_book (has_session c line)) (sym (append-nil (line_history c line 0 c.seats)))
    ∙ book_last c line 0 c.seats no_seat [] None l (record { last = none (not (over c no_seat)); alone = λ p q. absurd (q refl) })
  where
    none : (b : Bool) → last_of_book b [] ≡ None
    none true = refl
    none false = refl

-- it is noted of each line

abbrev last_of : ℕ → List Present → Option LineSession → Option LineSession
last_of line [] x = x
last_of line (p ∷ ps) x = last_of line ps (cond (nat_eq p.line line && ends p) (Some p.session) x)

same_tests : (i j k l : ℕ) → (i ≡ j → k ≡ l) → (k ≡ l → i ≡ j) → nat_eq i j ≡ nat_eq k l
same_tests i j k l a b = by (nat_eq i j) refl
  where
    by : (t : Bool) → nat_eq i j ≡ t → t ≡ nat_eq k l
    by true e = sym (eq-eqb k l (a (eqb-true i j e)))
    by false e = sym (ne_eqb k l (λ z. eqb-false i j e (b z)))

set_shown : (ls : List (Option base.LineSession)) (i j : ℕ) (s : base.LineSession) → i < length ls → last_shown (slice_get (slice_set ls i (Some s)) j) ≡ cond (nat_eq i j) (Some (session_shown s)) (last_shown (slice_get ls j))
set_shown [] i j s h = absurd (omega arith)
set_shown (l ∷ ls) zero zero s h = refl
set_shown (l ∷ ls) zero (suc j) s h = ap (λ b. cond b (Some (session_shown s)) (last_shown (slice_get ls j))) (sym (ne_eqb 0 (suc j) (λ e. absurd (omega (arith, e)))))
set_shown (l ∷ ls) (suc i) zero s h = ap (λ b. cond b (Some (session_shown s)) (last_shown (Some l))) (sym (ne_eqb (suc i) 0 (λ e. absurd (omega (arith, e)))))
set_shown (l ∷ ls) (suc i) (suc j) s h =
    set_shown ls i j s (omega arith)
    ∙ ap (λ b. cond b (Some (session_shown s)) (last_shown (slice_get ls j))) (same_tests i j (suc i) (suc j) (ap suc) (λ e. omega (arith, e)))

last_set : (ls : List (Option base.LineSession)) (line : ℕ) (s : own.Seat) → IsLine (length ls) s.line → IsLine (length ls) line
    → last_shown (slice_get (cond (is_over s) (slice_set ls (s.line - 1) (Some s.session)) ls) (line - 1)) ≡ cond (nat_eq s.line line && ends (seat_shown s)) (Some (session_shown s.session)) (last_shown (slice_get ls (line - 1)))
last_set ls line s a b =
    by (is_over s) ∙ ap (λ t. cond (nat_eq s.line line && t) (Some (session_shown s.session)) (last_shown (slice_get ls (line - 1)))) (sym (same_over s))
  where
    and_false : (t : Bool) → (t && false) ≡ false
    and_false true = refl
    and_false false = refl

    and_true : (t : Bool) → t ≡ (t && true)
    and_true true = refl
    and_true false = refl

    by : (t : Bool) → last_shown (slice_get (cond t (slice_set ls (s.line - 1) (Some s.session)) ls) (line - 1)) ≡ cond (nat_eq s.line line && t) (Some (session_shown s.session)) (last_shown (slice_get ls (line - 1)))
    by true = set_shown ls (s.line - 1) (line - 1) s.session (omega (arith, a.0, a.1)) ∙ ap (λ t. cond t (Some (session_shown s.session)) (last_shown (slice_get ls (line - 1)))) (same_tests (s.line - 1) (line - 1) s.line line (λ e. omega (arith, a.0, b.0, e)) (λ e. ap (λ z. z - 1) e) ∙ and_true (nat_eq s.line line))
    by false = ap (λ t. cond t (Some (session_shown s.session)) (last_shown (slice_get ls (line - 1)))) (sym (and_false (nat_eq s.line line)))

same_places : (ls : List (Option base.LineSession)) (s : own.Seat) → length (cond (is_over s) (slice_set ls (s.line - 1) (Some s.session)) ls) ≡ length ls
same_places ls s = by (is_over s)
  where
    by : (t : Bool) → length (cond t (slice_set ls (s.line - 1) (Some s.session)) ls) ≡ length ls
    by true = length-set ls (s.line - 1) (Some s.session)
    by false = refl

pub last_places : (ss : List own.Seat) (ls : List (Option base.LineSession)) → length (last_after ss ls) ≡ length ls
last_places [] ls = refl
last_places (s ∷ ss) ls = last_places ss (cond (is_over s) (slice_set ls (s.line - 1) (Some s.session)) ls) ∙ same_places ls s

last_noted : (lines line : ℕ) (ss : List own.Seat) (ls : List (Option base.LineSession)) → length ls ≡ lines → Each (λ (s : own.Seat). IsLine lines s.line) ss → IsLine lines line
    → last_shown (slice_get (last_after ss ls) (line - 1)) ≡ last_of line (map seat_shown ss) (last_shown (slice_get ls (line - 1)))
last_noted lines line [] ls n e l = refl
last_noted lines line (s ∷ ss) ls n e l =
    last_noted lines line ss (cond (is_over s) (slice_set ls (s.line - 1) (Some s.session)) ls) (same_places ls s ∙ n) e.1 l
    ∙ ap (last_of line (map seat_shown ss)) (last_set ls line s (subst (λ z. IsLine z s.line) (sym n) e.0) (subst (λ z. IsLine z line) (sym n) l))

none_noted : (c d : Core) (line n : ℕ) (ss : List Seat) (x : Option LineSession) → NoneOn line ss → last_of line (later c d n ss) x ≡ x
none_noted c d line n [] x e = refl
none_noted c d line n (s ∷ ss) x e = by (over c s) (none_noted c d line (suc n) ss x e.1)
  where
    by : (t : Bool) → last_of line (later c d (suc n) ss) x ≡ x → last_of line (cond t (later c d (suc n) ss) (seat_info d (suc n) s ∷ later c d (suc n) ss)) x ≡ x
    by true ih = ih
    by false ih = ap (λ b. last_of line (later c d (suc n) ss) (cond (b && ends (seat_info d (suc n) s)) (Some (seat_info d (suc n) s).session) x)) (ne_eqb s.line line e.0) ∙ ih

-- those that became over are the last of their lines
last_later : (k : circuits.Kept) (lines : ℕ) (c d : Core) (line n : ℕ) (ss : List Seat) (x : Option LineSession) → Between k c d → Each (IsSeat lines c) ss → Latest c ss
    → last_of line (later c d n ss) (option_map session_info (last_over c line n ss x)) ≡ option_map session_info (last_over d line n ss x)
last_later k lines c d line n [] x b e l = refl
last_later k lines c d line n (s ∷ ss) x b e l = by (nat_eq s.line line) refl (over c s) refl (over d s) refl (λ z. last_later k lines c d line (suc n) ss z b e.1 l.1)
  where
    rest : List Present
    rest = later c d (suc n) ss

    told : Option LineSession → Option LineSession
    told = option_map session_info

    by : (q : Bool) → nat_eq s.line line ≡ q → (t : Bool) → over c s ≡ t → (u : Bool) → over d s ≡ u
        → ((z : Option LineSession) → last_of line rest (told (last_over c line (suc n) ss z)) ≡ told (last_over d line (suc n) ss z))
        → last_of line (cond t rest (seat_info d (suc n) s ∷ rest)) (told (last_over c line (suc n) ss (cond (q && t) (Some (line_session c (suc n) s)) x)))
        ≡ told (last_over d line (suc n) ss (cond (q && u) (Some (line_session d (suc n) s)) x))
    by false q true t u o ih = ih x
    by false q false t u o ih = ap (λ y. last_of line rest (cond (y && ends (seat_info d (suc n) s)) (Some (seat_info d (suc n) s).session) (told (last_over c line (suc n) ss x)))) q ∙ ih x
    by true q true t true o ih = ih (Some (line_session c (suc n) s)) ∙ ap (λ y. told (last_over d line (suc n) ss (Some y))) (sym ((still_over k lines c d s b e.0 t).same (suc n)))
    by true q true t false o ih = absurd (both_ways (over d s) o (still_over k lines c d s b e.0 t).over)
    by true q false t u o ih =
        ap (λ y. last_of line rest (cond (y && ends (seat_info d (suc n) s)) (Some (seat_info d (suc n) s).session) (told (last_over c line (suc n) ss x)))) q
        ∙ ap (λ y. last_of line rest (cond y (Some (seat_info d (suc n) s).session) (told (last_over c line (suc n) ss x)))) (told_over d (suc n) s ∙ o)
        ∙ none_noted c d line (suc n) ss (cond u (Some (seat_info d (suc n) s).session) (told (last_over c line (suc n) ss x))) none
        ∙ here u
      where
        none : NoneOn line ss
        none = subst (λ z. NoneOn z ss) (eqb-true s.line line q) (l.0 t)

        here : (v : Bool) → cond v (Some (seat_info d (suc n) s).session) (told (last_over c line (suc n) ss x)) ≡ told (last_over d line (suc n) ss (cond v (Some (line_session d (suc n) s)) x))
        here true = ap told (sym (none_over d line (suc n) ss (Some (line_session d (suc n) s)) none))
        here false = ap told (none_over c line (suc n) ss x none ∙ sym (none_over d line (suc n) ss x none))

pub last_told : (k : circuits.Kept) (lines : ℕ) (c d : Core) (line : ℕ) (ss : List own.Seat) (ls : List (Option base.LineSession)) → Between k c d → Each (IsSeat lines c) c.seats → Latest c c.seats → Latest d c.seats → d.seats ≡ c.seats
    → length ls ≡ lines → Each (λ (s : own.Seat). IsLine lines s.line) ss → IsLine lines line → map seat_shown ss ≡ later c d 0 c.seats
    → last_shown (slice_get ls (line - 1)) ≡ option_map session_info (book c line).last
    → last_shown (slice_get (last_after ss ls) (line - 1)) ≡ option_map session_info (book d line).last
last_told k lines c d line ss ls b e l m same n each h is was =
    last_noted lines line ss ls n each h
    ∙ ap (λ ps. last_of line ps (last_shown (slice_get ls (line - 1)))) is
    ∙ ap (last_of line (later c d 0 c.seats)) (was ∙ ap (option_map session_info) (last_booked c line l))
    ∙ last_later k lines c d line 0 c.seats None b e l
    ∙ ap (λ zs. option_map session_info (last_over d line 0 zs None)) (sym same)
    ∙ ap (option_map session_info) (sym (last_booked d line (subst (Latest d) (sym same) m)))
