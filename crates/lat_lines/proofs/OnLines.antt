-- The session that a line has: the last one of the line, and the newest of its history.
use Rattle.std.proofs.Common.{◌≡◌, ℕ, suc, Bool, true, false, not, cond, ◌||◌, nat_eq, ne_eqb, eqb-true, List, [], ◌∷◌, ◌++◌, map, length, filter, find, Option, Some, None, refl, sym, ap, subst, ◌∙◌}
use Rattle.std.specs.Option.{is_some, option_map}
use Rattle.std.proofs.lemmas.Bool.{true≢false}
use Rattle.std.proofs.lemmas.List.{length-map}
use Rattle.std.proofs.lemmas.Option.{none-some, same_Some}
use Rattle.lat_model.specs.sessions.Session.{free}
use Rattle.lat_machines.specs.cores.Cores.{Seat, no_seat, Core}
use Rattle.lat_machines.specs.cores.Lines.{session_of, over, last_on, seat_at, has_session, used}
use Rattle.lat_machines.specs.cores.Books.{LineSession, line_session, line_history}
use Rattle.lat_lines.specs.declared.seat.Seat as own
use Rattle.lat_lines.specs.Kept.{Kept}
use Rattle.lat_lines.specs.Stands.{Present, NoneOn, Latest, Stands, present, seat_shown, seat_info}

abbrev pub is_on : ℕ → Present → Bool
is_on line p = nat_eq p.line line

-- The line has this session, of this number
pub record OnLine (c : Core) (line n : ℕ) (ss : List Seat) (s : Seat) : Type 0 where
  pub number : ℕ
  pub is : find (is_on line) (present c n ss) ≡ Some (seat_info c number s)
  pub before : List LineSession
  pub history : line_history c line n ss ≡ line_session c number s ∷ before

-- where the last session of a line stands first

pub none_last : (line : ℕ) (s : Seat) (ss : List Seat) → NoneOn line ss → last_on line s ss ≡ s
none_last line s [] e = refl
none_last line s (x ∷ xs) e = ap (λ b. last_on line (cond b x s) xs) (ne_eqb x.line line e.0) ∙ none_last line s xs e.1

pub none_history : (c : Core) (line n : ℕ) (ss : List Seat) → NoneOn line ss → line_history c line n ss ≡ []
none_history c line n [] e = refl
none_history c line n (x ∷ xs) e =
    ap (λ z. z ++ cond (nat_eq x.line line) (line_session c (suc n) x ∷ []) []) (none_history c line (suc n) xs e.1)
    ∙ ap (λ b. cond b (line_session c (suc n) x ∷ []) []) (ne_eqb x.line line e.0)

none_behind : (c : Core) (line : ℕ) (x : Seat) (xs : List Seat) → Latest c (x ∷ xs) → over c x ≡ false → nat_eq x.line line ≡ true → NoneOn line xs
none_behind c line x xs l e f = subst (λ z. NoneOn z xs) (eqb-true x.line line f) (l.0 e)

-- a line whose last session is over has none
pub none_present : (c : Core) (line n : ℕ) (d : Seat) (ss : List Seat) → Latest c ss → over c (last_on line d ss) ≡ true → find (is_on line) (present c n ss) ≡ None
none_present c line n d [] l o = refl
none_present c line n d (x ∷ xs) l o = by (over c x) refl (nat_eq x.line line) refl (λ e p. none_present c line (suc n) e xs l.1 p)
  where
    here : Present
    here = seat_info c (suc n) x

    rest : List Present
    rest = present c (suc n) xs

    by : (b : Bool) → over c x ≡ b → (h : Bool) → nat_eq x.line line ≡ h
        → ((e : Seat) → over c (last_on line e xs) ≡ true → find (is_on line) rest ≡ None)
        → find (is_on line) (present c n (x ∷ xs)) ≡ None
    by true e h f ih = ap (λ b. find (is_on line) (cond b rest (here ∷ rest))) e ∙ ih (cond (nat_eq x.line line) x d) o
    by false e true f ih =
        let same : last_on line (cond (nat_eq x.line line) x d) xs ≡ x =
        ap (λ b. last_on line (cond b x d) xs) f ∙ none_last line x xs (none_behind c line x xs l e f) in
        absurd (true≢false (sym (subst (λ z. over c z ≡ true) same o) ∙ e))
    by false e false f ih =
        ap (λ b. find (is_on line) (cond b rest (here ∷ rest))) e
        ∙ ap (λ b. cond b (Some here) (find (is_on line) rest)) f
        ∙ ih d (subst (λ b. over c (last_on line (cond b x d) xs) ≡ true) f o)

over_either : (c : Core) (x d : Seat) (h : Bool) → over c x ≡ true → over c d ≡ true → over c (cond h x d) ≡ true
over_either c x d true e o = e
over_either c x d false e o = o

-- a line whose last session isn't over has it
pub last_present : (c : Core) (line n : ℕ) (d : Seat) (ss : List Seat) → Latest c ss → over c d ≡ true → over c (last_on line d ss) ≡ false → OnLine c line n ss (last_on line d ss)
last_present c line n d [] l o e = absurd (true≢false (sym o ∙ e))
last_present c line n d (x ∷ xs) l o e = by (over c x) refl (nat_eq x.line line) refl (λ z p q. last_present c line (suc n) z xs l.1 p q)
  where
    here : Present
    here = seat_info c (suc n) x

    rest : List Present
    rest = present c (suc n) xs

    last : List LineSession
    last = cond (nat_eq x.line line) (line_session c (suc n) x ∷ []) []

    by : (b : Bool) → over c x ≡ b → (h : Bool) → nat_eq x.line line ≡ h
        → ((z : Seat) → over c z ≡ true → over c (last_on line z xs) ≡ false → OnLine c line (suc n) xs (last_on line z xs))
        → OnLine c line n (x ∷ xs) (last_on line d (x ∷ xs))
    by true f h g ih =
        let r = ih (cond (nat_eq x.line line) x d) (over_either c x d (nat_eq x.line line) f o) e in
        record {
          number = r.number;
          is = ap (λ b. find (is_on line) (cond b rest (here ∷ rest))) f ∙ r.is;
          before = r.before ++ last;
          history = ap (λ z. z ++ last) r.history;
        }
    by false f true g ih =
        let none = none_behind c line x xs l f g in
        let same : last_on line (cond (nat_eq x.line line) x d) xs ≡ x = ap (λ b. last_on line (cond b x d) xs) g ∙ none_last line x xs none in
        subst (OnLine c line n (x ∷ xs)) (sym same) (record {
          number = suc n;
          is = ap (λ b. find (is_on line) (cond b rest (here ∷ rest))) f ∙ ap (λ b. cond b (Some here) (find (is_on line) rest)) g;
          before = [];
          history = ap (λ z. z ++ last) (none_history c line (suc n) xs none) ∙ ap (λ b. cond b (line_session c (suc n) x ∷ []) []) g;
        })
    by false f false g ih =
        let r = ih d o (subst (λ b. over c (last_on line (cond b x d) xs) ≡ false) g e) in
        subst (λ b. OnLine c line n (x ∷ xs) (last_on line (cond b x d) xs)) (sym g) (record {
          number = r.number;
          is = ap (λ b. find (is_on line) (cond b rest (here ∷ rest))) f ∙ ap (λ b. cond b (Some here) (find (is_on line) rest)) g ∙ r.is;
          before = r.before ++ last;
          history = ap (λ z. z ++ last) r.history;
        })

-- what is kept of it

abbrev pub is_seat_of : ℕ → own.Seat → Bool
is_seat_of line s = nat_eq s.line line

pub find_shown : (line : ℕ) (ss : List own.Seat) → option_map seat_shown (find (is_seat_of line) ss) ≡ find (is_on line) (map seat_shown ss)
find_shown line [] = refl
find_shown line (s ∷ ss) = by (nat_eq s.line line) (find_shown line ss)
  where
    by : (b : Bool) → option_map seat_shown (find (is_seat_of line) ss) ≡ find (is_on line) (map seat_shown ss)
        → option_map seat_shown (cond b (Some s) (find (is_seat_of line) ss)) ≡ cond b (Some (seat_shown s)) (find (is_on line) (map seat_shown ss))
    by true ih = refl
    by false ih = ih

-- This is kept of the session that a line has
pub record HasSeat (c : Core) (line : ℕ) (s : own.Seat) : Type 0 where
  pub holds : has_session c line ≡ true
  pub number : ℕ
  pub shown : seat_shown s ≡ seat_info c number (seat_at c line)
  pub before : List LineSession
  pub history : line_history c line 0 c.seats ≡ line_session c number (seat_at c line) ∷ before

abbrev pub Found : Core → ℕ → Option own.Seat → Type 0
Found c line None = has_session c line ≡ false
Found c line (Some s) = HasSeat c line s

-- no line has the session that isn't one
pub no_seat_over : (k : Kept) (c : Core) → Stands k c → over c no_seat ≡ true
no_seat_over k c st = ap (λ b. not b || free (session_of c no_seat)) st.none

pub found : (k : Kept) (c : Core) (line : ℕ) → Stands k c → (o : Option own.Seat) → o ≡ find (is_seat_of line) k.seats → Found c line o
found k c line st o is = by (over c (seat_at c line)) refl o shown
  where
    shown : option_map seat_shown o ≡ find (is_on line) (present c 0 c.seats)
    shown = ap (option_map seat_shown) is ∙ find_shown line k.seats ∙ ap (find (is_on line)) st.seated.seats

    by : (b : Bool) → over c (seat_at c line) ≡ b → (o : Option own.Seat) → option_map seat_shown o ≡ find (is_on line) (present c 0 c.seats) → Found c line o
    by true e None f = ap not e
    by true e (Some s) f = absurd (none-some (seat_shown s) (sym (f ∙ none_present c line 0 no_seat c.seats st.seated.latest e)))
    by false e None f =
        let r = last_present c line 0 no_seat c.seats st.seated.latest (no_seat_over k c st) e in
        absurd (none-some (seat_info c r.number (seat_at c line)) (f ∙ r.is))
    by false e (Some s) f =
        let r = last_present c line 0 no_seat c.seats st.seated.latest (no_seat_over k c st) e in
        record { holds = ap not e; number = r.number; shown = same_Some (seat_shown s) (seat_info c r.number (seat_at c line)) (f ∙ r.is); before = r.before; history = r.history }

pub found_holds : (c : Core) (line : ℕ) (o : Option own.Seat) → Found c line o → is_some o ≡ has_session c line
found_holds c line None f = sym f
found_holds c line (Some s) f = sym f.holds

-- how many there are
pub present_count : (c : Core) (n : ℕ) (ss : List Seat) → length (present c n ss) ≡ length (filter (λ s. not (over c s)) ss)
present_count c n [] = refl
present_count c n (s ∷ ss) = by (over c s) (present_count c (suc n) ss)
  where
    by : (b : Bool) → length (present c (suc n) ss) ≡ length (filter (λ s. not (over c s)) ss)
        → length (cond b (present c (suc n) ss) (seat_info c (suc n) s ∷ present c (suc n) ss))
        ≡ length (cond (not b) (s ∷ filter (λ s. not (over c s)) ss) (filter (λ s. not (over c s)) ss))
    by true ih = ih
    by false ih = ap suc ih

pub used_count : (k : Kept) (c : Core) → Stands k c → length k.seats ≡ used c
used_count k c st = sym (length-map k.seats seat_shown) ∙ ap length st.seated.seats ∙ present_count c 0 c.seats
