-- The session of a number is found at its line.
use Rattle.std.proofs.Common.{◌≡◌, ◌≢◌, ℕ, suc, ◌+◌, ◌<◌, ◌≤◌, refl, sym, ap, ◌∙◌, subst, arith, Bool, true, false, List, [], ◌∷◌, ◌++◌, length, Option, Some, None, option_map, nat_eq, eqb-true}
use Rattle.std.proofs.lemmas.Bool.{true≢false, eqb-false}
use Rattle.std.specs.Option.{MatchOption, is_some}
use Rattle.lat_base.specs.declared.book.LineSession as base
use Rattle.lat_base.specs.declared.book.LineBook as base_book
use Rattle.lat_model.specs.Lists.{Each}
use Rattle.lat_machines.specs.cores.Cores.{Seat, Core}
use Rattle.lat_machines.specs.cores.Books.{LineSession, line_session, LineBook, book}
use Rattle.lat_machines.specs.world.Machines.{Machines, core_of}
use Rattle.lat_stream.specs.Kept.{saturated}
use Rattle.lat_lines.specs.Kept.{IsLine}
use Rattle.lat_lines.specs.Stands.{session_shown, session_info, book_shown, book_info, IsSeat}
use Rattle.lat_laws.specs.tales.Books.{InBooks, lines_at}
use Rattle.lat_wire.specs.Kept as wires
use Rattle.lat_wire.specs.Stands.{Stands}
use Rattle.lat_replay.specs.declared.roster.newcomer.Newcomer.{Newcomer}
use Rattle.lat_replay.specs.roster.Present.{IsPresent, NotOn, Finds, IsNewcomer}
use Rattle.lat_replay.proofs.roster.Stages.{one_line}

-- counts below the greatest number are told exactly
pub told_exact : (n m : ℕ) → saturated n ≡ m → m < 18446744073709551615 → n ≡ m
told_exact n m q l = omega (arith, q, l)

pub exact_told : (n m : ℕ) → n ≡ m → m < 18446744073709551615 → saturated n ≡ m
exact_told n m q l = omega (arith, q, l)

none_some : {A : Type 0} (x : A) → None ≡ Some x → ⊥
none_some x h = cc

some_same : {A : Type 0} (x y : A) → Some x ≡ Some y → x ≡ y
some_same x y h = cc

-- a line's book, as it is told

pub absent : (c : Core) (line number : ℕ) (b : base_book.LineBook) → book_shown b ≡ book_info (book c line) → b.present ≡ None → NotOn c number line
absent c line number b e n s q = absurd (none_some (session_info s) (sym (ap (option_map session_shown) n) ∙ (ap (λ (z : LineBook). z.present) e ∙ ap (option_map session_info) q)))

pub another : (c : Core) (line number : ℕ) (b : base_book.LineBook) (y : base.LineSession) → book_shown b ≡ book_info (book c line) → b.present ≡ Some y → y.number ≢ number → NotOn c number line
another c line number b y e n d s q t =
    let same : session_shown y ≡ session_info s = some_same (session_shown y) (session_info s) (sym (ap (option_map session_shown) n) ∙ (ap (λ (z : LineBook). z.present) e ∙ ap (option_map session_info) q)) in
    d (ap (λ (z : LineSession). z.number) same ∙ t)

pub found_on : (c : Core) (line number : ℕ) (b : base_book.LineBook) (y : base.LineSession) (n : Newcomer) → book_shown b ≡ book_info (book c line) → b.present ≡ Some y → y.number ≡ number → n.line ≡ line → n.session ≡ y → n.last ≡ b.last → IsPresent c number n
found_on c line number b y n e p q on is last = go (book c line).present refl
  where
    told : Some (session_shown y) ≡ option_map session_info (book c line).present
    told = sym (ap (option_map session_shown) p) ∙ ap (λ (z : LineBook). z.present) e

    go : (o : Option LineSession) → (book c line).present ≡ o → IsPresent c number n
    go None h = absurd (none_some (session_shown y) (sym (told ∙ ap (option_map session_info) h)))
    go (Some s) h = (let same : session_shown y ≡ session_info s = some_same (session_shown y) (session_info s) (told ∙ ap (option_map session_info) h) in record {
      session = s;
      present = ap (λ l. (book c l).present) on ∙ h;
      number_is = sym (ap (λ (z : LineSession). z.number) same) ∙ q;
      shown = ap session_shown is ∙ same;
      last = ap (option_map session_shown) last ∙ (ap (λ (z : LineBook). z.last) e ∙ ap (λ l. option_map session_info (book c l).last) (sym on));
    })

-- the line of a session exists

each_at : (P : Seat → Type 0) (front rest : List Seat) (s : Seat) → Each P (front ++ s ∷ rest) → P s
each_at P [] rest s e = e.0
each_at P (x ∷ xs) rest s e = each_at P xs rest s e.1

line_exists : {H : Type 0} (k : wires.Kept H) (w : Machines) (b : Bool) (front rest : List Seat) (s : Seat) → Stands k w → (core_of w b).seats ≡ front ++ s ∷ rest → IsLine (lines_at b (wires.setups_of k)) s.line
line_exists k w true front rest s h q = (each_at (IsSeat k.server.lines.lines w.server.core) front rest s (subst (Each (IsSeat k.server.lines.lines w.server.core)) q h.parts.server.lines.seated.each)).line
line_exists k w false front rest s h q = (each_at (IsSeat k.node.lines.lines w.node.core) front rest s (subst (Each (IsSeat k.node.lines.lines w.node.core)) q h.parts.node.lines.seated.each)).line

-- a new session is the one that is present under its number
newcomer_is : (c : Core) (lines number : ℕ) (front rest : List Seat) (s : Seat) (r : Option Newcomer) → InBooks c front (s ∷ rest) → number ≡ suc (length front) → number < 18446744073709551615 → IsLine lines s.line → MatchOption r ((line : ℕ) → IsLine lines line → NotOn c number line) (λ n. IsPresent c number n) → MatchOption r ⊥ (λ n. IsNewcomer c front s n)
newcomer_is c lines number front rest s None books q l i h =
    h s.line i (line_session c (suc (length front)) s) (ap (λ (z : LineBook). z.present) books.0) (exact_told (suc (length front)) number (sym q) l)
newcomer_is c lines number front rest s (Some n) books q l i h = record {
  line = on;
  shown = h.shown ∙ ap session_info same;
  last = h.last ∙ ap (λ (z : LineBook). option_map session_info z.last) (ap (book c) on ∙ books.0);
}
  where
    own : (book c s.line).present ≡ Some (line_session c (suc (length front)) s)
    own = ap (λ (z : LineBook). z.present) books.0

    on : n.line ≡ s.line
    on = one_line c n.line s.line h.session (line_session c (suc (length front)) s) h.present own (told_exact h.session.number number h.number_is l ∙ q)

    same : h.session ≡ line_session c (suc (length front)) s
    same = some_same h.session (line_session c (suc (length front)) s) (sym h.present ∙ (ap (λ y. (book c y).present) on ∙ own))

pub newcomer_at : {H : Type 0} (k : wires.Kept H) (w : Machines) (b : Bool) (lines number : ℕ) (front rest : List Seat) (s : Seat) (r : Option Newcomer) → lines_at b (wires.setups_of k) ≡ lines → number < 18446744073709551615 → Stands k w → (core_of w b).seats ≡ front ++ s ∷ rest → InBooks (core_of w b) front (s ∷ rest) → number ≡ suc (length front) → Finds (core_of w b) number lines r → MatchOption r ⊥ (λ n. IsNewcomer (core_of w b) front s n)
newcomer_at k w b lines number front rest s r l few h q books n f =
    newcomer_is (core_of w b) lines number front rest s r books n few (subst (λ z. IsLine z s.line) l (line_exists k w b front rest s h q)) f

-- in a search

pub not_some : {A : Type 0} (r : Option A) (P : Type 0) (Q : A → Type 0) → is_some r ≡ false → MatchOption r P Q → P
not_some None P Q q h = h
not_some (Some x) P Q q h = absurd (true≢false q)

pub one_more_line : (P : ℕ → Type 0) (below line : ℕ) → ((n : ℕ) → 1 ≤ n → n ≤ below → P n) → P (below + 1) → 1 ≤ line → line ≤ below + 1 → P line
one_more_line P below line h p one le = go (nat_eq line (below + 1)) refl
  where
    go : (b : Bool) → nat_eq line (below + 1) ≡ b → P line
    go true q = subst P (sym (eqb-true line (below + 1) q)) p
    go false q = h line one (let n : line ≢ below + 1 = eqb-false line (below + 1) q in omega (arith, le, n))
