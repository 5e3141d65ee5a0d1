-- The figures of the newest session of a line, by its book.
use Rattle.std.proofs.Common.{◌≡◌, ◌≢◌, ℕ, refl, sym, ap, ap₂, ◌∙◌, arith, Bool, true, false, cond, ◌&&◌, Option, Some, None, nat_eq, nat_lt, nat_le, eqb-true, ltb-true, lt-ltb}
use Rattle.std.specs.Prelude.{option_map}
use Rattle.std.specs.Option.{option_or}
use Rattle.std.proofs.lemmas.Bool.{and_parts, true≢false, leb-true, le-leb}
use Rattle.lat_base.specs.declared.book.LineSession as base
use Rattle.lat_base.specs.declared.book.LineBook as base_book
use Rattle.lat_model.specs.Lists.{Each}
use Rattle.lat_machines.specs.cores.Cores.{no_seat, Core}
use Rattle.lat_machines.specs.cores.Books.{LineSession, line_session, book}
use Rattle.lat_machines.specs.cores.Lines.{line_exists, last_on, seat_at}
use Rattle.lat_stream.specs.Kept.{saturated}
use Rattle.lat_lines.specs.Kept.{IsLine}
use Rattle.lat_lines.specs.Stands as lines
use Rattle.lat_lines.specs.Stands.{session_shown, session_info, book_shown, book_info}
use Rattle.lat_laws.specs.tales.Books.{newest_info}
use Rattle.lat_laws.specs.tales.Rows.{figures_of, newest_place}
use Rattle.lat_laws.specs.tales.Rows as rows
use Rattle.lat_laws.proofs.tales.rows.Books.{book_newest}
use Rattle.lat_replay.specs.declared.roster.figures.Figures.{Figures}
use Rattle.lat_replay.specs.roster.Rows.{ShowsFigures}
use Rattle.lat_replay.specs.Rows.{figures_shown}
use Rattle.lat_replay.specs.Standing.{HasHad}
use Rattle.lat_replay.proofs.Rows.{had_line}

-- the newest that is told

told_newest : (p l : Option LineSession) → newest_info (book_info (record { present = p; last = l })) ≡ option_map session_info (newest_info (record { present = p; last = l }))
told_newest None None = refl
told_newest None (Some s) = refl
told_newest (Some s) None = refl
told_newest (Some s) (Some t) = refl

had_newest : (c : Core) (line : ℕ) → HasHad c line → newest_info (book c line) ≡ Some (line_session c (newest_place line 0 0 c.seats) (seat_at c line))
had_newest c line h = book_newest c line ∙ go (nat_eq (newest_place line 0 0 c.seats) 0) refl
  where
    go : (b : Bool) → nat_eq (newest_place line 0 0 c.seats) 0 ≡ b → cond b None (Some (line_session c (newest_place line 0 0 c.seats) (last_on line no_seat c.seats))) ≡ Some (line_session c (newest_place line 0 0 c.seats) (seat_at c line))
    go true q = absurd (h (eqb-true (newest_place line 0 0 c.seats) 0 q))
    go false q = refl

shown_newest : (p l : Option base.LineSession) → option_map session_shown (option_or p l) ≡ newest_info (book_shown (record { present = p; last = l }))
shown_newest None l = refl
shown_newest (Some s) l = refl

-- the present session of a book, or else the last one, is the newest of the line
pub newest_is : (c : Core) (line : ℕ) (b : base_book.LineBook) → HasHad c line → book_shown b ≡ book_info (book c line) → option_map session_shown (option_or b.present b.last) ≡ Some (session_info (line_session c (newest_place line 0 0 c.seats) (seat_at c line)))
newest_is c line b h q =
    shown_newest b.present b.last ∙ (ap newest_info q ∙ (told_newest (book c line).present (book c line).last ∙ ap (option_map session_info) (had_newest c line h)))

-- the line exists
pub line_is : (most line : ℕ) (c : Core) → Each (lines.IsSeat most c) c.seats → HasHad c line → IsLine most line
line_is most line c e h = had_line (lines.IsSeat most c) (IsLine most) line 0 0 c.seats (λ s p. p.line) e h

-- figures that are exact

below : (n m : ℕ) → n ≡ saturated m → n ≢ 18446744073709551615 → n ≡ m
below n m q a = search arith

pub exactly : (f : Figures) (r : rows.Figures) → ShowsFigures f r → f.given ≢ 18446744073709551615 → f.used ≢ 18446744073709551615 → figures_shown f ≡ r
exactly f r s a b = three (below f.given r.given s.given a) (below f.used r.used_up s.used_up b) s.end
  where
    three : f.given ≡ r.given → f.used ≡ r.used_up → option_map lines.end_shown f.end ≡ r.end → figures_shown f ≡ r
    three p q e =
        ap (λ z. record { given = z; used_up = f.used; end = option_map lines.end_shown f.end }) p
        ∙ (ap (λ z. record { given = r.given; used_up = z; end = option_map lines.end_shown f.end }) q
        ∙ ap (λ z. record { given = r.given; used_up = r.used_up; end = z }) e)

pub is_line : (most line : ℕ) → line_exists most line ≡ true → IsLine most line
is_line most line q =
    let p : (nat_lt 0 line ≡ true) × (nat_le line most ≡ true) = and_parts (nat_lt 0 line) (nat_le line most) q in
    (omega (arith, ltb-true 0 line p.0), leb-true line most p.1)

pub exists_line : (most line : ℕ) → IsLine most line → line_exists most line ≡ true
exists_line most line p = ap₂ (λ a b. a && b) (lt-ltb 0 line (omega (arith, p.0))) (le-leb line most p.1)

-- a line that has or had a session isn't missing
pub not_missing : (most line : ℕ) (c : Core) (b : Bool) → Each (lines.IsSeat most c) c.seats → HasHad c line → b ≡ line_exists most line → b ≡ false → ⊥
not_missing most line c b e h q f = true≢false (sym (q ∙ exists_line most line (line_is most line c e h)) ∙ f)
