-- The figures of a session, and the place of the row that it belongs to, as its line tells them.
use Rattle.std.proofs.Common.{◌≡◌, ◌≢◌, ℕ, refl, ap, ◌∙◌, Bool, true, false, cond, List, Option, Some, None, option_map, nat_eq}
use Rattle.std.proofs.Common.{eqb-true}
use Rattle.lat_base.specs.declared.book.LineSession as base
use Rattle.lat_machines.specs.cores.Cores.{Seat, no_seat, Core}
use Rattle.lat_machines.specs.cores.Lines.{last_on}
use Rattle.lat_machines.specs.cores.Books.{LineSession, line_session}
use Rattle.lat_lines.specs.Stands.{end_shown, session_shown, session_info}
use Rattle.lat_replay.specs.roster.Rows.{ShowsFigures}
use Rattle.lat_replay.specs.declared.roster.figures.Figures.{Figures}
use Rattle.lat_laws.specs.tales.Books.{newest_of}
use Rattle.lat_laws.specs.tales.Rows.{figures_of, newest_place}

some_same : {A : Type 0} (x y : A) → Some x ≡ Some y → x ≡ y
some_same x y h = cc

pub figures_shown : (c : Core) (number : ℕ) (s : Seat) (y : base.LineSession) (f : Figures) → Some (session_shown y) ≡ Some (session_info (line_session c number s)) → f.given ≡ y.given → f.used ≡ y.used → f.end ≡ y.end → ShowsFigures f (figures_of c s)
figures_shown c number s y f h given used end =
    let same : session_shown y ≡ session_info (line_session c number s) = some_same (session_shown y) (session_info (line_session c number s)) h in
    record {
      given = given ∙ ap (λ (z : LineSession). z.given) same;
      used_up = used ∙ ap (λ (z : LineSession). z.used_up) same;
      end = ap (option_map end_shown) end ∙ ap (λ (z : LineSession). z.end) same;
    }

-- of a line that had a session, the figures are those of the newest one
pub figures_before : (c : Core) (front : List Seat) (line : ℕ) (last : Option base.LineSession) (f : Figures) → newest_place line 0 0 front ≢ 0 → option_map session_shown last ≡ option_map session_info (newest_of c line front) → ((d : Core) (number : ℕ) (s : Seat) → option_map session_shown last ≡ Some (session_info (line_session d number s)) → ShowsFigures f (figures_of d s)) → ShowsFigures f (figures_of c (last_on line no_seat front))
figures_before c front line last f n q h = go (nat_eq (newest_place line 0 0 front) 0) refl
  where
    go : (b : Bool) → nat_eq (newest_place line 0 0 front) 0 ≡ b → ShowsFigures f (figures_of c (last_on line no_seat front))
    go true e = absurd (n (eqb-true (newest_place line 0 0 front) 0 e))
    go false e = h c (newest_place line 0 0 front) (last_on line no_seat front) (q ∙ ap (λ b. option_map session_info (cond b None (Some (line_session c (newest_place line 0 0 front) (last_on line no_seat front))))) e)
