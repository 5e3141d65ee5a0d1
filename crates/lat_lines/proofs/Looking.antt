-- What is told of a line's newest session.
use Rattle.std.proofs.Common.{◌≡◌, ℕ, true, false, nat_lt, nat_le, lt-ltb, le-leb, List, [], ◌∷◌, Option, Some, None, refl, sym, ap, subst, ◌∙◌, arith}
use Rattle.std.specs.Option.{option_map, option_or}
use Rattle.std.proofs.lemmas.Bool.{true≢false, and_from}
use Rattle.std.proofs.lemmas.Option.{none-some, same_Some}
use Rattle.lat_base.specs.declared.book.LineSession as base
use Rattle.lat_base.specs.declared.book.LineBook as base_book
use Rattle.lat_base.specs.declared.look.Correspondent as base_correspondent
use Rattle.lat_base.specs.declared.state.SessionEnd as base_end
use Rattle.lat_base.specs.declared.state.SessionEnd.TheVariants as ends
use Rattle.lat_model.specs.Lists.{Each}
use Rattle.lat_machines.specs.cores.Books.{LineSession, LineBook, book_of, book}
use Rattle.lat_machines.specs.cores.Cores.{Seat, Core}
use Rattle.lat_machines.specs.cores.Lines.{has_session, line_exists}
use Rattle.lat_machines.specs.cores.Looks.{newest_in, newest, number_in, end_in, correspondent_in}
use Rattle.lat_circuit.specs.Looks.{end_of, correspondent_of}
use Rattle.lat_stream.specs.Kept.{saturated}
use Rattle.lat_lines.specs.Kept.{Kept, IsLine}
use Rattle.lat_lines.specs.Stands.{Stands, IsSeat, NoneOn, end_shown, session_shown, session_info, book_shown, book_info}
use Rattle.lat_lines.proofs.OnLines.{none_history}

-- of a line that there is, by its book

shown_newest : (b : base_book.LineBook) → option_map session_shown (option_or b.present b.last) ≡ newest_in (book_shown b)
shown_newest b = by b.present b.last
  where
    by : (p l : Option base.LineSession) → option_map session_shown (option_or p l) ≡ newest_in (book_shown (record { present = p; last = l }))
    by None None = refl
    by None (Some x) = refl
    by (Some x) l = refl

info_newest : (b : LineBook) → newest_in (book_info b) ≡ option_map session_info (newest_in b)
info_newest b = by b.present b.last
  where
    by : (p l : Option LineSession) → newest_in (book_info (record { present = p; last = l })) ≡ option_map session_info (newest_in (record { present = p; last = l }))
    by None None = refl
    by None (Some x) = refl
    by (Some x) l = refl

pub newest_told : (c : Core) (line : ℕ) (b : base_book.LineBook) → book_shown b ≡ book_info (book c line) → option_map session_shown (option_or b.present b.last) ≡ option_map session_info (newest c line)
newest_told c line b is = shown_newest b ∙ ap newest_in is ∙ info_newest (book c line)

-- a line that there isn't never had one

exists_line : (lines line : ℕ) → IsLine lines line → line_exists lines line ≡ true
exists_line lines line l = and_from (nat_lt 0 line) (nat_le line lines) (lt-ltb 0 line (omega (arith, l.0))) (le-leb line lines l.1)

none_on : (lines line : ℕ) (c : Core) (ss : List Seat) → line_exists lines line ≡ false → Each (IsSeat lines c) ss → NoneOn line ss
none_on lines line c [] none e = tt
none_on lines line c (s ∷ ss) none e =
    (λ same. true≢false (sym (exists_line lines line (subst (IsLine lines) same e.0.line)) ∙ none), none_on lines line c ss none e.1)

pub none_newest : (k : Kept) (c : Core) (line : ℕ) → Stands k c → line_exists k.lines line ≡ false → newest c line ≡ None
none_newest k c line st none =
    ap (λ h. newest_in (book_of (has_session c line) h)) (none_history c line 0 c.seats (none_on k.lines line c c.seats none st.seated.each))

-- its number, and how it ended

pub number_told : (r : Option base.LineSession) (n : Option LineSession) → option_map session_shown r ≡ option_map session_info n → number_in (option_map session_shown r) ≡ saturated (number_in n)
number_told r n is = ap number_in is ∙ by n
  where
    by : (n : Option LineSession) → number_in (option_map session_info n) ≡ saturated (number_in n)
    by None = omega arith
    by (Some x) = refl

end_back : (o : Option base_end.SessionEnd) → o ≡ option_map end_of (option_map end_shown o)
end_back None = refl
end_back (Some ends.Closed) = refl
end_back (Some (ends.Rejected reason)) = refl
end_back (Some (ends.Circuit reason)) = refl

pub end_told : (r : Option base.LineSession) (n : Option LineSession) (end : Option base_end.SessionEnd) → option_map session_shown r ≡ option_map session_info n
    → option_map end_shown end ≡ end_in (option_map session_shown r) → end ≡ option_map end_of (end_in n)
end_told r n end is e = end_back end ∙ ap (option_map end_of) (e ∙ ap end_in is ∙ by n)
  where
    by : (n : Option LineSession) → end_in (option_map session_info n) ≡ end_in n
    by None = refl
    by (Some x) = refl

-- whom it is or was with

abbrev pub whom_of : base.LineSession → base_correspondent.Correspondent
whom_of s = correspondent_of (correspondent_in (session_shown s))

pub whom_told : (r : Option base.LineSession) (n : Option LineSession) → option_map session_shown r ≡ option_map session_info n → option_map whom_of r ≡ option_map correspondent_of (option_map correspondent_in n)
whom_told None None is = refl
whom_told (Some s) (Some x) is = ap (λ (z : LineSession). Some (correspondent_of (correspondent_in z))) (same_Some (session_shown s) (session_info x) is)
whom_told None (Some x) is = absurd (none-some (session_info x) is)
whom_told (Some s) None is = absurd (none-some (session_shown s) (sym is))
