-- The line sessions that weren't over, as they are after an event.
use Rattle.std.proofs.Common.{◌≡◌, ℕ, suc, Bool, true, false, not, cond, List, [], ◌∷◌, map, filter, Option, Some, None, is_some, is_none, option_map, refl, sym, ap, ◌∙◌}
use Rattle.std.specs.List.{AllZip}
use Rattle.std.proofs.lemmas.Bool.{both_ways}
use Rattle.lat_base.specs.declared.state.SessionEnd as base_end
use Rattle.lat_model.specs.Lists.{Each}
use Rattle.lat_machines.specs.cores.Cores.{Seat, Core}
use Rattle.lat_machines.specs.cores.Lines.{over}
use Rattle.lat_lines.specs.circuits.Kept as circuits
use Rattle.lat_lines.specs.circuits.Stands as stands
use Rattle.lat_lines.specs.declared.seat.Seat as own
use Rattle.lat_lines.specs.Stands.{Present, IsSeat, NoneOn, Latest, end_shown, seat_shown, seat_info, present}
use Rattle.lat_lines.specs.Looks.{Looks, present_after}
use Rattle.lat_lines.proofs.reaping.Seats.{Between, seat_later, still_over, present_told, told_over}

-- of those that weren't over in c, what they are in d; they come behind the first n
abbrev pub later : Core → Core → ℕ → List Seat → List Present
later c d n [] = []
later c d n (s ∷ ss) = cond (over c s) (later c d (suc n) ss) (seat_info d (suc n) s ∷ later c d (suc n) ss)

abbrev pub AllHeld : circuits.Kept → List Present → Type 0
AllHeld k ps = Each (λ (p : Present). circuits.has_id p.session.circuit k ≡ true) ps

-- each is looked at

pub looked : (k : circuits.Kept) (d : Core) (ss ts : List own.Seat) → stands.Stands k d → AllHeld k (map seat_shown ss) → AllZip (Looks k) ss ts → map seat_shown ts ≡ map (present_after d) (map seat_shown ss)
looked k d [] [] st h z = refl
looked k d [] (t ∷ ts) st h z = absurd z
looked k d (s ∷ ss) [] st h z = absurd z
looked k d (s ∷ ss) (t ∷ ts) st h z = ap (λ p. p ∷ map seat_shown ts) (z.0.shown d st h.0) ∙ ap (λ ps. present_after d (seat_shown s) ∷ ps) (looked k d ss ts st h.1 z.1)

pub present_later : (k : circuits.Kept) (lines : ℕ) (c d : Core) (n : ℕ) (ss : List Seat) → Between k c d → Each (IsSeat lines c) ss → AllHeld k (present c n ss) → map (present_after d) (present c n ss) ≡ later c d n ss
present_later k lines c d n [] b e h = refl
present_later k lines c d n (s ∷ ss) b e h = by (over c s) refl h (present_later k lines c d (suc n) ss b e.1)
  where
    by : (t : Bool) → over c s ≡ t → AllHeld k (cond t (present c (suc n) ss) (seat_info c (suc n) s ∷ present c (suc n) ss))
        → (AllHeld k (present c (suc n) ss) → map (present_after d) (present c (suc n) ss) ≡ later c d (suc n) ss)
        → map (present_after d) (cond t (present c (suc n) ss) (seat_info c (suc n) s ∷ present c (suc n) ss)) ≡ cond t (later c d (suc n) ss) (seat_info d (suc n) s ∷ later c d (suc n) ss)
    by true o g ih = ih g
    by false o g ih = ap (λ p. p ∷ map (present_after d) (present c (suc n) ss)) (present_told k lines c d (suc n) s b e.0 g.0 o) ∙ ap (λ ps. seat_info d (suc n) s ∷ ps) (ih g.1)

-- those that aren't over stay

abbrev pub unended : Present → Bool
unended p = is_none p.session.end

none_some : {A : Type 0} (o : Option A) → is_none o ≡ not (is_some o)
none_some None = refl
none_some (Some a) = refl

told_unended : (d : Core) (n : ℕ) (s : Seat) → unended (seat_info d n s) ≡ not (over d s)
told_unended d n s = none_some (seat_info d n s).session.end ∙ ap not (told_over d n s)

pub later_unended : (k : circuits.Kept) (lines : ℕ) (c d : Core) (n : ℕ) (ss : List Seat) → Between k c d → Each (IsSeat lines c) ss → filter unended (later c d n ss) ≡ present d n ss
later_unended k lines c d n [] b e = refl
later_unended k lines c d n (s ∷ ss) b e = by (over c s) refl (later_unended k lines c d (suc n) ss b e.1)
  where
    rest : List Present
    rest = later c d (suc n) ss

    by : (t : Bool) → over c s ≡ t → filter unended rest ≡ present d (suc n) ss
        → filter unended (cond t rest (seat_info d (suc n) s ∷ rest)) ≡ cond (over d s) (present d (suc n) ss) (seat_info d (suc n) s ∷ present d (suc n) ss)
    by true o ih = ih ∙ sym (ap (λ z. cond z (present d (suc n) ss) (seat_info d (suc n) s ∷ present d (suc n) ss)) (still_over k lines c d s b e.0 o).over)
    by false o ih = ap (λ z. cond z (seat_info d (suc n) s ∷ filter unended rest) (filter unended rest)) (told_unended d (suc n) s) ∙ turned (over d s) ∙ ap (λ ps. cond (over d s) ps (seat_info d (suc n) s ∷ ps)) ih
      where
        turned : (t : Bool) → cond (not t) (seat_info d (suc n) s ∷ filter unended rest) (filter unended rest) ≡ cond t (filter unended rest) (seat_info d (suc n) s ∷ filter unended rest)
        turned true = refl
        turned false = refl

same_end : (s : own.Seat) → unended (seat_shown s) ≡ is_none s.session.end
same_end s = by s.session.end
  where
    by : (o : Option base_end.SessionEnd) → is_none (option_map end_shown o) ≡ is_none o
    by None = refl
    by (Some a) = refl

pub filter_shown : (ss : List own.Seat) → map seat_shown (filter (λ (s : own.Seat). is_none s.session.end) ss) ≡ filter unended (map seat_shown ss)
filter_shown [] = refl
filter_shown (s ∷ ss) =
    by (is_none s.session.end)
    ∙ ap (λ ps. cond (is_none s.session.end) (seat_shown s ∷ ps) ps) (filter_shown ss)
    ∙ ap (λ t. cond t (seat_shown s ∷ filter unended (map seat_shown ss)) (filter unended (map seat_shown ss))) (sym (same_end s))
  where
    by : (t : Bool) → map seat_shown (cond t (s ∷ filter (λ (z : own.Seat). is_none z.session.end) ss) (filter (λ (z : own.Seat). is_none z.session.end) ss)) ≡ cond t (seat_shown s ∷ map seat_shown (filter (λ (z : own.Seat). is_none z.session.end) ss)) (map seat_shown (filter (λ (z : own.Seat). is_none z.session.end) ss))
    by true = refl
    by false = refl

-- what holds of each line session goes on to hold

pub seats_later : (k : circuits.Kept) (lines : ℕ) (c d : Core) (ss : List Seat) → Between k c d → Each (IsSeat lines c) ss → Each (IsSeat lines d) ss
seats_later k lines c d [] b e = tt
seats_later k lines c d (s ∷ ss) b e = (seat_later k lines c d s b e.0, seats_later k lines c d ss b e.1)

pub latest_later : (k : circuits.Kept) (lines : ℕ) (c d : Core) (ss : List Seat) → Between k c d → Each (IsSeat lines c) ss → Latest c ss → Latest d ss
latest_later k lines c d [] b e l = tt
latest_later k lines c d (s ∷ ss) b e l = (here (over c s) refl, latest_later k lines c d ss b e.1 l.1)
  where
    here : (t : Bool) → over c s ≡ t → over d s ≡ false → NoneOn s.line ss
    here true o h = absurd (both_ways (over d s) h (still_over k lines c d s b e.0 o).over)
    here false o h = l.0 o
