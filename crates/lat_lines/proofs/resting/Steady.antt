-- Line sessions that are as they were.
use Rattle.std.proofs.Common.{◌≡◌, ℕ, suc, Bool, true, false, not, cond, List, [], ◌∷◌, ◌++◌, length, filter, nat_eq, refl, ap, ◌∙◌}
use Rattle.lat_model.specs.Lists.{Each}
use Rattle.lat_machines.specs.cores.Books.{LineSession, line_session, line_history, book_of, book}
use Rattle.lat_machines.specs.cores.Cores.{Seat, no_seat, Core}
use Rattle.lat_machines.specs.cores.Lines.{over, last_on, has_session, ended}
use Rattle.lat_lines.specs.Stands.{Present, session_info, present, freed_key, freed_from}

-- what its line knows of it
pub record IsSteady (c d : Core) (s : Seat) : Type 0 where
  pub over : over d s ≡ over c s
  pub told : (n : ℕ) → line_session d n s ≡ line_session c n s

abbrev pub AllSteady : Core → Core → List Seat → Type 0
AllSteady c d ss = Each (IsSteady c d) ss

abbrev told_as : Seat → LineSession → Present
told_as s l = record { line = s.line; key = s.key; session = session_info l }

pub present_steady : (c d : Core) (n : ℕ) (ss : List Seat) → AllSteady c d ss → present d n ss ≡ present c n ss
present_steady c d n [] e = refl
present_steady c d n (s ∷ ss) e =
    let ih = present_steady c d (suc n) ss e.1 in
    λ j. cond (e.0.over j) (ih j) (told_as s (e.0.told (suc n) j) ∷ ih j)

history_steady : (c d : Core) (line n : ℕ) (ss : List Seat) → AllSteady c d ss → line_history d line n ss ≡ line_history c line n ss
history_steady c d line n [] e = refl
history_steady c d line n (s ∷ ss) e =
    let ih = history_steady c d line (suc n) ss e.1 in
    λ j. ih j ++ cond (nat_eq s.line line) (e.0.told (suc n) j ∷ []) []

last_steady : (c d : Core) (line : ℕ) (s : Seat) (ss : List Seat) → over d s ≡ over c s → AllSteady c d ss → over d (last_on line s ss) ≡ over c (last_on line s ss)
last_steady c d line s [] o e = o
last_steady c d line s (x ∷ xs) o e = last_steady c d line (cond (nat_eq x.line line) x s) xs (by (nat_eq x.line line)) e.1
  where
    by : (b : Bool) → over d (cond b x s) ≡ over c (cond b x s)
    by true = e.0.over
    by false = o

-- a line that never had a session has none
pub book_steady : (c d : Core) (line : ℕ) → d.seats ≡ c.seats → over d no_seat ≡ over c no_seat → AllSteady c d c.seats → book d line ≡ book c line
book_steady c d line same none e =
    let busy : has_session d line ≡ has_session c line = ap (λ ss. not (over d (last_on line no_seat ss))) same ∙ ap not (last_steady c d line no_seat c.seats none e) in
    let history = ap (line_history d line 0) same ∙ history_steady c d line 0 c.seats e in
    λ j. book_of (busy j) (history j)

over_steady : (c d : Core) (ss : List Seat) → AllSteady c d ss → filter (over d) ss ≡ filter (over c) ss
over_steady c d [] e = refl
over_steady c d (s ∷ ss) e =
    let ih = over_steady c d ss e.1 in
    λ j. cond (e.0.over j) (s ∷ ih j) (ih j)

pub ended_steady : (c d : Core) → d.seats ≡ c.seats → AllSteady c d c.seats → ended d ≡ ended c
ended_steady c d same e = ap (λ ss. length (filter (over d) ss)) same ∙ ap length (over_steady c d c.seats e)

pub freed_steady : (c d : Core) (ss : List Seat) → AllSteady c d ss → freed_from c d ss ≡ []
freed_steady c d [] e = refl
freed_steady c d (s ∷ ss) e =
    ap (λ b. cond (over c s) (freed_from c d ss) (cond b (freed_key s.key (freed_from c d ss)) (freed_from c d ss))) e.0.over ∙ by (over c s) (freed_steady c d ss e.1)
  where
    by : (b : Bool) → freed_from c d ss ≡ [] → cond b (freed_from c d ss) (cond b (freed_key s.key (freed_from c d ss)) (freed_from c d ss)) ≡ []
    by true ih = ih
    by false ih = ih
