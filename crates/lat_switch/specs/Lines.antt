-- One line of a switch: it has four inner lines, each with a session of its own or none, and shows one of them.
use Rattle.std.specs.Prelude.{ℕ, ◌+◌, ◌-◌, ◌*◌, ◌%◌, Bool, true, false, not, cond, List, [], ◌∷◌, map, find, Option, Some, None, unwrap_or}
use Rattle.lat_base.specs.declared.state.SessionState.{SessionState}
use Rattle.lat_base.specs.declared.state.SessionState.TheVariants as states
use Rattle.lat_model.specs.Lists.{upwards}
use Rattle.lat_machines.specs.values.Names.{Name}
use Rattle.lat_server.specs.Looks.{look_of}
use Rattle.lat_server.specs.Stands.{Machine}

pub record Line : Type 0 where
  pub first : ℕ  -- the least of its four inner lines
  pub shown : ℕ  -- the one that is shown
  pub service : Option Name  -- the one that it was connected to last

abbrev pub inner_lines : Line → List ℕ
inner_lines l = map (λ i. l.first + i) (0 ∷ 1 ∷ 2 ∷ 3 ∷ [])

-- the one so many places behind the shown one, the least again behind the greatest
abbrev pub turned : Line → ℕ → ℕ
turned l i = l.first + (l.shown - l.first + i) % 4

-- the same four, from the one behind the shown one on: rising, once round
abbrev pub round : Line → List ℕ
round l = map (turned l) (1 ∷ 2 ∷ 3 ∷ 4 ∷ [])

abbrev pub is_session : SessionState → Bool
is_session states.Free = false
is_session _ = true

-- an inner line has a session
abbrev pub has_session : Machine → ℕ → Bool
has_session m x = is_session (look_of m x).state

-- the least inner line without a session
abbrev pub first_free : Machine → Line → Option ℕ
first_free m l = find (λ x. not (has_session m x)) (inner_lines l)

-- the next inner line that has a session is shown, where there is one
abbrev pub shows_next : Machine → Line → Line
shows_next m l = record l { shown = unwrap_or (find (has_session m) (round l)) l.shown }

-- a shown line without a session gives way to the next one that has one
abbrev pub gives_way : Machine → Line → Line
gives_way m l = cond (has_session m l.shown) l (shows_next m l)

-- an inner line that was connected is shown, and the service is the line's own
abbrev pub shows : ℕ → Name → Line → Line
shows x service l = record l { shown = x; service = Some service }

-- line k as it is opened, and the lines of a switch
abbrev pub opened_line : ℕ → Line
opened_line k = record { first = 4 * k - 3; shown = 4 * k - 3; service = None }

abbrev pub opened_lines : ℕ → List Line
opened_lines n = map opened_line (upwards 0 n)

abbrev pub no_line : Line
no_line = record { first = 0; shown = 0; service = None }
