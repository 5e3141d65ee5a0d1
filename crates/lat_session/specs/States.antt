-- States of sessions, and who has them.
use Rattle.std.specs.Prelude.{◌≡◌, ℕ, Bool, true, false, not, cond, nat_eq, count_by, List, [], ◌∷◌, Option, None, Some}
use Rattle.lat_base.specs.declared.state.SessionState.{SessionState}
use Rattle.lat_base.specs.declared.state.SessionState.TheVariants.{Free, Asked, Left}
use Rattle.lat_model.specs.Lists.{upwards, least}
use Rattle.lat_model.specs.sessions.Session.{state}
use Rattle.lat_model.specs.sessions.Sessions.{Sessions, named}
use Rattle.lat_stream.specs.Kept.{Kept, state_of}
use Rattle.lat_session.specs.declared.getters.Asked as asking

abbrev pub is_free : SessionState → Bool
is_free Free = true
is_free s = false

-- free or left
abbrev pub is_gone : SessionState → Bool
is_gone Free = true
is_gone Left = true
is_gone s = false

-- how many of them are of a session that isn't free
abbrev pub held_in : List Kept → ℕ
held_in ks = count_by (λ (k : Kept). not (is_free k.state)) ks

-- no place of them has a session
abbrev pub AllFree : List Kept → Type 0
AllFree [] = Unit {0}
AllFree (k ∷ ks) = (is_free k.state ≡ true) × AllFree ks

abbrev pub is_asked : SessionState → Bool
is_asked Asked = true
is_asked s = false

-- the least id that is asked for; 0 where there is none
abbrev pub least_asked : Sessions → ℕ
least_asked e = least (λ id. is_asked (state_of (state e.master (named e id)))) (upwards 0 64)

-- what it is asked for
abbrev pub asked_at : Sessions → ℕ → asking.Asked
asked_at e id = record { id = id; service = (named e id).service; request = (named e id).request }

abbrev pub asked_of : Sessions → Option asking.Asked
asked_of e = cond (nat_eq (least_asked e) 0) None (Some (asked_at e (least_asked e)))
