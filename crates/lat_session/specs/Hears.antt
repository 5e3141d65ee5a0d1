-- What the hearing of a slot comes to.
use Rattle.std.specs.Prelude.{◌≡◌, ℕ, Bool, true, false, ◌&&◌, nat_eq, Result, Option, Some, is_ok}
use Rattle.std.specs.Option.{is_some}
use Rattle.lat_base.specs.declared.state.SessionState.{SessionState}
use Rattle.lat_base.specs.declared.state.SessionState.TheVariants.{Free, Calling, Left}
use Rattle.lat_model.specs.sessions.Sessions.{Sessions}
use Rattle.lat_stream.specs.Kept.{Kept}
use Rattle.lat_session.specs.declared.ask.Ask.{Ask}
use Rattle.lat_session.specs.declared.ask.Ask.TheVariants.{Waits, Rejected}
use Rattle.lat_session.specs.Table.{Table}
use Rattle.lat_session.specs.Stands.{Stands}

-- a bad slot is refused; after a good one the table stands for what the model makes of it
pub record Hears {A E : Type 0} (new : Table) (result : Result A E) (heard : Option Sessions) : Type 0 where
  pub answer : is_ok result ≡ is_some heard
  pub state : (f : Sessions) → heard ≡ Some f → Stands new f

-- neither free nor left
abbrev pub is_there : SessionState → Bool
is_there Free = false
is_there Left = false
is_there s = true

-- a session that is there and has this peer's id
abbrev pub has_peer : ℕ → Kept → Bool
has_peer from k = is_there k.state && nat_eq k.peer from

-- a waiting reject for this peer's id
abbrev pub rejects_peer : ℕ → Ask → Bool
rejects_peer from (Waits id) = false
rejects_peer from (Rejected peer reason) = nat_eq peer from

abbrev pub is_calling : SessionState → Bool
is_calling Calling = true
is_calling s = false
