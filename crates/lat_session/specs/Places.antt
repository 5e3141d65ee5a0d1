-- The places of a table's sessions: which are reached, and what is lent of them.
use Rattle.std.specs.Prelude.{◌≡◌, ℕ, List, length, take, drop, slice_set}
use Rattle.std.specs.Borrow.{Lends, MutBor, Fml}
use Rattle.lat_stream.specs.Kept.{Kept}
use Rattle.lat_stream.specs.contracts.stream.Stream as stream
use Rattle.lat_session.specs.States.{AllFree}
use Rattle.lat_session.specs.contracts.places.Places as places

-- the front of the places, behind which all are free
pub record IsReached (front all : List Kept) : Type 0 where
  pub is : front ≡ take (length front) all
  pub rest : AllFree (drop (length front) all)

-- r lends place i: what is last written through r ends up there, and the others stay
abbrev pub LendsPlace : MutBor (List Kept) → ℕ → MutBor Kept → Fml
LendsPlace all i r = Lends places.the_row stream.the_row all r (slice_set all.now i)
