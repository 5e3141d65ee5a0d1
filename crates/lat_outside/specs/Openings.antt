-- What an opener of ports was asked for.
use Rattle.std.specs.Prelude.{◌≡◌, ℕ, List, [], ◌∷◌, ◌++◌, Option, Some, None}
use Rattle.lat_base.specs.declared.addr.Addr.{Addr}

-- a carrier: the station's address, the port that frames come to, and the peers' ports
pub record CarrierView : Type 0 where
  pub own : Addr
  pub port : ℕ
  pub peers : List ℕ

-- the carriers and the lines that were asked for, in order, also those that couldn't be opened; of a line the port that it
-- listens at, if it does
pub record OpeningsView : Type 0 where
  pub carriers : List CarrierView
  pub lines : List (Option ℕ)

abbrev pub no_openings : OpeningsView
no_openings = record { carriers = []; lines = [] }

abbrev pub with_carrier : OpeningsView → Addr → ℕ → List ℕ → OpeningsView
with_carrier os own port peers = record os { carriers = os.carriers ++ record { own = own; port = port; peers = peers } ∷ [] }

abbrev pub with_line : OpeningsView → Option ℕ → OpeningsView
with_line os port = record os { lines = os.lines ++ port ∷ [] }
