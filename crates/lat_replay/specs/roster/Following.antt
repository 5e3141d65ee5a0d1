-- How far the rows have followed the new sessions of an end.
use Rattle.std.specs.Prelude.{◌≡◌, ◌≢◌, ℕ, suc, Bool, true, false, List, ◌++◌, length}
use Rattle.lat_machines.specs.cores.Cores.{Seat}
use Rattle.lat_machines.specs.world.Machines.{Setups, Machines, core_of}
use Rattle.lat_replay.specs.roster.Roster as rosters
use Rattle.lat_replay.specs.roster.Roster.{HasRows, last_row}
use Rattle.lat_laws.specs.tales.Books.{InBooks}
use Rattle.lat_laws.specs.tales.Keeping.{lines_of, connects_all, accepts_all}
use Rattle.lat_laws.specs.tales.Mates.{last_named}
use Rattle.lat_laws.specs.tales.Rows.{RowsAfter, newest_place}

-- the rows with new sessions of an end, behind those in front
abbrev pub rows_with : Setups → Machines → Bool → List Seat → List Seat → RowsAfter → RowsAfter
rows_with u x true front ss k = connects_all x.server.core front ss k
rows_with u x false front ss k = accepts_all u x front ss k

-- The roster shows rows that these new sessions, behind those in front, lead to the target
pub record Stage (u : Setups) (x : Machines) (server : Bool) (front rest : List Seat) (r target : RowsAfter) (k : rosters.Kept) : Type 0 where
  pub seats : (core_of x server).seats ≡ front ++ rest
  pub books : InBooks (core_of x server) front rest
  pub shows : HasRows k r
  pub leads : rows_with u x server front rest r ≡ target
  -- a line without a session in front has no row
  pub placed : (line : ℕ) → lines_of server r line ≢ 0 → newest_place line 0 0 front ≢ 0
  pub named : server ≡ false → (circuit id : ℕ) → last_row circuit id 0 0 r.rows ≡ last_named circuit id 0 0 x.server.core.seats

-- The roster shows rows from which so many new sessions, the first one with this number, lead to the target
pub record LeadsTo (u : Setups) (x : Machines) (server : Bool) (number count : ℕ) (target : RowsAfter) (k : rosters.Kept) : Type 0 where
  pub front : List Seat
  pub rest : List Seat
  pub rows : RowsAfter
  pub number_is : number ≡ suc (length front)
  pub count_is : count ≡ length rest
  pub stage : Stage u x server front rest rows target k
