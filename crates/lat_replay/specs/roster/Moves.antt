-- Which end a move tells an event, and what it adds to the items of the rows.
use Rattle.std.specs.Prelude.{◌≡◌, Bool, not, cond, List, Option, Some, None, slice_get}
use Rattle.lat_machines.specs.values.Events.{is_heard}
use Rattle.lat_machines.specs.world.Machines.{Setups, Posted, Machines, Move, Does, HearsFrame, HearsForeign, is_for_other, is_own, run, open_machines}
use Rattle.lat_machines.specs.world.Safe.{Fit, answer_by}
use Rattle.lat_laws.specs.tales.Items.{line_of, put_by, taken_by}
use Rattle.lat_laws.specs.tales.Keeping.{adds}
use Rattle.lat_laws.specs.tales.Rows.{RowsAfter}

-- a world of a run from the opening
pub record IsReached (u : Setups) (w : Machines) : Type 0 where
  pub fit : Fit u
  pub moves : List Move
  pub run : w ≡ run u moves (open_machines u)

-- the end that hears a frame where it is delivered; None where none does
abbrev pub hearer : Setups → Option Posted → Option Bool
hearer u None = None
hearer u (Some p) = cond (is_for_other u p) (Some (not p.by_server)) None

-- the end that a move tells an event; None where it tells none
abbrev pub end_told : Setups → Machines → Move → Option Bool
end_told u w (Does b e rates) = cond (is_heard e) None (Some b)
end_told u w (HearsFrame i now rates) = hearer u (slice_get w.posts i)
end_told u w (HearsForeign b from payload now rates) = cond (is_own u from) None (Some b)

-- the rows with the items that a move puts and takes; what is heard does neither
abbrev pub items_added : Setups → Machines → Move → RowsAfter → RowsAfter
items_added u w (Does b e rates) k = adds b (line_of e) (put_by e (answer_by u w b e)) (taken_by e (answer_by u w b e)) k
items_added u w (HearsFrame i now rates) k = k
items_added u w (HearsForeign b from payload now rates) k = k
