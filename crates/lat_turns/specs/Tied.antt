-- A worker's life, and the callers of its line.
use Rattle.std.specs.Prelude.{◌≡◌, ◌⊎◌, ℕ, List, [], Bool, true, false, Some, None}
use Rattle.lat_base.specs.declared.item.Item.{Item}
use Rattle.lat_mind.specs.declared.phase.Phase.{Phase}
use Rattle.lat_mind.specs.declared.phase.Phase.TheVariants as phases
use Rattle.lat_mind.specs.Kinds.{is_calling}
use Rattle.lat_mind.specs.Runs.{Tale}
use Rattle.lat_outside.specs.Visits.{VisitView, VisitsView}
use Rattle.lat_turns.specs.Lives.{DeskView}
use Rattle.lat_turns.specs.Served.{AreVisitsOf, IsLeaving, served_of}
use Rattle.lat_turns.specs.Written.{items_bytes}

-- This caller has the line: it gave these bytes, and the bytes of these items were written to it; and it leaves if it has gone
pub record HasLine (read : List ℕ) (items : List Item) (gone : Bool) (vs : VisitsView) : Type 0 where
  pub who : VisitView
  pub present : vs.present ≡ Some who
  pub given : who.given ≡ read
  pub written : who.written ≡ items_bytes items
  pub leaves : gone ≡ true → IsLeaving who.standing

-- who waits beside gave nothing, and nothing was written to it
pub record WaitsBeside (vs : VisitsView) : Type 0 where
  pub who : VisitView
  pub beside : vs.beside ≡ Some who
  pub given : who.given ≡ []
  pub written : who.written ≡ []

-- somebody waits beside exactly where the mind counts with it
abbrev pub BesideAs : Bool → VisitsView → Type 0
BesideAs true vs = WaitsBeside vs
BesideAs false vs = vs.beside ≡ None

-- nobody is there
abbrev pub NobodyThere : VisitsView → Type 0
NobodyThere vs = (vs.present ≡ None) × (vs.beside ≡ None)

-- a worker that ends leaves nobody behind, or its caller, and who waits beside it, if one does
abbrev pub LeftBehind : Tale → VisitsView → Type 0
LeftBehind t vs = NobodyThere vs ⊎ (HasLine t.read t.written false vs × ((vs.beside ≡ None) ⊎ WaitsBeside vs))

abbrev pub TiedAt : Tale → Phase → VisitsView → Type 0
TiedAt t phases.Alone vs = NobodyThere vs
TiedAt t (phases.Waiting w) vs = HasLine t.read t.written w.gone vs × (vs.beside ≡ None)
TiedAt t (phases.Joined g) vs = HasLine t.read t.written g.failed vs × BesideAs g.beside vs × (is_calling t.mind.kind ≡ true → g.beside ≡ false)
TiedAt t phases.Finished vs = LeftBehind t vs

-- The callers of a line are those of its worker's life. Whoever was hung up, one by one, gave what was read of it, and has what
-- was written to it. Nobody has the line where its mind is without a caller; else its caller gave what was read of it, and has
-- what was written to it; and one waits beside where a caller was dialled meanwhile
pub record Tied (d : DeskView) (vs : VisitsView) : Type 0 where
  pub over : AreVisitsOf (served_of d) vs.over
  pub now : TiedAt d.tale d.tale.mind.phase vs
