-- The callers of a line who were hung up.
use Rattle.std.specs.Prelude.{◌≡◌, ◌⊎◌, ℕ, List, [], ◌∷◌, ◌++◌, Bool, true, false}
use Rattle.lat_base.specs.declared.item.Item.{Item}
use Rattle.lat_mind.specs.declared.fact.Fact.{Fact}
use Rattle.lat_mind.specs.declared.fact.Fact.TheVariants as facts
use Rattle.lat_mind.specs.declared.phase.Phase.{Phase}
use Rattle.lat_mind.specs.declared.phase.Phase.TheVariants as phases
use Rattle.lat_mind.specs.Good.{Each}
use Rattle.lat_mind.specs.Runs.{Tale, Turn, fresh_tale, tale_next}
use Rattle.lat_outside.specs.declared.visit.Standing.{Standing}
use Rattle.lat_outside.specs.declared.visit.Standing.TheVariants as standings
use Rattle.lat_outside.specs.Visits.{VisitView}
use Rattle.lat_turns.specs.Lives.{DeskView}
use Rattle.lat_turns.specs.Written.{items_bytes}

-- one caller, from its coming to its hang-up
pub record Served : Type 0 where
  pub read : List ℕ  -- all that it gave
  pub taken : List Item  -- all that was taken for it
  pub written : List Item  -- all that was written to it
  pub gone : Bool  -- whether its connection failed, or it had left before it had a session

abbrev pub gone_in : Phase → Bool
gone_in (phases.Waiting w) = w.gone
gone_in (phases.Joined g) = g.failed
gone_in _ = false

-- who has the line
abbrev pub served_as : Tale → Phase → Served
served_as t p = record { read = t.read; taken = t.taken; written = t.written; gone = gone_in p }

abbrev pub served_by : Tale → Served
served_by t = served_as t t.mind.phase

-- whom a turn hangs up
abbrev pub served_at : Tale → Fact → List Served
served_at t facts.HungUp = served_by t ∷ []
served_at t _ = []

-- who was hung up in these turns, the first one first
abbrev pub served_in : Tale → List Turn → List Served
served_in t [] = []
served_in t (x ∷ xs) = served_at t x.fact ++ served_in (tale_next t x) xs

-- who was hung up in a worker's life
abbrev pub served_of : DeskView → List Served
served_of d = served_in (fresh_tale d.kind) d.turns

-- it is known to leave, or its connection failed
abbrev pub IsLeaving : Standing → Type 0
IsLeaving standings.Stays = ⊥
IsLeaving _ = Unit {0}

-- this visit is that caller's: it gave what was read of it, and has what was written to it; and it leaves if the caller has gone
pub record IsVisitOf (s : Served) (v : VisitView) : Type 0 where
  pub given : v.given ≡ s.read
  pub written : v.written ≡ items_bytes s.written
  pub leaves : s.gone ≡ true → IsLeaving v.standing

-- one by one, the visits are those callers'
abbrev pub AreVisitsOf : List Served → List VisitView → Type 0
AreVisitsOf [] [] = Unit {0}
AreVisitsOf (s ∷ ss) (v ∷ vs) = IsVisitOf s v × AreVisitsOf ss vs
AreVisitsOf _ _ = ⊥

-- all that was taken for it was written to it, unless its connection failed, or it had left before it had a session
abbrev pub GotAll : Served → Type 0
GotAll s = (s.taken ≡ s.written) ⊎ (s.gone ≡ true)

-- of every caller who was hung up in this life
abbrev pub AllGotAll : DeskView → Type 0
AllGotAll d = Each GotAll (served_of d)
