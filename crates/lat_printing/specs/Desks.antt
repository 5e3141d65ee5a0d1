-- What a job's worker has before it, and what it has behind a turn.
use Rattle.std.specs.Prelude.{◌≡◌, ℕ, List, [], take, drop}
use Rattle.lat_base.specs.declared.item.Item.{Item}
use Rattle.lat_jobs.specs.declared.fact.Fact.{Fact}
use Rattle.lat_jobs.specs.declared.fact.Fact.TheVariants as facts
use Rattle.lat_jobs.specs.declared.look.Look.{Look}
use Rattle.lat_jobs.specs.declared.mind.JobMind.{JobMind}
use Rattle.lat_jobs.specs.Minds.{fresh_mind, mind_told}
use Rattle.lat_jobs.specs.Runs.{Tale, Turn, left_in, tale_next}

-- the mind, the bytes that were read and not put, and the items that were taken and not written
pub record DeskView : Type 0 where
  pub mind : JobMind
  pub hand : List ℕ
  pub desk : List Item

abbrev pub fresh_desk : DeskView
fresh_desk = record { mind = fresh_mind; hand = []; desk = [] }

-- what a put offers
abbrev pub offer_of : DeskView → List ℕ
offer_of d = take (left_in d.mind.phase) d.hand

abbrev pub hand_after : List ℕ → Fact → List ℕ → List ℕ
hand_after hand (facts.Read n) bytes = bytes
hand_after hand (facts.Put n) bytes = drop n hand
hand_after hand _ bytes = hand

abbrev pub desk_after : List Item → Fact → List Item → List Item
desk_after desk (facts.Took n) items = items
desk_after desk (facts.Written n) items = drop n desk
desk_after desk _ items = desk

-- behind the turn at this look of which this fact came, and these bytes or items
abbrev pub desk_told : DeskView → Look → Fact → List ℕ → List Item → DeskView
desk_told d see fact bytes items = record { mind = mind_told d.mind see fact; hand = hand_after d.hand fact bytes; desk = desk_after d.desk fact items }

-- bytes and items stay where they are
abbrev pub IsPlain : Fact → Type 0
IsPlain (facts.Read n) = ⊥
IsPlain (facts.Put n) = ⊥
IsPlain (facts.Took n) = ⊥
IsPlain (facts.Written n) = ⊥
IsPlain fact = Unit {0}

-- what a tale says that is before the worker
abbrev pub desk_in : Tale → DeskView
desk_in t = record { mind = t.mind; hand = t.hand; desk = t.desk }

-- a desk goes as its tale does, turn by turn: so what holds of runs holds of what is at hand
abbrev pub DesksGoAsTales : Type 0
DesksGoAsTales = (t : Tale) (x : Turn) → desk_in (tale_next t x) ≡ desk_told (desk_in t) x.look x.fact x.bytes x.items
