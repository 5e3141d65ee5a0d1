-- The life of a line's worker: its turns, and the tale that they tell.
use Rattle.std.specs.Prelude.{◌≡◌, ℕ, List, [], ◌∷◌, ◌++◌, if◌then◌else◌, nat_lt}
use Rattle.lat_base.specs.declared.item.Item.{Item}
use Rattle.lat_mind.specs.declared.fact.Fact.{Fact}
use Rattle.lat_mind.specs.declared.fact.Fact.TheVariants as facts
use Rattle.lat_mind.specs.declared.fact.Move.{Move}
use Rattle.lat_mind.specs.declared.look.Look.{Look}
use Rattle.lat_mind.specs.declared.kind.Kind.{Kind}
use Rattle.lat_mind.specs.Runs.{Answers, RunOf, Tale, Turn, due_at, fresh_tale, offer_at, tale_next, tale_of}

-- the kind of its line, its turns so far, and the tale of them
pub record DeskView : Type 0 where
  pub kind : Kind
  pub turns : List Turn
  pub tale : Tale

abbrev pub life_of : Kind → List Turn → DeskView
life_of kind turns = record { kind = kind; turns = turns; tale = tale_of (fresh_tale kind) turns }

-- the tale is that of the turns, and each of them is one that a worker can have: so the laws of runs hold of it
pub record IsLife (d : DeskView) : Type 0 where
  pub tale : d.tale ≡ tale_of (fresh_tale d.kind) d.turns
  pub run : RunOf (fresh_tale d.kind) d.turns

-- behind one turn more
abbrev pub with_turn : DeskView → Turn → DeskView
with_turn d x = record { kind = d.kind; turns = d.turns ++ x ∷ []; tale = tale_next d.tale x }

abbrev pub larger : ℕ → ℕ → ℕ
larger m n = if nat_lt m n then n else m

-- the turn at this look, of which this fact came, and these bytes or items; the numbers that the core has given to sessions are
-- known as far as turns and looks tell
abbrev pub turn_of : DeskView → Look → Fact → List ℕ → List Item → Turn
turn_of d see fact bytes items = record {
  look = see;
  fact = fact;
  bytes = bytes;
  items = items;
  drawn = larger d.tale.drawn see.line.newest;
}

-- behind the turn at this look of which this fact came, and nothing was given
abbrev pub behind : DeskView → Look → Fact → DeskView
behind d see fact = with_turn d (turn_of d see fact [] [])

-- the highest number that is known behind a fact
abbrev pub drawn_behind : ℕ → Fact → ℕ
drawn_behind drawn (facts.Connected number) = number
drawn_behind drawn _ = drawn

-- bytes and items stay where they are
abbrev pub IsPlain : Fact → Type 0
IsPlain (facts.Read n) = ⊥
IsPlain (facts.Put n) = ⊥
IsPlain (facts.Took n) = ⊥
IsPlain (facts.Written n) = ⊥
IsPlain fact = Unit {0}

-- a fact of this move, that says no number
abbrev pub IsCountless : Move → Fact → Type 0
IsCountless mv (facts.Connected n) = ⊥
IsCountless mv fact = Answers mv fact × IsPlain fact

-- what a put offers now
abbrev pub offer_of : DeskView → List ℕ
offer_of d = offer_at d.tale d.tale.mind.phase

-- what is owed to the caller now
abbrev pub due_of : DeskView → List Item
due_of d = due_at d.tale d.tale.mind.phase
