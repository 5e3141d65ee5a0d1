-- The count of events rises by those of the turns.
use Rattle.std.proofs.Common.{◌≡◌, ℕ, ◌+◌, [], ◌∷◌, refl, ap, ◌∙◌, arith}
use Rattle.std.specs.Prelude.{Bool, true, false, nat_lt, if◌then◌else◌}
use Rattle.std.proofs.lemmas.Bool.{false≢true}
use Rattle.std.proofs.lemmas.List.Sums.{sum_by-append}
use Rattle.lat_base.specs.declared.answer.Answer.{Answer}
use Rattle.lat_base.specs.declared.answer.Answer.TheVariants as answers
use Rattle.lat_mind.specs.declared.fact.Fact.TheVariants as facts
use Rattle.lat_mind.specs.declared.fact.Move.{Move}
use Rattle.lat_mind.specs.declared.fact.Move.TheVariants as moves
use Rattle.lat_mind.specs.Runs.{Turn, has_event}
use Rattle.lat_turns.specs.Events.{connected_as, fact_of}
use Rattle.lat_turns.specs.Lives.{DeskView, turn_of, with_turn}
use Rattle.lat_turns.specs.Work.{HeldTurns, RoseAs, event_in, events_of}
use Rattle.lat_turns.specs.declared.holding.Held.{Held}
use Rattle.lat_turns.specs.declared.holding.Held.TheVariants as helds

-- by a turn
pub rose_turn : (d d' : DeskView) (x : Turn) (k n n' : ℕ) → event_in x.fact ≡ k → d' ≡ with_turn d x → n' ≡ n + k → RoseAs d d' n n'
rose_turn d d' x k n n' is told rose =
    let turns : events_of d'.turns ≡ events_of d.turns + events_of (x ∷ []) =
    ap (λ (w : DeskView). events_of w.turns) told ∙ sum_by-append (λ (y : Turn). event_in y.fact) d.turns (x ∷ []) in
    omega (arith, is, rose, turns)

-- by some turns, and then by others
pub rose_further : (a b c : DeskView) (k m n : ℕ) → RoseAs a b k m → RoseAs b c m n → RoseAs a c k n
rose_further a b c k m n one two = omega (arith, one, two)

-- by none
rose_nowhere : (d d' : DeskView) (n n' : ℕ) → d' ≡ d → n' ≡ n → RoseAs d d' n n'
rose_nowhere d d' n n' same stays =
    let turns : events_of d'.turns ≡ events_of d.turns = ap (λ (w : DeskView). events_of w.turns) same in
    omega (arith, stays, turns)

-- by a hold
pub rose_held : (r : Held) (d d' : DeskView) (n n' : ℕ) → HeldTurns r d d' n n' → RoseAs d d' n n'
rose_held (helds.Told at) d d' n n' h = rose_turn d d' h.0 1 n n' h.2 h.1 h.3
rose_held helds.Lacking d d' n n' h = rose_turn d d' (turn_of d h.0 facts.Lacking [] []) 0 n n' refl h.1 (omega (arith, h.2))
rose_held (helds.Outside go look port) d d' n n' h = rose_nowhere d d' n n' h.0 h.1
rose_held (helds.CountsOut refusal) d d' n n' h = rose_nowhere d d' n n' h.0 h.1

choice_told : (b : Bool) (n : ℕ) → event_in (if b then facts.Connected n else facts.Unconnected) ≡ 1
choice_told true n = refl
choice_told false n = refl

connects_told : (a : Answer) (drawn number : ℕ) → event_in (connected_as a drawn number) ≡ 1
connects_told (answers.Connected circuit session) drawn number = choice_told (nat_lt drawn number) number
connects_told a drawn number = refl

-- what is told of an event counts as one
pub event_told : (go : Move) (a : Answer) (drawn number : ℕ) → has_event go ≡ true → event_in (fact_of go a drawn number) ≡ 1
event_told moves.Ready a drawn number has = refl
event_told moves.Unready a drawn number has = refl
event_told moves.Connect a drawn number has = connects_told a drawn number
event_told moves.Avoid a drawn number has = refl
event_told moves.Attend a drawn number has = refl
event_told moves.Close a drawn number has = refl
event_told moves.Take a drawn number has = refl
event_told moves.Put a drawn number has = refl
event_told go a drawn number has = absurd (false≢true has)
