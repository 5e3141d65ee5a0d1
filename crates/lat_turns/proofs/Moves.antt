-- Which moves have an event, and which facts are told of them.
use Rattle.std.proofs.Common.{◌≡◌, ℕ, List, [], ◌∷◌, refl, sym, ap, subst, ◌∙◌}
use Rattle.std.specs.Prelude.{Bool, true, false, nat_lt, if◌then◌else◌, Option, Some, None, IsSome, is_some}
use Rattle.lat_base.specs.declared.answer.Answer.{Answer}
use Rattle.lat_base.specs.declared.answer.Answer.TheVariants as answers
use Rattle.lat_mind.specs.declared.fact.Fact.{Fact}
use Rattle.lat_mind.specs.declared.fact.Fact.TheVariants as facts
use Rattle.lat_mind.specs.declared.fact.Move.{Move}
use Rattle.lat_mind.specs.declared.fact.Move.TheVariants as moves
use Rattle.lat_mind.specs.declared.look.Look.{Look}
use Rattle.lat_mind.specs.declared.mind.LineMind.{LineMind}
use Rattle.lat_mind.specs.declared.phase.Phase.{Phase}
use Rattle.lat_mind.specs.declared.phase.Phase.TheVariants as phases
use Rattle.lat_mind.specs.Kinds.{is_calling}
use Rattle.lat_mind.specs.Minds.{mind_next}
use Rattle.lat_mind.specs.Reasons.{Why}
use Rattle.lat_mind.specs.Runs.{Tale, Turn, fresh_tale, has_event, tale_next, tale_of}
use Rattle.lat_mind.proofs.Runs.{reason}
use Rattle.lat_turns.specs.Events.{connected_as, fact_of, move_event}
use Rattle.lat_turns.specs.Lives.{DeskView, IsLife}

calls : (m : LineMind) (p : Phase) (see : Look) → Why m p see moves.Connect → is_calling m.kind ≡ true
calls m phases.Alone see why = absurd why
calls m (phases.Waiting w) see why = why.2
calls m (phases.Joined g) see why = absurd why
calls m phases.Finished see why = absurd why

kind_kept : (xs : List Turn) (t : Tale) → (tale_of t xs).mind.kind ≡ t.mind.kind
kind_kept [] t = refl
kind_kept (x ∷ xs) t = kind_kept xs (tale_next t x)

-- only a mind of a calling line connects
pub connects : (d : DeskView) (see : Look) → IsLife d → mind_next d.tale.mind see ≡ moves.Connect → is_calling d.kind ≡ true
connects d see life go =
    let kind : d.tale.mind.kind ≡ d.kind = ap (λ t. t.mind.kind) life.tale ∙ kind_kept d.turns (fresh_tale d.kind) in
    sym (ap is_calling kind) ∙ calls d.tale.mind d.tale.mind.phase see (reason d.tale.mind d.tale.mind.phase see moves.Connect go)

pub has_events : (go : Move) (line : ℕ) (service : Option (List ℕ)) (bytes : List ℕ) → (go ≡ moves.Connect → IsSome service)
    → is_some (move_event go line service bytes) ≡ has_event go
has_events moves.Connect line (Some s) bytes has = refl
has_events moves.Connect line None bytes has = has refl
has_events go line service bytes has = refl

-- what is told of a move with an event
abbrev pub IsOfEvent : Fact → Type 0
IsOfEvent facts.Readied = Unit {0}
IsOfEvent facts.Unreadied = Unit {0}
IsOfEvent (facts.Connected n) = Unit {0}
IsOfEvent facts.Unconnected = Unit {0}
IsOfEvent facts.Avoided = Unit {0}
IsOfEvent facts.Attended = Unit {0}
IsOfEvent facts.Closed = Unit {0}
IsOfEvent (facts.Took n) = Unit {0}
IsOfEvent (facts.Put n) = Unit {0}
IsOfEvent facts.Lacking = Unit {0}
IsOfEvent _ = ⊥

of_choice : (b : Bool) (n : ℕ) → IsOfEvent (if b then facts.Connected n else facts.Unconnected)
of_choice true n = tt
of_choice false n = tt

of_connect : (a : Answer) (drawn number : ℕ) → IsOfEvent (connected_as a drawn number)
of_connect (answers.Connected circuit session) drawn number = of_choice (nat_lt drawn number) number
of_connect a drawn number = tt

pub of_event : (go : Move) (a : Answer) (drawn number : ℕ) → IsOfEvent (fact_of go a drawn number)
of_event moves.Connect a drawn number = of_connect a drawn number
of_event go a drawn number = tt

-- a move for which there is no event has none
pub without : (d : DeskView) (see : Look) (go : Move) (line : ℕ) (own service : Option (List ℕ)) (bytes : List ℕ) → IsLife d
    → (is_calling d.kind ≡ true → IsSome own) → service ≡ own → go ≡ mind_next d.tale.mind see → move_event go line service bytes ≡ None → has_event go ≡ false
without d see go line own service bytes life calls same is none =
    let P : Option (List ℕ) → Type 0 = λ o. IsSome o in
    let has : go ≡ moves.Connect → IsSome service = λ connect. subst P (sym same) (calls (connects d see life (sym is ∙ connect))) in
    sym (has_events go line service bytes has) ∙ ap is_some none
