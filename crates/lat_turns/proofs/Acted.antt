-- What a worker does leaves its callers those of its life.
use Rattle.std.proofs.Common.{◌≡◌, ℕ, ◌+◌, ◌≤◌, [], ◌∷◌, length, length-take, refl, sym, ap, subst, ◌∙◌, arith}
use Rattle.std.specs.Prelude.{Bool, true, false, nat_lt, if◌then◌else◌, Option, Some, None, Result, Ok, Err}
use Rattle.lat_base.specs.declared.event.Event.{Event}
use Rattle.lat_base.specs.declared.answer.Answer.{Answer}
use Rattle.lat_base.specs.declared.answer.Answer.TheVariants as answers
use Rattle.lat_base.specs.declared.look.LineLook.{LineLook}
use Rattle.lat_history.specs.CellView.{CellView, SeatView}
use Rattle.lat_history.specs.History.{state_of}
use Rattle.lat_mind.specs.declared.fact.Fact.{Fact}
use Rattle.lat_mind.specs.declared.fact.Fact.TheVariants as facts
use Rattle.lat_mind.specs.declared.fact.Move.{Move}
use Rattle.lat_mind.specs.declared.fact.Move.TheVariants as moves
use Rattle.lat_mind.specs.declared.look.Look.{Look}
use Rattle.lat_mind.specs.declared.phase.Phase.{Phase}
use Rattle.lat_mind.specs.declared.phase.Phase.TheVariants as phases
use Rattle.lat_mind.specs.Phases.{phase_after}
use Rattle.lat_mind.specs.Good.{Good}
use Rattle.lat_mind.specs.Minds.{mind_next}
use Rattle.lat_mind.specs.Runs.{Turn, due_at}
use Rattle.lat_mind.proofs.Runs.{good_from_fresh, reason}
use Rattle.lat_outside.specs.declared.callers.CallerGot.{CallerGot}
use Rattle.lat_outside.specs.declared.callers.CallerGot.TheVariants as gots
use Rattle.lat_outside.specs.declared.callers.Knock.{Knock}
use Rattle.lat_outside.specs.declared.callers.Knock.TheVariants as knocks
use Rattle.lat_outside.specs.declared.callers.Presence.{Presence}
use Rattle.lat_outside.specs.declared.callers.Presence.TheVariants as presences
use Rattle.lat_outside.specs.declared.outside.Failed.{Failed}
use Rattle.lat_outside.specs.Visits.{VisitsView, accepted, read_by, watched_by, with_present}
use Rattle.lat_outside.specs.Visits as visits
use Rattle.lat_turns.specs.Acts.{Acted, attached, dialled, got_of, knocked, piece_of, watched, wrote_fact}
use Rattle.lat_past.specs.Counts.{put_of}
use Rattle.lat_turns.specs.Events.{connected_as, fact_of, put_by_move}
use Rattle.lat_turns.specs.Holds.{AppliedAs, event_turn}
use Rattle.lat_turns.specs.Lives.{DeskView, IsLife, behind, larger, turn_of, with_turn}
use Rattle.lat_turns.specs.Served.{AreVisitsOf, served_of}
use Rattle.lat_turns.specs.Tied.{Tied}
use Rattle.lat_turns.specs.Work.{RoseAs, WentOn, event_in, put_in}
use Rattle.lat_turns.specs.Written.{wrote_by}
use Rattle.lat_turns.specs.declared.holding.Held.{Held}
use Rattle.lat_turns.specs.declared.holding.Held.TheVariants as helds
use Rattle.lat_turns.proofs.Front.{if_ok}
use Rattle.lat_turns.proofs.Rising.{rose_turn}
use Rattle.lat_turns.proofs.Moves.{of_event}
use Rattle.lat_turns.proofs.Overs.{dial_over, dial_serves, events_serve, knock_serves, over_hung, over_stays, read_serves, watch_serves, write_serves}
use Rattle.lat_turns.proofs.Ties.{Next, accept_at, attach_at, dial_at, event_tied, finish_at, hang_at, join_at, lose_at, read_at, rest_at, watch_at, write_at}

-- behind this turn
settled : (d d' : DeskView) (x : Turn) (vs vs' : VisitsView) → d' ≡ with_turn d x → vs' ≡ vs → AreVisitsOf (served_of (with_turn d x)) vs.over
    → Next d.tale d.tale.mind.phase x x.fact vs → Tied d' vs'
settled d d' x vs vs' told same over now =
    let P : DeskView → Type 0 = λ w. Tied w vs' in
    let all : Tied (with_turn d x) vs = record { over = over; now = now } in
    subst P (sym told) (subst (Tied (with_turn d x)) (sym same) all)

good_of : (d : DeskView) → IsLife d → Good d.tale
good_of d life = subst Good (sym life.tale) (good_from_fresh d.kind d.turns life.run)

pub acted_tied : (go : Move) (see : Look) (port : Option ℕ) (d d' : DeskView) (vs vs' : VisitsView) → IsLife d → mind_next d.tale.mind see ≡ go
    → Acted go see port d d' vs vs' → Tied d vs → Tied d' vs'
acted_tied moves.Accept see port d d' vs vs' life go a h =
    let t = d.tale in
    let p = t.mind.phase in
    let x = turn_of d see (knocked a.result) [] [] in
    let k = knock_serves t a.result vs in
    let over = over_stays d x vs (accepted vs a.result) life k.0 k.1 h.over in
    settled d d' x (accepted vs a.result) vs' a.told a.visits over (accept_at t p x a.result vs (reason t.mind p see moves.Accept go) h.now)
acted_tied moves.Dial see port d d' vs vs' life go a h =
    let t = d.tale in
    let p = t.mind.phase in
    let x = turn_of d see (dialled a.result) [] [] in
    let over = over_stays d x vs vs' life (dial_serves t a.result).0 (dial_over vs vs' port a.result a.visits) h.over in
    settled d d' x vs' vs' a.told refl over (dial_at t p x port a.result vs vs' (good_of d life).phase (reason t.mind p see moves.Dial go) a.visits h.now)
acted_tied moves.Attach see port d d' vs vs' life go a h =
    let t = d.tale in
    let p = t.mind.phase in
    let x = turn_of d see (attached a.result) [] [] in
    let over = over_stays d x vs vs' life (dial_serves t a.result).1 (dial_over vs vs' port a.result a.visits) h.over in
    settled d d' x vs' vs' a.told refl over (attach_at t p x port a.result vs vs' (reason t.mind p see moves.Attach go) a.visits h.now)
acted_tied moves.Read see port d d' vs vs' life go a h =
    let t = d.tale in
    let p = t.mind.phase in
    let x = turn_of d see (got_of a.result) a.bytes [] in
    let now = with_present vs (read_by a.result a.bytes) in
    let over = over_stays d x vs now life (read_serves t a.result) refl h.over in
    settled d d' x now vs' a.told a.visits over (read_at t p x a.result vs (reason t.mind p see moves.Read go) a.gave h.now)
acted_tied moves.Write see port d d' vs vs' life go a h =
    let t = d.tale in
    let p = t.mind.phase in
    let x = turn_of d see (wrote_fact a.result) [] [] in
    let P : ℕ → Type 0 = λ n. n ≤ length (piece_of d) in
    let Q : ℕ → Type 0 = λ n. n ≤ 1024 in
    let within = if_ok P Q (λ n le. omega (arith, le, length-take 1024 (due_at t p))) a.result a.within in
    let now = with_present vs (wrote_by a.result (piece_of d)) in
    let over = over_stays d x vs now life (write_serves t a.result) refl h.over in
    settled d d' x now vs' a.told a.visits over (write_at t p x a.result vs (reason t.mind p see moves.Write go) within h.now)
acted_tied moves.Watch see port d d' vs vs' life go a h =
    let t = d.tale in
    let p = t.mind.phase in
    let x = turn_of d see (watched a.result) [] [] in
    let now = with_present vs (watched_by a.result) in
    let over = over_stays d x vs now life (watch_serves t a.result) refl h.over in
    settled d d' x now vs' a.told a.visits over (watch_at t p x a.result vs (reason t.mind p see moves.Watch go) h.now)
acted_tied moves.HangUp see port d d' vs vs' life go a h =
    let t = d.tale in
    let p = t.mind.phase in
    let x = turn_of d see facts.HungUp [] [] in
    let why = reason t.mind p see moves.HangUp go in
    settled d d' x (visits.hung_up vs) vs' a.told a.visits (over_hung d x vs life refl why h.now h.over) (hang_at t p x vs why h.now)
acted_tied moves.Join see port d d' vs vs' life go a h =
    let t = d.tale in
    let p = t.mind.phase in
    let x = turn_of d see facts.Joined [] [] in
    settled d d' x vs vs' a.told a.visits (over_stays d x vs vs life refl refl h.over) (join_at t p x vs (reason t.mind p see moves.Join go) h.now)
acted_tied moves.Lose see port d d' vs vs' life go a h =
    let t = d.tale in
    let p = t.mind.phase in
    let x = turn_of d see facts.Lost [] [] in
    settled d d' x vs vs' a.told a.visits (over_stays d x vs vs life refl refl h.over) (lose_at t p x vs (reason t.mind p see moves.Lose go) h.now)
acted_tied moves.Rest see port d d' vs vs' life go a h =
    let x = turn_of d see facts.Rested [] [] in
    settled d d' x vs vs' a.told a.visits (over_stays d x vs vs life refl refl h.over) (rest_at d.tale d.tale.mind.phase x vs h.now)
acted_tied moves.Finish see port d d' vs vs' life go a h =
    let t = d.tale in
    let p = t.mind.phase in
    let x = turn_of d see facts.Finished [] [] in
    settled d d' x vs vs' a.told a.visits (over_stays d x vs vs life refl refl h.over) (finish_at t p x vs (reason t.mind p see moves.Finish go) h.now)
acted_tied go see port d d' vs vs' life is a h = absurd a

pub lacking_tied : (d d' : DeskView) (see : Look) (vs : VisitsView) → IsLife d → d' ≡ behind d see facts.Lacking → Tied d vs → Tied d' vs
lacking_tied d d' see vs life told h =
    let x = turn_of d see facts.Lacking [] [] in
    settled d d' x vs vs told refl (over_stays d x vs vs life refl refl h.over) (event_tied d.tale d.tale.mind.phase x facts.Lacking vs tt h.now)

-- an event touches no caller
pub applied_tied : {C T S : Type 0} (opening : C → S) (next : S → Event → S) (answer : S → Event → Answer) (look_of : S → ℕ → LineLook)
    (old new : CellView C T) (share share' : SeatView) (see : Look) (go : Move) (d d' : DeskView) (event : Event) (r : Held)
    → AppliedAs opening next answer look_of old new share share' see go d d' event r → (vs : VisitsView) → IsLife d → Tied d vs → Tied d' vs
applied_tied opening next answer look_of old new share share' see go d d' event (helds.Told at) a vs life h =
    let said = answer (state_of opening next old) event in
    let number = (look_of (state_of opening next new) share.seat).newest in
    let x = event_turn d see go said number in
    let of = of_event go said (larger d.tale.drawn see.line.newest) number in
    let over = over_stays d x vs vs life (events_serve d.tale x.fact of) refl h.over in
    settled d d' x vs vs a.told refl over (event_tied d.tale d.tale.mind.phase x x.fact vs of h.now)
applied_tied opening next answer look_of old new share share' see go d d' event helds.Lacking a vs life h =
    lacking_tied d d' see vs life a.1 h
applied_tied opening next answer look_of old new share share' see go d d' event (helds.CountsOut refusal) a vs life h =
    let P : DeskView → Type 0 = λ w. Tied w vs in
    subst P (sym a.2) h
applied_tied opening next answer look_of old new share share' see go d d' event (helds.Outside move look port) a vs life h = absurd a

-- bytes are put by an event alone
no_put : (d d' : DeskView) (x : Turn) → put_in x.fact ≡ 0 → d' ≡ with_turn d x → (n : ℕ) → WentOn d d' n n
no_put d d' x none told n = record {
  more = x ∷ [];
  kind = ap (λ w. w.kind) told;
  turns = ap (λ w. w.turns) told;
  counted = omega (arith, none);
}

-- no bytes are put, and no event is applied
abbrev IsIdle : Fact → Type 0
IsIdle f = (put_in f ≡ 0) × (event_in f ≡ 0)

knocks_idle : (r : Result Knock Failed) → IsIdle (knocked r)
knocks_idle (Ok knocks.Came) = (refl, refl)
knocks_idle (Ok knocks.Quiet) = (refl, refl)
knocks_idle (Err e) = (refl, refl)

dials_idle : (r : Option (Result Unit Failed)) → IsIdle (dialled r) × IsIdle (attached r)
dials_idle (Some (Ok u)) = ((refl, refl), (refl, refl))
dials_idle (Some (Err e)) = ((refl, refl), (refl, refl))
dials_idle None = ((refl, refl), (refl, refl))

reads_idle : (r : Result CallerGot Failed) → IsIdle (got_of r)
reads_idle (Ok (gots.Bytes n)) = (refl, refl)
reads_idle (Ok gots.Quiet) = (refl, refl)
reads_idle (Ok gots.Ended) = (refl, refl)
reads_idle (Err e) = (refl, refl)

writes_idle : (r : Result ℕ Failed) → IsIdle (wrote_fact r)
writes_idle (Ok n) = (refl, refl)
writes_idle (Err e) = (refl, refl)

watches_idle : (r : Result Presence Failed) → IsIdle (watched r)
watches_idle (Ok presences.Stays) = (refl, refl)
watches_idle (Ok presences.Leaves) = (refl, refl)
watches_idle (Err e) = (refl, refl)

-- what is done outside the lock is one turn, by which no bytes are put and no event is applied
pub record OneTurn (d d' : DeskView) : Type 0 where
  pub turn : Turn
  pub told : d' ≡ with_turn d turn
  pub idle : IsIdle turn.fact

pub acted_turn : (go : Move) (see : Look) (port : Option ℕ) (d d' : DeskView) (vs vs' : VisitsView) → Acted go see port d d' vs vs' → OneTurn d d'
acted_turn moves.Accept see port d d' vs vs' a = record { turn = turn_of d see (knocked a.result) [] []; told = a.told; idle = knocks_idle a.result }
acted_turn moves.Dial see port d d' vs vs' a = record { turn = turn_of d see (dialled a.result) [] []; told = a.told; idle = (dials_idle a.result).0 }
acted_turn moves.Attach see port d d' vs vs' a = record { turn = turn_of d see (attached a.result) [] []; told = a.told; idle = (dials_idle a.result).1 }
acted_turn moves.Read see port d d' vs vs' a = record { turn = turn_of d see (got_of a.result) a.bytes []; told = a.told; idle = reads_idle a.result }
acted_turn moves.Write see port d d' vs vs' a = record { turn = turn_of d see (wrote_fact a.result) [] []; told = a.told; idle = writes_idle a.result }
acted_turn moves.Watch see port d d' vs vs' a = record { turn = turn_of d see (watched a.result) [] []; told = a.told; idle = watches_idle a.result }
acted_turn moves.HangUp see port d d' vs vs' a = record { turn = turn_of d see facts.HungUp [] []; told = a.told; idle = (refl, refl) }
acted_turn moves.Join see port d d' vs vs' a = record { turn = turn_of d see facts.Joined [] []; told = a.told; idle = (refl, refl) }
acted_turn moves.Lose see port d d' vs vs' a = record { turn = turn_of d see facts.Lost [] []; told = a.told; idle = (refl, refl) }
acted_turn moves.Rest see port d d' vs vs' a = record { turn = turn_of d see facts.Rested [] []; told = a.told; idle = (refl, refl) }
acted_turn moves.Finish see port d d' vs vs' a = record { turn = turn_of d see facts.Finished [] []; told = a.told; idle = (refl, refl) }
acted_turn go see port d d' vs vs' a = absurd a

pub acted_went : (go : Move) (see : Look) (port : Option ℕ) (d d' : DeskView) (vs vs' : VisitsView) → Acted go see port d d' vs vs' → (n : ℕ) → WentOn d d' n n
acted_went go see port d d' vs vs' a n = let one = acted_turn go see port d d' vs vs' a in no_put d d' one.turn one.idle.0 one.told n

pub acted_rose : (go : Move) (see : Look) (port : Option ℕ) (d d' : DeskView) (vs vs' : VisitsView) → Acted go see port d d' vs vs' → (n : ℕ) → RoseAs d d' n n
acted_rose go see port d d' vs vs' a n = let one = acted_turn go see port d d' vs vs' a in rose_turn d d' one.turn 0 n n one.idle.1 one.told (omega arith)

ends : (p : Phase) (see : Look) → phase_after p see facts.Finished ≡ phases.Finished
ends phases.Alone see = refl
ends (phases.Waiting w) see = refl
ends (phases.Joined g) see = refl
ends phases.Finished see = refl

-- a mind that finishes has finished
pub finishes : (go : Move) (see : Look) (port : Option ℕ) (d d' : DeskView) (vs vs' : VisitsView) → Acted go see port d d' vs vs' → go ≡ moves.Finish
    → d'.tale.mind.phase ≡ phases.Finished
finishes go see port d d' vs vs' a is =
    let P : Move → Type 0 = λ m. Acted m see port d d' vs vs' in
    let done : Acted moves.Finish see port d d' vs vs' = subst P is a in
    ap (λ w. w.tale.mind.phase) done.told ∙ ends d.tale.mind.phase see

choice_puts : (b : Bool) (n : ℕ) → put_in (if b then facts.Connected n else facts.Unconnected) ≡ 0
choice_puts true n = refl
choice_puts false n = refl

connects_put : (a : Answer) (drawn number : ℕ) → put_in (connected_as a drawn number) ≡ 0
connects_put (answers.Connected circuit session) drawn number = choice_puts (nat_lt drawn number) number
connects_put a drawn number = refl

-- what is told of an event puts as much as its answer says
event_puts : (go : Move) (a : Answer) (drawn number offered : ℕ) → put_of a ≤ put_by_move go offered → put_in (fact_of go a drawn number) ≡ put_of a
event_puts moves.Put a drawn number offered le = refl
event_puts moves.Connect a drawn number offered le = connects_put a drawn number ∙ omega (arith, le)
event_puts go a drawn number offered le = omega (arith, le)

pub event_went : (d d' : DeskView) (see : Look) (go : Move) (a : Answer) (number offered n n' : ℕ) → put_of a ≤ put_by_move go offered
    → d' ≡ with_turn d (event_turn d see go a number) → n' ≡ n + put_of a → WentOn d d' n n'
event_went d d' see go a number offered n n' le told counted =
    let x = event_turn d see go a number in
    let puts : put_in x.fact ≡ put_of a = event_puts go a (larger d.tale.drawn see.line.newest) number offered le in
    record {
      more = x ∷ [];
      kind = ap (λ w. w.kind) told;
      turns = ap (λ w. w.turns) told;
      counted = omega (arith, counted, puts);
    }
