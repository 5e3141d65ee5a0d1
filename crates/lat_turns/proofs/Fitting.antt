-- What a move's event is, and what comes of a hold by it.
use Rattle.std.proofs.Common.{◌≡◌, ℕ, ◌≤◌, List, length, refl, sym, subst, ◌∙◌, arith}
use Rattle.std.specs.Prelude.{true, Option, Some, None}
use Rattle.lat_base.specs.Answers.{items_asked}
use Rattle.lat_base.specs.declared.answer.Answer.{Answer}
use Rattle.lat_base.specs.declared.event.Event.{Event}
use Rattle.lat_base.specs.declared.look.Correspondent.{Correspondent}
use Rattle.lat_base.specs.declared.look.LineLook.{LineLook}
use Rattle.lat_history.specs.CellView.{CellView, SeatView}
use Rattle.lat_mind.specs.declared.fact.Move.{Move}
use Rattle.lat_mind.specs.declared.fact.Move.TheVariants as moves
use Rattle.lat_mind.specs.declared.look.Look.{Look}
use Rattle.lat_mind.specs.declared.mind.LineMind.{LineMind}
use Rattle.lat_mind.specs.Runs.{has_event}
use Rattle.lat_past.specs.Counts.{put_by, seat_of}
use Rattle.lat_turns.specs.Doors.{DoorView}
use Rattle.lat_turns.specs.Events.{move_event, put_by_move}
use Rattle.lat_turns.specs.Holds.{AppliedAs, HeldAs, MayAct}
use Rattle.lat_turns.specs.Kept.{kept_look}
use Rattle.lat_turns.specs.Lives.{DeskView, offer_of}
use Rattle.lat_turns.specs.declared.holding.Held.{Held}
use Rattle.lat_turns.specs.declared.holding.Held.TheVariants as helds
use Rattle.lat_turns.specs.declared.kept.Sessions.{Sessions}

abbrev pub FitsMove : Move → ℕ → ℕ → Option Event → Type 0
FitsMove go line offered None = Unit {0}
FitsMove go line offered (Some e) = (seat_of e ≡ line) × (has_event go ≡ true) × (put_by e ≤ put_by_move go offered) × (items_asked e ≤ 4096)

fits : (go : Move) (line : ℕ) (service : Option (List ℕ)) (bytes : List ℕ) → FitsMove go line (length bytes) (move_event go line service bytes)
fits moves.Ready line service bytes = (refl, refl, omega arith, omega arith)
fits moves.Unready line service bytes = (refl, refl, omega arith, omega arith)
fits moves.Connect line (Some s) bytes = (refl, refl, omega arith, omega arith)
fits moves.Connect line None bytes = tt
fits moves.Avoid line service bytes = (refl, refl, omega arith, omega arith)
fits moves.Attend line service bytes = (refl, refl, omega arith, omega arith)
fits moves.Close line service bytes = (refl, refl, omega arith, omega arith)
fits moves.Take line service bytes = (refl, refl, omega arith, omega arith)
fits moves.Put line service bytes = (refl, refl, omega arith, omega arith)
fits go line service bytes = tt

pub event_fits : (go : Move) (line : ℕ) (service : Option (List ℕ)) (bytes : List ℕ) (event : Event) → Some event ≡ move_event go line service bytes
    → FitsMove go line (length bytes) (Some event)
event_fits go line service bytes event is = subst (FitsMove go line (length bytes)) (sym is) (fits go line service bytes)

same : {C T S : Type 0} (opening : C → S) (next : S → Event → S) (answer : S → Event → Answer) (look_of : S → ℕ → LineLook)
    (old new : CellView C T) (share share' : SeatView) (door : DoorView) (who : Option Correspondent) (see : Look) (go : Move)
    (d d' : DeskView) (event : Event) (r : Held) → move_event go share.seat door.service (offer_of d) ≡ Some event
    → has_event go ≡ true → AppliedAs opening next answer look_of old new share share' see go d d' event r
    → HeldAs opening next answer look_of old new share share' door who see go d d' r
same opening next answer look_of old new share share' door who see go d d' event (helds.Told at) is has a = (event, is, a)
same opening next answer look_of old new share share' door who see go d d' event helds.Lacking is has a = (has, a.0, a.1)
same opening next answer look_of old new share share' door who see go d d' event (helds.CountsOut refusal) is has a = (event, is, a.0, a.1, a.2, a.3)
same opening next answer look_of old new share share' door who see go d d' event (helds.Outside move look port) is has a = absurd a

pub held_as : {C T S : Type 0} (opening : C → S) (next : S → Event → S) (answer : S → Event → Answer) (look_of : S → ℕ → LineLook)
    (old new : CellView C T) (share share' : SeatView) (door : DoorView) (who : Option Correspondent) (see see' : Look) (go go' : Move)
    (d d' : DeskView) (event : Event) (r : Held) → see ≡ see' → go ≡ go' → move_event go' share.seat door.service (offer_of d) ≡ Some event
    → has_event go ≡ true → AppliedAs opening next answer look_of old new share share' see go d d' event r
    → HeldAs opening next answer look_of old new share share' door who see' go' d d' r
held_as opening next answer look_of old new share share' door who see see' go go' d d' event r same_look same_move is has applied =
    let P : Look → Type 0 = λ s. AppliedAs opening next answer look_of old new share share' s go d d' event r in
    let Q : Move → Type 0 = λ m. AppliedAs opening next answer look_of old new share share' see' m d d' event r in
    let R : Move → Type 0 = λ m. has_event m ≡ true in
    same opening next answer look_of old new share share' door who see' go' d d' event r is (subst R same_move has) (subst Q same_move (subst P same_look applied))

pub never_outside : {C T S : Type 0} (opening : C → S) (next : S → Event → S) (answer : S → Event → Answer) (look_of : S → ℕ → LineLook)
    (old new : CellView C T) (share share' : SeatView) (see : Look) (go : Move) (d d' : DeskView) (event : Event) (r : Held)
    → AppliedAs opening next answer look_of old new share share' see go d d' event r → MayAct d' r
never_outside opening next answer look_of old new share share' see go d d' event (helds.Outside move look port) a = absurd a
never_outside opening next answer look_of old new share share' see go d d' event r a = tt

-- the event, by what it is made of
pub told_event : (go' go : Move) (line line' : ℕ) (service service' : Option (List ℕ)) (bytes bytes' : List ℕ) (event : Event) → go ≡ go' → line ≡ line'
    → service ≡ service' → bytes ≡ bytes' → Some event ≡ move_event go line service bytes → move_event go' line' service' bytes' ≡ Some event
told_event go' go line line' service service' bytes bytes' event same_go same_line same_service same_bytes is =
    let e : move_event go line service bytes ≡ move_event go' line' service' bytes' = λ i. move_event (same_go i) (same_line i) (same_service i) (same_bytes i) in
    sym (is ∙ e)

-- the look that is kept, by what it is made of
pub kept_same : (m : LineMind) (sessions sessions' : Sessions) (shown shown' see : Look) → sessions ≡ sessions' → shown ≡ shown'
    → see ≡ kept_look sessions m shown → see ≡ kept_look sessions' m shown'
kept_same m sessions sessions' shown shown' see same_sessions same_shown is =
    let e : kept_look sessions m shown ≡ kept_look sessions' m shown' = λ i. kept_look (same_sessions i) m (same_shown i) in
    is ∙ e
