-- What the seats of a daemon have, and what their workers leave of them.
use Rattle.std.specs.Prelude.{◌≡◌, true, IsSome, ℕ, ◌+◌, ◌-◌, ◌≤◌, List, [], ◌∷◌, length, map, sum_by, vec_len, vec_capacity}
use Rattle.lat_history.specs.CellView.{SeatView}
use Rattle.lat_history.specs.Seats.{all_seats, fresh, seats_from}
use Rattle.lat_turns.specs.declared.worker.LineWorker.{LineWorker}
use Rattle.lat_turns.specs.declared.worker.LineDone.{LineDone}
use Rattle.lat_mind.specs.Good.{Each}
use Rattle.lat_mind.specs.Kinds.{is_calling}
use Rattle.lat_outside.specs.Visits.{VisitsView}
use Rattle.lat_turns.specs.Lives.{DeskView, IsLife}
use Rattle.lat_turns.specs.Tied.{Tied}
use Rattle.lat_turns.specs.Work.{IsDone, WentOn}
use Rattle.lat_live.specs.Opened.{IsNew}
use Rattle.lat_live.specs.Posts.{IsPosted}
use Rattle.lat_live.specs.declared.plan.Plan.{Plan}
use Rattle.lat_live.specs.declared.seats.Seated.{Seated}
use Rattle.lat_live.specs.declared.seats.Given.{Given}

-- nothing is done yet at the wire and at the clock, which has all parts of the books but those of the wire and of so many lines
abbrev pub IsFreshAround : {K P E B : Type 0} → ℕ → Seated K P E B → Type 0
IsFreshAround lines seated = (seated.wire ≡ fresh 0 1) × (seated.clock ≡ fresh 65 (65 - lines))

-- no seat has given anything back
abbrev pub IsNothing : {K E B : Type 0} → Given K E B → Type 0
IsNothing given = (given.shares.items ≡ []) × (given.ends.items ≡ []) × (given.lines.items ≡ [])

-- there is room for the ends of so many lines, and for the lines
abbrev pub HasRoom : {K E B : Type 0} → ℕ → Given K E B → Type 0
HasRoom lines given = (lines ≤ vec_capacity given.ends) × (lines ≤ vec_capacity given.lines)

-- R holds of two lists, place by place, and one is as long as the other
abbrev pub EachPair : {A B : Type 0} → (A → B → Type 0) → List A → List B → Type 0
EachPair R [] [] = Unit {0}
EachPair R [] (y ∷ ys) = ⊥
EachPair R (x ∷ xs) [] = ⊥
EachPair R (x ∷ xs) (y ∷ ys) = R x y × EachPair R xs ys

abbrev pub share_of : {K P E B : Type 0} → LineWorker K P E B → SeatView
share_of w = w.share

abbrev pub done_of : {K P E B : Type 0} → LineWorker K P E B → LineDone
done_of w = w.done

abbrev pub callers_of : {K P E B : Type 0} → LineWorker K P E B → K
callers_of w = w.callers

-- nothing is done yet at any seat of the plan's lines, each of which has its post, and there is room for all that the seats give back
pub record AreFresh {K P E B : Type 0} (visits : K → VisitsView) (plan : Plan) (seated : Seated K P E B) (given : Given K E B) : Type 0 where
  pub around : IsFreshAround (length plan.lines.now) seated
  pub shares : map share_of seated.lines.items ≡ seats_from (length plan.lines.now) 1
  pub posted : EachPair (IsPosted plan) plan.lines.now seated.lines.items
  pub new : Each (λ w. IsNew (visits w.callers)) seated.lines.items
  pub count : vec_len seated.lines ≡ length plan.lines.now
  pub empty : IsNothing given
  pub room : length plan.lines.now + 2 ≤ vec_capacity given.shares
  pub rooms : HasRoom (length plan.lines.now) given

-- a worker gives back the share of its seat, with the same parts of the books
pub record SamePlace (old new : SeatView) : Type 0 where
  pub seat : new.seat ≡ old.seat
  pub parts : new.parts ≡ old.parts

-- a calling line has a service
abbrev pub MayWork : {K P E B : Type 0} → LineWorker K P E B → Type 0
MayWork w = is_calling w.desk.kind ≡ true → IsSome w.door.service

-- a line's worker gives back the share of its seat, with the same parts of the books; its turns are a life, and go on from those that
-- it had; its callers are those of this life, where they were before; and it ended as it says
pub record IsWorked {K P E B : Type 0} (visits : K → VisitsView) (old new : LineWorker K P E B) : Type 0 where
  pub place : SamePlace old.share new.share
  pub life : IsLife new.desk
  pub went : WentOn old.desk new.desk old.share.bytes new.share.bytes
  pub tied : Tied old.desk (visits old.callers) → Tied new.desk (visits new.callers)
  pub done : IsDone new.done new.desk

-- the shares of all seats, by rising seat: the wire's, those of so many lines, the clock's. Together they have all parts of the books
pub record AreAllSeats (lines : ℕ) (shares : List SeatView) : Type 0 where
  pub seats : map (λ (s : SeatView). s.seat) shares ≡ map (λ (s : SeatView). s.seat) (all_seats lines)
  pub parts : sum_by (λ (s : SeatView). s.parts) shares ≡ 66

-- The callers of this line are those of a life: of each, what it gave is what was read of it, and what it was written are the bytes
-- of the items that were written for it, each in order
pub record HasServed (vs : VisitsView) : Type 0 where
  pub desk : DeskView
  pub life : IsLife desk
  pub tied : Tied desk vs

-- what is handed back of a cell with so many lines: the shares of all seats, and of each line how its worker ended, and its callers,
-- whom it has served
pub record GivenBack {K : Type 0} (visits : K → VisitsView) (count : ℕ) (shares : List SeatView) (ends : List LineDone) (lines : List K) : Type 0 where
  pub seats : AreAllSeats count shares
  pub each_ended : length ends ≡ count
  pub each_line : length lines ≡ count
  pub served : Each (λ callers. HasServed (visits callers)) lines
