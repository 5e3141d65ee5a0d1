-- What the calls of a wire are told and answer.
use Rattle.std.specs.Prelude.{◌≡◌, ℕ, Bool, false, not, cond, List, Option, Some, None, is_some, slice_get}
use Rattle.lat_base.specs.declared.answer.Answer as base
use Rattle.lat_machines.specs.values.Events.{Event, Time, is_heard}
use Rattle.lat_machines.specs.world.Machines.{Setups, Posted, Machines, is_for_other, heard_as}
use Rattle.lat_machines.specs.world.Safe.{answer_by}
use Rattle.lat_payload.specs.Frames.{expected}
use Rattle.lat_wire.specs.declared.ledger.post.Sent.{Sent}
use Rattle.lat_wire.specs.declared.ledger.post.SentFrame.{SentFrame}
use Rattle.lat_wire.specs.ledger.Posts.{frame_shown, post_shown}
use Rattle.lat_wire.specs.ledger.Books.{IsPost}
use Rattle.lat_lines.specs.AnswerValues.{answer_of}
use Rattle.lat_wire.specs.Kept.{Kept, setups_of}
use Rattle.lat_wire.specs.Stands.{Stands}

-- an event that isn't a frame that was heard
abbrev pub IsLocal : Event → Type 0
IsLocal e = is_heard e ≡ false

-- the moment of the schedule behind an event
abbrev pub moment_after : ℕ → Event → ℕ
moment_after moment (Time now) = now
moment_after moment e = moment

-- what an end answers to an event
abbrev pub answered : Setups → Machines → Bool → Event → base.Answer
answered u w server e = answer_of (answer_by u w server e)

-- of each world that the wire stands for, this is what its end answers
abbrev pub IsAnswered : {H : Type 0} → Kept H → Bool → Event → base.Answer → Type 0
IsAnswered k server e a = (w : Machines) → Stands k w → a ≡ answered (setups_of k) w server e

-- what the other end answers to a frame; None where it isn't for it
abbrev pub answered_to : Setups → Machines → ℕ → Option Posted → Option base.Answer
answered_to u w now None = None
answered_to u w now (Some p) = cond (is_for_other u p) (Some (answered u w (not p.by_server) (heard_as u p now))) None

-- a frame with its sender's side is that of this place
pub record ShowsPost (posts : List Posted) (index : ℕ) (by_server : Bool) (f : SentFrame) : Type 0 where
  pub post : Posted
  pub is : slice_get posts index ≡ Some post
  pub side : by_server ≡ post.by_server
  pub frame : frame_shown f ≡ expected post.frame

-- the frame of this place, and whether it is for the other end
pub record IsSent (u : Setups) (w : Machines) (index : ℕ) (s : Sent) : Type 0 where
  pub post : Posted
  pub there : slice_get w.posts index ≡ Some post
  pub is : IsPost (post_shown s.post) post
  pub for_other : is_some s.turn ≡ is_for_other u post
