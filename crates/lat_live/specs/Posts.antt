-- How the lines of a daemon come to callers and to sessions.
use Rattle.std.specs.Prelude.{◌≡◌, List, [], ◌∷◌, Some, None}
use Rattle.lat_mind.specs.declared.kind.Kind.{Kind}
use Rattle.lat_mind.specs.declared.kind.Kind.TheVariants as kinds
use Rattle.lat_turns.specs.declared.door.Device.{Device}
use Rattle.lat_turns.specs.declared.kept.Sessions.TheVariants as sessions
use Rattle.lat_turns.specs.Doors.{DoorView}
use Rattle.lat_turns.specs.Lives.{life_of}
use Rattle.lat_turns.specs.declared.worker.LineWorker.{LineWorker}
use Rattle.lat_live.specs.declared.plan.Post.{Post}
use Rattle.lat_live.specs.declared.plan.Post.TheVariants as posts
use Rattle.lat_live.specs.declared.plan.LinePlan.{LinePlan}
use Rattle.lat_live.specs.declared.plan.Plan.{Plan}

abbrev pub kind_of : Post → Kind
kind_of (posts.Calling service) = kinds.Calling
kind_of (posts.Switching service) = kinds.Calling
kind_of posts.Answering = kinds.Answering
kind_of (posts.Offering device) = kinds.Offering

-- what a line of this post is for: one that answers dials the daemon's devices, and one that offers its own
abbrev pub door_of : List Device → Post → DoorView
door_of devices (posts.Calling service) = record { service = Some service; devices = []; offers = None; sessions = sessions.One }
door_of devices (posts.Switching service) = record { service = Some service; devices = []; offers = None; sessions = sessions.Several }
door_of devices posts.Answering = record { service = None; devices = devices; offers = None; sessions = sessions.One }
door_of devices (posts.Offering d) = record { service = None; devices = d ∷ []; offers = Some d.service; sessions = sessions.One }

-- the worker of this line of the plan, who has done nothing yet: no device is dialled, and nothing offered
pub record IsPosted {K P E B : Type 0} (plan : Plan) (line : LinePlan) (w : LineWorker K P E B) : Type 0 where
  pub desk : w.desk ≡ life_of (kind_of line.post) []
  pub door : w.door ≡ door_of plan.devices.now line.post
  pub stay : w.stay ≡ plan.stay
