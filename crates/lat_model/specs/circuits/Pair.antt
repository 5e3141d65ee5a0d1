-- One master of a server and one slave of a node, and all frames between them.
use Rattle.std.specs.Prelude.{◌≡◌, ◌≤◌, ℕ, suc, Bool, true, false, not, cond, List, [], ◌∷◌, ◌++◌, min, Option, Some, None, slice_get}
use Rattle.lat_model.specs.sessions.Calls.{Call}
use Rattle.lat_model.specs.ends.End.{Sent, CallStart, End, Step, lives, call_end}
use Rattle.lat_model.specs.ends.Timers.{note_empty, time_step}
use Rattle.lat_model.specs.ends.Starting.{Agreed, hear, new_end, Setup}

pub record Posted : Type 0 where
  pub by_master : Bool
  pub sent : Sent

pub record Pair : Type 0 where
  pub master : End
  pub slave : End
  pub posts : List Posted
  pub agreed : Agreed

pub data Event : Type 0 where
  Local : Bool → Call → Event  -- true: at the master
  Time : Bool → ℕ → Event
  Deliver : ℕ → ℕ → Event  -- the frame of this index, at this moment

abbrev pub posted : Bool → List Sent → List Posted
posted b [] = []
posted b (x ∷ xs) = record { by_master = b; sent = x } ∷ posted b xs

abbrev pub end_of : Pair → Bool → End
end_of w true = w.master
end_of w false = w.slave

abbrev pub put_end : Pair → Bool → Step → Pair
put_end w true s = record w { master = s.end; posts = w.posts ++ posted true s.sent }
put_end w false s = record w { slave = s.end; posts = w.posts ++ posted false s.sent }

-- an event of one end
abbrev pub put_step : Pair → Bool → Step → Pair
put_step w b s = put_end w b (note_empty (end_of w b) s)

abbrev pub delivered : ℕ → Option Posted → Pair → Pair
delivered now None w = w
delivered now (Some p) w = put_step w (not p.by_master) (hear now w.agreed p.sent (end_of w (not p.by_master)))

abbrev pub happens : Pair → Event → Pair
happens w (Local b c) = cond (lives (end_of w b)) (put_step w b (record { end = call_end c (end_of w b); sent = [] })) w
happens w (Time b now) = cond (lives (end_of w b)) (put_step w b (time_step now (end_of w b))) w
happens w (Deliver i now) = delivered now (slice_get w.posts i) w

abbrev pub run : List Event → Pair → Pair
run [] w = w
run (e ∷ es) w = run es (happens w e)

-- a pair that was just opened: the START is out
abbrev pub open_pair : Setup → Pair
open_pair u = record {
  master = new_end true true u.timer u.keepalive u.sessions u.ceiling;
  slave = new_end false false u.timer u.keepalive u.sessions u.ceiling;
  posts = record { by_master = true; sent = CallStart } ∷ [];
  agreed = record {
    sessions = u.sessions;
    room = 1492;
    window = min 8 (suc u.extra);
    timer = u.timer;
    keepalive = u.keepalive;
    wide = false;
  };
}

-- a pair after some list of events
pub record PairRun (w : Pair) : Type 0 where
  pub setup : Setup
  pub ceiling : setup.ceiling ≤ 255
  pub events : List Event
  pub reached : w ≡ run events (open_pair setup)
