-- How an end begins, and what it does at a START, a reply and a STOP.
use Rattle.std.specs.Prelude.{ℕ, Bool, true, false, not, cond, ◌&&◌, [], ◌∷◌, min, Some, None}
use Rattle.lat_model.specs.sessions.Sessions.{Sessions}
use Rattle.lat_model.specs.ends.End.{Sent, Run, CallStart, ReplyStart, Stopped, Half, End, Step, still, lives}
use Rattle.lat_model.specs.ends.Run.{run_end}
use Rattle.lat_model.specs.sessions.Session.{blank, peer}
use Rattle.lat_model.specs.numbers.Link.{fresh}

-- what a START tells of its end, and both ends then agree on
pub record Agreed : Type 0 where
  pub sessions : ℕ
  pub room : ℕ
  pub window : ℕ
  pub timer : ℕ
  pub keepalive : ℕ
  pub wide : Bool

-- sessions are the least of both numbers
abbrev pub agree_half : Agreed → Half → Half
agree_half g h = record h { sessions = record (h.sessions) { agreed = min g.sessions h.sessions.agreed } }

-- the first reply is heard: an acknowledgement is owed, so that a RUN follows
abbrev pub reply_end : ℕ → ℕ → Agreed → End → End
reply_end now peer g e = record e {
  half = agree_half g e.half;
  peer = peer;
  running = true;
  room = g.room;
  window = min g.window 8;
  wide = g.wide;
  rounds = 0;
  owed = true;
  moment = now;
  heard_at = now;
  empty_at = now;
}

-- a master is called: it sends START
abbrev pub make_master : ℕ → End → Step
make_master now e = record {
  end = record e { moment = now; due_at = now; sent_at = now; start_at = now };
  sent = CallStart ∷ [];
}

-- a slave is made by the first START, and replies
abbrev pub make_slave : ℕ → ℕ → Agreed → End → Step
make_slave now peer g e = record {
  end = record e {
    half = agree_half g e.half;
    exists = true;
    running = true;
    peer = peer;
    room = g.room;
    window = min g.window 8;
    timer = g.timer;
    keepalive = g.keepalive;
    wide = g.wide;
    moment = now;
    due_at = now;
    heard_at = now;
    sent_at = now;
    since = now;
    empty_at = now;
  };
  sent = ReplyStart ∷ [];
}

-- a frame of the circuit was heard that changes nothing else
abbrev pub noted : ℕ → End → Step
noted now e = still (record e { moment = now; heard_at = now })

abbrev pub replied : ℕ → End → Step
replied now e = record {
  end = record e { moment = now; heard_at = now; sent_at = now; owed = false };
  sent = ReplyStart ∷ [];
}

-- its START comes again: the slave repeats its reply until a RUN was heard
abbrev pub again_start : ℕ → End → Step
again_start now e = cond (lives e && not e.heard_run) (replied now e) (cond (lives e) (noted now e) (still e))

abbrev pub hear_start : ℕ → Agreed → End → Step
hear_start now g e =
    cond e.exists (again_start now e)
    (make_slave now 1 g e)

-- a START reply: the first one makes the master run, another one is noted
abbrev pub hear_reply : ℕ → ℕ → Agreed → End → Step
hear_reply now peer g e =
    cond (lives e) (cond e.running (noted now e) (still (reply_end now peer g e))) (still e)

-- a STOP ends the circuit with its reason
abbrev pub hear_stop : ℕ → ℕ → End → Step
hear_stop now r e =
    cond (lives e) (still (record e { ended = Some r; moment = now })) (still e)

-- what an end does at a frame of the other
abbrev pub hear : ℕ → Agreed → Sent → End → Step
hear now g (Run mark ask f) e = cond (lives e && e.running) (run_end now ask f e).step (still e)
hear now g CallStart e = cond e.master (still e) (hear_start now g e)
hear now g ReplyStart e = cond e.master (hear_reply now 1 g e) (still e)
hear now g (Stopped r) e = hear_stop now r e

abbrev pub void_sessions : Bool → ℕ → ℕ → Sessions
void_sessions m agreed ceiling = record {
  master = m;
  ceiling = ceiling;
  agreed = agreed;
  served = 0;
  made = 0;
  session = λ k. blank;
  at_id = λ k. 0;
  generations = 0;
  serial_of = λ k. 0;
}

abbrev pub no_sessions : Bool → ℕ → ℕ → Sessions
no_sessions m agreed ceiling = void_sessions m (min agreed 64) ceiling

abbrev pub new_end : Bool → Bool → ℕ → ℕ → ℕ → ℕ → End
new_end m exists timer keepalive sessions ceiling = record {
  master = m;
  half = record { link = fresh; sessions = no_sessions m sessions ceiling };
  exists = exists;
  ended = None;
  peer = 0;
  running = false;
  heard_run = false;
  room = 0;
  window = 0;
  timer = timer;
  keepalive = keepalive;
  wide = false;
  owed = false;
  rounds = 0;
  moment = 0;
  due_at = 0;
  heard_at = 0;
  sent_at = 0;
  since = 0;
  start_at = 0;
  empty_at = 0;
}

pub record Setup : Type 0 where
  pub timer : ℕ
  pub keepalive : ℕ
  pub sessions : ℕ
  pub extra : ℕ
  pub ceiling : ℕ
