-- What the jobs of a port are for, and how one of them looks.
use Rattle.std.specs.Prelude.{ℕ, ◌&&◌, Bool, false, bytes_eq, if◌then◌else◌, zero, suc, Option, Some, None}
use Rattle.lat_base.specs.declared.look.LineLook.{LineLook}
use Rattle.lat_base.specs.declared.look.Correspondent.{Correspondent}
use Rattle.lat_base.specs.declared.state.SessionState.TheVariants as states
use Rattle.lat_jobs.specs.declared.look.Look.{Look}
use Rattle.lat_jobs.specs.Looks.{is_for}
use Rattle.lat_printing.specs.declared.post.JobPost.{JobPost}
use Rattle.lat_printing.specs.declared.post.News.{News}

-- such a session came from the post's server under this number
abbrev pub is_of : JobPost → ℕ → Option Correspondent → Bool
is_of post number (Some who) = bytes_eq who.peer.0 post.server.0 && is_for who.request number
is_of post number None = false

abbrev pub first_of : Option ℕ → Bool → ℕ → Option ℕ
first_of (Some line) is other = Some line
first_of None is other = if is then Some other else None

-- the first of so many lines whose newest session came so
abbrev pub line_in : (ℕ → Option Correspondent) → JobPost → ℕ → ℕ → Option ℕ
line_in who post number zero = None
line_in who post number (suc k) = first_of (line_in who post number k) (is_of post number (who (suc k))) (suc k)

abbrev pub line_of : (ℕ → Option Correspondent) → JobPost → ℕ → Option ℕ
line_of who post number = line_in who post number post.lines

-- a line that never had a session
abbrev pub blank_line : LineLook
blank_line = record { newest = 0; state = states.Free; waiting = 0; room = 0; end = None }

abbrev pub shown_line : (ℕ → LineLook) → Option ℕ → LineLook
shown_line look_of (Some line) = look_of line
shown_line look_of None = blank_line

abbrev pub shown_request : Option ℕ → ℕ → Option ℕ
shown_request (Some line) number = Some number
shown_request None number = None

-- how a job with this number looks, whose session has this line, if it has come
abbrev pub job_look : (ℕ → LineLook) → Option ℕ → ℕ → News → Bool → ℕ → Look
job_look look_of line number news stopping moment = record {
  request = shown_request line number;
  line = shown_line look_of line;
  broken = news.broken;
  status = news.status;
  stopping = stopping;
  moment = moment;
}
