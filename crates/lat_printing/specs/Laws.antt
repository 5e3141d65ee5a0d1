-- A job's moves with an event, and the seats of these events.
use Rattle.std.specs.Prelude.{◌≡◌, ℕ, Bool, true, Option, is_some}
use Rattle.lat_base.specs.declared.look.LineLook.{LineLook}
use Rattle.lat_jobs.specs.declared.mind.JobMind.{JobMind}
use Rattle.lat_jobs.specs.Minds.{mind_next}
use Rattle.lat_jobs.specs.Runs.{has_event, number_in}
use Rattle.lat_printing.specs.declared.post.News.{News}
use Rattle.lat_printing.specs.Events.{move_seat}
use Rattle.lat_printing.specs.Posts.{job_look}

-- whatever a job's mind is shown, a move of it that has an event has a seat
abbrev pub EventsHaveSeats : Type 0
EventsHaveSeats = (m : JobMind) (look_of : ℕ → LineLook) (line : Option ℕ) (news : News) (stopping : Bool) (moment : ℕ) (turn : Bool) →
    let go = mind_next m (job_look look_of line (number_in m.phase) news stopping moment) turn in
    has_event go ≡ true → is_some (move_seat go line) ≡ true
