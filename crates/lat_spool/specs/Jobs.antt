-- A job of the spool: where it is, what is known of its request, and what is handed over of it.
use Rattle.std.specs.Prelude.{ℕ, ◌==◌, ◌&&◌, ◌||◌, Bool, true, false, not, if◌then◌else◌, nat_lt, bytes_eq, Option, Some, None}
use Rattle.lat_base.specs.declared.addr.Addr.{Addr}
use Rattle.lat_base.specs.declared.look.Correspondent.{Correspondent}
use Rattle.lat_jobs.specs.declared.look.StatusLook.{StatusLook}
use Rattle.lat_jobs.specs.declared.mind.JobMind.{JobMind}
use Rattle.lat_jobs.specs.declared.phase.Phase.{Phase}
use Rattle.lat_jobs.specs.declared.phase.Phase.TheVariants as phases
use Rattle.lat_jobs.specs.Phases.{has_place}
use Rattle.lat_jobs.specs.Runs.{number_in}
use Rattle.lat_spool.specs.declared.hand.Hand.{Hand}
use Rattle.lat_spool.specs.declared.hand.Hand.TheVariants as hands
use Rattle.lat_spool.specs.declared.place.Place.{Place}
use Rattle.lat_spool.specs.declared.place.Place.TheVariants as places
use Rattle.lat_spool.specs.declared.job.Job.{Job}
use Rattle.lat_spool.specs.declared.loan.Loan.{Loan}

-- a number of which a request may stand, and it is this one
abbrev pub is_number : ℕ → ℕ → Bool
is_number own number = nat_lt 0 number && own == number

-- the number of the job's request, 0 where none stands; of one that is lent, as it was then
abbrev pub number_of : {J : Type 0} → (J → JobMind) → Place J → ℕ
number_of mind_of (places.Waits load) = number_in (mind_of load).phase
number_of mind_of (places.Lent hand number) = number

-- who has it at a line has its session
abbrev pub hand_passes : Hand → Bool
hand_passes (hands.Clock placed) = placed
hand_passes (hands.Line line) = true

-- those behind it in its queue may ask
abbrev pub lets_pass : {J : Type 0} → (J → JobMind) → Place J → Bool
lets_pass mind_of (places.Waits load) = has_place (mind_of load).phase
lets_pass mind_of (places.Lent hand number) = hand_passes hand

-- it isn't of this queue, or lets those behind it ask
abbrev pub passes : {J : Type 0} → (J → JobMind) → ℕ → Job J → Bool
passes mind_of queue j = not (j.queue == queue) || lets_pass mind_of j.place

-- its request stands under this number at this server
abbrev pub is_under : {J : Type 0} → (J → JobMind) → Addr → ℕ → Job J → Bool
is_under mind_of server number j = bytes_eq j.server.0 server.0 && is_number (number_of mind_of j.place) number

-- behind a status that this station sent
abbrev pub heard_of : {J : Type 0} → (J → JobMind) → Addr → StatusLook → Job J → Job J
heard_of mind_of from s j = if is_under mind_of from s.request j then record j { status = Some s } else j

-- such a session came under its number
abbrev pub answers : {J : Type 0} → (J → JobMind) → Correspondent → Option ℕ → Job J → Bool
answers mind_of who (Some number) j = is_under mind_of who.peer number j
answers mind_of who None j = false

abbrev pub waits : {J : Type 0} → Place J → Bool
waits (places.Waits load) = true
waits (places.Lent hand number) = false

abbrev pub is_hand_of : ℕ → Hand → Bool
is_hand_of line (hands.Clock placed) = false
is_hand_of line (hands.Line other) = other == line

-- it waits, or this line has it
abbrev pub is_within : {J : Type 0} → ℕ → Place J → Bool
is_within line (places.Waits load) = true
is_within line (places.Lent hand number) = is_hand_of line hand

-- it waits for such a session
abbrev pub is_called : {J : Type 0} → (J → JobMind) → Correspondent → Job J → Bool
is_called mind_of who j = waits j.place && answers mind_of who who.request j

-- such a session of this line is its own, or is to be
abbrev pub is_known : {J : Type 0} → (J → JobMind) → ℕ → Correspondent → Job J → Bool
is_known mind_of line who j = is_within line j.place && answers mind_of who who.request j

-- the hand of the clock's worker that takes it
abbrev pub clock_hand : {J : Type 0} → (J → JobMind) → Place J → Hand
clock_hand mind_of p = hands.Clock (lets_pass mind_of p)

-- what is handed over of a job that waits
abbrev pub loan_at : {J : Type 0} → Job J → Place J → Option (Loan J)
loan_at j (places.Waits load) = Some (record { key = j.key; queue = j.queue; server = j.server; status = j.status; load = load })
loan_at j (places.Lent hand number) = None

abbrev pub loan_of : {J : Type 0} → Job J → Option (Loan J)
loan_of j = loan_at j j.place

abbrev pub lent_place : {J : Type 0} → (J → JobMind) → Hand → Place J → Place J
lent_place mind_of hand (places.Waits load) = places.Lent hand (number_in (mind_of load).phase)
lent_place mind_of hand (places.Lent other number) = places.Lent other number

-- the job behind that
abbrev pub lent_job : {J : Type 0} → (J → JobMind) → Hand → Job J → Job J
lent_job mind_of hand j = record j { place = lent_place mind_of hand j.place }

-- it is lent
abbrev pub is_out : {J : Type 0} → ℕ → Job J → Bool
is_out key j = j.key == key && not (waits j.place)

abbrev pub is_clock : Hand → Bool
is_clock (hands.Clock placed) = true
is_clock (hands.Line line) = false

-- a job that was lent so may come back like this: it has no session; and a line makes no request, so one that stands is that of before
abbrev pub fits : Hand → ℕ → Phase → Bool
fits hand number (phases.Pausing p) = true
fits hand number (phases.Asking a) = is_clock hand || a.number == number
fits hand number (phases.Printing g) = false
fits hand number phases.Over = true

abbrev pub fits_place : {J : Type 0} → (J → JobMind) → J → Place J → Bool
fits_place mind_of load (places.Waits other) = false
fits_place mind_of load (places.Lent hand number) = fits hand number (mind_of load).phase

-- this loan is of the job, which takes it back
abbrev pub takes : {J : Type 0} → (J → JobMind) → Loan J → Job J → Bool
takes mind_of loan j = j.key == loan.key && fits_place mind_of loan.load j.place

abbrev pub taken_back : {J : Type 0} → (J → JobMind) → Loan J → Job J → Job J
taken_back mind_of loan j = if takes mind_of loan j then record j { place = places.Waits loan.load } else j

-- what is left of the loan
abbrev pub left_over : {J : Type 0} → (J → JobMind) → Loan J → Job J → Option (Loan J)
left_over mind_of loan j = if takes mind_of loan j then None else Some loan
