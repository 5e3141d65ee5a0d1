-- A move with an event has a seat.
use Rattle.std.proofs.Common.{◌≡◌, ℕ, refl, subst}
use Rattle.std.specs.Prelude.{Bool, true, ◌==◌, Option, Some, None, is_some}
use Rattle.std.proofs.lemmas.Bool.{and_parts, false≢true}
use Rattle.lat_base.specs.declared.look.LineLook.{LineLook}
use Rattle.lat_mind.specs.Looks.{is_live}
use Rattle.lat_jobs.specs.declared.fact.Move.{Move}
use Rattle.lat_jobs.specs.declared.fact.Move.TheVariants as moves
use Rattle.lat_jobs.specs.declared.look.Look.{Look}
use Rattle.lat_jobs.specs.declared.phase.Print.{Print}
use Rattle.lat_jobs.specs.declared.phase.Phase.{Phase}
use Rattle.lat_jobs.specs.declared.phase.Phase.TheVariants as phases
use Rattle.lat_jobs.specs.declared.mind.JobMind.{JobMind}
use Rattle.lat_jobs.specs.Looks.{is_for}
use Rattle.lat_jobs.specs.Minds.{mind_next}
use Rattle.lat_jobs.specs.Phases.{here}
use Rattle.lat_jobs.specs.Reasons.{Why}
use Rattle.lat_jobs.specs.Runs.{has_event, number_in}
use Rattle.lat_jobs.proofs.Reasons.{why_at}
use Rattle.lat_printing.specs.declared.post.News.{News}
use Rattle.lat_printing.specs.Events.{move_seat}
use Rattle.lat_printing.specs.Posts.{job_look, shown_request}

-- what is shown for a number came at a line
at_line : (line : Option ℕ) (own number : ℕ) → is_for (shown_request line own) number ≡ true → is_some line ≡ true
at_line (Some line) own number e = refl
at_line None own number e = absurd (false≢true e)

here_line : (g : Print) (line : Option ℕ) (own : ℕ) (see : Look) → see.request ≡ shown_request line own → here g see ≡ true → is_some line ≡ true
here_line g line own see e h =
    let P : Option ℕ → Type 0 = λ o. is_for o g.number ≡ true in
    at_line line own g.number (subst P e ((and_parts (is_for see.request g.number) (see.line.newest == g.session) h).0))

-- a put, a take and a close are made where the job's session is shown
put_at : (wait : ℕ) (p : Phase) (line : Option ℕ) (own : ℕ) (see : Look) (turn : Bool) → see.request ≡ shown_request line own → Why wait p see turn moves.Put → is_some line ≡ true
put_at wait (phases.Pausing q) line own see turn e why = absurd why
put_at wait (phases.Asking a) line own see turn e why = absurd why
put_at wait (phases.Printing g) line own see turn e why = here_line g line own see e ((and_parts (here g see) (is_live see.line.state) why.2).0)
put_at wait phases.Over line own see turn e why = absurd why

take_at : (wait : ℕ) (p : Phase) (line : Option ℕ) (own : ℕ) (see : Look) (turn : Bool) → see.request ≡ shown_request line own → Why wait p see turn moves.Take → is_some line ≡ true
take_at wait (phases.Pausing q) line own see turn e why = absurd why
take_at wait (phases.Asking a) line own see turn e why = absurd why
take_at wait (phases.Printing g) line own see turn e why = here_line g line own see e why.3
take_at wait phases.Over line own see turn e why = absurd why

close_at : (wait : ℕ) (p : Phase) (line : Option ℕ) (own : ℕ) (see : Look) (turn : Bool) → see.request ≡ shown_request line own → Why wait p see turn moves.Close → is_some line ≡ true
close_at wait (phases.Pausing q) line own see turn e why = absurd why
close_at wait (phases.Asking a) line own see turn e why = absurd why
close_at wait (phases.Printing g) line own see turn e why = here_line g line own see e why.1
close_at wait phases.Over line own see turn e why = absurd why

seat_at : (wait : ℕ) (p : Phase) (line : Option ℕ) (own : ℕ) (see : Look) (turn : Bool) (mv : Move) → see.request ≡ shown_request line own → Why wait p see turn mv → has_event mv ≡ true → is_some (move_seat mv line) ≡ true
seat_at wait p line own see turn moves.Ask e why h = refl
seat_at wait p line own see turn moves.Repeat e why h = refl
seat_at wait p line own see turn moves.Cancel e why h = refl
seat_at wait p line own see turn moves.Put e why h = put_at wait p line own see turn e why
seat_at wait p line own see turn moves.Take e why h = take_at wait p line own see turn e why
seat_at wait p line own see turn moves.Close e why h = close_at wait p line own see turn e why
seat_at wait p line own see turn moves.Lose e why h = absurd (false≢true h)
seat_at wait p line own see turn moves.Join e why h = absurd (false≢true h)
seat_at wait p line own see turn moves.Watch e why h = absurd (false≢true h)
seat_at wait p line own see turn moves.Read e why h = absurd (false≢true h)
seat_at wait p line own see turn moves.Write e why h = absurd (false≢true h)
seat_at wait p line own see turn moves.Rest e why h = absurd (false≢true h)
seat_at wait p line own see turn moves.HangUp e why h = absurd (false≢true h)
seat_at wait p line own see turn moves.Reset e why h = absurd (false≢true h)
seat_at wait p line own see turn moves.Stop e why h = absurd (false≢true h)

pub events_have_seats : (m : JobMind) (look_of : ℕ → LineLook) (line : Option ℕ) (news : News) (stopping : Bool) (moment : ℕ) (turn : Bool) →
    has_event (mind_next m (job_look look_of line (number_in m.phase) news stopping moment) turn) ≡ true →
    is_some (move_seat (mind_next m (job_look look_of line (number_in m.phase) news stopping moment) turn) line) ≡ true
events_have_seats m look_of line news stopping moment turn h =
    let own = number_in m.phase in
    let see = job_look look_of line own news stopping moment in
    seat_at m.wait m.phase line own see turn (mind_next m see turn) refl (why_at m.wait m.phase see turn) h
