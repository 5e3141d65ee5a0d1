-- What an end does when it is given a moment.
use Rattle.std.specs.Prelude.{ℕ, ◌+◌, ◌*◌, Bool, true, not, cond, ◌&&◌, ◌||◌, nat_eq, nat_lt, nat_le}
use Rattle.lat_model.specs.sessions.Sessions.{held}
use Rattle.lat_model.specs.ends.End.{End, Step, still, then_do, lives, finish, send_bare, all_known, occasion, send_again, send_start}
use Rattle.lat_model.specs.Reasons as reasons

abbrev pub passed : ℕ → ℕ → End → Bool
passed since ms e = nat_le (since + ms) e.moment

abbrev pub silent : End → Bool
silent e = e.running && passed e.heard_at (3000 * e.keepalive) e

abbrev pub unused : End → Bool
unused e = e.master && e.running && nat_eq (held e.half.sessions) 0 && passed e.empty_at (1000 * e.keepalive) e

abbrev pub a_round : (End → Step) → End → Step
a_round f e = cond (nat_lt e.rounds 8) (f e) (finish reasons.no_answer e)

abbrev pub rounds_step : End → Step
rounds_step e =
    cond e.running
    (cond (not (all_known e) && passed e.since 1000 e) (a_round send_again e) (still e))
    (cond (passed e.start_at 1000 e) (a_round send_start e) (still e))

abbrev pub may_form : End → Bool
may_form e = e.running && (e.master || e.heard_run)

abbrev pub alive_step : End → Step
alive_step e = cond (e.master && e.running && passed e.sent_at (1000 * e.keepalive) e) (send_bare true e) (still e)

abbrev pub due_step : End → Step
due_step e =
    cond (passed e.due_at (10 * e.timer) e)
    (then_do (cond (may_form e) (occasion (record e { due_at = e.moment })) (still (record e { due_at = e.moment }))) alive_step)
    (still e)

abbrev pub living : (End → Step) → End → Step
living f e = cond (lives e) (f e) (still e)

-- where the last session became free in this event, the time without one begins
abbrev pub note_empty : End → Step → Step
note_empty e s = record {
  end = record (s.end) {
    empty_at = cond (not (nat_eq (held e.half.sessions) 0) && nat_eq (held s.end.half.sessions) 0) s.end.moment s.end.empty_at;
  };
  sent = s.sent;
}

abbrev pub time_step : ℕ → End → Step
time_step now e =
    let d : End = record e { moment = now } in
    cond (silent d) (finish reasons.no_answer d) (cond (unused d) (finish reasons.no_use d) (then_do (rounds_step d) (living due_step)))
