-- The run of a schedule, from what its events came to.
use Rattle.std.proofs.Common.{◌≡◌, ℕ, ◌≤◌, List, [], length, Some, None, Result, Ok, Err, refl, sym, ap, ◌∙◌, subst}
use Rattle.std.proofs.lemmas.List.{append-nil}
use Rattle.std.specs.Prelude.{get_or}
use Rattle.lat_replay.specs.declared.play.Stopped.{Stopped}
use Rattle.lat_machines.specs.world.Machines.{Setups, Posted}
use Rattle.lat_schedule.specs.declared.schedule.Schedule.{Schedule}
use Rattle.lat_wire.specs.declared.fault.EventFault.{EventFault}
use Rattle.lat_wire.specs.declared.report.refused.Refused.{Refused as Why}
use Rattle.lat_replay.specs.Played.{State, Through, Refused, open_state, played}
use Rattle.lat_replay.specs.Refusals.{refused_of}
use Rattle.lat_replay.specs.Setups.{setups_shown}
use Rattle.lat_trace.specs.declared.run.Run as runs
use Rattle.lat_trace.specs.declared.run.Stop.{Stop}
use Rattle.lat_trace.specs.Runs.{run_of, stop_of}
use Rattle.lat_trace.specs.Shown.{AreEntries, IsAt, IsStop, PlaysAs, ShowsRun, shown_from}

-- what is kept of a run shows it, where its entries are those of all events and its stop is that of what was played
shows :
    {H : Type 0} (s : Schedule) (k : runs.Run H) (t : State) → k.schedule ≡ s → length s.events ≤ 100000 →
    k.stop ≡ stop_of s.lines (played (setups_shown s.setup) (open_state (setups_shown s.setup)) s.events) →
    IsAt k.wire t → AreEntries (setups_shown s.setup) (open_state (setups_shown s.setup)) s.events t k.entries →
    ShowsRun k (run_of s)
unfolding run_of
shows s k t same most stop at a = record {
  schedule = same;
  stop = stop;
  world = t.machines;
  stands = at.machines;
  entries = ap (λ (z : List Posted). shown_from z 1 k.entries s.events) (sym (append-nil t.machines.posts)) ∙ a.shown [];
  within = a.within;
  few = a.few;
  most = most;
}

pub shows_whole :
    {H : Type 0} (s : Schedule) (u : Setups) (k : runs.Run H) (t : State) → u ≡ setups_shown s.setup → k.schedule ≡ s → length s.events ≤ 100000 → k.stop ≡ None →
    played u (open_state u) s.events ≡ Through t → IsAt k.wire t → AreEntries u (open_state u) s.events t k.entries → ShowsRun k (run_of s)
shows_whole s u k t made same most none all at a =
    shows s k t same most
    (none ∙ ap (stop_of s.lines) (sym (subst (λ (x : Setups). played x (open_state x) s.events ≡ Through t) made all)))
    at (subst (λ (x : Setups). AreEntries x (open_state x) s.events t k.entries) made a)

pub shows_stopped :
    {H : Type 0} (s : Schedule) (u : Setups) (k : runs.Run H) (t : State) (index line : ℕ) (fault : EventFault) (why : Why) → u ≡ setups_shown s.setup → k.schedule ≡ s →
    length s.events ≤ 100000 → k.stop ≡ Some (record { line = line; why = why }) → line ≡ get_or s.lines index 0 → why ≡ refused_of fault →
    played u (open_state u) s.events ≡ Refused index fault t → IsAt k.wire t → AreEntries u (open_state u) s.events t k.entries → ShowsRun k (run_of s)
shows_stopped s u k t index line fault why made same most stopped there because all at a =
    shows s k t same most
    (stopped
    ∙ (ap (λ n. Some (let x : Stop = record { line = n; why = why } in x)) there
    ∙ (ap (λ (w : Why). Some (let x : Stop = record { line = get_or s.lines index 0; why = w } in x)) because
    ∙ ap (stop_of s.lines) (sym (subst (λ (x : Setups). played x (open_state x) s.events ≡ Refused index fault t) made all)))))
    at (subst (λ (x : Setups). AreEntries x (open_state x) s.events t k.entries) made a)

-- what is kept of a run shows it, where its events were played so
pub shows_played :
    {A H : Type 0} (s : Schedule) (u : Setups) (k : runs.Run H) (r : Result A Stopped) → u ≡ setups_shown s.setup → k.schedule ≡ s → length s.events ≤ 100000 → IsStop s.lines r k.stop →
    PlaysAs u (open_state u) s.events r k.wire k.entries → ShowsRun k (run_of s)
shows_played s u k (Ok done) made same most stop p = shows_whole s u k p.0 made same most stop p.1 p.2 p.3
shows_played s u k (Err stopped) made same most stop p =
    let q = p stop.0 in
    shows_stopped s u k q.0 stopped.index (get_or s.lines stopped.index 0) stopped.fault (refused_of stopped.fault) made same most stop.1 refl refl q.1 q.2 q.3
