-- What a command comes to has one of its statuses, and a world exactly where it makes one and is done.
use Rattle.std.proofs.Common.{◌≡◌, ℕ, inl, inr, Bool, true, false, ◌&&◌, List, length, Option, Some, None, Result, Ok, Err, refl, sym, ap, ◌∙◌}
use Rattle.std.specs.Prelude.{is_some, nat_eq, nat_lt, if◌then◌else◌}
use Rattle.lat_machines.specs.world.Machines.{Setups}
use Rattle.lat_show.specs.ShowOf as shows
use Rattle.lat_show.specs.choice.ChooseOf as chooses
use Rattle.lat_dump.specs.DumpOf as dumps
use Rattle.lat_audit.specs.AuditOf as audits
use Rattle.lat_audit.specs.CaptureText.{Capture as CaptureText, capture_of}
use Rattle.lat_settle.specs.Rounds as rounds
use Rattle.lat_pcap.specs.Held.{contents_of}
use Rattle.lat_pcap.specs.declared.contents.Contents.{Contents}
use Rattle.lat_pcap.specs.declared.fault.Wrong.{Wrong}
use Rattle.lat_schedule.specs.Places.{opening}
use Rattle.lat_schedule.specs.ScheduleText as schedules
use Rattle.lat_schedule.specs.declared.schedule.Schedule.{Schedule}
use Rattle.lat_schedule.specs.declared.schedule.ScheduleFault.{ScheduleFault}
use Rattle.lat_text.specs.Lines.{lines_of}
use Rattle.lat_wire.specs.declared.fault.EventFault.TheVariants as faults
use Rattle.lat_replay.specs.Kept.{Kept}
use Rattle.lat_replay.specs.Setups.{setups_shown}
use Rattle.lat_replay.specs.Played.{State, Played, Through, Refused, open_state, played}
use Rattle.lat_trace.specs.TraceText.{trace_text, trace_of}
use Rattle.lat_trace.proofs.Statuses.{told_statuses}
use Rattle.lat_draw.specs.DrawText.{draw_text, draw_of}
use Rattle.lat_cmd.specs.generate.Grown as gen
use Rattle.lat_cmd.specs.declared.command.Command.{Command}
use Rattle.lat_cmd.specs.declared.command.Command.TheVariants.{Show, Choose, Replay, Capture, Settle, Audit, Pcap, Trace, Draw, Gen, Bench}
use Rattle.lat_cmd.specs.Answers.{Ended, Answer, Tale, plain, with_world, tale_answer, answered_of, tale_answer_at, answered_behind, reported, captured, settled}
use Rattle.lat_cmd.specs.Answers.{settled_to, gen_of, bench_of, answer_to, HandsBack}
use Rattle.lat_cmd.specs.Commands.{ComesTo, makes_world}

-- what an answer of a command is
abbrev pub Fits : Command → Answer → Type 0
Fits c a = ComesTo c a.status × (is_some a.world ≡ (makes_world c && nat_eq a.status 0))

show_fits : (r : Result (List ℕ) ℕ) → Fits Show (plain (shows.answer_of r))
show_fits (Ok text) = (inl refl, refl)
show_fits (Err number) = (inr refl, refl)

choose_fits : (r : Result (List ℕ) ℕ) → Fits Choose (plain (chooses.answer_of r))
choose_fits (Ok text) = (inl refl, refl)
choose_fits (Err number) = (inr refl, refl)

audit_fits : (r : Result CaptureText ℕ) → Fits Audit (plain (audits.answer_of r))
audit_fits (Ok c) = (inl refl, refl)
audit_fits (Err number) = (inr refl, refl)

wrong_fits : (wrong : Option Wrong) (text : List ℕ) → Fits Pcap (plain (dumps.ended_by wrong text))
wrong_fits None text = (inl refl, refl)
wrong_fits (Some wrong) text = (inr refl, refl)

pcap_fits : (c : Contents) → Fits Pcap (plain (dumps.dump_text c))
pcap_fits c = wrong_fits c.wrong (dumps.frames_text c)

report_fits : (u : Setups) (t : State) → Fits Replay (reported u t)
unfolding reported
report_fits u t = (inl refl, refl)

capture_fits : (p : ℕ) (u : Setups) (t : State) → Fits Replay (captured p u t)
unfolding captured
capture_fits p u t = (inl refl, refl)

settled_fits : (u : Setups) (t : State) (p : Played) → Fits Replay (settled_to u t p)
settled_fits u t (Through b) = (inl refl, refl)
settled_fits u t (Refused round faults.FramesFull b) = (inr (inr (inr refl)), refl)
settled_fits u t (Refused round (faults.Backward at last) b) = (inr (inr (inl refl)), refl)
settled_fits u t (Refused round faults.OwnAddress b) = (inr (inr (inl refl)), refl)
settled_fits u t (Refused round (faults.NoFrame place sent) b) = (inr (inr (inl refl)), refl)
settled_fits u t (Refused round (faults.Old acknowledgement number newest) b) = (inr (inr (inl refl)), refl)
settled_fits u t (Refused round faults.Memory b) = (inr (inr (inr refl)), refl)

settle_fits : (count : ℕ) (u : Setups) (t : State) → Fits Replay (settled count u t)
unfolding settled
settle_fits count u t = settled_fits u t (rounds.settled u t count)

played_fits : (tale : Tale) (u : Setups) (lines : List ℕ) (p : Played) → ((t : State) → Fits Replay (tale u t)) → Fits Replay (tale_answer tale u lines p)
played_fits tale u lines (Through t) told = told t
played_fits tale u lines (Refused index faults.FramesFull t) told = (inr (inr (inr refl)), refl)
played_fits tale u lines (Refused index (faults.Backward at last) t) told = (inr (inr (inl refl)), refl)
played_fits tale u lines (Refused index faults.OwnAddress t) told = (inr (inr (inl refl)), refl)
played_fits tale u lines (Refused index (faults.NoFrame place sent) t) told = (inr (inr (inl refl)), refl)
played_fits tale u lines (Refused index (faults.Old acknowledgement number newest) t) told = (inr (inr (inl refl)), refl)
played_fits tale u lines (Refused index faults.Memory t) told = (inr (inr (inr refl)), refl)

of_fits : (tale : Tale) (s : Schedule) → ((u : Setups) (t : State) → Fits Replay (tale u t)) → Fits Replay (answered_of tale s)
unfolding answered_of
of_fits tale s told =
    let u : Setups = setups_shown s.setup in
    played_fits tale u s.lines (played u (open_state u) s.events) (told u)

either : (P : Result Schedule ScheduleFault → Type 0) (b : Bool) (x y : Result Schedule ScheduleFault) → P x → P y → P (if b then x else y)
either P true x y p q = p
either P false x y p q = q

schedule_fits : (tale : Tale) (r : Result Schedule ℕ) → ((u : Setups) (t : State) → Fits Replay (tale u t)) → Fits Replay (tale_answer_at tale (schedules.answer_of r))
schedule_fits tale (Err number) told = (inr (inl refl), refl)
schedule_fits tale (Ok s) told =
    let P : Result Schedule ScheduleFault → Type 0 = λ x. Fits Replay (tale_answer_at tale x) in
    either P (nat_lt 100000 (length s.events)) _ _ (inr (inr (inr refl)), refl) (of_fits tale s told)

tale_fits : (tale : Tale) (input : List ℕ) → ((u : Setups) (t : State) → Fits Replay (tale u t)) → Fits Replay (answered_behind tale input)
unfolding answered_behind
tale_fits tale input told = schedule_fits tale (schedules.schedule_at (opening input)) told

grown_fits : (text : List ℕ) (u : Setups) (t : State) → ((with_world text u t).status ≡ 0) × (is_some (with_world text u t).world ≡ true)
grown_fits text u t = (refl, refl)

gen_fits : (seed : ℕ) → ((gen_of seed).status ≡ 0) × (is_some (gen_of seed).world ≡ true)
unfolding gen_of
gen_fits seed = grown_fits (gen.gen_text seed) gen.setups (gen.grown seed).state

bench_fits : (seed : ℕ) → ((bench_of seed).status ≡ 0) × (is_some (bench_of seed).world ≡ true)
unfolding bench_of
bench_fits seed = grown_fits (gen.bench_text seed) gen.setups (gen.grown seed).state

done_fits : (status : ℕ) (is : Bool) → (status ≡ 0) × (is ≡ true) → is ≡ (true && nat_eq status 0)
done_fits status is h = h.1 ∙ ap (λ n. nat_eq n 0) (sym h.0)

told_fits : (c : Command) (a : ℕ × List ℕ) → makes_world c ≡ false → ((status : ℕ) → ComesTo Replay status → ComesTo c status) → ComesTo Replay a.0 → Fits c (plain a)
told_fits c a none same of = (same a.0 of, sym (ap (λ b. b && nat_eq a.0 0) none))

pub fits : (c : Command) (input : List ℕ) → Fits c (answer_to c input)
fits Show input = show_fits (shows.lines_printed 1 (lines_of input))
fits Choose input = choose_fits (chooses.printed_after (chooses.opening_of (lines_of input)))
fits Replay input = tale_fits reported input report_fits
fits (Capture p) input = tale_fits (captured p) input (capture_fits p)
fits (Settle count) input = tale_fits (settled count) input (settle_fits count)
fits Audit input = audit_fits (capture_of input)
fits Pcap input = pcap_fits (contents_of input)
fits Trace input = told_fits Trace (trace_of input) refl (λ status of. of) (told_statuses 100000 trace_text input)
fits Draw input = told_fits Draw (draw_of input) refl (λ status of. of) (told_statuses 2000 draw_text input)
fits (Gen seed) input = ((gen_fits seed).0, done_fits (gen_of seed).status (is_some (gen_of seed).world) (gen_fits seed))
fits (Bench seed) input = ((bench_fits seed).0, done_fits (bench_of seed).status (is_some (bench_of seed).world) (bench_fits seed))

pub same_some : {H : Type 0} (e : Option Ended) (w : Option (Kept H)) → HandsBack e w → is_some w ≡ is_some e
same_some None None h = refl
same_some (Some e) (Some k) h = refl
same_some None (Some k) h = absurd h
same_some (Some e) None h = absurd h

-- no world is handed back where none is answered
pub none_of : {H : Type 0} (w : Option (Kept H)) → HandsBack None w → w ≡ None
none_of None h = refl
none_of (Some k) h = absurd h
