-- The text of a generated schedule is a schedule, which leads to its world.
use Rattle.std.proofs.Common.{◌≡◌, ℕ, ◌*◌, ◌≤◌, false, List, ◌++◌, length, refl, ap, ◌∙◌, append_assoc, length-append, arith}
use Rattle.std.specs.Prelude.{Result, Ok, nat_lt}
use Rattle.std.specs.Fmt.{digits}
use Rattle.std.proofs.lemmas.Bool.Decides.{nat_tests}
use Rattle.hex.specs.Hex.{decode_pairs}
use Rattle.lat_model.specs.Lists.{Each}
use Rattle.lat_machines.specs.world.Machines.{Setups}
use Rattle.lat_text.specs.Lines.{lines_of}
use Rattle.lat_schedule.specs.declared.event.WorldEvent.{WorldEvent}
use Rattle.lat_schedule.specs.declared.listed.Listed.{Listed}
use Rattle.lat_schedule.specs.declared.schedule.Schedule.{Schedule}
use Rattle.lat_schedule.specs.declared.setup_line.Version.TheVariants.{One}
use Rattle.lat_schedule.specs.Listed.{events_at}
use Rattle.lat_schedule.specs.Places.{Place, many, numbered, opening, ◌>>=◌}
use Rattle.lat_schedule.specs.ReadBack.{IsWritten, events_text, lines_from}
use Rattle.lat_schedule.specs.ScheduleText.{schedule_at, schedule_of, ending_at, within_limit, answer_of}
use Rattle.lat_schedule.proofs.EventsRead.{lists_back}
use Rattle.lat_replay.specs.Played.{State, open_state, Through, played}
use Rattle.lat_replay.specs.Setups.{setups_shown}
use Rattle.lat_cmd.specs.declared.command.Command.TheVariants.{Replay}
use Rattle.lat_cmd.specs.Answers as answers
use Rattle.lat_cmd.specs.Answers.{Tale, reported, tale_answer_at, answered_behind, gen_of}
use Rattle.lat_cmd.specs.generate.Front.{front_text, end_text, setup}
use Rattle.lat_cmd.specs.generate.Grown.{Grown, setups, grown, gen_text}
use Rattle.lat_cmd.specs.generate.Reread.{IsReplayed, Rereads}
use Rattle.lat_cmd.proofs.Replaying.{through}
use Rattle.lat_cmd.proofs.generate.Drawing.{own}
use Rattle.lat_cmd.proofs.generate.Rereading.{Tells, grown_grows}

-- the schedule of these events
abbrev made : List ℕ → List WorldEvent → Schedule
made lines es = record { setup = setup; lines = lines; events = es }

-- behind `go`
abbrev behind_go : Listed × Place → Result Schedule ℕ
behind_go listed = do
  ended ← ending_at listed.1
  Ok (made listed.0.lines listed.0.events)

-- the lines in front of the events tell the setup, whatever stands behind them
front_goes : (rest : List ℕ) → schedule_at (opening (front_text ++ rest)) ≡ behind_go (events_at One own (numbered false 7 (lines_of rest)))
unfolding many decode_pairs digits
front_goes rest = refl

text_read : (es : List WorldEvent) → Each (IsWritten One own) es → schedule_at (opening (front_text ++ (events_text es ++ end_text))) ≡ Ok (made (lines_from 7 es) es)
text_read es are = front_goes (events_text es ++ end_text) ∙ ap behind_go (lists_back One own es are false 7)

few_events : (s : Schedule) → length s.events ≤ 100000 → within_limit s ≡ Ok s
few_events s few = let low : nat_lt 100000 (length s.events) ≡ false = grind (arith, nat_tests) in rw low refl

schedule_read : (text : List ℕ) (es : List WorldEvent) → Each (IsWritten One own) es → length es ≤ 100000 → text ≡ front_text ++ (events_text es ++ end_text) →
    schedule_of text ≡ Ok (made (lines_from 7 es) es)
schedule_read text es are few same =
    ap schedule_of same ∙ ap answer_of (text_read es are) ∙ few_events (made (lines_from 7 es) es) few

-- what is told behind a text that is a schedule
tells : (tale : Tale) (text : List ℕ) (s : Schedule) (u : Setups) (t : State) → schedule_of text ≡ Ok s → u ≡ setups_shown s.setup →
    played u (open_state u) s.events ≡ Through t → answered_behind tale text ≡ tale u t
unfolding answered_behind
tells tale text s u t is made leads = ap (tale_answer_at tale) is ∙ through tale s u u t made refl leads

-- what `replay` answers to it, if it is short enough
replays : (text : List ℕ) (s : Schedule) (u : Setups) (t : State) → schedule_of text ≡ Ok s → length text ≤ 16777216 → u ≡ setups_shown s.setup →
    played u (open_state u) s.events ≡ Through t → answers.answer_of Replay text ≡ reported u t
replays text s u t is short made leads =
    let low : nat_lt 16777216 (length text) ≡ false = grind (arith, nat_tests) in
    rw low (tells reported text s u t is made leads)

setup_is : setups ≡ setups_shown setup
unfolding setups
setup_is = refl

whole : (front middle behind text : List ℕ) → text ≡ front ++ middle → text ++ behind ≡ front ++ (middle ++ behind)
whole front middle behind text same = ap (λ (t : List ℕ). t ++ behind) same ∙ append_assoc front middle behind

front_short : length front_text ≤ 200
front_short = omega arith

text_short : (front middle behind : List ℕ) (n : ℕ) → length front ≤ 200 → length middle ≤ 1100 * n → length behind ≤ 10 → n ≤ 5000 →
    length (front ++ (middle ++ behind)) ≤ 16777216
text_short front middle behind n a b c d =
    let x = length-append front (middle ++ behind) in
    let y = length-append middle behind in
    omega (arith, a, b, c, d, x, y)

pub rereads : (seed : ℕ) → Rereads seed
unfolding gen_text
rereads seed =
    let g : Grown = grown seed in
    let t : Tells 4002 g.state g.text g.events = (grown_grows seed).tells in
    let few = t.few in
    let is : g.text ++ end_text ≡ front_text ++ (events_text t.events ++ end_text) = whole front_text (events_text t.events) end_text g.text t.text in
    let read : schedule_of (g.text ++ end_text) ≡ Ok (made (lines_from 7 t.events) t.events) =
    schedule_read (g.text ++ end_text) t.events t.written (omega (arith, few)) is in
    let long : length (g.text ++ end_text) ≤ 16777216 =
    rw is (text_short front_text (events_text t.events) end_text 4002 front_short t.short (omega arith) (omega arith)) in
    record {
      schedule = made (lines_from 7 t.events) t.events;
      is = read;
      setup = refl;
      events = t.count;
      leads = t.leads;
      told = λ tale. tells tale (g.text ++ end_text) (made (lines_from 7 t.events) t.events) setups g.state read setup_is t.leads;
      replayed = replays (g.text ++ end_text) (made (lines_from 7 t.events) t.events) setups g.state read long setup_is t.leads;
    }

-- what `gen` answers
pub gen_replayed : (seed : ℕ) → IsReplayed seed (gen_of seed).text
unfolding gen_of
gen_replayed seed = (rereads seed).replayed
