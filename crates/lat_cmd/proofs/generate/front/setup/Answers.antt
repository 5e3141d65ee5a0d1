use Rattle.std.proofs.Common.{◌≡◌, [], ◌++◌, ap, ◌∙◌, subst, rules}
use Rattle.std.specs.Prelude.{Result, Ok, Err}
use Rattle.lat_schedule.specs.ScheduleText.{schedule_of, ReadsSchedule}
use Rattle.lat_schedule.specs.declared.schedule.Schedule.{Schedule}
use Rattle.lat_schedule.specs.declared.schedule.ScheduleFault.{ScheduleFault}
use Rattle.lat_cmd.specs.generate.Front.{front_text, end_text, setup}
use Rattle.lat_cmd.proofs.generate.Telling.{front_tells, no_form, no_limit}
use Rattle.lat_cmd.proofs.generate.front.setup.Goals as goal

pub returns-in-Ok-clause-value : goal.returns-in-Ok-clause-value
returns-in-Ok-clause-value c =
    let text : c.as_bytes.result.now ≡ front_text ++ end_text = search rules in
    let read : ◌≡◌ {A = Result Schedule ScheduleFault} (Ok c.in-Ok.schedule) (schedule_of c.as_bytes.result.now) = c.in-Ok.ensures.reads in
    let told : schedule_of c.as_bytes.result.now ≡ Ok (record { setup = setup; lines = []; events = [] }) = ap schedule_of text ∙ front_tells in
    let same : c.in-Ok.schedule ≡ record { setup = setup; lines = []; events = [] } = cc in
    ap (λ (s : Schedule). s.setup) same

pub unreachable-requires : goal.unreachable-requires
unreachable-requires c =
    let text : c.as_bytes.result.now ≡ front_text ++ end_text = search rules in
    no_form c.as_bytes.result.now c.in-Err-Form.field-0-0 text (subst (λ f. ReadsSchedule (Err f) c.as_bytes.result.now) c.in-Err-Form.field-0-is c.in-Err-Form.ensures.reads)

pub unreachable-requires-in-Err-Events : goal.unreachable-requires-in-Err-Events
unreachable-requires-in-Err-Events c =
    let text : c.as_bytes.result.now ≡ front_text ++ end_text = search rules in
    no_limit c.as_bytes.result.now c.in-Err-Events.field-0-0 text (subst (λ f. ReadsSchedule (Err f) c.as_bytes.result.now) c.in-Err-Events.field-0-is c.in-Err-Events.ensures.reads)
