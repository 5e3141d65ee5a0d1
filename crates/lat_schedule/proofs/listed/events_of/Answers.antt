use Rattle.std.proofs.Common.{◌≡◌, List, ℕ, sym, subst, [], ◌∷◌, ◌++◌, ◌∙◌, rules}
use Rattle.std.specs.Prelude.{Some, None, Ok, Err}
use Rattle.lat_model.specs.Lists.{Each}
use Rattle.lat_schedule.specs.declared.listed.Listed.{Listed}
use Rattle.lat_schedule.specs.EventLines.{event_of}
use Rattle.lat_schedule.specs.Events.{IsEvent}
use Rattle.lat_schedule.specs.Listed as listed
use Rattle.lat_schedule.specs.Places.{line_at, place}
use Rattle.lat_schedule.proofs.Many.{goes_on, stops, ends}
use Rattle.lat_schedule.proofs.Pushed.{each_push, listed_one, listed_none}
use Rattle.lat_schedule.proofs.listed.events_of.Goals as goal

pub returns-in-Err-Form-clause-value : goal.returns-in-Err-Form-clause-value
returns-in-Err-Form-clause-value c =
    let l = c.loop-next in
    let n = c.in-Ok.next in
    let before : Listed = record { lines = l.lines; events = l.events } in
    let next : Ok (n.number, n.line.now, place n.behind) ≡ line_at (place l.rest) = search rules in
    let none : None ≡ event_of c.args.version c.args.to n.line.now = search rules in
    stops (listed.goes_on c.args.version c.args.to) before (place l.rest) n.number n.line.now (place n.behind) next (listed_none c.args.version c.args.to before n.number n.line.now none) ∙ sym l.invariant.value

pub loop-next-preserved : goal.loop-next-preserved
loop-next-preserved c =
    let l = c.loop-next in
    let n = c.in-Ok.next in
    let before : Listed = record { lines = l.lines; events = l.events } in
    let after : Listed = record { lines = c.push-in-Ok.new.self; events = c.push.new.self } in
    let next : Ok (n.number, n.line.now, place n.behind) ≡ line_at (place l.rest) = search rules in
    let found : Some c.in-Ok-event_of.event ≡ event_of c.args.version c.args.to n.line.now = search rules in
    let more : c.push.new.self ≡ l.events ++ c.in-Ok-event_of.event ∷ [] = search rules in
    let counted : c.push-in-Ok.new.self ≡ l.lines ++ listed.saturated_number n.number ∷ [] = search rules in
    record {
      value = l.invariant.value ∙ goes_on (listed.goes_on c.args.version c.args.to) before after (place l.rest) n.number n.line.now (place n.behind) next (listed_one c.args.version c.args.to before n.number n.line.now c.in-Ok-event_of.event c.push-in-Ok.new.self c.push.new.self found counted more);
      events = subst (Each (IsEvent c.args.to)) (sym more) (each_push (IsEvent c.args.to) l.events c.in-Ok-event_of.event l.invariant.events c.in-Ok-event_of.ensures.event);
    }

pub returns-clause-value : goal.returns-clause-value
returns-clause-value c =
    let l = c.loop-next in
    let none : Err c.in_default.field-0 ≡ line_at (place l.rest) = search rules in
    ends (listed.goes_on c.args.version c.args.to) (record { lines = l.lines; events = l.events }) c.in_default.field-0 (place l.rest) none ∙ sym l.invariant.value
