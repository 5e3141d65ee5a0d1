use Rattle.std.proofs.Common.{◌≡◌, ◌+◌, length, sym, ap, [], ◌∷◌, ◌++◌, ◌∙◌, arith, rules}
use Rattle.std.specs.Prelude.{Some, None, Ok, Err}
use Rattle.std.proofs.lemmas.List.{length-append}
use Rattle.lat_schedule.specs.Places.{line_at, adds}
use Rattle.lat_schedule.proofs.Many.{goes_on, stops, ends}
use Rattle.lat_schedule.proofs.Pushed.{adds_one, adds_none}
use Rattle.lat_record.specs.Cursors.{place}
use Rattle.lat_record.specs.RecordRead.{one_entry}
use Rattle.lat_record.proofs.lists.entries_of.Goals as goal

pub returns-in-Err-Form-clause-value : goal.returns-in-Err-Form-clause-value
returns-in-Err-Form-clause-value c =
    let l = c.loop-next in
    let n = c.in-Ok.next in
    let next : Ok (n.number, n.line.now, place n.behind) ≡ line_at (place l.rest) = search rules in
    let none : None ≡ one_entry l.entries n.line.now = search rules in
    stops (adds one_entry) l.entries (place l.rest) n.number n.line.now (place n.behind) next (adds_none one_entry l.entries n.number n.line.now none) ∙ sym l.invariant.value

pub loop-next-preserved : goal.loop-next-preserved
loop-next-preserved c =
    let l = c.loop-next in
    let n = c.in-Ok.next in
    let entry = c.in-Ok-entry_of.entry in
    let next : Ok (n.number, n.line.now, place n.behind) ≡ line_at (place l.rest) = search rules in
    let found : Some entry ≡ one_entry l.entries n.line.now = search rules in
    let more : c.push.new.self ≡ l.entries ++ entry ∷ [] = search rules in
    let longer : length c.push.new.self ≡ length l.entries + 1 = ap length more ∙ length-append l.entries (entry ∷ []) in
    record {
      value = l.invariant.value ∙ goes_on (adds one_entry) l.entries c.push.new.self (place l.rest) n.number n.line.now (place n.behind) next (adds_one one_entry l.entries n.number n.line.now entry c.push.new.self found more);
      count = omega (arith, longer, l.invariant.count, c.in-Ok.ensures.shorter);
    }

pub returns-clause-value : goal.returns-clause-value
returns-clause-value c =
    let l = c.loop-next in
    let none : Err c.in_default.field-0 ≡ line_at (place l.rest) = search rules in
    ends (adds one_entry) l.entries c.in_default.field-0 (place l.rest) none ∙ sym l.invariant.value
