use Rattle.std.proofs.Common.{◌≡◌, sym, [], ◌∷◌, ◌++◌, ◌∙◌, rules}
use Rattle.std.specs.Prelude.{Some, None, Ok, Err}
use Rattle.lat_schedule.specs.Places.{line_at, adds}
use Rattle.lat_schedule.proofs.Many.{goes_on, stops, ends}
use Rattle.lat_schedule.proofs.Pushed.{adds_one, adds_none}
use Rattle.lat_record.specs.Cursors.{place}
use Rattle.lat_record.specs.RecordRead.{one_rate}
use Rattle.lat_record.proofs.lists.rates_of.Goals as goal

pub returns-in_default-rate_of : goal.returns-in_default-rate_of
returns-in_default-rate_of c =
    let l = c.loop-next in
    let n = c.in-Ok.next in
    let next : Ok (n.number, n.line.now, place n.behind) ≡ line_at (place l.rest) = search rules in
    let none : None ≡ one_rate l.rates n.line.now = search rules in
    record { value = stops (adds one_rate) l.rates (place l.rest) n.number n.line.now (place n.behind) next (adds_none one_rate l.rates n.number n.line.now none) ∙ sym l.invariant }

pub loop-next-preserved : goal.loop-next-preserved
loop-next-preserved c =
    let l = c.loop-next in
    let n = c.in-Ok.next in
    let next : Ok (n.number, n.line.now, place n.behind) ≡ line_at (place l.rest) = search rules in
    let found : Some c.in-Some.rate ≡ one_rate l.rates n.line.now = search rules in
    let more : c.push.new.self ≡ l.rates ++ c.in-Some.rate ∷ [] = search rules in
    l.invariant ∙ goes_on (adds one_rate) l.rates c.push.new.self (place l.rest) n.number n.line.now (place n.behind) next (adds_one one_rate l.rates n.number n.line.now c.in-Some.rate c.push.new.self found more)

pub returns : goal.returns
returns c =
    let l = c.loop-next in
    let none : Err c.in_default.field-0 ≡ line_at (place l.rest) = search rules in
    record { value = ends (adds one_rate) l.rates c.in_default.field-0 (place l.rest) none ∙ sym l.invariant }
