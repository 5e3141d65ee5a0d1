use Rattle.std.proofs.Common.{◌≡◌, ℕ, List, sym, subst, ap, [], ◌∷◌, ◌++◌, ◌∙◌, rules}
use Rattle.std.specs.Prelude.{Some, None, Ok, Err, option_map}
use Rattle.lat_base.specs.Names.{IsName}
use Rattle.lat_model.specs.Lists.{Each}
use Rattle.lat_schedule.specs.Places.{line_at, place, adds}
use Rattle.lat_schedule.specs.SetupLines.{service_of}
use Rattle.lat_schedule.proofs.Many.{goes_on, stops, ends}
use Rattle.lat_schedule.proofs.Pushed.{each_push, adds_one, adds_none}
use Rattle.lat_schedule.proofs.listed.services_of.Goals as goal

pub returns-in_default-service_of-clause-value : goal.returns-in_default-service_of-clause-value
returns-in_default-service_of-clause-value c =
    let l = c.loop-next in
    let n = c.in-Ok.next in
    let next : Ok (n.number, n.line.now, place n.behind) ≡ line_at (place l.rest) = search rules in
    let none : None ≡ service_of l.services n.line.now = search rules in
    stops (adds service_of) l.services (place l.rest) n.number n.line.now (place n.behind) next (adds_none service_of l.services n.number n.line.now none) ∙ sym l.invariant.value

pub loop-next-preserved : goal.loop-next-preserved
loop-next-preserved c =
    let l = c.loop-next in
    let n = c.in-Ok.next in
    let next : Ok (n.number, n.line.now, place n.behind) ≡ line_at (place l.rest) = search rules in
    let found : Some c.in-Some.service ≡ service_of l.services n.line.now = search rules in
    let more : c.push.new.self ≡ l.services ++ c.in-Some.service ∷ [] = search rules in
    record {
      value = l.invariant.value ∙ goes_on (adds service_of) l.services c.push.new.self (place l.rest) n.number n.line.now (place n.behind) next (adds_one service_of l.services n.number n.line.now c.in-Some.service c.push.new.self found more);
      names = subst (Each IsName) (sym more) (each_push IsName l.services c.in-Some.service l.invariant.names c.in-Some.ensures.name);
    }

pub returns-clause-value : goal.returns-clause-value
returns-clause-value c =
    let l = c.loop-next in
    let none : Err c.in_default.field-0 ≡ line_at (place l.rest) = search rules in
    ends (adds service_of) l.services c.in_default.field-0 (place l.rest) none ∙ sym l.invariant.value
