use Rattle.std.proofs.Common.{◌≡◌, true, false, refl, rules}
use Rattle.std.specs.Prelude.{is_some}
use Rattle.lat_audit.specs.Shown.{entry_shown}
use Rattle.lat_audit.proofs.Hearing.{stays, heard_all, counted}
use Rattle.lat_audit.proofs.auditor.Auditor.hear.Goals as goal

pub returns-then-is_some-clause-follows : goal.returns-then-is_some-clause-follows
returns-then-is_some-clause-follows c =
    let some : is_some c.args.self.now.broken ≡ true = search rules in
    λ t q follows. stays t c.args.self.now c.args.self.now.broken q (entry_shown c.args.entry.now) some follows

pub returns-clause-follows : goal.returns-clause-follows
returns-clause-follows c =
    let none : is_some c.args.self.now.broken ≡ false = search rules in
    λ t q follows. heard_all t c.args.self.now _ _ q (entry_shown c.args.entry.now) none follows c.in_ok-found.ensures.answer c.in_ok-found.ensures.title refl c.broken_at-self.ensures

pub returns-clause-counted : goal.returns-clause-counted
returns-clause-counted c =
    let none : is_some c.args.self.now.broken ≡ false = search rules in
    counted c.args.self.now _ _ _ _ none c.requires.counted c.in_ok-found.ensures.runs refl c.broken_at-self.ensures
