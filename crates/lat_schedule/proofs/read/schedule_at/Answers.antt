use Rattle.std.proofs.Common.{sym, subst}
use Rattle.lat_model.specs.Lists.{Each}
use Rattle.lat_schedule.specs.Events.{IsEvent}
use Rattle.lat_schedule.proofs.read.schedule_at.Goals as goal

pub returns-clause-events : goal.returns-clause-events
returns-clause-events c = subst (λ own. Each (IsEvent own) c.in_ok-listed.listed.events) (sym c.in_ok-setup.ensures.own) c.in_ok-listed.ensures.events
