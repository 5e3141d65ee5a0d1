use Rattle.std.proofs.Common.{refl}
use Rattle.lat_audit.specs.TextSlots.{tell}
use Rattle.lat_audit.proofs.auditor.Auditor.new.Goals as goal

pub returns-clause-follows : goal.returns-clause-follows
returns-clause-follows c = record {
  title = c.new.ensures.title;
  count = refl;
  knows = record { stands = c.new.ensures.stands tell; runs = c.new.ensures.runs };
}
