use Rattle.lat_notices.proofs.Writable.{writable}
use Rattle.lat_notices.proofs.write.write_notice.Goals as goal

pub returns-clause-writable : goal.returns-clause-writable
returns-clause-writable c = writable c.args.n.now c.write_fields.ensures.names c.requires.ok
