use Rattle.lat_settle.proofs.Along.{told_so}
use Rattle.lat_settle.proofs.phases.tell.Goals as goal

pub returns-clause-tells : goal.returns-clause-tells
returns-clause-tells g c = told_so c.args.world.now c.step.new.self c.args.event c.step.result c.step.ensures.stands c.step.ensures.refused c.step.ensures.moment c.step.ensures.err c.step.ensures.err_stands
