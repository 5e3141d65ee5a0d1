use Rattle.lat_node.proofs.AnnounceLemmas.{announced_as}
use Rattle.lat_node.proofs.node.NodeCore.announcement.Goals as goal

pub returns-clause-written : goal.returns-clause-written
returns-clause-written g c = c.announced.ensures.written c.args.self.now.services c.in_ok-services.ensures.few c.in_ok-services.ensures.names

pub returns-clause-announced : goal.returns-clause-announced
returns-clause-announced g c =
    announced_as _ c.args.self.now c.args.used c.in_ok-services.services c.announced.result c.in_ok-services.ensures.ratings (c.announced.ensures.announced c.args.self.now.services c.in_ok-services.ensures.names)
