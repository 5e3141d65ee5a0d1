use Rattle.std.proofs.Common.{refl}
use Rattle.std.specs.Prelude.{◌++◌, codes, decimal}
use Rattle.lat_log.specs.Words.{queue_words}
use Rattle.lat_log.proofs.Added.{both}
use Rattle.lat_log.proofs.daemon.queue_listens_onto.Goals as goal

pub returns : goal.returns
returns c =
    both c.write.result _ _ _ (queue_words c.args.service.now c.args.server) (codes " listens at " ++ decimal c.args.port) _
    c.in_ok-queue_onto.ensures c.write.ensures.bytes refl
