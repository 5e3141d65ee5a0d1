use Rattle.std.proofs.Common.{arith}
use Rattle.lat_notices.proofs.Exact.{found_from, only_from}
use Rattle.lat_notices.proofs.read.read_notice.Goals as goal

pub returns-clause-found : goal.returns-clause-found
returns-clause-found c = found_from c.notice_of.result c.args.payload.now (λ i. omega (arith, c.type_inv.payload i)) c.notice_of.ensures

pub returns-clause-only : goal.returns-clause-only
returns-clause-only c = λ n h. only_from c.notice_of.result c.args.payload.now n c.notice_of.ensures h
