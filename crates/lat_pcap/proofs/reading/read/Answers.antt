use Rattle.std.proofs.Common.{arith}
use Rattle.lat_pcap.proofs.Files.{found_from, whole_from, only_from}
use Rattle.lat_pcap.proofs.reading.read.Goals as goal

pub returns-clause-found : goal.returns-clause-found
returns-clause-found c = found_from c.contents_from.result c.args.bytes.now (λ i. omega (arith, c.type_inv.bytes i)) c.contents_from.ensures

pub returns-clause-whole : goal.returns-clause-whole
returns-clause-whole c =
    whole_from c.contents_from.result c.args.bytes.now (found_from c.contents_from.result c.args.bytes.now (λ i. omega (arith, c.type_inv.bytes i)) c.contents_from.ensures)

pub returns-clause-only : goal.returns-clause-only
returns-clause-only c = λ k read. only_from c.contents_from.result c.args.bytes.now k read c.contents_from.ensures
