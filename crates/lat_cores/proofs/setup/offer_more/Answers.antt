use Rattle.lat_cores.proofs.Offers.{either_offers}
use Rattle.lat_cores.proofs.setup.offer_more.Goals as goal

pub returns : goal.returns
returns c =
    let old = c.args.server.now in
    let valid = c.requires.valid in
    record {
      lines = valid.lines;
      offers = either_offers c.push.result old.lines old.offers c.push.new.self c.args.offer c.push.ensures.ok c.push.ensures.err valid.offers c.requires.line c.requires.free;
      timing = valid.timing;
      first = valid.first;
    }
