use Rattle.std.proofs.Common.{length, ap, ◌∙◌, arith}
use Rattle.lat_turns.proofs.Front.{front_whole, front_written}
use Rattle.lat_turns.proofs.write.write_piece.Goals as goal

pub returns-clause-whole : goal.returns-clause-whole
returns-clause-whole g c =
    let same = c.copy_bytes-count.ensures.bytes in
    front_whole c.in_ok-wrote.wrote c.front_of.result c.args.items.now (omega (arith, c.in_ok-wrote.ensures.bound, ap length same)) c.front_of.ensures.exact

pub returns-clause-visits : goal.returns-clause-visits
returns-clause-visits g c =
    c.in_ok-wrote.ensures.visits ∙ front_written (g.K.Callers.visits c.args.callers.now) c.in_ok-wrote.wrote c.front_of.result _ c.args.items.now c.copy_bytes-count.ensures.bytes c.front_of.ensures.exact
