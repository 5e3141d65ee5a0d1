use Rattle.std.proofs.Common.{◌∙◌, None, length, filter}
use Rattle.std.proofs.lemmas.Bool.{false≢true}
use Rattle.lat_model.specs.Lists.{upwards}
use Rattle.lat_model.specs.ends.End.{End}
use Rattle.lat_model.specs.sessions.Session.{waits}
use Rattle.lat_model.specs.sessions.Sessions.{named}
use Rattle.lat_lines.proofs.CircuitFound.{told_own, found_is, found_has, slave_of}
use Rattle.lat_lines.proofs.circuits.Circuits.asked_count.Goals as goal

pub returns : goal.returns
returns c = λ d st node has.
    let e : End = (d.circuits.circuit_at c.args.circuit).end in
    told_own c.map_or.result (length (filter (λ id. waits (named e.half.sessions id)) (upwards 0 64))) 0 c.args.self.now c.args.circuit c.circuit.result c.circuit.ensures.value c.circuit.ensures.own c.map_or.ensures
    (λ none. absurd (false≢true (found_has c.args.self.now c.args.circuit None none ∙ has)))
    (λ q is own h.
    let f = found_is c.args.self.now d c.args.circuit q.now is st in
    h.1 e f.end (slave_of q.now e f.end (own.side ∙ node)))
