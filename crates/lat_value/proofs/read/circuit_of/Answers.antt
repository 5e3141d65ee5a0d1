use Rattle.std.proofs.Common.{length, ap, arith, length-append}
use Rattle.lat_frames.proofs.Written.{text_is_writable}
use Rattle.lat_value.proofs.read.circuit_of.Goals as goal

pub returns-clause-ok : goal.returns-clause-ok
returns-clause-ok c =
    let p = c.in_ok-read_message.ensures.found in
    text_is_writable c.in_ok-read_message.field-0 p.text p.of (omega (arith, ap length p.is, length-append p.text p.rest, p.size))
