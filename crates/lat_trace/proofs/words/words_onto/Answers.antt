use Rattle.std.proofs.Common.{ℕ, arith}
use Rattle.std.specs.Prelude.{string_bytes}
use Rattle.std.specs.String.{string_len}
use Rattle.lat_trace.proofs.Wording.{words_left}
use Rattle.lat_trace.proofs.words.words_onto.Goals as goal

pub returns : goal.returns
returns c =
    let n : ℕ = string_len c.event_onto.new.text in
    words_left c.args.event.now (string_bytes c.args.text.now) (string_bytes c.event_onto.new.text) (string_bytes c.pop.new.self) n (omega (arith, c.event_onto.new.text.bytes.ok.0)) c.in_ok-event_onto.ensures c.pop.ensures.ascii_bytes
