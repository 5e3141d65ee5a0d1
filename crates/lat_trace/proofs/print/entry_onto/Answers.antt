use Rattle.std.specs.Prelude.{string_bytes}
use Rattle.lat_trace.specs.Shown.{shown}
use Rattle.lat_trace.proofs.Printing.{entry_follows}
use Rattle.lat_trace.proofs.print.entry_onto.Goals as goal

pub returns : goal.returns
returns g c = λ w events s counts.
    entry_follows c.frames_onto.result events (shown w.posts c.args.number c.args.event.now c.args.entry.now) (string_bytes c.args.text.now) (string_bytes c.heading_onto.new.text) (string_bytes c.frames_onto.new.text)
    c.in_ok-heading_onto.ensures (c.frames_onto.ensures w events s counts)
