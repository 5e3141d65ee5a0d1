use Rattle.std.proofs.Common.{◌++◌, sym, subst}
use Rattle.lat_machines.specs.values.Addresses.{address}
use Rattle.lat_payload.specs.Frames.{Emits}
use Rattle.lat_circuit.specs.Messages.{message_shown}
use Rattle.lat_lines.specs.Kept.{side_of}
use Rattle.lat_lines.specs.Strangers.{strangers_stop, frame_in}
use Rattle.lat_lines.proofs.lines.Lines.stranger_stop.Goals as goal

pub returns-in-Run : goal.returns-in-Run
returns-in-Run c = λ d before st.
    subst (λ m. Emits (strangers_stop (side_of c.args.self.now) c.args.prompt d (address c.args.from.0) (message_shown m)) before (before ++ frame_in c.stop_to.result))
    (sym c.in-Run.is) (c.stop_to.ensures d before st)

pub returns-in-Wide : goal.returns-in-Wide
returns-in-Wide c = λ d before st.
    subst (λ m. Emits (strangers_stop (side_of c.args.self.now) c.args.prompt d (address c.args.from.0) (message_shown m)) before (before ++ frame_in c.stop_to-in-Wide.result))
    (sym c.in-Wide.is) (c.stop_to-in-Wide.ensures d before st)
