use Rattle.std.proofs.Common.{sym, subst}
use Rattle.lat_machines.specs.values.Addresses.{address}
use Rattle.lat_payload.specs.Frames.{Emits}
use Rattle.lat_lines.specs.circuits.Kept.{side_of}
use Rattle.lat_lines.specs.circuits.Stands.{Stands}
use Rattle.lat_lines.specs.Opens.{reaches, IsWay}
use Rattle.lat_lines.proofs.circuits.Reserving.{one_ready}
use Rattle.lat_lines.proofs.opening.reach.Goals as goal

pub returns-in-None-clause-did : goal.returns-in-None-clause-did
returns-in-None-clause-did c = λ d st.
    subst (λ w. Stands c.call.new.self (reaches (side_of c.args.circuits.now) (address c.args.peer.0) c.args.node.now w d).core × Emits (reaches (side_of c.args.circuits.now) (address c.args.peer.0) c.args.node.now w d).frames c.args.out.now c.call.new.out) (sym c.in-None.is) (c.call.ensures.did d st)

pub call-requires-clause-memory : goal.call-requires-clause-memory
call-requires-clause-memory c =
    one_ready c.args.circuits.now c.requires.memory ((subst (IsWay c.args.circuits.now) c.in-None.is c.requires.way).0 c.requires.clear)
