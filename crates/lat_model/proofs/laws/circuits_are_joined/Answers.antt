use Rattle.std.proofs.Common.{ap, ◌∙◌}
use Rattle.lat_model.specs.circuits.WorldOk.{Replied}
use Rattle.lat_model.proofs.circuits.Follows.{world_reached_ok}
use Rattle.lat_model.proofs.circuits.Windows.{run_open}
use Rattle.lat_model.proofs.laws.circuits_are_joined.Goals as goal

pub returns : goal.returns
returns c = record {
  answered = λ w p r a k.
      let o : Replied w p = (world_reached_ok w r).replied p a k in (
        record {
          address = ap (λ z. (w.server.circuit_at z).address) o.peer ∙ a;
          running = ap (λ z. (w.server.circuit_at z).end.running) o.peer ∙ k;
          peer = ap (λ z. (w.server.circuit_at z).end.peer) o.peer;
        },
        o.peer,
      );
  idle = λ w q r a n. (world_reached_ok w r).idle q a n;
  calling = λ w p r i. ((run_open w r).server p).quiet i;
}
