use Rattle.std.proofs.Common.{◌∙◌, sym, arith}
use Rattle.lat_lines.proofs.circuits.Cleared.{all_clear}
use Rattle.lat_lines.proofs.circuits.Circuits.clear.Goals as goal

pub loop-at-preserved : goal.loop-at-preserved
loop-at-preserved c =
    let i = c.loop-at.invariant in
    let e = c.let_go.ensures in
    record {
      core = record {
        own = e.core.own ∙ i.core.own;
        name = e.core.name ∙ i.core.name;
        timing = e.core.timing ∙ i.core.timing;
        server = e.core.server ∙ i.core.server;
        first = e.core.first ∙ i.core.first;
        memory = e.core.memory ∙ i.core.memory;
      };
      moment = e.moment ∙ i.moment;
      rooms = omega (arith, e.rooms, i.rooms);
      state = λ d st. e.state d (i.state d st);
    }

pub returns-clause-clear : goal.returns-clause-clear
returns-clause-clear c = all_clear c.loop-at.self (sym c.first_ended.ensures ∙ c.in_default.is)

pub returns-clause-rooms : goal.returns-clause-rooms
returns-clause-rooms c = c.loop-at.invariant.rooms
