use Rattle.std.proofs.Common.{false, [], map, ap, sym, subst, ◌∙◌}
use Rattle.lat_frames.specs.Reasons.{end_bits}
use Rattle.lat_queue.specs.Histories.{key_shown}
use Rattle.lat_machines.specs.values.Addresses.{address}
use Rattle.lat_machines.specs.cores.Acts.{stray_at}
use Rattle.lat_machines.specs.cores.Cores.{acts}
use Rattle.lat_lines.specs.Kept.{Kept, side_of}
use Rattle.lat_lines.specs.Stands.{Stands}
use Rattle.lat_payload.specs.Frames.{Emits}
use Rattle.lat_lines.proofs.CallSteps.{freed_none}
use Rattle.lat_lines.proofs.Standing.{stands_as}
use Rattle.lat_lines.proofs.circuits.Strays.{stray_adds}
use Rattle.lat_lines.proofs.lines.Lines.turn_away.Goals as goal

pub returns-clause-did : goal.returns-clause-did
returns-clause-did c = λ d st.
    let k = c.args.self.now in
    let doing = acts (side_of k) d (stray_at false d.circuits (address c.args.from.0) c.args.source 0 (end_bits c.args.reason)) in
    record {
      state = subst (λ z. Stands z d) (sym c.rest.ensures) (stands_as k k.circuits [] d st st.circuits);
      frames = subst (λ z. Emits doing.frames c.args.out.now z) (sym c.push.ensures)
          (stray_adds (side_of k) d false c.args.from c.args.source 0 (end_bits c.args.reason) c.stray_stop.result c.args.out.now (record { is = c.stray_stop.ensures.value; formed = c.stray_stop.ensures.formed c.requires.source }));
      freed = ap (λ (z : Kept). map key_shown z.freed) c.rest.ensures ∙ sym (freed_none d d.seats);
    }
