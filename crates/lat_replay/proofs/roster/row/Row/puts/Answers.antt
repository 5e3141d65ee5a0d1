use Rattle.std.proofs.Common.{refl, sym, subst, [], map}
use Rattle.lat_model.specs.sessions.Slots as slots
use Rattle.lat_laws.specs.tales.Keeping.{with_items}
use Rattle.lat_replay.specs.declared.roster.row.Row.{Row}
use Rattle.lat_replay.specs.roster.Rows.{ShowsRow}
use Rattle.lat_replay.proofs.roster.Rows.{puts_up, puts_down}
use Rattle.lat_replay.proofs.roster.row.Row.puts.Goals as goal

pub returns-then-server : goal.returns-then-server
returns-then-server c = λ r h.
    let now : Row = record c.args.self.now { up = record { put = c.add_bytes.new.list; taken = c.args.self.now.up.taken } } in
    subst (λ b. ShowsRow now (with_items b (map slots.Byte c.args.bytes.now) [] r)) (sym c.if-server.true) (puts_up c.args.self.now now r c.args.bytes.now c.add_bytes.ensures refl refl (refl, refl, refl, refl, refl, refl) h)

pub returns-else-server : goal.returns-else-server
returns-else-server c = λ r h.
    let now : Row = record c.args.self.now { down = record { put = c.add_bytes-else-server.new.list; taken = c.args.self.now.down.taken } } in
    subst (λ b. ShowsRow now (with_items b (map slots.Byte c.args.bytes.now) [] r)) (sym c.if-server.false) (puts_down c.args.self.now now r c.args.bytes.now c.add_bytes-else-server.ensures refl refl (refl, refl, refl, refl, refl, refl) h)
