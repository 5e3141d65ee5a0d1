use Rattle.std.specs.Prelude.{[], map}
use Rattle.lat_model.specs.sessions.Slots as slots
use Rattle.lat_laws.specs.tales.Keeping.{with_items}
use Rattle.lat_replay.proofs.roster.Rows.{shows_changed}
use Rattle.lat_replay.proofs.roster.changes.put_at.Goals as goal

pub returns-then-place-gt0 : goal.returns-then-place-gt0
returns-then-place-gt0 c = λ rs h. shows_changed c.args.list.now rs c.args.place c.index-list-place.result c.puts.new.self (with_items c.args.server (map slots.Byte c.args.bytes.now) []) c.if-place-gt0.true c.requires.place h c.puts.ensures
