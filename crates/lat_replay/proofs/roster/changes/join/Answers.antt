use Rattle.lat_replay.proofs.roster.Rows.{shows_changed, line_given}
use Rattle.lat_replay.proofs.roster.changes.join.Goals as goal

pub returns-then-place-gt0 : goal.returns-then-place-gt0
returns-then-place-gt0 c = λ rs h. shows_changed c.args.list.now rs c.args.place c.index-list-place.result _ (λ r. record r { node_line = c.args.line }) c.if-place-gt0.true c.requires.place h (λ r q. record { line = q.line; circuit = q.circuit; id = q.id; node_line = line_given c.args.line c.requires.line; put_up = q.put_up; taken_up = q.taken_up; put_down = q.put_down; taken_down = q.taken_down; server = q.server; node = q.node })
