use Rattle.std.proofs.Common.{◌<◌, arith}
use Rattle.lat_replay.proofs.roster.Rows.{shows_changed}
use Rattle.lat_replay.proofs.roster.changes.leave_server.Goals as goal

pub returns-then-place-gt0 : goal.returns-then-place-gt0
returns-then-place-gt0 c = λ rs f h g. shows_changed c.args.list.now rs c.args.place c.index-list-place.result _ (λ r. record r { server = f }) c.if-place-gt0.true c.requires h (λ r q. record { line = q.line; circuit = q.circuit; id = q.id; node_line = q.node_line; put_up = q.put_up; taken_up = q.taken_up; put_down = q.put_down; taken_down = q.taken_down; server = g (let l : 0 < c.args.place = c.if-place-gt0.true in λ e. absurd (omega (arith, l, e))); node = q.node })
