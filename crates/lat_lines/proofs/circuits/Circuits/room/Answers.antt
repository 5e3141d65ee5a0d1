use Rattle.std.proofs.Common.{sym, ap, cond, rules}
use Rattle.lat_model.specs.ends.End.{End, lives}
use Rattle.lat_model.specs.sessions.Session.{Session}
use Rattle.lat_model.specs.sessions.Sessions.{named}
use Rattle.lat_machines.specs.cores.Looks.{put_room}
use Rattle.lat_lines.proofs.CircuitFound.{told, found_is, none_lives}
use Rattle.lat_lines.proofs.circuits.Circuits.room.Goals as goal

pub returns : goal.returns
returns c = λ d st.
    let e : End = (d.circuits.circuit_at c.args.circuit).end in
    let s : Session = named e.half.sessions c.args.id in
    told c.map_or.result (cond (lives e) (put_room s) 0) 0 c.args.self.now c.args.circuit c.circuit.result c.circuit.ensures.value c.map_or.ensures
    (λ none. ap (λ b. cond b (put_room s) 0) (sym (none_lives c.args.self.now d c.args.circuit none st)))
    (λ q is h. let f = (found_is c.args.self.now d c.args.circuit q.now is st).end in search rules)
