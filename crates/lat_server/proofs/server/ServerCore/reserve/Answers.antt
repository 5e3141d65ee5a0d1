use Rattle.std.proofs.Common.{◌≡◌, ◌+◌, [], sym, ap, subst, ◌∙◌, arith}
use Rattle.lat_lines.specs.Answers.{ready}
use Rattle.lat_lines.specs.circuits.Kept.{IsClear, HasRooms}
use Rattle.lat_lines.specs.Kept as lines
use Rattle.lat_queue.specs.Tables.{waiting_count}
use Rattle.lat_server.specs.Kept.{Kept, config_of, AtRest, HasSpare}
use Rattle.lat_server.specs.Shown.{shown}
use Rattle.lat_server.specs.Stands.{Stands}
use Rattle.lat_server.proofs.Memory.{spare_less, on_ok, on_err, either}
use Rattle.lat_server.proofs.server.ServerCore.reserve.Goals as goal

pub returns-clause-state : goal.returns-clause-state
returns-clause-state c = λ s st.
    let in_it : Stands (shown c.self.inside) s = subst (λ (z : Kept). Stands z s) (sym c.self.view_is) st in
    record { lines = c.reserve.ensures.state s.core in_it.lines; directory = in_it.directory; queue = in_it.queue; solicits = in_it.solicits; gate = in_it.gate; concluded = in_it.concluded }

pub returns-clause-same : goal.returns-clause-same
returns-clause-same c =
    let k : Kept = shown c.self.inside in
    ap (λ (l : lines.Kept). config_of (record k { lines = l })) c.reserve.ensures.kept ∙ ap config_of c.self.view_is

pub returns-clause-lines : goal.returns-clause-lines
returns-clause-lines c = λ line.
    ap (λ (l : lines.Kept). ready l line) c.reserve.ensures.kept ∙ ap (λ (z : Kept). ready z.lines line) c.self.view_is

-- the requests that wait have memory, and so many more
spare : (c : goal.After-reserve) → HasRooms (c.count_waiting.result + c.args.more) c.reserve.new.self.circuits → HasSpare c.args.more (record (shown c.self.inside) { lines = c.reserve.new.self })
spare c = subst (λ n. HasRooms (n + c.args.more) c.reserve.new.self.circuits) c.count_waiting.ensures.value

pub returns-clause-rest : goal.returns-clause-rest
returns-clause-rest c = λ rest.
    let k : Kept = shown c.self.inside in
    let new : Kept = record k { lines = c.reserve.new.self } in
    let before : AtRest k = subst AtRest (sym c.self.view_is) rest in
    either c.reserve.result
    (on_ok c.reserve.result (λ ready. record {
      clear = subst (λ (l : lines.Kept). IsClear l.circuits) (sym c.reserve.ensures.kept) before.clear;
      freed = subst (λ (l : lines.Kept). l.freed ≡ []) (sym c.reserve.ensures.kept) before.freed;
      memory = spare_less new c.args.more 0 (omega arith) (spare c ready);
    }) c.reserve.ensures.ready)
    (on_err c.reserve.result (λ same. subst (λ (l : lines.Kept). AtRest (record k { lines = l })) (sym same) before) c.reserve.ensures.err)

pub returns-clause-spare : goal.returns-clause-spare
returns-clause-spare c = on_ok c.reserve.result (spare c) c.reserve.ensures.ready

pub returns-clause-err : goal.returns-clause-err
returns-clause-err c =
    let k : Kept = shown c.self.inside in
    on_err c.reserve.result (λ same. ap (λ (l : lines.Kept). record k { lines = l }) same ∙ c.self.view_is) c.reserve.ensures.err
