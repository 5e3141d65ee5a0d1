use Rattle.std.proofs.Common.{◌+◌, arith}
use Rattle.lat_server.proofs.Stepping.{has_stepped}
use Rattle.lat_server.specs.Events.{cost}
use Rattle.lat_server.proofs.Memory.{spare_less, spends_then}
use Rattle.lat_server.proofs.server.ServerCore.local.Goals as goal

pub returns-clause-state : goal.returns-clause-state
returns-clause-state c = λ m im. (has_stepped c.args.self.now c.act-answer.new.self c.follow.new.self m c.args.event.now c.act-answer.result c.args.out.now c.act-answer.new.out c.follow.new.out c.requires.empty im c.act-answer.ensures.does c.act-answer.ensures.same c.follow.ensures.same c.follow.ensures.follows).state

pub returns-clause-answer : goal.returns-clause-answer
returns-clause-answer c = λ m im. (has_stepped c.args.self.now c.act-answer.new.self c.follow.new.self m c.args.event.now c.act-answer.result c.args.out.now c.act-answer.new.out c.follow.new.out c.requires.empty im c.act-answer.ensures.does c.act-answer.ensures.same c.follow.ensures.same c.follow.ensures.follows).answer_is

pub returns-clause-frames : goal.returns-clause-frames
returns-clause-frames c = λ m im. (has_stepped c.args.self.now c.act-answer.new.self c.follow.new.self m c.args.event.now c.act-answer.result c.args.out.now c.act-answer.new.out c.follow.new.out c.requires.empty im c.act-answer.ensures.does c.act-answer.ensures.same c.follow.ensures.same c.follow.ensures.follows).frames

pub follow-requires-clause-memory : goal.follow-requires-clause-memory
follow-requires-clause-memory c =
    c.act-answer.ensures.spare 0 (spare_less c.args.self.now (cost c.args.event.now) (cost c.args.event.now + 0) (omega arith) c.requires.memory)

pub returns-clause-spare : goal.returns-clause-spare
returns-clause-spare c =
    spends_then (cost c.args.event.now) c.args.self.now c.act-answer.new.self c.follow.new.self c.act-answer.ensures.spare c.follow.ensures.spare
