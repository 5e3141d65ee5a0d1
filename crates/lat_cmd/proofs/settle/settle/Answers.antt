use Rattle.lat_cmd.specs.Answers.{settled, settle_of, answered_behind}
use Rattle.lat_cmd.specs.Laws.{SettleTakesAll}
use Rattle.lat_cmd.specs.Laws.{SaysCalm}
use Rattle.lat_cmd.specs.Befores.{text_before}
use Rattle.lat_cmd.proofs.Keeping.{before_through, before_stopped}
use Rattle.lat_cmd.proofs.Replaying.{of_through, of_stopped}
use Rattle.lat_cmd.proofs.Rounding.{has_room, settle_through, settle_stopped, if_ok_all}
use Rattle.lat_cmd.proofs.settle.settle.Goals as goal

pub settled-requires : goal.settled-requires
settled-requires g c =
    has_room (SaysCalm c.args.input.now) (λ tale. answered_behind tale c.args.input.now) c.in_ok-world.field-0 c.in-Through.world c.args.rounds
    c.in-Through.is c.in_ok-world.ensures.runs c.requires.few

pub returns-in-Through-clause-answer : goal.returns-in-Through-clause-answer
returns-in-Through-clause-answer g c =
    of_through (SaysCalm c.args.input.now) (settled c.args.rounds) (λ tale. answered_behind tale c.args.input.now) c.in_ok-world.field-0 c.in-Through.world c.settled.result
    c.in-Through.is c.in_ok-world.ensures.runs c.settled.ensures.answer

pub returns-in-Through-clause-all : goal.returns-in-Through-clause-all
returns-in-Through-clause-all g c =
    if_ok_all (SettleTakesAll c.args.rounds c.args.input.now (settle_of c.args.rounds c.args.input.now).status) c.settled.result
    (settle_through c.args.input.now c.args.rounds c.in_ok-world.field-0 c.in-Through.world c.in-Through.is c.in_ok-world.ensures.runs)

pub returns-in-Stopped-clause-answer : goal.returns-in-Stopped-clause-answer
returns-in-Stopped-clause-answer g c =
    of_stopped (SaysCalm c.args.input.now) (settled c.args.rounds) (λ tale. answered_behind tale c.args.input.now) c.in_ok-world.field-0 c.in-Stopped.outcome
    c.in-Stopped.is c.in_ok-world.ensures.runs

pub returns-in-Stopped-clause-all : goal.returns-in-Stopped-clause-all
returns-in-Stopped-clause-all g c =
    settle_stopped c.args.input.now c.args.rounds c.in_ok-world.field-0 c.in-Stopped.outcome c.in-Stopped.is c.in_ok-world.ensures.runs

pub returns-in-Through-clause-before : goal.returns-in-Through-clause-before
returns-in-Through-clause-before g c =
    before_through (text_before c.args.input.now) c.in_ok-world.field-0 c.in-Through.world c.settled.result c.in-Through.is c.in_ok-world.ensures.before
    c.settled.ensures.before

pub returns-in-Stopped-clause-before : goal.returns-in-Stopped-clause-before
returns-in-Stopped-clause-before g c =
    before_stopped (text_before c.args.input.now) c.in_ok-world.field-0 c.in-Stopped.outcome c.in-Stopped.is c.in_ok-world.ensures.before
