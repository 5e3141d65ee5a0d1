use Rattle.std.proofs.Common.{◌<◌, ◌≤◌, subst, arith, true, false}
use Rattle.std.proofs.lemmas.Bool.Decides.{nat_tests}
use Rattle.lat_captures.specs.Steps.{side_of, SendsSlots}
use Rattle.lat_captures.proofs.Exits.{refused, repeated, went_on}
use Rattle.lat_captures.proofs.checker.Checker.run.Goals as goal

pub returns-in-Err-clause-answer : goal.returns-in-Err-clause-answer
returns-in-Err-clause-answer c =
    refused c.args.by_master c.args.self.now c.args.self.now c.args.head.now c.args.slots.now c.args.text.now c.is_empty.result c.in-Err.rule (c.is_empty.ensures, c.in-Err.ensures, c.requires)

pub returns-then-not-is_new-clause-answer : goal.returns-then-not-is_new-clause-answer
returns-then-not-is_new-clause-answer c =
    let near = c.in-Ok.near in
    let old : near.number ≤ (side_of c.args.self.now c.args.by_master).count = let h = c.if-not-is_new.true in let s = c.is_new-is_new.ensures in grind (arith, nat_tests) in
    repeated c.args.by_master c.args.self.now c.acknowledge.new.self c.counts.new.self c.args.head.now c.args.slots.now c.args.text.now c.is_empty.result near (c.is_empty.ensures, c.in-Ok.ensures, c.requires)
    old c.acknowledge.ensures c.counts.ensures

pub returns-then-branch-clause-answer : goal.returns-then-branch-clause-answer
returns-then-branch-clause-answer c =
    let near = c.in-Ok.near in
    let new : (side_of c.args.self.now c.args.by_master).count < near.number = let h = c.if-not-is_new.false in let s = c.is_new-is_new.ensures in grind (arith, nat_tests) in
    went_on c.args.by_master c.args.self.now c.acknowledge.new.self c.send.new.self c.args.head.now c.args.slots.now c.args.text.now c.is_empty.result near true (c.is_empty.ensures, c.in-Ok.ensures, c.requires)
    new c.acknowledge.ensures (subst (SendsSlots c.args.by_master c.acknowledge.new.self c.send.new.self c.args.slots.now c.args.text.now) c.if-branch.true c.in_ok-send.ensures)

pub returns-else-branch-clause-answer : goal.returns-else-branch-clause-answer
returns-else-branch-clause-answer c =
    let near = c.in-Ok.near in
    let new : (side_of c.args.self.now c.args.by_master).count < near.number = let h = c.if-not-is_new.false in let s = c.is_new-is_new.ensures in grind (arith, nat_tests) in
    went_on c.args.by_master c.args.self.now c.acknowledge.new.self c.send.new.self c.args.head.now c.args.slots.now c.args.text.now c.is_empty.result near false (c.is_empty.ensures, c.in-Ok.ensures, c.requires)
    new c.acknowledge.ensures (subst (SendsSlots c.args.by_master c.acknowledge.new.self c.send.new.self c.args.slots.now c.args.text.now) c.if-branch.false c.in_ok-send.ensures)
