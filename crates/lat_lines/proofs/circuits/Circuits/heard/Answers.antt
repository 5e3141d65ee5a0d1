use Rattle.std.proofs.Common.{◌∙◌, sym, ap, subst, slice_index, true≢false}
use Rattle.lat_frames.specs.declared.message.Message.TheVariants as frames
use Rattle.lat_machines.specs.values.Addresses.{address}
use Rattle.lat_circuit.specs.Messages.{message_shown, info_shown}
use Rattle.lat_lines.specs.circuits.Hears.{HeardCore, is_call, heard_core, hears_at, hears_named, start_core, new_fact}
use Rattle.lat_lines.specs.circuits.Kept.{Kept, Holds, ids, side_of}
use Rattle.lat_lines.proofs.circuits.Each.{did_as}
use Rattle.lat_lines.proofs.circuits.Starts.{run_read, wide_read, stop_read, reply_read, start_here, start_new}
use Rattle.lat_lines.proofs.circuits.Reserving.{rooms_stay}
use Rattle.lat_lines.proofs.circuits.Circuits.heard.Goals as goal

pub returns-in-Run-clause-did : goal.returns-in-Run-clause-did
returns-in-Run-clause-did c =
    let k = c.args.self.now in
    let from = address c.args.from.0 in
    let m = message_shown c.args.m.now in
    did_as (λ d. (hears_named (side_of k) c.in-Run.head.to from m d).doing) (λ d. (heard_core (side_of k) from m d).doing) k c.heard_by.new.self c.args.out.now c.heard_by.new.out
    (λ d st. ap (λ (h : HeardCore). h.doing) (run_read (side_of k) d from c.args.m.now c.in-Run.head c.in-Run.slots c.in-Run.is))
    c.heard_by.ensures.did

pub returns-in-Run-clause-answer : goal.returns-in-Run-clause-answer
returns-in-Run-clause-answer c =
    let k = c.args.self.now in
    let from = address c.args.from.0 in
    λ d st. c.heard_by.ensures.answer d st ∙ sym (ap (λ (h : HeardCore). h.answer) (run_read (side_of k) d from c.args.m.now c.in-Run.head c.in-Run.slots c.in-Run.is))

pub returns-in-Wide-clause-did : goal.returns-in-Wide-clause-did
returns-in-Wide-clause-did c =
    let k = c.args.self.now in
    let from = address c.args.from.0 in
    let m = message_shown c.args.m.now in
    did_as (λ d. (hears_named (side_of k) c.in-Wide.head.to from m d).doing) (λ d. (heard_core (side_of k) from m d).doing) k c.heard_by-in-Wide.new.self c.args.out.now c.heard_by-in-Wide.new.out
    (λ d st. ap (λ (h : HeardCore). h.doing) (wide_read (side_of k) d from c.args.m.now c.in-Wide.head c.in-Wide.slots c.in-Wide.is))
    c.heard_by-in-Wide.ensures.did

pub returns-in-Wide-clause-answer : goal.returns-in-Wide-clause-answer
returns-in-Wide-clause-answer c =
    let k = c.args.self.now in
    let from = address c.args.from.0 in
    λ d st. c.heard_by-in-Wide.ensures.answer d st ∙ sym (ap (λ (h : HeardCore). h.answer) (wide_read (side_of k) d from c.args.m.now c.in-Wide.head c.in-Wide.slots c.in-Wide.is))

pub returns-in-Stop-clause-did : goal.returns-in-Stop-clause-did
returns-in-Stop-clause-did c =
    let k = c.args.self.now in
    let from = address c.args.from.0 in
    let m = message_shown c.args.m.now in
    did_as (λ d. (hears_named (side_of k) c.in-Stop.to from m d).doing) (λ d. (heard_core (side_of k) from m d).doing) k c.heard_by-in-Stop.new.self c.args.out.now c.heard_by-in-Stop.new.out
    (λ d st. ap (λ (h : HeardCore). h.doing) (stop_read (side_of k) d from c.args.m.now c.in-Stop.master c.in-Stop.ask c.in-Stop.to c.in-Stop.from c.in-Stop.reason c.in-Stop.text c.in-Stop.is))
    c.heard_by-in-Stop.ensures.did

pub returns-in-Stop-clause-answer : goal.returns-in-Stop-clause-answer
returns-in-Stop-clause-answer c =
    let k = c.args.self.now in
    let from = address c.args.from.0 in
    λ d st. c.heard_by-in-Stop.ensures.answer d st ∙ sym (ap (λ (h : HeardCore). h.answer) (stop_read (side_of k) d from c.args.m.now c.in-Stop.master c.in-Stop.ask c.in-Stop.to c.in-Stop.from c.in-Stop.reason c.in-Stop.text c.in-Stop.is))

pub returns-then-self-2-clause-did : goal.returns-then-self-2-clause-did
returns-then-self-2-clause-did c =
    let k = c.args.self.now in
    let from = address c.args.from.0 in
    let h : Holds k = subst Holds c.self-in-Start.view_is c.self-in-Start.invariant.0 in
    let is = c.in-Start.is ∙ ap (λ b. frames.Start b c.in-Start.ask c.in-Start.to c.in-Start.from c.in-Start.info) (sym c.in-Start.master-is ∙ c.in-Start.master-test) in
    let server = ap (λ (z : Kept). z.server) (sym c.self-in-Start.view_is) ∙ c.if-self-2.true in
    let m = message_shown c.args.m.now in
    did_as (λ d. (hears_named (side_of k) c.in-Start.to from m d).doing) (λ d. (heard_core (side_of k) from m d).doing) k c.heard_by-then-self-2.new.self c.args.out.now c.heard_by-then-self-2.new.out
    (λ d st. ap (λ (h : HeardCore). h.doing) (reply_read k d from c.args.m.now c.in-Start.ask c.in-Start.to c.in-Start.from c.in-Start.info is h server st))
    c.heard_by-then-self-2.ensures.did

pub returns-then-self-2-clause-answer : goal.returns-then-self-2-clause-answer
returns-then-self-2-clause-answer c =
    let k = c.args.self.now in
    let from = address c.args.from.0 in
    let h : Holds k = subst Holds c.self-in-Start.view_is c.self-in-Start.invariant.0 in
    let is = c.in-Start.is ∙ ap (λ b. frames.Start b c.in-Start.ask c.in-Start.to c.in-Start.from c.in-Start.info) (sym c.in-Start.master-is ∙ c.in-Start.master-test) in
    let server = ap (λ (z : Kept). z.server) (sym c.self-in-Start.view_is) ∙ c.if-self-2.true in
    λ d st. c.heard_by-then-self-2.ensures.answer d st ∙ sym (ap (λ (h : HeardCore). h.answer) (reply_read k d from c.args.m.now c.in-Start.ask c.in-Start.to c.in-Start.from c.in-Start.info is h server st))

pub returns-in-Some-clause-did : goal.returns-in-Some-clause-did
returns-in-Some-clause-did c =
    let k = c.args.self.now in
    let from = address c.args.from.0 in
    let h : Holds k = subst Holds c.self.view_is c.self.invariant.0 in
    let is = c.in-Start-true-default-default-default-default.is ∙ ap (λ b. frames.Start b c.in-Start-true-default-default-default-default.ask c.in-Start-true-default-default-default-default.to c.in-Start-true-default-default-default-default.source c.in-Start-true-default-default-default-default.info) (sym c.in-Start-true-default-default-default-default.master-is ∙ c.in-Start-true-default-default-default-default.master-test) in
    let node = ap (λ (z : Kept). z.server) (sym c.self.view_is) ∙ c.if-self.false in
    let m = message_shown c.args.m.now in
    did_as (λ d. (hears_at (side_of k) (slice_index (ids k) c.in-Some.at) m d).doing) (λ d. (heard_core (side_of k) from m d).doing) k c.hear_at.new.self c.args.out.now c.hear_at.new.out
    (λ d st. ap (λ (h : HeardCore). h.doing) (start_here k d from c.in-Some.at c.args.m.now c.in-Start-true-default-default-default-default.ask c.in-Start-true-default-default-default-default.to c.in-Start-true-default-default-default-default.source c.in-Start-true-default-default-default-default.info is h c.requires.clear node (sym c.slave_of.ensures ∙ c.in-Some.is) st))
    c.hear_at.ensures.did

pub returns-in-Some-clause-answer : goal.returns-in-Some-clause-answer
returns-in-Some-clause-answer c =
    let k = c.args.self.now in
    let from = address c.args.from.0 in
    let h : Holds k = subst Holds c.self.view_is c.self.invariant.0 in
    let is = c.in-Start-true-default-default-default-default.is ∙ ap (λ b. frames.Start b c.in-Start-true-default-default-default-default.ask c.in-Start-true-default-default-default-default.to c.in-Start-true-default-default-default-default.source c.in-Start-true-default-default-default-default.info) (sym c.in-Start-true-default-default-default-default.master-is ∙ c.in-Start-true-default-default-default-default.master-test) in
    let node = ap (λ (z : Kept). z.server) (sym c.self.view_is) ∙ c.if-self.false in
    λ d st. c.hear_at.ensures.answer d st ∙ sym (ap (λ (h : HeardCore). h.answer) (start_here k d from c.in-Some.at c.args.m.now c.in-Start-true-default-default-default-default.ask c.in-Start-true-default-default-default-default.to c.in-Start-true-default-default-default-default.source c.in-Start-true-default-default-default-default.info is h c.requires.clear node (sym c.slave_of.ensures ∙ c.in-Some.is) st))

pub returns-in-None-clause-did : goal.returns-in-None-clause-did
returns-in-None-clause-did c =
    let k = c.args.self.now in
    let from = address c.args.from.0 in
    let h : Holds k = subst Holds c.self.view_is c.self.invariant.0 in
    let is = c.in-Start-true-default-default-default-default.is ∙ ap (λ b. frames.Start b c.in-Start-true-default-default-default-default.ask c.in-Start-true-default-default-default-default.to c.in-Start-true-default-default-default-default.source c.in-Start-true-default-default-default-default.info) (sym c.in-Start-true-default-default-default-default.master-is ∙ c.in-Start-true-default-default-default-default.master-test) in
    let node = ap (λ (z : Kept). z.server) (sym c.self.view_is) ∙ c.if-self.false in
    let m = message_shown c.args.m.now in
    did_as (λ d. (start_core (side_of k) d from c.in-Start-true-default-default-default-default.source (info_shown c.in-Start-true-default-default-default-default.info) (new_fact d.circuits)).doing) (λ d. (heard_core (side_of k) from m d).doing) k c.make_slave.new.self c.args.out.now c.make_slave.new.out
    (λ d st. ap (λ (h : HeardCore). h.doing) (start_new k d from c.args.m.now c.in-Start-true-default-default-default-default.ask c.in-Start-true-default-default-default-default.to c.in-Start-true-default-default-default-default.source c.in-Start-true-default-default-default-default.info is h c.requires.clear node (sym c.slave_of.ensures ∙ c.in-None.is) st))
    c.make_slave.ensures.did

pub returns-in-None-clause-answer : goal.returns-in-None-clause-answer
returns-in-None-clause-answer c =
    let k = c.args.self.now in
    let from = address c.args.from.0 in
    let h : Holds k = subst Holds c.self.view_is c.self.invariant.0 in
    let is = c.in-Start-true-default-default-default-default.is ∙ ap (λ b. frames.Start b c.in-Start-true-default-default-default-default.ask c.in-Start-true-default-default-default-default.to c.in-Start-true-default-default-default-default.source c.in-Start-true-default-default-default-default.info) (sym c.in-Start-true-default-default-default-default.master-is ∙ c.in-Start-true-default-default-default-default.master-test) in
    let node = ap (λ (z : Kept). z.server) (sym c.self.view_is) ∙ c.if-self.false in
    λ d st. c.make_slave.ensures.answer d st ∙ sym (ap (λ (h : HeardCore). h.answer) (start_new k d from c.args.m.now c.in-Start-true-default-default-default-default.ask c.in-Start-true-default-default-default-default.to c.in-Start-true-default-default-default-default.source c.in-Start-true-default-default-default-default.info is h c.requires.clear node (sym c.slave_of.ensures ∙ c.in-None.is) st))

pub returns-in-Run-clause-rooms : goal.returns-in-Run-clause-rooms
returns-in-Run-clause-rooms c = λ server. rooms_stay c.args.self.now c.heard_by.new.self c.heard_by.ensures.same

pub returns-in-Wide-clause-rooms : goal.returns-in-Wide-clause-rooms
returns-in-Wide-clause-rooms c = λ server. rooms_stay c.args.self.now c.heard_by-in-Wide.new.self c.heard_by-in-Wide.ensures.same

pub returns-in-Stop-clause-rooms : goal.returns-in-Stop-clause-rooms
returns-in-Stop-clause-rooms c = λ server. rooms_stay c.args.self.now c.heard_by-in-Stop.new.self c.heard_by-in-Stop.ensures.same

pub returns-then-self-2-clause-rooms : goal.returns-then-self-2-clause-rooms
returns-then-self-2-clause-rooms c = λ server. rooms_stay c.args.self.now c.heard_by-then-self-2.new.self c.heard_by-then-self-2.ensures.same

pub returns-in-Some-clause-rooms : goal.returns-in-Some-clause-rooms
returns-in-Some-clause-rooms c = λ server. rooms_stay c.args.self.now c.hear_at.new.self c.hear_at.ensures.same

pub returns-in-None-clause-rooms : goal.returns-in-None-clause-rooms
returns-in-None-clause-rooms c = λ server.
    absurd (true≢false (sym server ∙ ap (λ (z : Kept). z.server) (sym c.self.view_is) ∙ c.if-self.false))

pub make_slave-requires-clause-memory : goal.make_slave-requires-clause-memory
make_slave-requires-clause-memory c =
    let is = c.in-Start-true-default-default-default-default.is ∙ ap (λ b. frames.Start b c.in-Start-true-default-default-default-default.ask c.in-Start-true-default-default-default-default.to c.in-Start-true-default-default-default-default.source c.in-Start-true-default-default-default-default.info) (sym c.in-Start-true-default-default-default-default.master-is ∙ c.in-Start-true-default-default-default-default.master-test) in
    let node = ap (λ (z : Kept). z.server) (sym c.self.view_is) ∙ c.if-self.false in
    c.requires.memory node (ap is_call is)
