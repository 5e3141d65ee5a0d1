use Rattle.std.proofs.Common.{◌∙◌, sym, ap}
use Rattle.lat_machines.specs.values.Addresses.{address}
use Rattle.lat_machines.specs.cores.Cores.{rests}
use Rattle.lat_circuit.specs.Messages.{message_shown}
use Rattle.lat_lines.specs.circuits.Hears.{HeardCore, hears_at, hears_named}
use Rattle.lat_lines.specs.circuits.Kept.{side_of, ids}
use Rattle.std.specs.Prelude.{slice_index}
use Rattle.lat_lines.proofs.circuits.Named.{named_here, named_none}
use Rattle.lat_lines.proofs.circuits.Each.{did_as, did_nothing}
use Rattle.lat_lines.proofs.circuits.Circuits.heard_by.Goals as goal

pub returns-in-Some-clause-did : goal.returns-in-Some-clause-did
returns-in-Some-clause-did c =
    let k = c.args.self.now in
    let from = address c.args.from.0 in
    let m = message_shown c.args.m.now in
    did_as (λ d. (hears_at (side_of k) (slice_index (ids k) c.in-Some.at) m d).doing) (λ d. (hears_named (side_of k) c.args.id from m d).doing) k c.hear_at.new.self c.args.out.now c.hear_at.new.out
    (λ d st. ap (λ (h : HeardCore). h.doing) (named_here k d c.args.id from c.in-Some.at m c.requires.clear (sym c.find.ensures ∙ c.in-Some.is) st))
    c.hear_at.ensures.did

pub returns-in-Some-clause-answer : goal.returns-in-Some-clause-answer
returns-in-Some-clause-answer c = λ d st.
    c.hear_at.ensures.answer d st ∙ ap (λ (h : HeardCore). h.answer) (sym (named_here c.args.self.now d c.args.id (address c.args.from.0) c.in-Some.at (message_shown c.args.m.now) c.requires.clear (sym c.find.ensures ∙ c.in-Some.is) st))

pub returns-in-None-clause-answer : goal.returns-in-None-clause-answer
returns-in-None-clause-answer c = λ d st. ap (λ (h : HeardCore). h.answer) (sym (named_none c.args.self.now d c.args.id (address c.args.from.0) (message_shown c.args.m.now) (sym c.find.ensures ∙ c.in-None.is) st))

pub returns-in-None-clause-did : goal.returns-in-None-clause-did
returns-in-None-clause-did c =
    let k = c.args.self.now in
    let from = address c.args.from.0 in
    let m = message_shown c.args.m.now in
    did_as rests (λ d. (hears_named (side_of k) c.args.id from m d).doing) k k c.args.out.now c.args.out.now
    (λ d st. ap (λ (h : HeardCore). h.doing) (named_none k d c.args.id from m (sym c.find.ensures ∙ c.in-None.is) st))
    (did_nothing k c.args.out.now)
