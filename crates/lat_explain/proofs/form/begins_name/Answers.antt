use Rattle.std.proofs.Common.{◌≡◌, length, sym, ◌∙◌, arith, rules}
use Rattle.std.specs.Prelude.{Some, None, nat_eq}
use Rattle.lat_explain.specs.Forms.{behind_byte}
use Rattle.lat_explain.proofs.Begun.{name_on, name_ends, name_full}
use Rattle.lat_explain.proofs.form.begins_name.Goals as goal

pub returns-in_default : goal.returns-in_default
returns-in_default c =
    let none : behind_byte c.loop.rest.now ≡ None = search rules in
    c.begins_digits.ensures ∙ sym (c.loop.invariant ∙ name_ends c.args.most c.loop.counter c.loop.rest.now (omega (arith, c.loop-test.true)) none)

pub loop-preserved : goal.loop-preserved
loop-preserved c =
    let some : behind_byte c.loop.rest.now ≡ Some c.in-Some.behind.now = search rules in
    c.loop.invariant ∙ name_on c.args.most c.loop.counter c.loop.rest.now c.in-Some.behind.now (omega (arith, c.loop-test.true)) some

pub returns : goal.returns
returns c =
    let empty : c.is_empty.result ≡ nat_eq (length c.loop.rest.now) 0 = search rules in
    empty ∙ sym (c.loop.invariant ∙ name_full c.args.most c.loop.counter c.loop.rest.now (omega (arith, c.loop-test.false)))
