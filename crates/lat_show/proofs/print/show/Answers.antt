use Rattle.std.proofs.Common.{◌≡◌, sym, length, string_bytes, rules, true, false}
use Rattle.std.specs.Prelude.{None, Some, ◌==◌}
use Rattle.lat_text.specs.Lines.{Line, lines_of, no_line}
use Rattle.lat_show.specs.ShowOf.{payload_of, lines_printed}
use Rattle.lat_show.proofs.LinesPrinted.{line_added, line_is_wrong, cut_is_wrong, end_is_right}
use Rattle.lat_show.proofs.print.show.Goals as goal

pub loop-line-preserved : goal.loop-line-preserved
loop-line-preserved c =
    let l = c.loop-line in
    let is : lines_of l.rest.now ≡ Line c.in-Some.line.now (lines_of c.in-Some.behind.now) = search rules in
    let found : payload_of c.in-Some.line.now ≡ Some c.in-Some-2.payload.items = sym (rw c.in-Some-2.is at c.in_ok-payload.ensures) in
    record {
      shown = line_added (lines_printed 1 (lines_of c.args.input.now)) (string_bytes l.text) (string_bytes c.payload_onto.new.text) l.number c.in-Some.line.now c.in-Some-2.payload.items
          c.deref.result.now (lines_of l.rest.now) (lines_of c.in-Some.behind.now) l.invariant.shown is found c.deref.ensures.value c.in_ok-payload_onto.ensures;
      numbers = search (rules, l.invariant.numbers);
    }

pub returns-in_default-2 : goal.returns-in_default-2
returns-in_default-2 c =
    let l = c.loop-line in
    let is : lines_of l.rest.now ≡ Line c.in-Some.line.now (lines_of c.in-Some.behind.now) = search rules in
    let none : payload_of c.in-Some.line.now ≡ None = sym (rw c.in_default-2.is at c.in_ok-payload.ensures) in
    line_is_wrong c.args.input.now (string_bytes l.text) _ l.number c.in-Some.line.now (lines_of l.rest.now) (lines_of c.in-Some.behind.now) l.invariant.shown is none c.in_ok-wrong_line.ensures

pub returns-then-not-is_empty : goal.returns-then-not-is_empty
returns-then-not-is_empty c =
    let l = c.loop-line in
    let is : lines_of l.rest.now ≡ no_line l.rest.now = search rules in
    let some : (length l.rest.now == 0) ≡ false = search rules in
    cut_is_wrong c.args.input.now (string_bytes l.text) _ l.number l.rest.now l.invariant.shown is some c.in_ok-wrong_line-2.ensures

pub returns : goal.returns
returns c =
    let l = c.loop-line in
    let is : lines_of l.rest.now ≡ no_line l.rest.now = search rules in
    let none : (length l.rest.now == 0) ≡ true = search rules in
    end_is_right c.args.input.now (string_bytes l.text) l.number l.rest.now l.invariant.shown is none
