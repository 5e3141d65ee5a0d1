use Rattle.std.proofs.Common.{◌≡◌, sym, length, string_bytes, rules, true, false}
use Rattle.std.specs.Prelude.{None, Some, ◌==◌}
use Rattle.lat_text.specs.Lines.{Line, lines_of, no_line}
use Rattle.lat_show.specs.choice.Entries.{entry_from}
use Rattle.lat_show.proofs.choice.EntriesPrinted.{walks_on, line_is_wrong, cut_is_wrong, end_is_right}
use Rattle.lat_show.proofs.choice.input.choose.Goals as goal

pub loop-line-preserved : goal.loop-line-preserved
loop-line-preserved c =
    let l = c.loop-line in
    let is : lines_of l.rest.now ≡ Line c.in-Some.line.now (lines_of c.in-Some.behind.now) = search rules in
    let found : entry_from l.last c.in-Some.line.now ≡ Some c.in-Some-2.entry = sym (rw c.in-Some-2.is at c.in_ok-entry.ensures) in
    let walks = walks_on _ l.directory c.entry_onto.new.directory l.last l.number (string_bytes l.text) (string_bytes c.entry_onto.new.text) c.in-Some.line.now l.rest.now c.in-Some.behind.now c.in-Some-2.entry
    l.invariant.walks is found c.in_ok-entry_onto.ensures.text c.in_ok-entry_onto.ensures.stands c.entry_onto.ensures.groups in
    record { walks = rw c.moment-last.ensures walks; before = search rules; numbers = search (rules, l.invariant.numbers) }

pub returns-in_default-2 : goal.returns-in_default-2
returns-in_default-2 c =
    let l = c.loop-line in
    let is : lines_of l.rest.now ≡ Line c.in-Some.line.now (lines_of c.in-Some.behind.now) = search rules in
    let none : entry_from l.last c.in-Some.line.now ≡ None = sym (rw c.in_default-2.is at c.in_ok-entry.ensures) in
    line_is_wrong c.args.input.now (string_bytes l.text) _ c.in-Some.line.now l.rest.now c.in-Some.behind.now l.directory l.last l.number l.invariant.walks is none c.in_ok-wrong_line.ensures

pub returns-then-not-is_empty : goal.returns-then-not-is_empty
returns-then-not-is_empty c =
    let l = c.loop-line in
    let is : lines_of l.rest.now ≡ no_line l.rest.now = search rules in
    let some : (length l.rest.now == 0) ≡ false = search rules in
    cut_is_wrong c.args.input.now (string_bytes l.text) _ l.rest.now l.directory l.last l.number l.invariant.walks is some c.in_ok-wrong_line-2.ensures

pub returns : goal.returns
returns c =
    let l = c.loop-line in
    let is : lines_of l.rest.now ≡ no_line l.rest.now = search rules in
    let none : (length l.rest.now == 0) ≡ true = search rules in
    end_is_right c.args.input.now (string_bytes l.text) l.rest.now l.directory l.last l.number l.invariant.walks is none
