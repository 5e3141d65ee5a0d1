use Rattle.std.proofs.Common.{◌≡◌, ℕ, List, length, string_bytes, subst, rules, true, false}
use Rattle.std.specs.Prelude.{None, Some, IfOk, ◌==◌}
use Rattle.lat_text.specs.Lines.{Line, lines_of, no_line}
use Rattle.lat_audit.specs.Lines.{title_of, entry_of}
use Rattle.lat_audit.proofs.Walks.{walks_start, walks_on, line_is_wrong, cut_is_wrong, end_is_right}
use Rattle.lat_audit.proofs.input.audit.Goals as goal

pub loop-line-init : goal.loop-line-init
loop-line-init c =
    let is : lines_of c.args.input.now ≡ Line c.in-Some.first.now (lines_of c.in-Some.lines.now) = search rules in
    let found : title_of c.in-Some.first.now ≡ Some c.in-Some-title_of.title = search rules in
    record {
      walks = walks_start c.args.input.now c.in-Some.first.now c.in-Some.lines.now _ c.new-auditor.result is found c.new-auditor.ensures.follows;
      counted = c.new-auditor.ensures.counted;
      count = search rules;
      numbers = search rules;
    }

pub loop-line-preserved : goal.loop-line-preserved
loop-line-preserved c =
    let l = c.loop-line in
    let line = c.in-Some-first_line.line.now in
    let behind = c.in-Some-first_line.behind.now in
    let is : lines_of l.rest.now ≡ Line c.in-Some-first_line.line.now (lines_of c.in-Some-first_line.behind.now) = search rules in
    let found : entry_of c.in-Some-first_line.line.now ≡ Some c.in-Ok.entry = search rules in
    record {
      walks = walks_on c.args.input.now line behind l.rest.now l.auditor c.hear.new.self l.number c.in-Ok.entry l.invariant.walks is found c.in_ok-hear-in-Ok.ensures.follows;
      counted = c.in_ok-hear-in-Ok.ensures.counted;
      count = search rules;
      numbers = search (rules, l.invariant.numbers);
    }

pub returns-in-Err-Form : goal.returns-in-Err-Form
returns-in-Err-Form c =
    let l = c.loop-line in
    let is : lines_of l.rest.now ≡ Line c.in-Some-first_line.line.now (lines_of c.in-Some-first_line.behind.now) = search rules in
    let none : entry_of c.in-Some-first_line.line.now ≡ None = rw c.in-Err-Form.field-0-is at c.in-Err-Form.ensures.reads in
    let P : ℕ × List ℕ → Type 0 = λ z. IfOk c.wrong-in-Err-Form.result (λ r. ◌≡◌ {A = ℕ × List ℕ} (r.0, string_bytes r.1) z) in
    subst P
    (line_is_wrong c.args.input.now c.in-Some-first_line.line.now c.in-Some-first_line.behind.now l.rest.now l.auditor l.number l.invariant.walks is none)
    c.wrong-in-Err-Form.ensures

pub returns-then-not-is_empty : goal.returns-then-not-is_empty
returns-then-not-is_empty c =
    let l = c.loop-line in
    let is : lines_of l.rest.now ≡ no_line l.rest.now = search rules in
    let some : (length l.rest.now == 0) ≡ false = search rules in
    let P : ℕ × List ℕ → Type 0 = λ z. IfOk c.wrong-then-not-is_empty.result (λ r. ◌≡◌ {A = ℕ × List ℕ} (r.0, string_bytes r.1) z) in
    subst P (cut_is_wrong c.args.input.now l.rest.now l.auditor l.number l.invariant.walks is some) c.wrong-then-not-is_empty.ensures

pub returns : goal.returns
returns c =
    let l = c.loop-line in
    let is : lines_of l.rest.now ≡ no_line l.rest.now = search rules in
    let none : (length l.rest.now == 0) ≡ true = search rules in
    end_is_right c.args.input.now l.rest.now (string_bytes c.in_ok-verdict.field-0) l.auditor l.number l.invariant.walks is none c.in_ok-verdict.ensures
