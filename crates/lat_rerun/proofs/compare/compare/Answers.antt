use Rattle.std.proofs.Common.{◌≡◌, ◌∷◌, length, sym, ap, ◌∙◌, arith, rules}
use Rattle.std.specs.Prelude.{Some, None}
use Rattle.lat_rerun.specs.Reruns.{first_of}
use Rattle.lat_rerun.proofs.Leading.{first_is, first_none, led_start, led_step, led_differs, led_none, led_end}
use Rattle.lat_rerun.proofs.compare.compare.Goals as goal

pub loop-entry-init : goal.loop-entry-init
loop-entry-init g c =
    let k = g.C.Core in
    record {
      valid = c.requires.valid;
      empty = c.in_ok-out.ensures;
      counted = omega arith;
      led = λ s here. led_start k.next k.answer k.stands c.args.core.now s c.args.entries.now here;
    }

pub loop-entry-preserved : goal.loop-entry-preserved
loop-entry-preserved g c =
    let k = g.C.Core in
    let l = c.loop-entry in
    let e = c.in-Some.entry.now in
    let es = c.in-Some.behind.now in
    let first : Some (e, es) ≡ first_of l.rest.now = search rules in
    let is : l.rest.now ≡ e ∷ es = first_is l.rest.now e es first in
    let longer : length l.rest.now ≡ length (e ∷ es) = ap length is in
    record {
      valid = c.answers_so.ensures.valid;
      empty = c.answers_so.ensures.empty;
      counted = omega (arith, l.invariant.counted, longer);
      led = λ s here.
          led_step k.next k.answer k.stands l.core c.answers_so.new.core s c.args.entries.now l.place l.rest.now e es is (l.invariant.led s here)
          (λ t stood. sym c.if-not-same.false ∙ c.in_ok-same.ensures.same t stood) c.in_ok-same.ensures.state;
    }

pub returns-then-not-same-clause-differs : goal.returns-then-not-same-clause-differs
returns-then-not-same-clause-differs g c = λ s here.
    let k = g.C.Core in
    let l = c.loop-entry in
    let e = c.in-Some.entry.now in
    let es = c.in-Some.behind.now in
    let first : Some (e, es) ≡ first_of l.rest.now = search rules in
    led_differs k.next k.answer k.stands l.core s c.args.entries.now l.place l.rest.now e es (first_is l.rest.now e es first) (l.invariant.led s here)
    (λ t stood. sym c.if-not-same.true ∙ c.in_ok-same.ensures.same t stood)

pub returns-clause-differs : goal.returns-clause-differs
returns-clause-differs g c = λ s here.
    let k = g.C.Core in
    let l = c.loop-entry in
    let none : None ≡ first_of l.rest.now = search rules in
    led_none k.next k.answer k.stands l.core s c.args.entries.now l.place l.rest.now (first_none l.rest.now none) (l.invariant.led s here)

pub returns-clause-state : goal.returns-clause-state
returns-clause-state g c = λ done s here.
    let k = g.C.Core in
    let l = c.loop-entry in
    let none : None ≡ first_of l.rest.now = search rules in
    led_end k.next k.answer k.stands l.core s c.args.entries.now l.place l.rest.now (first_none l.rest.now none) (l.invariant.led s here)

pub returns-then-not-same-clause-place : goal.returns-then-not-same-clause-place
returns-then-not-same-clause-place g c = omega (arith, c.loop-entry.invariant.counted, c.in-Some.ensures.shorter)
