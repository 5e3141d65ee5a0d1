use Rattle.std.proofs.Common.{◌≡◌, ◌+◌, ◌-◌, Bool, true, false, refl, ◌∙◌, ap, arith}
use mir.Val.{bool_byte}
use Rattle.lat_draw.specs.Layout.{staying}
use Rattle.lat_draw.proofs.Staying.{one, staying_more, staying_none_yet, one_most}
use Rattle.lat_draw.proofs.layout.staying.Goals as goal

byte_one : (b : Bool) → bool_byte b ≡ one b
byte_one true = refl
byte_one false = refl

pub loop-frame-init : goal.loop-frame-init
loop-frame-init c = record {
  count = λ events are. staying_none_yet events c.args.entry.now.first;
  few = omega arith;
  low = omega arith;
}

pub loop-frame-preserved : goal.loop-frame-preserved
loop-frame-preserved c =
    let b = c.stays.result in
    let more : c.from-count.result ≡ one b = c.from-count.ensures ∙ byte_one b in
    let most = one_most b in
    record {
      count = λ events are.
          staying_more events c.args.entry.now.first c.loop-frame.frame c.loop-frame.count _ b c.loop-frame.invariant.low (c.loop-frame.invariant.count events are) (c.stays.ensures events are) (ap (λ n. c.loop-frame.count + n) more);
      few = omega (arith, more, most);
      low = omega arith;
    }

pub returns : goal.returns
returns c = λ events are.
    c.loop-frame.invariant.count events are
    ∙ ap (λ n. staying events c.args.entry.now.first (n - c.args.entry.now.first)) (omega arith)
