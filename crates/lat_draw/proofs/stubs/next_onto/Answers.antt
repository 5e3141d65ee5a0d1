use Rattle.std.proofs.Common.{◌+◌, ◌++◌, ap, ◌∙◌, string_bytes}
use Rattle.lat_draw.specs.Events.{frame_short}
use Rattle.lat_draw.specs.Layout.{height}
use Rattle.lat_draw.specs.Lines.{stub}
use Rattle.lat_draw.proofs.Stubbing.{row_stays, row_goes, stub_none, stub_one}
use Rattle.lat_draw.proofs.stubs.next_onto.Goals as goal

pub returns-then-not-stays-clause-row : goal.returns-then-not-stays-clause-row
returns-then-not-stays-clause-row g c = λ played are. row_goes played c.args.number c.args.row (c.if-not-stays.ensures played are)

pub returns-then-not-stays-clause-text : goal.returns-then-not-stays-clause-text
returns-then-not-stays-clause-text g c = λ w events played s all drawn.
    stub_none events played (c.args.row + 1) c.args.number w.posts (string_bytes c.args.text.now) (c.if-not-stays.ensures played drawn)

pub returns-clause-row : goal.returns-clause-row
returns-clause-row g c = λ played are. c.in_ok-next.ensures ∙ row_stays played c.args.number c.args.row (c.if-not-stays.ensures played are)

pub returns-clause-text : goal.returns-clause-text
returns-clause-text g c = λ w events played s all drawn.
    let q = c.in_ok-frame_onto.ensures w s in
    stub_one events played (c.args.row + 1) c.args.number c.stays-2.result w.posts q.0 (string_bytes c.args.text.now) _ (c.if-not-stays.ensures played drawn) (c.stays-2.ensures events all) q.1
    (q.2 ∙ ap (λ m. string_bytes c.args.text.now ++ stub c.stays-2.result q.0.by_server (height m) (frame_short q.0)) c.in_ok-next.ensures)
