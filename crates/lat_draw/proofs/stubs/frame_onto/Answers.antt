use Rattle.std.proofs.Common.{◌≡◌, ◌++◌, ap, ◌∙◌, string_bytes}
use Rattle.lat_payload.specs.Frames.{expected}
use Rattle.lat_wire.specs.ledger.Posts.{frame_shown}
use Rattle.lat_draw.specs.Layout.{height}
use Rattle.lat_draw.specs.Lines.{stub}
use Rattle.lat_draw.proofs.stubs.frame_onto.Goals as goal

pub returns : goal.returns
returns g c = λ w s.
    let q = c.in-Some.ensures.value w s in
    let side : c.in-Some.by_server ≡ q.post.by_server = cc in
    let same : frame_shown c.in-Some.frame ≡ expected q.post.frame = cc in (
      q.post,
      q.is,
      c.in_ok-stub_onto.ensures ∙ ap (λ z. string_bytes c.args.text.now ++ z)
          (ap (λ b. stub c.args.lost b (height c.args.row) c.as_str.result.now) side
          ∙ ap (λ z. stub c.args.lost q.post.by_server (height c.args.row) z) (c.as_str.ensures.value ∙ c.in_ok-words.ensures q.post same)),
    )
