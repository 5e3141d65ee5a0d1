use Rattle.std.proofs.Common.{◌≡◌, ◌∙◌, length, min, sym, ap, arith}
use Rattle.std.proofs.lemmas.List.{length-take}
use Rattle.lat_stream.specs.RingItems.{RingItems}
use Rattle.lat_stream.proofs.RingItems.{length-shown}
use Rattle.lat_stream.proofs.ring.ItemRing.read_into.Goals as goal

pub read_first-requires : goal.read_first-requires
read_first-requires c =
    let all : c.len.result ≡ length c.args.self.now.items =
    c.len.ensures.len ∙ sym (length-shown c.self.inside.settings.items c.self.inside.bytes.items) ∙ ap (λ (r : RingItems). length r.items) c.self.view_is in
    omega (arith, length-take c.min-count.result c.args.out.now, c.min-count.ensures, all)

pub returns-clause-count : goal.returns-clause-count
returns-clause-count c =
    c.min-count.ensures
    ∙ ap (λ n. min (length c.args.out.now) n) (c.len.ensures.len ∙ sym (length-shown c.self.inside.settings.items c.self.inside.bytes.items) ∙ ap (λ (r : RingItems). length r.items) c.self.view_is)
