use Rattle.std.proofs.Common.{◌≡◌, ◌∙◌, None, Some, ap, arith, subst, sym}
use Rattle.lat_machines.specs.values.Addresses.{address}
use Rattle.lat_server.specs.Stands as servers
use Rattle.lat_node.specs.Stands as nodes
use Rattle.lat_wire.specs.ledger.Posts.{post_shown}
use Rattle.lat_wire.specs.ledger.Tallies.{tally_at}
use Rattle.lat_wire.specs.ledger.Headings.{heading_of}
use Rattle.lat_wire.specs.ledger.Books.{tallies_of}
use Rattle.lat_wire.specs.Ends.{AreEnds}
use Rattle.lat_wire.specs.Kept.{Kept, setups_of}
use Rattle.lat_wire.proofs.Refusing.{heads, read_post, recent_run, refused_half}
use Rattle.lat_wire.proofs.wire.Wire.is_young.Goals as goal

pub returns-in_default-half_range : goal.returns-in_default-half_range
returns-in_default-half_range g c = λ w p m i marks.
    let e : heading_of p.frame.value ≡ Some c.in-Some.heading = sym (c.in-Some.ensures.value p.frame.value (read_post (post_shown c.args.post.now) p i)) in
    let a : AreEnds c.self.inside.ends w = record { server = subst (λ (z : Kept g.row.H.Denot). servers.Stands z.server w.server) (sym c.self.view_is) m.server; node = subst (λ (z : Kept g.row.H.Denot). nodes.Stands z.node w.node) (sym c.self.view_is) m.node } in
    refused_half (setups_of c.args.self.now) w p (post_shown c.args.post.now) c.in-Some.heading (address c.own.result.0) None i e c.own.ensures (c.in_default-half_range.ensures.value w a)

pub returns : goal.returns
returns g c = λ w p m i marks.
    let e : heading_of p.frame.value ≡ Some c.in-Some.heading = sym (c.in-Some.ensures.value p.frame.value (read_post (post_shown c.args.post.now) p i)) in
    let a : AreEnds c.self.inside.ends w = record { server = subst (λ (z : Kept g.row.H.Denot). servers.Stands z.server w.server) (sym c.self.view_is) m.server; node = subst (λ (z : Kept g.row.H.Denot). nodes.Stands z.node w.node) (sym c.self.view_is) m.node } in
    recent_run (setups_of c.args.self.now) w p (post_shown c.args.post.now) c.in-Some.heading c.in-Some-half_range.half c.tally-tally.result c.are_recent.result
    (heads (setups_of c.args.self.now) w c.args.self.now.book p (post_shown c.args.post.now) c.in-Some.heading (address c.own.result.0) (Some c.in-Some-half_range.half) c.tally-tally.result m.book i marks e c.own.ensures
    (c.in-Some-half_range.ensures.value w a)
    (c.tally-tally.ensures ∙ ap (λ (z : Kept g.row.H.Denot). tally_at (tallies_of z.book c.args.post.now.by_server) c.args.post.now.frame.circuit) c.self.view_is)
    (omega arith))
    c.are_recent.ensures
