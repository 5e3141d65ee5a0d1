use Rattle.std.proofs.Common.{◌≡◌, ◌<◌, ◌^◌, ap, ap₂, sym, subst, ◌∙◌, arith, ◌||◌, nat_eq}
use Rattle.lat_machines.specs.values.Addresses.{address, everyone}
use Rattle.lat_machines.specs.world.Machines.{is_for_other}
use Rattle.lat_machines.specs.world.Tally.{TalliedBy}
use Rattle.lat_circuit.specs.Frames.{FrameView}
use Rattle.lat_payload.specs.Frames.{mark_of}
use Rattle.lat_wire.specs.ledger.Posts.{post_shown}
use Rattle.lat_wire.specs.ledger.Tallies.{tally_at}
use Rattle.lat_wire.specs.ledger.Books.{IsBook, IsPost, tallies_of, tally_of, tally_by}
use Rattle.lat_wire.proofs.ledger.Entered.{entered_all}
use Rattle.lat_wire.proofs.ledger.Ledger.enter.Goals as goal

pub returns-clause-book : goal.returns-clause-book
returns-clause-book c = λ u sent done counts f own same readable tallied b.
    let circuit : c.args.frame.now.circuit ≡ f.circuit = ap (λ (z : FrameView). z.circuit) same in
    let mark : c.args.frame.now.mark ≡ mark_of f.mark = ap (λ (z : FrameView). z.mark) same in
    let to : address c.args.frame.now.to.0 ≡ f.to = ap (λ (z : FrameView). z.to) same in
    let few : f.circuit < 2 ^ 16 = omega arith in
    let told : c.tally-tally.result ≡ tally_of (counts c.args.by_server) f.circuit = c.tally-tally.ensures ∙ (ap (tally_at (tallies_of c.args.self.now.book c.args.by_server)) circuit ∙ b.tallies c.args.by_server f.circuit few) in
    let post : IsPost (post_shown c.post_of-post.result) (record { by_server = c.args.by_server; frame = f }) = c.post_of-post.ensures.post f same readable (subst (λ t. TalliedBy f.mark t.formed t.taken f) (sym told) tallied) in
    let other : is_for_other u (record { by_server = c.args.by_server; frame = f }) ≡ c.is_for.result = ap₂ (λ x y. nat_eq x y || nat_eq x everyone) (sym to) own ∙ sym c.is_for.ensures in
    let old = subst (λ z. IsBook u z.book sent done counts) (sym c.self.view_is) b in
    entered_all u c.self.inside.posts.log c.push.new.self.log c.self.inside.server c.self.inside.node c.set.new.self.book sent done counts c.args.by_server (post_shown c.post_of-post.result) c.args.frame.now.circuit c.tally_behind.result f
    c.push.ensures.posts c.set.ensures.side c.set.ensures.other c.set.ensures.log circuit few
    (c.tally_behind.ensures.value f.mark mark ∙ ap (tally_by f.mark) (c.tally-tally.ensures ∙ ap (λ z. tally_at (tallies_of z.book c.args.by_server) c.args.frame.now.circuit) (sym c.self.view_is)))
    post (c.push.ensures.log u sent done (record { by_server = c.args.by_server; frame = f }) old.log (sym post.by_server) other) old
