use Rattle.std.proofs.Common.{length, sym, ap, ◌∙◌, arith}
use Rattle.std.specs.Option.{option_copied}
use Rattle.lat_stream.specs.RingItems.{RingItems}
use Rattle.lat_stream.specs.Turns.{leading}
use Rattle.lat_stream.proofs.RingItems.{run_to, all_run}
use Rattle.lat_stream.proofs.ring.ItemRing.run.Goals as goal

pub returns-in-Some : goal.returns-in-Some
returns-in-Some c =
    c.from.ensures
    ∙ sym (run_to c.self.inside.settings.items c.in-Some.placed.now c.self.inside.bytes.items (sym c.front.ensures ∙ ap option_copied c.in-Some.is) (omega (arith, c.self.invariant.0)))
    ∙ ap (λ (r : RingItems). length (leading r.items)) c.self.view_is

pub returns-in-None : goal.returns-in-None
returns-in-None c =
    c.len.ensures.len
    ∙ sym (ap length (all_run c.self.inside.settings.items c.self.inside.bytes.items (sym c.front.ensures ∙ ap option_copied c.in-None.is)))
    ∙ ap (λ (r : RingItems). length (leading r.items)) c.self.view_is
