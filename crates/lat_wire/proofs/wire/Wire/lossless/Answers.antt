use Rattle.std.proofs.Common.{◌≡◌, ◌∙◌, ◌↔◌, IsTrue, ap, sym, subst}
use Rattle.lat_laws.specs.rounds.Lossless.{Lossless}
use Rattle.lat_wire.specs.Kept.{setups_of}
use Rattle.lat_wire.proofs.wire.Wire.lossless.Goals as goal

pub returns : goal.returns
returns g c = λ w s.
    let e : c.lossless.result ≡ c.args.self.now.book.log.ways.lossless = c.lossless.ensures ∙ (ap (λ z. z.ledger.book.log.ways.lossless) c.self-inside.view_is ∙ ap (λ z. z.book.log.ways.lossless) c.self.view_is) in
    subst (λ b. IsTrue b ↔ Lossless (setups_of c.args.self.now) w) (sym e) s.parts.book.log.lossless
