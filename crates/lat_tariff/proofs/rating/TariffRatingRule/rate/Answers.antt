use Rattle.std.proofs.Common.{◌≡◌, ◌-◌, min, length, subst, List, arith}
use Rattle.lat_tariff.specs.declared.tariff.Rule.{Rule}
use Rattle.lat_tariff.specs.Tariffs.{MayAt}
use Rattle.lat_tariff.proofs.Own.{rate_at}
use Rattle.lat_tariff.proofs.rating.TariffRatingRule.rate.Goals as goal

pub returns : goal.returns
returns g c =
    let rules : List (Rule g.row.R.Denot) = c.self.inside.rules.items in
    let last : c.min.result ≡ min c.args.place (length rules - 1) = omega (arith, c.min.ensures, c.len-last.ensures) in
    record {
      answer = subst (λ (rs : List (Rule g.row.R.Denot)). MayAt g.R.SteadyRule.may rs c.args.place c.args.used c.args.max c.rate.result) c.self.view_is
          (rate_at g.R.SteadyRule.may rules c.args.place c.min.result c.args.used c.args.max c.rate.result c.index.result.now c.self.invariant.some last c.index.ensures c.rate.ensures.answer);
    }
