use Rattle.std.proofs.Common.{◌≡◌, ap, ◌∙◌, rules}
use Rattle.std.proofs.lemmas.List.{take_all}
use Rattle.lat_words.specs.Rates.{rate_at}
use Rattle.lat_live.specs.Rated.{rules_from}
use Rattle.lat_live.proofs.Ruled.{is_tariff, one_rule}
use Rattle.lat_live.proofs.rated.tariff_of.Goals as goal

pub loop-service-preserved : goal.loop-service-preserved
loop-service-preserved c =
    let s = c.loop-service in
    let settings = c.args.settings.now in
    let x = c.service-item.result in
    record {
      len = search rules;
      room = search rules;
      rules = one_rule settings c.as_slice-services.result.now s.service-index x s.rules.items _ _ c.loop-service-test.true c.service-item.is
          (ap (λ rate. record { name = x.name; rule = record { rate = rate } }) (c.rate-rate.ensures ∙ ap (rate_at settings) (c.len.ensures ∙ s.invariant.len)))
          s.invariant.rules c.push_reserved.ensures.items;
    }

pub make-requires : goal.make-requires
make-requires c =
    let s = c.loop-service in
    let settings = c.args.settings.now in
    let services = c.as_slice-services.result.now in
    let all : s.rules.items ≡ rules_from settings 0 services =
    s.invariant.rules ∙ ap (rules_from settings 0) (take_all s.service-index services (search rules)) in
    record { tariff = is_tariff settings s.rules.items (all ∙ ap (rules_from settings 0) c.as_slice-services.ensures.value) c.requires.services c.requires.some }
