-- How a service is rated by what the words say of it.
use Rattle.std.specs.Prelude.{◌≡◌, ℕ, ◌+◌, ◌-◌, ◌*◌, min, max, nat_lt, if◌then◌else◌, List, [], ◌∷◌}
use Rattle.lat_tariff.specs.declared.tariff.Rule.{Rule}
use Rattle.lat_words.specs.Rates.{rate_at}
use Rattle.lat_words.specs.declared.settings.Rate.{Rate}
use Rattle.lat_words.specs.declared.settings.Rate.TheVariants as rates
use Rattle.lat_words.specs.declared.settings.Service.{Service}
use Rattle.lat_words.specs.declared.settings.Settings.{Settings}
use Rattle.lat_live.specs.declared.rated.RateRule.{RateRule}

-- so much for each line that is free, 255 at most; so much while one is
abbrev pub rated : Rate → ℕ → ℕ → ℕ
rated rates.Free used lines = min (lines - used) 255
rated (rates.Each n) used lines = min (max n 1 * (lines - used)) 255
rated (rates.WhileFree n) used lines = if nat_lt used lines then max n 1 else 0

abbrev pub MayRate : RateRule → ℕ → ℕ → ℕ → Type 0
MayRate rule used lines rating = rating ≡ rated rule.rate used lines

-- the service at this place, with the rate that the words say
abbrev pub rule_at : Settings → ℕ → Service → Rule RateRule
rule_at settings place s = record { name = s.name; rule = record { rate = rate_at settings place } }

abbrev pub rules_from : Settings → ℕ → List Service → List (Rule RateRule)
rules_from settings place [] = []
rules_from settings place (s ∷ services) = rule_at settings place s ∷ rules_from settings (place + 1) services

-- a rule for each service of the words, in their order
abbrev pub tariff_of : Settings → List (Rule RateRule)
tariff_of settings = rules_from settings 0 settings.seats.services.items
