-- How services are rated, by the words.
use Rattle.std.specs.Prelude.{ℕ, List, [], ◌∷◌, length, Option, Some, None, Result, Ok, unwrap_or, ◌==◌, if◌then◌else◌}
use Rattle.std.specs.List.{list_any}
use Rattle.clap.specs.Words.{Text}
use Rattle.arrayvec.specs.ArrayVec.{ArrayVec}
use Rattle.lat_words.specs.Options.{wanted, wrong, ◌>>=◌, each_from, none, with_one, no_values}
use Rattle.lat_words.specs.Pieces.{rate_of}
use Rattle.lat_words.specs.Services.{place_of}
use Rattle.lat_words.specs.declared.config.Role.{Role}
use Rattle.lat_words.specs.declared.config.Role.TheVariants.{Node, Tariff}
use Rattle.lat_words.specs.declared.settings.Service.{Service}
use Rattle.lat_words.specs.declared.settings.Rated.{Rated}
use Rattle.lat_words.specs.declared.settings.Rate.{Rate}
use Rattle.lat_words.specs.declared.settings.Rate.TheVariants as rates
use Rattle.lat_words.specs.declared.settings.Settings.{Settings}
use Rattle.lat_words.specs.declared.fault.OptionName.TheVariants as options
use Rattle.lat_words.specs.declared.fault.Expected.TheVariants as expected
use Rattle.lat_words.specs.declared.fault.Wrong.{Wrong}

-- no service has two
abbrev pub rated_at : ℕ → ArrayVec Rated → Rate → Option ℕ → Result (ArrayVec Rated) Wrong
rated_at place got rate None = wrong options.Rate place expected.Offered
rated_at place got rate (Some at) =
    if list_any (λ (r : Rated). r.place == at) got.items then wrong options.Rate place expected.OtherService
    else if length got.items == 32 then wrong options.Rate place (expected.Most 32)
    else Ok (with_one got (record { place = at; rate = rate }))

abbrev pub with_rate : List Service → ℕ → ArrayVec Rated → Text → Result (ArrayVec Rated) Wrong
with_rate services place got text =
    wanted options.Rate place expected.Rate (rate_of text) >>= λ said. rated_at place got said.1 (place_of said.0 services)

abbrev pub said_rates : List Service → List Text → Result (ArrayVec Rated) Wrong
said_rates services texts = each_from (with_rate services) 0 none texts

-- what is said of the service at a place
abbrev pub said_rate : List Rated → ℕ → Option Rate
said_rate [] place = None
said_rate (rated ∷ more) place = if rated.place == place then Some rated.rate else said_rate more place

-- the rate of a tariff's service: as it is said, else the usual one
abbrev pub tariff_rate : List Rated → ℕ → Rate → Rated
tariff_rate said place usual = record { place = place; rate = unwrap_or (said_rate said place) usual }

-- both services of the tariff have a rate, `LOGIN` and `PRINT`
abbrev pub tariff_rates : List Rated → ArrayVec Rated
tariff_rates said = record { items = tariff_rate said 0 (rates.Each 20) ∷ tariff_rate said 1 (rates.WhileFree 9) ∷ [] }

abbrev pub rates_in : Role → List Service → List Text → Result (ArrayVec Rated) Wrong
rates_in Node services texts = said_rates services texts
rates_in Tariff services texts = said_rates services texts >>= λ said. Ok (tariff_rates said.items)
rates_in role services texts = no_values options.Rate texts

-- the rate of the service at a place: by the lines that are free, where nothing else is said
abbrev pub rate_at : Settings → ℕ → Rate
rate_at settings place = unwrap_or (said_rate settings.seats.rates.items place) rates.Free
