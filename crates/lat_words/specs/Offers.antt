-- Which lines offer a service, by the words.
use Rattle.std.specs.Prelude.{ℕ, Bool, List, length, Result, Ok, ◌==◌, if◌then◌else◌}
use Rattle.std.specs.List.{list_any}
use Rattle.clap.specs.Words.{Text}
use Rattle.arrayvec.specs.ArrayVec.{ArrayVec}
use Rattle.lat_words.specs.Options.{wanted, wrong, ◌>>=◌, each_from, none, with_one, no_values}
use Rattle.lat_words.specs.Pieces.{offer_of}
use Rattle.lat_words.specs.declared.config.Role.{Role}
use Rattle.lat_words.specs.declared.config.Role.TheVariants.{Server}
use Rattle.lat_words.specs.declared.settings.Offer.{Offer}
use Rattle.lat_words.specs.declared.fault.OptionName.TheVariants as options
use Rattle.lat_words.specs.declared.fault.Expected.TheVariants as expected
use Rattle.lat_words.specs.declared.fault.Wrong.{Wrong}

-- one of the offers is of the line
abbrev pub is_offering : ℕ → List Offer → Bool
is_offering line offers = list_any (λ (o : Offer). o.line == line) offers

-- no line has two
abbrev pub offered_by : ℕ → ArrayVec Offer → Offer → Result (ArrayVec Offer) Wrong
offered_by place got offer =
    if is_offering offer.line got.items then wrong options.Offer place expected.OtherLine
    else if length got.items == 32 then wrong options.Offer place (expected.Most 32)
    else Ok (with_one got offer)

abbrev pub with_offer : ℕ → ℕ → ArrayVec Offer → Text → Result (ArrayVec Offer) Wrong
with_offer lines place got text = wanted options.Offer place (expected.Offer lines) (offer_of lines text) >>= offered_by place got

-- lines of a server offer services
abbrev pub offers_in : Role → ℕ → List Text → Result (ArrayVec Offer) Wrong
offers_in Server lines texts = each_from (with_offer lines) 0 none texts
offers_in role lines texts = no_values options.Offer texts
