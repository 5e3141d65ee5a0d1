-- What is offered, or what lines are connected to, by the words.
use Rattle.std.specs.Prelude.{ℕ, Bool, List, [], ◌∷◌, length, Option, None, Result, Ok, bytes_eq, codes, position, ◌==◌, if◌then◌else◌}
use Rattle.std.specs.List.{list_any}
use Rattle.clap.specs.Words.{Text}
use Rattle.arrayvec.specs.ArrayVec.{ArrayVec}
use Rattle.lat_base.specs.Names.{folded}
use Rattle.lat_words.specs.NameTexts.{named}
use Rattle.lat_words.specs.Options.{wanted, wrong, ◌>>=◌, each_from, none, with_one}
use Rattle.lat_words.specs.Pieces.{service_of}
use Rattle.lat_words.specs.declared.config.Role.{Role}
use Rattle.lat_words.specs.declared.config.Role.TheVariants.{Server, Switch, Node, Tariff}
use Rattle.lat_words.specs.declared.settings.Service.{Service}
use Rattle.lat_words.specs.declared.fault.OptionName.TheVariants as options
use Rattle.lat_words.specs.declared.fault.Expected.TheVariants as expected
use Rattle.lat_words.specs.declared.fault.Wrong.{Wrong}

-- names are the same without regard to case
abbrev pub same : List ℕ → List ℕ → Bool
same a b = bytes_eq (folded a) (folded b)

abbrev pub place_of : List ℕ → List Service → Option ℕ
place_of name services = position (λ (s : Service). same name s.name) services

-- one of the services has this name
abbrev pub is_named : List ℕ → List Service → Bool
is_named name services = list_any (λ (s : Service). same name s.name) services

-- no two have the same name
abbrev pub offered_too : ℕ → ArrayVec Service → Service → Result (ArrayVec Service) Wrong
offered_too place got service =
    if is_named service.name got.items then wrong options.Service place expected.OtherService
    else if length got.items == 32 then wrong options.Service place (expected.Most 32)
    else Ok (with_one got service)

abbrev pub with_service : ℕ → ArrayVec Service → Text → Result (ArrayVec Service) Wrong
with_service place got text = wanted options.Service place expected.Service (service_of text) >>= offered_too place got

-- a node offers one at least
abbrev pub offered_in : List Text → Result (ArrayVec Service) Wrong
offered_in [] = wrong options.Service 0 expected.Needed
offered_in (text ∷ texts) = each_from with_service 0 none (text ∷ texts)

abbrev pub called : List ℕ → Result (ArrayVec Service) Wrong
called name = Ok (record { items = (record { name = name; port = None }) ∷ [] })

-- what lines are connected to: one service at most, without a port
abbrev pub called_in : List Text → Result (ArrayVec Service) Wrong
called_in [] = Ok none
called_in (text ∷ []) = wanted options.Service 0 expected.Name (named text) >>= called
called_in (text ∷ second ∷ more) = wrong options.Service 1 expected.One

abbrev pub tariff : ArrayVec Service
tariff = record {
  items = (record { name = codes "LOGIN"; port = None }) ∷ (record { name = codes "PRINT"; port = None }) ∷ [];
}

-- a tariff node offers those of its tariff, whatever service is called
abbrev pub services_in : Role → List Text → Result (ArrayVec Service) Wrong
services_in Server texts = called_in texts
services_in Switch texts = called_in texts
services_in Node texts = offered_in texts
services_in Tariff texts = called_in texts >>= λ ignored. Ok tariff
