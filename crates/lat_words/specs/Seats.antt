-- What the lines are for, by the words.
use Rattle.std.specs.Prelude.{ℕ, zero, suc, ◌-◌, ◌&&◌, ◌||◌, Bool, true, false, not, List, length, Option, Some, None, Result, Ok, is_some, ◌==◌, if◌then◌else◌}
use Rattle.std.specs.List.{list_any}
use Rattle.clap.specs.Words.{Row}
use Rattle.arrayvec.specs.ArrayVec.{ArrayVec}
use Rattle.lat_words.specs.Roles.{most_lines}
use Rattle.lat_words.specs.Options.{wrong, ◌>>=◌, values_of}
use Rattle.lat_words.specs.Values.{number_or, number_if}
use Rattle.lat_words.specs.Services.{services_in}
use Rattle.lat_words.specs.Rates.{rates_in}
use Rattle.lat_words.specs.Offers.{is_offering, offers_in}
use Rattle.lat_words.specs.Groups.{groups_in}
use Rattle.lat_words.specs.declared.config.Role.{Role}
use Rattle.lat_words.specs.declared.config.Role.TheVariants.{Server, Switch}
use Rattle.lat_words.specs.declared.settings.Service.{Service}
use Rattle.lat_words.specs.declared.settings.Offer.{Offer}
use Rattle.lat_words.specs.declared.settings.Seats.{Seats}
use Rattle.lat_words.specs.declared.fault.OptionName.TheVariants as options
use Rattle.lat_words.specs.declared.fault.Expected.TheVariants as expected
use Rattle.lat_words.specs.declared.fault.Wrong.{Wrong}

-- one of the first so many lines offers nothing
abbrev pub some_call : ℕ → List Offer → Bool
some_call zero offers = false
some_call (suc line) offers = not (is_offering (suc line) offers) || some_call line offers

-- some line calls: of a server one that offers nothing, of a switch each
abbrev pub calls : Role → ℕ → List Offer → Bool
calls Server lines offers = some_call lines offers
calls Switch lines offers = true
calls role lines offers = false

-- the next connection to the line's port is taken for it
abbrev pub is_portless : Service → Bool
is_portless service = not (is_some service.port)

-- some line listens: of a server or a switch one that calls, of a node each, where a service has no port
abbrev pub listens : Role → ℕ → List Service → List Offer → Bool
listens Server lines services offers = calls Server lines offers
listens Switch lines services offers = true
listens role lines services offers = list_any is_portless services

-- the port is there where a line listens
abbrev pub port_there : Bool → Option ℕ → Result (Option ℕ) Wrong
port_there needed (Some port) = Ok (Some port)
port_there needed None = if needed then wrong options.LinePort 0 expected.Needed else Ok None

-- a service is there where a line calls
abbrev pub service_there : Bool → ArrayVec Service → Result (ArrayVec Service) Wrong
service_there needed services = if needed && length services.items == 0 then wrong options.Service 0 expected.Needed else Ok services

abbrev pub seats_in : Role → List Row → Result Seats Wrong
seats_in role rows = do
  lines ← number_or options.Lines 1 (most_lines role) 1 (values_of options.Lines rows)
  said ← number_if options.LinePort 1 (65536 - lines) (values_of options.LinePort rows)
  services ← services_in role (values_of options.Service rows)
  rates ← rates_in role services.items (values_of options.Rate rows)
  offers ← offers_in role lines (values_of options.Offer rows)
  line_port ← port_there (listens role lines services.items offers.items) said
  services ← service_there (calls role lines offers.items) services
  groups ← groups_in (values_of options.Groups rows)
  Ok (record { lines = lines; line_port = line_port; services = services; rates = rates; offers = offers; groups = groups })
