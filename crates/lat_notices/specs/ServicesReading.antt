-- Reading the services of an announcement.
use Rattle.std.specs.Prelude.{ℕ, zero, suc, List, [], ◌∷◌, Result, Ok}
use Rattle.lat_base.specs.declared.field.Bad.{Bad}
use Rattle.lat_base.specs.declared.field.Field.TheVariants as fields
use Rattle.lat_fields.specs.Reading.{◌>>=◌, byte_at, counted_at, name_at}
use Rattle.lat_notices.specs.declared.services.Service.{Service}

abbrev pub service : ℕ → List ℕ → List ℕ → Service
service rating name description = record { rating = rating; name = name; description = description }

unfoldable pub service_at : ℕ → List ℕ → Result (Service × ℕ × List ℕ) Bad
service_at place bytes = do
  rating ← byte_at fields.Rating place place bytes
  name ← name_at fields.Service rating.1 rating.2
  description ← counted_at fields.ServiceDescription name.1 name.1 name.2
  Ok (service rating.0 name.0 description.0, description.1, description.2)

-- so many services, one behind another
unfoldable pub services_at : ℕ → ℕ → List ℕ → Result (List Service × ℕ × List ℕ) Bad
services_at zero place bytes = Ok ([], place, bytes)
services_at (suc count) place bytes = do
  one ← service_at place bytes
  more ← services_at count one.1 one.2
  Ok (one.0 ∷ more.0, more.1, more.2)
