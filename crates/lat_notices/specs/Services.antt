-- The texts of services.
use Rattle.std.specs.Prelude.{ℕ, ◌<◌, List, ◌∷◌, ◌++◌, length}
use Rattle.lat_base.specs.Names.{IsName}
use Rattle.lat_fields.specs.Texts.{counted}
use Rattle.lat_notices.specs.declared.services.Service.{Service}

-- its name is a name, as its type has it
abbrev pub HasName : Service → Type 0
HasName s = IsName s.name

abbrev pub HasShortDescription : Service → Type 0
HasShortDescription s = length s.description < 256

abbrev pub service_text : Service → List ℕ
service_text s = s.rating ∷ counted s.name ++ counted s.description
