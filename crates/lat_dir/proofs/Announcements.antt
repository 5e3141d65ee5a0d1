-- The announcement that is written of an announcement shown is that announcement.
use Rattle.std.proofs.Common.{◌≡◌, List, [], ◌∷◌, map, refl, ap}
use Rattle.lat_notices.specs.declared.services.Service.{Service}
use Rattle.lat_notices.specs.declared.notice.Announcement.{Announcement}
use Rattle.lat_dir.specs.Announcements.{service_shown, service_of, announcement_shown, announcement_of}

services_back : (ss : List Service) → map service_of (map service_shown ss) ≡ ss
services_back [] = refl
services_back (s ∷ ss) = ap (λ more. s ∷ more) (services_back ss)

pub announcement_back : (a : Announcement) → announcement_of (announcement_shown a) ≡ a
announcement_back a = ap (λ ss. record a { services = ss }) (services_back a.services)
