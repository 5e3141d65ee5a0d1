-- What is known of what the words set.
use Rattle.std.specs.Prelude.{ℕ, ◌≡◌, ◌≤◌, ◌-◌, ◌&&◌, Bool, true, not, List, [], ◌∷◌, length, IfSome, is_some, nat_le}
use Rattle.std.specs.List.{list_all}
use Rattle.lat_words.specs.Roles.{most_lines, is_server}
use Rattle.lat_words.specs.Services.{is_named}
use Rattle.lat_words.specs.Offers.{is_offering}
use Rattle.lat_words.specs.Seats.{calls, listens}
use Rattle.lat_words.specs.declared.config.Role.{Role}
use Rattle.lat_words.specs.declared.config.Role.TheVariants.{Node, Tariff}
use Rattle.lat_words.specs.declared.settings.Service.{Service}
use Rattle.lat_words.specs.declared.settings.Offer.{Offer}
use Rattle.lat_words.specs.declared.settings.Seats.{Seats}
use Rattle.lat_words.specs.declared.settings.Pace.{Pace}
use Rattle.lat_words.specs.declared.settings.Stay.{Stay}
use Rattle.lat_words.specs.declared.settings.Settings.{Settings}
use Rattle.lat_words.specs.declared.settings.Words.{Words}
use Rattle.lat_words.specs.declared.settings.Words.TheVariants.{Run}

abbrev pub is_line : ℕ → Offer → Bool
is_line lines offer = nat_le 1 offer.line && nat_le offer.line lines

abbrev pub lines_apart : List Offer → Bool
lines_apart [] = true
lines_apart (offer ∷ more) = not (is_offering offer.line more) && lines_apart more

-- each offer is of a line that is there, and no line has two
pub record AreOffers (lines : ℕ) (offers : List Offer) : Type 0 where
  pub each : list_all (is_line lines) offers ≡ true
  pub apart : lines_apart offers ≡ true

abbrev pub names_apart : List Service → Bool
names_apart [] = true
names_apart (service ∷ more) = not (is_named service.name more) && names_apart more

-- at most 32, no two with the same name
pub record AreServices (services : List Service) : Type 0 where
  pub few : length services ≤ 32
  pub apart : names_apart services ≡ true

-- a node with or without a tariff offers one service at least
abbrev pub OffersSome : Role → ℕ → Type 0
OffersSome Node count = 1 ≤ count
OffersSome Tariff count = 1 ≤ count
OffersSome role count = Unit {0}

-- A server has 1 to 32 lines, a switch 1 to 8, a node with or without a tariff 1 to 64. Each has a port where one listens, and a
-- service is there where one calls
pub record IsSeats (role : Role) (seats : Seats) : Type 0 where
  pub some : 1 ≤ seats.lines
  pub most : seats.lines ≤ most_lines role
  pub port : IfSome seats.line_port (λ port. (1 ≤ port) × (port ≤ 65536 - seats.lines))
  pub services : AreServices seats.services.items
  pub offered : OffersSome role (length seats.services.items)
  pub offers : AreOffers seats.lines seats.offers.items
  pub called : calls role seats.lines seats.offers.items ≡ true → 1 ≤ length seats.services.items
  pub there : listens role seats.lines seats.services.items seats.offers.items ≡ true → is_some seats.line_port ≡ true

pub record IsPace (pace : Pace) : Type 0 where
  pub timer : (1 ≤ pace.timer) × (pace.timer ≤ 100)
  pub keep_alive : (10 ≤ pace.keep_alive) × (pace.keep_alive ≤ 255)
  pub credits : (1 ≤ pace.credits) × (pace.credits ≤ 15)
  pub announce : (10 ≤ pace.announce) × (pace.announce ≤ 180)

pub record IsStay (stay : Stay) : Type 0 where
  pub sessions : IfSome stay.sessions (λ n. (1 ≤ n) × (n ≤ 1000000))
  pub linger : stay.linger ≤ 60

pub record IsSettings (settings : Settings) : Type 0 where
  pub seats : IsSeats settings.role settings.seats
  pub pace : IsPace settings.pace
  pub stay : IsStay settings.stay
  pub once : settings.stay.once ≡ true → is_server settings.role ≡ true
  pub history : settings.history ≤ 1000000

abbrev pub RunsWithin : Words → Type 0
RunsWithin (Run settings) = IsSettings settings
RunsWithin words = Unit {0}
