-- What a daemon hands back.
use Rattle.std.specs.Prelude.{◌≡◌, ◌≢◌, ℕ, ◌⊎◌, List, Option, Some, None, Result, Ok, Err, true, false, is_ok, codes, option_map, IfSome}
use Rattle.lat_words.specs.Reader.{words_of}
use Rattle.lat_words.specs.declared.config.Role.{Role}
use Rattle.lat_words.specs.declared.config.Role.TheVariants as roles
use Rattle.lat_words.specs.declared.fault.WordsFault.{WordsFault}
use Rattle.lat_words.specs.declared.settings.Settings.{Settings}
use Rattle.lat_words.specs.declared.settings.Words.{Words}
use Rattle.lat_words.specs.declared.settings.Words.TheVariants as words
use Rattle.lat_past.specs.declared.past.Past.{Past}
use Rattle.lat_outside.specs.Openings.{OpeningsView}
use Rattle.lat_outside.specs.Visits.{VisitsView}
use Rattle.lat_live.specs.Plans.{AskedBy, RefusedBy}
use Rattle.lat_live.specs.declared.opening.Refused.{Refused}
use Rattle.lat_live.specs.Printed.{printed, printed_in, IsPrinted}
use Rattle.lat_live.specs.Seating.{GivenBack}
use Rattle.lat_live.specs.declared.ran.Ran.{Ran}
use Rattle.lat_live.specs.declared.ran.Ran.TheVariants as ran
use Rattle.lat_live.specs.declared.ran.Served.{Served}
use Rattle.lat_live.specs.declared.serving.CoreServed.{CoreServed}

-- ---- the cell

-- what is printed of the cell that ran, whatever its core
abbrev pub printed_of : {T E B : Type 0} → Ran T E B → Option (List Past)
printed_of (ran.Server cell) = Some (printed cell)
printed_of (ran.Switch cell) = Some (printed cell)
printed_of (ran.Node cell) = Some (printed cell)
printed_of ran.Not = None

-- the role that ran: a node with a tariff is a node
abbrev pub role_of : {T E B : Type 0} → Ran T E B → Option Role
role_of (ran.Server cell) = Some roles.Server
role_of (ran.Switch cell) = Some roles.Switch
role_of (ran.Node cell) = Some roles.Node
role_of ran.Not = None

-- what is written, and the status, are those of the last text of the cell that is handed back
abbrev pub HasPrinted : {T K E B S : Type 0} → (S → Option (List ℕ)) → (S → ℕ) → S → S → Served T K E B → Type 0
HasPrinted written_by faults old new served =
    IfSome (printed_of served.ran) (λ t. IsPrinted written_by faults old new t served.shares served.ends served.status)

abbrev pub CoreHasPrinted : {C T K E B S : Type 0} → (S → Option (List ℕ)) → (S → ℕ) → S → S
    → CoreServed C T K E B → Type 0
CoreHasPrinted written_by faults old new done =
    IfSome (printed_in done.ran)
    (λ t. IsPrinted written_by faults old new t done.given.shares.items done.given.ends.items done.status)

-- where a cell is handed back: the shares of all seats, and of each of so many lines how its worker ended, and the line
abbrev pub IsBack : {T K E B : Type 0} → (K → VisitsView) → ℕ → Served T K E B → Type 0
IsBack visits count served =
    IfSome (printed_of served.ran) (λ t. GivenBack visits count served.shares served.ends served.lines)

abbrev pub CoreIsBack : {C T K E B : Type 0} → (K → VisitsView) → ℕ → CoreServed C T K E B → Type 0
CoreIsBack visits count done =
    IfSome (printed_in done.ran)
    (λ t. GivenBack visits count done.given.shares.items done.given.ends.items done.given.lines.items)

-- what a daemon of this role hands back is what came of its core
pub record CameOf {C T K E B : Type 0} (its_role : Role) (done : CoreServed C T K E B) (served : Served T K E B) : Type 0 where
  pub status : served.status ≡ done.status
  pub printed : printed_of served.ran ≡ printed_in done.ran
  pub role : IfSome (role_of served.ran) (λ role. role ≡ its_role)
  pub none : served.ran ≡ ran.Not → done.ran ≡ None
  pub shares : served.shares ≡ done.given.shares.items
  pub ends : served.ends ≡ done.given.ends.items
  pub lines : served.lines ≡ done.given.lines.items
  pub refused : served.refused ≡ done.refused
  pub wrong : served.wrong ≡ None

-- ---- the words

-- what they set, where they ask that it runs
abbrev pub settings_of : Result Words WordsFault → Option Settings
settings_of (Ok (words.Run settings)) = Some settings
settings_of _ = None

abbrev pub AreRight : List (List ℕ) → Type 0
AreRight texts = is_ok (words_of texts) ≡ true

abbrev pub AreWrong : List (List ℕ) → Type 0
AreWrong texts = is_ok (words_of texts) ≡ false

-- they are wrong, or ask only for help or the version
abbrev pub AreNoRun : List (List ℕ) → Type 0
AreNoRun texts = settings_of (words_of texts) ≡ None

-- what is told of the words is their first fault; where they are wrong, it is told unless memory is short
abbrev pub IsFaultOf : Result Words WordsFault → ℕ → Option WordsFault → Type 0
IsFaultOf told status (Some fault) = told ≡ Err fault
IsFaultOf told status None = is_ok told ≡ false → status ≡ 9

-- how many lines they tell of
abbrev pub count_in : Option Settings → ℕ
count_in (Some s) = s.seats.lines
count_in None = 0

-- the same for the lines that the words tell of
abbrev pub BackOf : {T K E B : Type 0} → (K → VisitsView) → List (List ℕ) → Served T K E B → Type 0
BackOf visits texts served = IsBack visits (count_in (settings_of (words_of texts))) served

-- where it runs, the opener was asked for what the words say
abbrev pub AskedIn : Option Settings → ℕ → OpeningsView → OpeningsView → Type 0
AskedIn (Some s) tenths old new = AskedBy s tenths old new
AskedIn None tenths old new = ⊥

abbrev pub AskedOf : List (List ℕ) → ℕ → OpeningsView → OpeningsView → Type 0
AskedOf texts tenths old new = AskedIn (settings_of (words_of texts)) tenths old new

-- a port that was refused is told exactly at status 4, and is one that the words say
abbrev pub RefusedIn : Option Settings → ℕ → OpeningsView → OpeningsView → ℕ → Option Refused → Type 0
RefusedIn (Some s) tenths old new status refused = RefusedBy s tenths old new status refused
RefusedIn None tenths old new status (Some r) = ⊥
RefusedIn None tenths old new status None = status ≢ 4

abbrev pub RefusedOf : List (List ℕ) → ℕ → OpeningsView → OpeningsView → ℕ → Option Refused → Type 0
RefusedOf texts tenths old new status refused = RefusedIn (settings_of (words_of texts)) tenths old new status refused

-- what runs for a role: for a node with a tariff a node
abbrev pub core_role : Role → Role
core_role roles.Tariff = roles.Node
core_role role = role

-- the role that ran is that of the words
abbrev pub IsRoleOf : {T E B : Type 0} → List (List ℕ) → Ran T E B → Type 0
IsRoleOf texts ran =
    IfSome (role_of ran) (λ role. option_map (λ (s : Settings). core_role s.role) (settings_of (words_of texts)) ≡ Some role)

-- what is written where the words aren't right, and where they ask for the version
abbrev pub refusal : List ℕ
refusal = codes "words\n"

abbrev pub version_text : List ℕ
version_text = codes "latd 5.1\n"

-- the statuses where they aren't right
abbrev pub IsRefusal : ℕ → Type 0
IsRefusal status = (status ≡ 1) ⊎ ((status ≡ 5) ⊎ (status ≡ 9))

-- the statuses at which no worker was started, 0 and 5 only where none was to be
abbrev pub IsNotRun : List (List ℕ) → ℕ → Type 0
IsNotRun texts status = (status ≡ 1) ⊎ ((status ≡ 4) ⊎ ((status ≡ 9) ⊎ (((status ≡ 0) ⊎ (status ≡ 5)) × AreNoRun texts)))
