-- The values of options that have one value.
use Rattle.std.specs.Prelude.{ℕ, List, [], ◌∷◌, Option, Some, None, Result, Ok, Err, bytes_eq, codes, if◌then◌else◌}
use Rattle.clap.specs.Words.{Text}
use Rattle.lat_base.specs.declared.addr.Addr.{Addr}
use Rattle.lat_text.specs.Digits.{address_of}
use Rattle.lat_text.specs.Numbers.{number_within}
use Rattle.lat_words.specs.NameTexts.{named}
use Rattle.lat_words.specs.Roles.{role_of}
use Rattle.lat_words.specs.Options.{wanted, wrong}
use Rattle.lat_words.specs.declared.config.Role.{Role}
use Rattle.lat_words.specs.declared.settings.Level.{Level}
use Rattle.lat_words.specs.declared.settings.Level.TheVariants as levels
use Rattle.lat_words.specs.declared.fault.OptionName.{OptionName}
use Rattle.lat_words.specs.declared.fault.OptionName.TheVariants as options
use Rattle.lat_words.specs.declared.fault.Expected.TheVariants as expected
use Rattle.lat_words.specs.declared.fault.Wrong.{Wrong}

-- one value, and no second one, as it is read
abbrev pub role_in : List Text → Result Role Wrong
role_in [] = wrong options.Role 0 expected.Needed
role_in (text ∷ []) = wanted options.Role 0 expected.Role (role_of text)
role_in (text ∷ second ∷ more) = wrong options.Role 1 expected.One

abbrev pub name_in : List Text → Result (List ℕ) Wrong
name_in [] = wrong options.Name 0 expected.Needed
name_in (text ∷ []) = wanted options.Name 0 expected.Name (named text)
name_in (text ∷ second ∷ more) = wrong options.Name 1 expected.One

abbrev pub address_in : List Text → Result Addr Wrong
address_in [] = wrong options.Address 0 expected.Needed
address_in (text ∷ []) = wanted options.Address 0 expected.Address (address_of text)
address_in (text ∷ second ∷ more) = wrong options.Address 1 expected.One

-- a number, so much at least and so much at most
abbrev pub number_at : OptionName → ℕ → (least most : ℕ) → Text → Result ℕ Wrong
number_at option place least most text = wanted option place (expected.Number least most) (number_within least most text)

abbrev pub port_of : Text → Option ℕ
port_of text = number_within 1 65535 text

abbrev pub number_needed : OptionName → (least most : ℕ) → List Text → Result ℕ Wrong
number_needed option least most [] = wrong option 0 expected.Needed
number_needed option least most (text ∷ []) = number_at option 0 least most text
number_needed option least most (text ∷ second ∷ more) = wrong option 1 expected.One

-- the usual number where none is said
abbrev pub number_or : OptionName → (least most usual : ℕ) → List Text → Result ℕ Wrong
number_or option least most usual [] = Ok usual
number_or option least most usual (text ∷ []) = number_at option 0 least most text
number_or option least most usual (text ∷ second ∷ more) = wrong option 1 expected.One

abbrev pub if_said : Result ℕ Wrong → Result (Option ℕ) Wrong
if_said (Ok n) = Ok (Some n)
if_said (Err w) = Err w

abbrev pub number_if : OptionName → (least most : ℕ) → List Text → Result (Option ℕ) Wrong
number_if option least most [] = Ok None
number_if option least most (text ∷ []) = if_said (number_at option 0 least most text)
number_if option least most (text ∷ second ∷ more) = wrong option 1 expected.One

abbrev pub level_of : Text → Option Level
level_of text =
    if bytes_eq text (codes "off") then Some levels.Off
    else if bytes_eq text (codes "error") then Some levels.Error
    else if bytes_eq text (codes "info") then Some levels.Info
    else if bytes_eq text (codes "debug") then Some levels.Debug
    else None

abbrev pub level_in : List Text → Result Level Wrong
level_in [] = Ok levels.Info
level_in (text ∷ []) = wanted options.Log 0 expected.Level (level_of text)
level_in (text ∷ second ∷ more) = wrong options.Log 1 expected.One
