-- The options by their texts, and what was expected of them.
use Rattle.std.specs.Prelude.{ℕ, ◌+◌, Bool, true, false, List, [], ◌∷◌, ◌++◌, Option, Some, None, Result, Ok, Err, codes}
use Rattle.clap.specs.Words.{Row, Text, all_of}
use Rattle.arrayvec.specs.ArrayVec.{ArrayVec}
use Rattle.lat_words.specs.declared.fault.OptionName.{OptionName}
use Rattle.lat_words.specs.declared.fault.OptionName.TheVariants as options
use Rattle.lat_words.specs.declared.fault.Expected.{Expected}
use Rattle.lat_words.specs.declared.fault.Expected.TheVariants as expected
use Rattle.lat_words.specs.declared.fault.Wrong.{Wrong}

abbrev pub option_text : OptionName → Text
option_text options.Role = codes "role"
option_text options.Name = codes "name"
option_text options.Address = codes "address"
option_text options.Port = codes "port"
option_text options.Lines = codes "lines"
option_text options.LinePort = codes "line-port"
option_text options.Service = codes "service"
option_text options.Rate = codes "rate"
option_text options.Offer = codes "offer"
option_text options.Groups = codes "groups"
option_text options.Timer = codes "timer"
option_text options.KeepAlive = codes "keep-alive"
option_text options.Credits = codes "credits"
option_text options.Announce = codes "announce"
option_text options.Sessions = codes "sessions"
option_text options.Once = codes "once"
option_text options.Linger = codes "linger"
option_text options.Log = codes "log"
option_text options.History = codes "history"
option_text options.Help = codes "help"
option_text options.Version = codes "version"
option_text options.Peer = codes "peer"

-- an option that has no value
abbrev pub is_flag : OptionName → Bool
is_flag options.Once = true
is_flag options.Help = true
is_flag options.Version = true
is_flag option = false

-- this was expected at this value of the option
abbrev pub wrong : {A : Type 0} → OptionName → ℕ → Expected → Result A Wrong
wrong option place expected = Err (record { option = option; place = place; expected = expected })

-- what was read, or else it was expected at this value of the option
abbrev pub wanted : {A : Type 0} → OptionName → ℕ → Expected → Option A → Result A Wrong
wanted option place expected (Some x) = Ok x
wanted option place expected None = wrong option place expected

-- what stands behind is read where this is right
infixl 10 ◌>>=◌
abbrev pub ◌>>=◌ : {A B : Type 0} → Result A Wrong → (A → Result B Wrong) → Result B Wrong
Ok x >>= f = f x
Err w >>= f = Err w

-- all values of an option, from left to right
abbrev pub or_none : Option (List Text) → List Text
or_none (Some texts) = texts
or_none None = []

abbrev pub values_of : OptionName → List Row → List Text
values_of option rows = or_none (all_of (option_text option) rows)

-- one step for each value, which is told its place; it begins with what the values before it gave
abbrev pub each_from : {S : Type 0} → (ℕ → S → Text → Result S Wrong) → ℕ → S → List Text → Result S Wrong
each_from step place so_far [] = Ok so_far
each_from step place so_far (text ∷ texts) = step place so_far text >>= λ next. each_from step (place + 1) next texts

-- lists of so many at most
abbrev pub none : {T : Type 0} → ArrayVec T
none = record { items = [] }

abbrev pub with_one : {T : Type 0} → ArrayVec T → T → ArrayVec T
with_one got x = record { items = got.items ++ x ∷ [] }

-- an option of other roles
abbrev pub no_values : {T : Type 0} → OptionName → List Text → Result (ArrayVec T) Wrong
no_values option [] = Ok none
no_values option (text ∷ texts) = wrong option 0 expected.OtherRole
