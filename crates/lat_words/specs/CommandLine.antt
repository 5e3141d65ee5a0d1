-- The command line of `latd`, as the crate `clap` defines a simple command. No option is required and each may stand again, with
-- one value or none, so that what is wrong with its values can be told.
use Rattle.std.specs.Prelude.{Bool, true, false, not, List, [], ◌∷◌, Some, codes, drop, find, unwrap_or, nat_lt}
use Rattle.clap.specs.Lexer.{usize_max}
use Rattle.clap.specs.Words.{App, Row, Rule, Text, count_of, new_app, new_rule, with_rule, matches_of, fault_of}
use Rattle.clap.specs.declared.builder.ArgAction.TheVariants.{Append, Count}
use Rattle.lat_words.specs.declared.fault.OptionName.{OptionName}
use Rattle.lat_words.specs.Options.{option_text}

-- an option with a value; where none stands behind it, its value has no byte
abbrev pub valued_rule : Text → Rule
valued_rule id = record (new_rule id) {
  long = Some id;
  action = Some Append;
  range = Some (record { start_inclusive = 0; end_inclusive = 1 });
  value_names = 1;
  missing = [] ∷ [];
}

-- an option without a value
abbrev pub flag_rule : Text → Rule
flag_rule id = record (new_rule id) { long = Some id; action = Some Count }

-- the words behind all options, and beside them
abbrev pub words_rule : Rule
words_rule = record (new_rule (codes "peer")) { action = Some Append; range = Some (record { start_inclusive = 1; end_inclusive = usize_max }) }

abbrev pub with_value : App → Text → App
with_value a id = with_rule a (valued_rule id)

abbrev pub with_flag : App → Text → App
with_flag a id = with_rule a (flag_rule id)

-- what the daemon is
abbrev pub with_station : App → App
with_station a = with_value (with_value (with_value (with_value a (codes "role")) (codes "name")) (codes "address")) (codes "port")

-- what its lines do
abbrev pub with_lines : App → App
with_lines a =
    with_value (with_value (with_value (with_value (with_value (with_value a (codes "lines")) (codes "line-port")) (codes "service"))
    (codes "rate")) (codes "offer")) (codes "groups")

-- how fast it is
abbrev pub with_pace : App → App
with_pace a = with_value (with_value (with_value (with_value a (codes "timer")) (codes "keep-alive")) (codes "credits")) (codes "announce")

-- how long it stays, and what it tells and keeps
abbrev pub with_stay : App → App
with_stay a =
    with_value (with_value (with_value (with_flag (with_value a (codes "sessions")) (codes "once")) (codes "linger")) (codes "log"))
    (codes "history")

-- what it says of itself; its own help and version are none of `clap`'s
abbrev pub with_asks : App → App
with_asks a = with_flag (with_flag a (codes "help")) (codes "version")

abbrev pub without_own : App → App
without_own a = record a { top = record a.top { disable_help_flag = true; disable_version_flag = true } }

unfoldable pub command_line : App
command_line =
    with_rule (with_asks (with_stay (with_pace (with_lines (with_station (without_own (new_app (codes "latd")))))))) words_rule

-- no step of a definition fails
abbrev pub no_fault : {A : Type 0} → List A → Bool
no_fault [] = true
no_fault (k ∷ ks) = false

-- `clap` takes the words
abbrev pub is_taken : List Text → Bool
is_taken words = no_fault (fault_of command_line words)

-- what it makes of the words
abbrev pub found_rows : List Text → List Row
found_rows words = matches_of command_line words

-- the first word that `clap` doesn't take even alone
abbrev pub is_strange : Text → Bool
is_strange word = not (is_taken (codes "latd" ∷ word ∷ []))

abbrev pub strange : List Text → Text
strange words = unwrap_or (find is_strange (drop 1 words)) []

-- an option without a value stands among the words
abbrev pub is_said : OptionName → List Row → Bool
is_said option rows = nat_lt 0 (count_of (option_text option) rows)
