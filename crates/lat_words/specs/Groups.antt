-- The groups that an option lists.
use Rattle.std.specs.Prelude.{ℕ, zero, suc, ◌+◌, ◌-◌, ◌/◌, ◌%◌, ◌^◌, List, [], ◌∷◌, take, drop, position, replicate, Option, Some, None, option_and_then, option_map, Result, Ok, Err, bit_or, slice_index, slice_set, ◌==◌}
use Rattle.std.specs.List.{slice_split}
use Rattle.clap.specs.Words.{Text}
use Rattle.lat_text.specs.Numbers.{number_within}
use Rattle.lat_words.specs.Options.{wanted, wrong}
use Rattle.lat_words.specs.declared.fault.OptionName.TheVariants as options
use Rattle.lat_words.specs.declared.fault.Expected.TheVariants as expected
use Rattle.lat_words.specs.declared.fault.Wrong.{Wrong}

-- the first place of a byte
abbrev pub sign_at : ℕ → Text → Option ℕ
sign_at sign text = position (λ b. b == sign) text

-- a group alone, or those from one to another that isn't below it
abbrev pub range_at : Option ℕ → Text → Option (ℕ × ℕ)
range_at None text = option_map (λ g. (g, g)) (number_within 0 255 text)
range_at (Some hyphen) text =
    option_and_then (λ first. option_map (λ last. (first, last)) (number_within first 255 (drop (hyphen + 1) text)))
    (number_within 0 255 (take hyphen text))

abbrev pub range_of : Text → Option (ℕ × ℕ)
range_of text = range_at (sign_at 0x2d text) text

-- bit g mod 8 of byte g / 8 is that of group g
abbrev pub with_group : List ℕ → ℕ → List ℕ
with_group mask g = slice_set mask (g / 8) (bit_or (slice_index mask (g / 8)) (2 ^ (g % 8)))

-- so many groups, from one on
abbrev pub with_groups : List ℕ → ℕ → ℕ → List ℕ
with_groups mask first zero = mask
with_groups mask first (suc count) = with_group (with_groups mask first count) (first + count)

abbrev pub with_range : List ℕ → ℕ × ℕ → List ℕ
with_range mask range = with_groups mask range.0 (range.1 + 1 - range.0)

abbrev pub with_piece : List ℕ → Text → Option (List ℕ)
with_piece mask text = option_map (with_range mask) (range_of text)

-- what further pieces add, from left to right
abbrev pub with_pieces : List ℕ → List Text → Option (List ℕ)
with_pieces mask [] = Some mask
with_pieces mask (piece ∷ pieces) = option_and_then (λ next. with_pieces next pieces) (with_piece mask piece)

-- pieces with commas between them
abbrev pub groups_of : Text → Option (List ℕ)
groups_of text = with_pieces (replicate 32 0) (slice_split (λ b. b == 0x2c) text)

abbrev pub some_groups : Result (List ℕ) Wrong → Result (Option (List ℕ)) Wrong
some_groups (Ok mask) = Ok (Some mask)
some_groups (Err w) = Err w

abbrev pub groups_in : List Text → Result (Option (List ℕ)) Wrong
groups_in [] = Ok None
groups_in (text ∷ []) = some_groups (wanted options.Groups 0 expected.Groups (groups_of text))
groups_in (text ∷ second ∷ more) = wrong options.Groups 1 expected.One
