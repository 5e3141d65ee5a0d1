-- The words of a line.
use Rattle.std.specs.Prelude.{◌≡◌, ℕ, zero, suc, List, Bool, true, false, Option, Some, None, Result, Ok, Err, ◌==◌, bytes_eq, replicate, if◌then◌else◌}
use Rattle.std.specs.List.{before_first, after_first}
use Rattle.std.specs.Result.{result_ok, result_map_both}
use Rattle.hex.specs.Hex.{decode_of, decode_sized}
use Rattle.lat_base.specs.declared.addr.Addr.{Addr}
use Rattle.lat_base.specs.Names.{name_read}
use Rattle.lat_text.specs.Digits as digits
use Rattle.lat_text.specs.Numbers.{number_within}
use Rattle.lat_script.specs.declared.fault.ScriptFault.{ScriptFault}
use Rattle.lat_script.specs.declared.fault.ScriptFault.TheVariants.{Number, Word, Choice, Memory}
use Rattle.lat_script.specs.declared.fault.Pair.{Pair}
use Rattle.lat_script.specs.declared.fault.Wanted.TheVariants as wanted
use Rattle.lat_script.specs.Refusal.{one_of, other_of}

abbrev pub blank : ℕ
blank = 32

-- the word at a place, counted from 0, between which one blank stands; no letter where there is none
abbrev pub word_at : ℕ → List ℕ → List ℕ
word_at zero line = before_first (λ b. b == blank) line
word_at (suc place) line = word_at place (after_first (λ b. b == blank) line)

-- what was found, or the fault that says that it wasn't
abbrev pub found_or : {X : Type 0} → ScriptFault → Option X → Result X ScriptFault
found_or fault None = Err fault
found_or fault (Some x) = Ok x

-- the number of so much at least and so much at most that the word is
abbrev pub number_at : ℕ → ℕ → ℕ → List ℕ → Result ℕ ScriptFault
number_at least most place line = found_or (Number place least most) (number_within least most (word_at place line))

-- the bytes whose hex digits the word is
abbrev pub bytes_at : ℕ → List ℕ → Result (List ℕ) ScriptFault
bytes_at place line = found_or (Word place wanted.Digits) (result_ok (decode_of (word_at place line)))

-- the five bytes whose hex digits the word is
abbrev pub setting_at : ℕ → List ℕ → Result (List ℕ) ScriptFault
setting_at place line = found_or (Word place wanted.Setting) (result_ok (decode_sized (word_at place line) 5))

-- so many bytes 61 hex as the word says
abbrev pub filling_at : ℕ → List ℕ → Result (List ℕ) ScriptFault
filling_at place line = result_map_both (λ count. replicate count 0x61) (λ fault. fault) (number_at 0 65535 place line)

abbrev pub address_at : ℕ → List ℕ → Result Addr ScriptFault
address_at place line = found_or (Word place wanted.Address) (digits.address_of (word_at place line))

abbrev pub name_at : ℕ → List ℕ → Result (List ℕ) ScriptFault
name_at place line = found_or (Word place wanted.Name) (result_ok (name_read (word_at place line)))

-- whether the word is the one of two words; a fault where it is neither
abbrev pub choice_at : Pair → ℕ → List ℕ → Result Bool ScriptFault
choice_at pair place line =
    if bytes_eq (word_at place line) (one_of pair) then Ok true else if bytes_eq (word_at place line) (other_of pair) then Ok false else Err (Choice place pair)

-- What a call answered, seen by view, is this; want of memory may stand in place of it
abbrev pub Reads : {X Y : Type 0} → (X → Y) → Result X ScriptFault → Result Y ScriptFault → Type 0
Reads view (Ok x) read = read ≡ Ok (view x)
Reads view (Err Memory) read = Unit {0}
Reads view (Err fault) read = read ≡ Err fault
