-- What is printed of a line that isn't done.
use Rattle.std.specs.Prelude.{ℕ, ◌+◌, ◌==◌, List, [], ◌∷◌, ◌++◌, Result, Ok, Err, codes, decimal, if◌then◌else◌}
use Rattle.lat_text.specs.Line.{line}
use Rattle.lat_script.specs.declared.fault.ScriptFault.{ScriptFault}
use Rattle.lat_script.specs.declared.fault.ScriptFault.TheVariants as faults
use Rattle.lat_script.specs.declared.fault.Pair.{Pair}
use Rattle.lat_script.specs.declared.fault.Pair.TheVariants as pairs
use Rattle.lat_script.specs.declared.fault.Wanted.{Wanted}
use Rattle.lat_script.specs.declared.fault.Wanted.TheVariants as wanted

abbrev pub wanted_text : Wanted → List ℕ
wanted_text wanted.Command = codes "a command"
wanted_text wanted.Digits = codes "hex digits"
wanted_text wanted.Setting = codes "a setting"
wanted_text wanted.Address = codes "an address"
wanted_text wanted.Name = codes "a name"

-- a word of a line, both counted from 1, isn't a number of so much at least and so much at most
abbrev pub no_number : ℕ → ℕ → ℕ → ℕ → List ℕ
no_number number word least most =
    if least == 0
    then line (codes "line " ∷ decimal number ∷ codes " word " ∷ decimal word
    ∷ codes " isn't a number up to " ∷ decimal most ∷ [])
    else line (codes "line " ∷ decimal number ∷ codes " word " ∷ decimal word
    ∷ codes " isn't a number from " ∷ decimal least ∷ codes " to " ∷ decimal most ∷ [])

-- a word of a line, both counted from 1, isn't what is wanted
abbrev pub no_word : ℕ → ℕ → Wanted → List ℕ
no_word number word wanted =
    line (codes "line " ∷ decimal number ∷ codes " word " ∷ decimal word ∷ codes " isn't " ∷ wanted_text wanted ∷ [])

abbrev pub one_of : Pair → List ℕ
one_of pairs.Ends = codes "m"
one_of pairs.Cores = codes "s"
one_of pairs.Spans = codes "word"

abbrev pub other_of : Pair → List ℕ
other_of pairs.Ends = codes "s"
other_of pairs.Cores = codes "n"
other_of pairs.Spans = codes "byte"

-- a word of a line, both counted from 1, is neither of two
abbrev pub no_choice : ℕ → ℕ → Pair → List ℕ
no_choice number word pair =
    line (codes "line " ∷ decimal number ∷ codes " word " ∷ decimal word ∷ codes " isn't " ∷ one_of pair ∷ codes " or " ∷ other_of pair ∷ [])

-- Why the line isn't done; nothing where it is. Want of memory is printed nowhere
abbrev pub refusal_text : {T : Type 0} → ℕ → Result T ScriptFault → List ℕ
refusal_text number (Ok x) = []
refusal_text number (Err (faults.Number place least most)) = no_number number (place + 1) least most
refusal_text number (Err (faults.Word place wanted)) = no_word number (place + 1) wanted
refusal_text number (Err (faults.Choice place pair)) = no_choice number (place + 1) pair
refusal_text number (Err faults.Memory) = []
