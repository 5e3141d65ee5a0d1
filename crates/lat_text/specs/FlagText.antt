-- Flags in print.
use Rattle.std.specs.Prelude.{ℕ, Bool, List, codes, if◌then◌else◌}

-- `1` where the flag is set, else `0`
abbrev pub flag_text : Bool → List ℕ
flag_text flag = if flag then codes "1" else codes "0"
