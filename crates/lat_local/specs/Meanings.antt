-- What is done with the bytes that a caller types.
use Rattle.std.specs.Prelude.{ℕ, zero, suc, ◌==◌, List, length, Option, Some, None, position}
use Rattle.lat_local.specs.declared.meaning.Meaning.{Meaning}
use Rattle.lat_local.specs.declared.meaning.Meaning.TheVariants as meanings
use Rattle.lat_local.specs.declared.phase.Phase.{Phase}
use Rattle.lat_local.specs.declared.phase.Phase.TheVariants as phases

-- control-]
abbrev pub escape : ℕ
escape = 0x1d

-- what stands before the first control-] goes into the session
abbrev pub data_of : Option ℕ → List ℕ → Meaning
data_of (Some zero) bytes = meanings.Escape
data_of (Some (suc before)) bytes = meanings.Data (suc before)
data_of None bytes = meanings.Data (length bytes)

abbrev pub meaning_of : Phase → List ℕ → Meaning
meaning_of (phases.Prompt held) bytes = meanings.Typed
meaning_of (phases.Connecting service) bytes = meanings.Early
meaning_of (phases.Session peer) bytes = data_of (position (λ b. b == escape) bytes) bytes
meaning_of phases.Out bytes = meanings.Late
