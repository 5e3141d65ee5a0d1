-- The faults of a read that aren't counted.
use Rattle.std.specs.Prelude.{◌≡◌, ◌⊎◌}
use Rattle.std.specs.declared.io.ErrorKind.{ErrorKind}
use Rattle.std.specs.declared.io.ErrorKind.TheVariants.{WouldBlock, TimedOut, Interrupted}

-- nothing had come
abbrev pub IsQuiet : ErrorKind → Type 0
IsQuiet kind = (kind ≡ WouldBlock) ⊎ ((kind ≡ TimedOut) ⊎ (kind ≡ Interrupted))
