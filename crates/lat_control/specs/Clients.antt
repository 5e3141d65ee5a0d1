-- What a client gave, and what was written to it.
use Rattle.std.specs.Prelude.{◌≡◌, ◌⊎◌, ℕ, List, [], take, Result, Ok, Err}
use Rattle.std.specs.declared.io.ErrorKind.{ErrorKind}
use Rattle.std.specs.declared.io.ErrorKind.TheVariants.{WouldBlock, Interrupted}
use Rattle.lat_outside.specs.declared.callers.CallerGot.{CallerGot}
use Rattle.lat_outside.specs.declared.callers.CallerGot.TheVariants as gots

-- the bytes of a read
abbrev pub got_bytes : {E : Type 0} → Result CallerGot E → List ℕ → List ℕ
got_bytes (Ok (gots.Bytes n)) buf = take n buf
got_bytes _ buf = []

-- the bytes that a write took
abbrev pub taken_bytes : {E : Type 0} → Result ℕ E → List ℕ → List ℕ
taken_bytes (Ok n) piece = take n piece
taken_bytes (Err e) piece = []

-- a client who has just come
pub record IsFresh (given written : List ℕ) : Type 0 where
  pub silent : given ≡ []
  pub untold : written ≡ []

-- a call of a socket would have waited
abbrev pub IsQuiet : ErrorKind → Type 0
IsQuiet kind = (kind ≡ WouldBlock) ⊎ (kind ≡ Interrupted)
