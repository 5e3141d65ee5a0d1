-- How far message numbers count.
use Rattle.std.specs.Prelude.{ℕ, ◌*◌, ◌%◌}
use Rattle.lat_seq.specs.declared.span.Span.{Span}
use Rattle.lat_seq.specs.declared.span.Span.TheVariants.{Byte, Word}

-- half the range of a number field
abbrev pub half : Span → ℕ
half Byte = 128
half Word = 32768

-- a number as its field tells it
abbrev pub field : Span → ℕ → ℕ
field span n = n % (2 * half span)
