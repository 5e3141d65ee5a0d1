-- Addresses as numbers.
use Rattle.std.specs.Prelude.{ℕ}
use Rattle.std.specs.Int.{bytes_high_first}
use Rattle.lat_base.specs.declared.addr.Addr.{Addr}

-- the address whose six bytes are those of the number, the highest first
abbrev pub addr_of : ℕ → Addr
addr_of n = record { 0 = bytes_high_first 6 n }
