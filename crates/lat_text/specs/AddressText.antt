-- Station addresses in print.
use Rattle.std.specs.Prelude.{ℕ, List}
use Rattle.hex.specs.Hex.{encode_lower}
use Rattle.lat_base.specs.declared.addr.Addr.{Addr}

-- the twelve lower-case hex digits of an address
abbrev pub address_text : Addr → List ℕ
address_text address = encode_lower address.0
