-- Bytes written as hex digits of either case.
use Rattle.std.specs.Prelude.{ℕ, ◌+◌, ◌*◌, ◌-◌, ◌&&◌, List, [], ◌++◌, length, replicate, Option, Some, None, option_map, option_and_then, nat_le, bytes_eq, codes, if◌then◌else◌}
use Rattle.std.specs.Result.{result_ok}
use Rattle.hex.specs.Hex.{decode_of, decode_sized, hex_digit_value}
use Rattle.lat_base.specs.declared.addr.Addr.{Addr}

-- the byte that two hex digits of either case write
abbrev pub byte_of : ℕ → ℕ → Option ℕ
byte_of high low = option_and_then (λ h. option_map (λ l. h * 16 + l) (hex_digit_value low)) (hex_digit_value high)

-- the bytes that an even number of digits write, so many at least and so many at most
abbrev pub bytes_of : ℕ → ℕ → List ℕ → Option (List ℕ)
bytes_of least most text = if nat_le least (length text) && nat_le (length text) most then result_ok (decode_of text) else None

-- an address: the digits of six bytes
abbrev pub address_of : List ℕ → Option Addr
address_of text = option_map (λ bytes. record { 0 = bytes }) (result_ok (decode_sized text 6))

-- a mask of groups: the digits of 1 to 32 bytes; the bytes that it doesn't have are 0
abbrev pub mask_of : List ℕ → Option (List ℕ)
mask_of text = option_map (λ mask. mask ++ replicate (32 - length mask) 0) (bytes_of 2 64 text)

-- a payload: the digits of 1 to 4,096 bytes, or `-` for no byte
abbrev pub payload_of : List ℕ → Option (List ℕ)
payload_of text = if bytes_eq text (codes "-") then Some [] else bytes_of 2 8192 text
