-- Whom a carrier hears.
use Rattle.std.specs.Prelude.{◌≡◌, ℕ, ◌+◌, ◌-◌, ◌^◌, ◌==◌, ◌&&◌, min, List, [], ◌∷◌, Bool, true, false, bytes_eq}
use Rattle.std.specs.List.{list_any}
use Rattle.std.specs.declared.net.socket_addr.SocketAddr.{SocketAddr}
use Rattle.std.specs.declared.net.socket_addr.SocketAddr.TheVariants.{V4, V6}
use Rattle.std.specs.Net.Addr.{ipv4_octets}
use Rattle.std.specs.Net.Socket.{v4_ip, v4_port}

-- a datagram came from one of these ports on the loopback address
abbrev pub is_peer : List ℕ → SocketAddr → Bool
is_peer peers (V4 a) = bytes_eq (ipv4_octets (v4_ip a)) (127 ∷ 0 ∷ 0 ∷ 1 ∷ []) && list_any (λ port. port == v4_port a) peers
is_peer peers (V6 a) = false

abbrev pub IsPeer : List ℕ → SocketAddr → Type 0
IsPeer peers from = is_peer peers from ≡ true

-- one stray more; the count stops at its greatest number
abbrev pub one_more : ℕ → ℕ
one_more strays = min (strays + 1) (2 ^ 64 - 1)
