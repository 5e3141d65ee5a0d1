-- The datagrams of the loopback carrier.
use Rattle.std.specs.Prelude.{◌≡◌, ℕ, List, ◌∷◌, ◌++◌, ◌⊎◌, length}

-- the destination's address, the source's, the type 60 04, and the payload
abbrev pub datagram : List ℕ → List ℕ → List ℕ → List ℕ
datagram to from payload = to ++ (from ++ 96 ∷ 4 ∷ payload)

-- it is sent to the station, or to everyone
abbrev pub IsFor : List ℕ → List ℕ → List ℕ → List ℕ → List ℕ → Type 0
IsFor own everyone from payload bytes = (bytes ≡ datagram own from payload) ⊎ (bytes ≡ datagram everyone from payload)

-- they are a datagram of some station, of some payload, that is sent to the station or to everyone
pub record IsSentTo (own everyone bytes : List ℕ) : Type 0 where
  pub from : List ℕ
  pub payload : List ℕ
  pub address : length from ≡ 6
  pub sent : IsFor own everyone from payload bytes
