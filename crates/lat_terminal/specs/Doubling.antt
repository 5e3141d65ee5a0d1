-- What is sent to a client that speaks telnet.
use Rattle.std.specs.Prelude.{ℕ, ◌==◌, if◌then◌else◌, List, [], ◌∷◌, flat_map}

abbrev pub doubled_byte : ℕ → List ℕ
doubled_byte b = if b == 255 then 255 ∷ 255 ∷ [] else b ∷ []

abbrev pub doubled : List ℕ → List ℕ
doubled bs = flat_map doubled_byte bs
