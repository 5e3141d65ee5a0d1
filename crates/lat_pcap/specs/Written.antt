-- What is written.
use Rattle.std.specs.Prelude.{ℕ, ◌+◌, ◌/◌, ◌%◌, List, ◌∷◌, ◌++◌, length}
use Rattle.lat_pcap.specs.declared.head.Order.TheVariants.{Little}
use Rattle.lat_pcap.specs.declared.head.Precision.TheVariants.{Micro}
use Rattle.lat_pcap.specs.Texts.{Raw, raw, head_text}

-- the header of a written file
abbrev pub written_head : List ℕ
written_head = head_text (record { order = Little; precision = Micro }) (record { zone = 0; accuracy = 0; snap = 65535 })

-- the record of a frame, captured at a moment in microseconds
abbrev pub written_raw : ℕ → List ℕ → List ℕ → List ℕ → Raw
written_raw moment to from payload = raw (moment / 1000000) (moment % 1000000) (length payload + 14) (to ++ (from ++ (96 ∷ 4 ∷ payload)))
