-- Slots in print.
use Rattle.std.specs.Prelude.{ℕ, List, [], ◌∷◌, codes, decimal}
use Rattle.std.specs.List.{concat}
use Rattle.lat_fields.specs.declared.params.Param.{Param}
use Rattle.lat_slots.specs.declared.slot.Slot.{Slot}
use Rattle.lat_slots.specs.declared.slot.Slot.TheVariants.{Start, DataA, DataB, Attention, Reject, Stop}
use Rattle.lat_text.specs.HexText.{byte_text, hex_text}
use Rattle.lat_text.specs.Line.{line}
use Rattle.lat_text.specs.NameText.{name_text}
use Rattle.lat_show.specs.ParamsPrinted.{params_printed}

-- the first word of a slot's line, and the ids that every slot has
unfoldable pub ends_printed : List ℕ → ℕ → ℕ → List ℕ
ends_printed word to from = concat (word ∷ codes " to " ∷ decimal to ∷ codes " from " ∷ decimal from ∷ [])

-- what the sender of a start takes
unfoldable pub sizes_printed : ℕ → ℕ → ℕ → List ℕ
sizes_printed credits attention size =
    concat (codes " credits " ∷ decimal credits ∷ codes " attention " ∷ decimal attention ∷ codes " size " ∷ decimal size ∷ [])

-- what a start asks for
unfoldable pub asked_printed : List ℕ → List ℕ → List Param → List ℕ
asked_printed service subject params =
    concat (codes " service " ∷ name_text service ∷ codes " subject " ∷ hex_text subject ∷ codes " params " ∷ params_printed params ∷ [])

-- a setting of the line
unfoldable pub setting_printed : ℕ → List ℕ → List ℕ
setting_printed flag chars = concat (codes " flag " ∷ byte_text flag ∷ codes " chars " ∷ hex_text chars ∷ [])

-- the line of a slot
abbrev pub slot_printed : Slot → List ℕ
slot_printed (Start to from credits attention size service subject params) =
    line (ends_printed (codes "start") to from ∷ sizes_printed credits attention size ∷ asked_printed service subject params ∷ [])
slot_printed (DataA to from credits bytes) =
    line (ends_printed (codes "data_a") to from
    ∷ codes " credits " ∷ decimal credits
    ∷ codes " bytes " ∷ hex_text bytes ∷ [])
slot_printed (DataB to from credits flag chars) =
    line (ends_printed (codes "data_b") to from
    ∷ codes " credits " ∷ decimal credits
    ∷ setting_printed flag chars ∷ [])
slot_printed (Attention to from flag) = line (ends_printed (codes "attention") to from ∷ codes " flag " ∷ byte_text flag ∷ [])
slot_printed (Reject to from reason) = line (ends_printed (codes "reject") to from ∷ codes " reason " ∷ decimal reason ∷ [])
slot_printed (Stop to from reason) = line (ends_printed (codes "stop") to from ∷ codes " reason " ∷ decimal reason ∷ [])
