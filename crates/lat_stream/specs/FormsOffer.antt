-- What a session does with the slot that it may form.
use Rattle.std.specs.Prelude.{◌≡◌, ℕ, Bool, not, ◌&&◌, List, ◌++◌}
use Rattle.lat_model.specs.Lists.{is_empty}
use Rattle.lat_model.specs.sessions.Session.{Session, rejecting}
use Rattle.lat_model.specs.sessions.Offers as offers
use Rattle.lat_model.specs.sessions.Packing.{formed}
use Rattle.lat_slots.specs.Layout.{slot_text}
use Rattle.lat_stream.specs.declared.forming.Formed.{Formed}
use Rattle.lat_stream.specs.declared.forming.Formed.TheVariants as formed
use Rattle.lat_stream.specs.Wire.{formed_as}
use Rattle.lat_stream.specs.Kept.{Kept, stream_of}

-- Nothing changes unless a slot is formed, whose text is then added to the payload
abbrev pub FormsOffer : Bool → ℕ → Session → offers.Offer → (old new : Kept) → (before after : List ℕ) → Formed → Type 0
FormsOffer master ceiling s offers.Nothing old new before after result = (result ≡ formed.Nothing) × (new ≡ old) × (after ≡ before)
FormsOffer master ceiling s offers.Unfit old new before after result = (result ≡ formed.Unfit) × (new ≡ old) × (after ≡ before)
FormsOffer master ceiling s (offers.Offers x) old new before after result =
    (result ≡ formed.Slot) × (new ≡ stream_of master ceiling (formed s x)) × (after ≡ before ++ slot_text (formed_as x))

-- it heard an ask and has to send its reject; these are formed apart, before any other slot
abbrev pub reject_due : Session → Bool
reject_due s = rejecting s && not (is_empty s.came)
