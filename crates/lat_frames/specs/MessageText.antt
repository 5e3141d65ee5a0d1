-- The texts of a circuit message. Where a field isn't kept, any value may stand.
use Rattle.std.specs.Prelude.{◌≡◌, ℕ, ◌<◌, Bool, List, [], ◌∷◌, ◌++◌, length}
use Rattle.lat_fields.specs.Texts.{number, counted}
use Rattle.lat_fields.specs.Params.{params_text}
use Rattle.lat_slots.specs.declared.slot.Slot.{Slot}
use Rattle.lat_slots.specs.Layout.{SlotText}
use Rattle.lat_frames.specs.declared.kind.MessageKind.TheVariants as kinds
use Rattle.lat_frames.specs.declared.message.Head.{Head}
use Rattle.lat_frames.specs.declared.message.WideHead.{WideHead}
use Rattle.lat_frames.specs.declared.message.Limits.{Limits}
use Rattle.lat_frames.specs.declared.message.StartInfo.{StartInfo}
use Rattle.lat_frames.specs.declared.message.Message.{Message}
use Rattle.lat_frames.specs.declared.message.Message.TheVariants.{Run, Wide, Start, Stop}
use Rattle.lat_frames.specs.Heads.{head_text, run_head, wide_head}
use Rattle.lat_frames.specs.Conditions.{DestinationFits, InfoFits}

-- a text of each slot, one behind the other
abbrev pub SlotsText : List Slot → List ℕ → Type 0
SlotsText [] b = b ≡ []
SlotsText (s ∷ more) b =
    (text : List ℕ) × (rest : List ℕ) × (b ≡ text ++ rest) × SlotText s text × SlotsText more rest

-- what the sender of a START can do, with the times of the circuit
abbrev pub limits : StartInfo → Limits
limits i = record { size = i.size; eco = i.eco; sessions = i.sessions; extra = i.extra; timer = i.timer; keepalive = i.keepalive }

-- the twelve bytes of numbers that a START tells of its sender; the protocol version is 5
abbrev pub numbers_text : Limits → (facility product product_version : ℕ) → List ℕ
numbers_text l facility product product_version =
    number l.size
    ++ 5 ∷ l.eco ∷ l.sessions ∷ l.extra ∷ l.timer ∷ l.keepalive ∷ number facility
    ++ product ∷ product_version ∷ []

-- what a START tells of its sender
abbrev pub info_text : StartInfo → List ℕ
info_text i =
    numbers_text (limits i) i.facility i.product i.product_version
    ++ (counted i.slave ++ (counted i.name ++ (counted i.location ++ params_text i.params)))

pub record RunText (head : Head) (slots : List Slot) (b : List ℕ) : Type 0 where
  pub destination : 0 < head.to
  pub source : 0 < head.from
  pub count : length slots < 256
  pub body : List ℕ
  pub texts : SlotsText slots body
  pub is : b ≡ run_head head (length slots) ++ body

pub record WideText (head : WideHead) (slots : List Slot) (b : List ℕ) : Type 0 where
  pub destination : 0 < head.to
  pub source : 0 < head.from
  pub count : length slots < 256
  pub body : List ℕ
  pub texts : SlotsText slots body
  pub is : b ≡ wide_head head (length slots) ++ body

-- the number of slots and the two message numbers aren't kept
pub record StartText (master ask : Bool) (to from : ℕ) (info : StartInfo) (b : List ℕ) : Type 0 where
  pub destination : DestinationFits master to
  pub source : 0 < from
  pub fits : InfoFits master info
  pub slots : ℕ
  pub seq : ℕ
  pub ack : ℕ
  pub is : b ≡ head_text kinds.Start master ask slots to from (seq ∷ ack ∷ []) ++ info_text info

-- the number of slots and the two message numbers aren't kept
pub record StopText (master ask : Bool) (to from reason : ℕ) (text : List ℕ) (b : List ℕ) : Type 0 where
  pub destination : 0 < to
  pub short : length text < 256
  pub slots : ℕ
  pub seq : ℕ
  pub ack : ℕ
  pub is : b ≡ head_text kinds.Stop master ask slots to from (seq ∷ ack ∷ []) ++ reason ∷ counted text

-- b is a text of the message
abbrev pub MessageText : Message → List ℕ → Type 0
MessageText (Run head slots) b = RunText head slots b
MessageText (Wide head slots) b = WideText head slots b
MessageText (Start master ask to from info) b = StartText master ask to from info b
MessageText (Stop master ask to from reason text) b = StopText master ask to from reason text b
