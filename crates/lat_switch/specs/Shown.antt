-- What a line shows of a session x, and what is typed on it: the items that takes gave while it was shown, and the bytes that
-- puts consumed while it was shown.
use Rattle.std.specs.Prelude.{◌≡◌, ℕ, Bool, not, cond, ◌&&◌, List, [], ◌∷◌, ◌++◌, map, take, nat_eq}
use Rattle.lat_base.specs.declared.answer.Answer.{Answer}
use Rattle.lat_base.specs.declared.answer.Answer.TheVariants as answers
use Rattle.lat_base.specs.declared.event.Event.{Event}
use Rattle.lat_base.specs.declared.event.Event.TheVariants as events
use Rattle.lat_base.specs.declared.item.Item.{Item}
use Rattle.lat_model.specs.sessions.Slots as model
use Rattle.lat_machines.specs.cores.Cores.{Seat}
use Rattle.lat_machines.specs.cores.Lines.{session_of, seat_at}
use Rattle.lat_laws.specs.rounds.Seated.{IsSeat}
use Rattle.lat_laws.specs.tales.Items.{taken_of}
use Rattle.lat_stream.specs.Kept.{item_of}
use Rattle.lat_switch.specs.declared.config.SwitchConfig.{SwitchConfig}
use Rattle.lat_switch.specs.Switch.{Switch, line_on}
use Rattle.lat_switch.specs.Pieces.{is_key}
use Rattle.lat_switch.specs.Reading.{accepted}
use Rattle.lat_switch.specs.Core.{next, answered}
use Rattle.lat_switch.specs.Runs.{switch_run}
use Rattle.lat_switch.specs.Config.{IsConfig, open_switch}

-- one session: a circuit gives each of its sessions a serial number
abbrev pub is_same : Seat → Seat → Bool
is_same s t = nat_eq s.circuit t.circuit && nat_eq s.serial t.serial

-- a line shows a session: the newest one of its shown inner line
abbrev pub is_shown : Seat → ℕ → Switch → Bool
is_shown x k s = is_same (seat_at s.inner.state.core (line_on k s).shown) x

abbrev pub items_in : Answer → List Item
items_in (answers.Took items) = items
items_in _ = []

-- the items that an event gives of a session: those of a take on a line that shows it
abbrev pub gives : Seat → Switch → Event → List Item
gives x s (events.Take k n) = cond (is_shown x k s) (items_in (answered s (events.Take k n))) []
gives x s _ = []

-- those that events give, in order
abbrev pub given : Seat → Switch → List Event → List Item
given x s [] = []
given x s (e ∷ es) = gives x s e ++ given x (next s e) es

-- What a session gets of one byte of a put, behind the bytes of `before`. A byte that is no key goes to the session that the
-- line shows once the bytes before it have been put
abbrev pub byte_for : Seat → ℕ → Switch → (before : List ℕ) → ℕ → List ℕ
byte_for x k s before b = cond (not (is_key b) && is_shown x k (next s (events.Put k before))) (b ∷ []) []

-- and of more bytes, in order
abbrev pub bytes_for : Seat → ℕ → Switch → (before bytes : List ℕ) → List ℕ
bytes_for x k s before [] = []
bytes_for x k s before (b ∷ bs) = byte_for x k s before b ++ bytes_for x k s (before ++ b ∷ []) bs

-- the bytes of a put that are consumed: as many as its answer says
abbrev pub consumed : Switch → ℕ → List ℕ → List ℕ
consumed s k bytes = take (accepted (answered s (events.Put k bytes))) bytes

-- the bytes that a session gets of an event: of those that a put consumes
abbrev pub receives : Seat → Switch → Event → List ℕ
receives x s (events.Put k bytes) = bytes_for x k s [] (consumed s k bytes)
receives x s _ = []

-- those that it gets of events, in order
abbrev pub received : Seat → Switch → List Event → List ℕ
received x s [] = []
received x s (e ∷ es) = receives x s e ++ received x (next s e) es

-- the bytes among items
abbrev pub bytes_in : List model.Item → List ℕ
bytes_in [] = []
bytes_in (model.Byte b ∷ items) = b ∷ bytes_in items
bytes_in (model.Setting t ∷ items) = bytes_in items

-- what was given of a session is what was taken of it, and the bytes that it got are those that were put on it
pub record IsInOrder (s : Switch) (es : List Event) (x : Seat) : Type 0 where
  pub taken : given x s es ≡ map item_of (taken_of (session_of (switch_run s es).inner.state.core x))
  pub put : received x s es ≡ bytes_in (session_of (switch_run s es).inner.state.core x).put

-- whatever a switch is told, of each session that it ever had
abbrev pub ShownInOrder : Type 0
ShownInOrder =
    (config : SwitchConfig) (es : List Event) (x : Seat) →
    IsConfig config →
    IsSeat x (switch_run (open_switch config) es).inner.state.core.seats →
    IsInOrder (open_switch config) es x
