-- Items, slots, and what a list of slots adds up to.
use Rattle.std.specs.Prelude.{ℕ, zero, ◌+◌, ◌%◌, Bool, true, false, ◌||◌, List, [], ◌∷◌, ◌++◌, map, length, Option, Some, None}

-- what a user puts and takes: a byte, or a setting of five bytes
pub data Item : Type 0 where
  Byte : ℕ → Item
  Setting : List ℕ → Item

-- a slot as it goes over the wire. A start with the destination 0 asks, another one replies
pub data Slot : Type 0 where
  Start : (to from credits size : ℕ) (service : List ℕ) (request : Option ℕ) → Slot
  DataA : (to from credits : ℕ) (bytes : List ℕ) → Slot
  DataB : (to from credits : ℕ) (setting : List ℕ) → Slot
  Attention : (to from flag : ℕ) → Slot
  Reject : (to from reason : ℕ) → Slot
  Stop : (to from reason : ℕ) → Slot

abbrev pub destination : Slot → ℕ
destination (Start to from c size service request) = to
destination (DataA to from c bytes) = to
destination (DataB to from c setting) = to
destination (Attention to from flag) = to
destination (Reject to from reason) = to
destination (Stop to from reason) = to

abbrev pub source : Slot → ℕ
source (Start to from c size service request) = from
source (DataA to from c bytes) = from
source (DataB to from c setting) = from
source (Attention to from flag) = from
source (Reject to from reason) = from
source (Stop to from reason) = from

-- the credits that a slot gives
abbrev pub credits_of : Slot → ℕ
credits_of (Start to from c size service request) = c
credits_of (DataA to from c bytes) = c
credits_of (DataB to from c setting) = c
credits_of (Attention to from flag) = 0
credits_of (Reject to from reason) = 0
credits_of (Stop to from reason) = 0

-- the credits that a slot costs: 1 for a data slot with at least one item
abbrev pub cost_of : Slot → ℕ
cost_of (Start to from c size service request) = 0
cost_of (DataA to from c []) = 0
cost_of (DataA to from c (b ∷ bs)) = 1
cost_of (DataB to from c setting) = 1
cost_of (Attention to from flag) = 0
cost_of (Reject to from reason) = 0
cost_of (Stop to from reason) = 0

abbrev pub items_of : Slot → List Item
items_of (Start to from c size service request) = []
items_of (DataA to from c bytes) = map Byte bytes
items_of (DataB to from c setting) = Setting setting ∷ []
items_of (Attention to from flag) = []
items_of (Reject to from reason) = []
items_of (Stop to from reason) = []

abbrev pub is_start : Slot → Bool
is_start (Start to from c size service request) = true
is_start _ = false

-- asks for a session
abbrev pub is_ask : Slot → Bool
is_ask (Start zero from c size service request) = true
is_ask _ = false

abbrev pub is_reject : Slot → Bool
is_reject (Reject to from reason) = true
is_reject _ = false

abbrev pub is_stop : Slot → Bool
is_stop (Stop to from reason) = true
is_stop _ = false

abbrev pub is_attention : Slot → Bool
is_attention (Attention to from flag) = true
is_attention _ = false

-- the greatest number of bytes in a DataA that the sender of this start takes
abbrev pub size_of : Slot → ℕ
size_of (Start to from c size service request) = size
size_of _ = 0

-- the flag of an attention, or the one before
abbrev pub mark_after : Option ℕ → Slot → Option ℕ
mark_after m (Attention to from flag) = Some flag
mark_after m _ = m

-- lists of slots, in order
abbrev pub items : List Slot → List Item
items [] = []
items (x ∷ xs) = items_of x ++ items xs

abbrev pub credits : List Slot → ℕ
credits [] = 0
credits (x ∷ xs) = credits_of x + credits xs

abbrev pub costs : List Slot → ℕ
costs [] = 0
costs (x ∷ xs) = cost_of x + costs xs

abbrev pub has_stop : List Slot → Bool
has_stop [] = false
has_stop (x ∷ xs) = is_stop x || has_stop xs

-- the first slot is a start, or a reject
abbrev pub starts : List Slot → Bool
starts [] = false
starts (x ∷ xs) = is_start x

abbrev pub turned : List Slot → Bool
turned [] = false
turned (x ∷ xs) = is_reject x

-- who sent the start that stands first; 0 where none does
abbrev pub starter : List Slot → ℕ
starter [] = 0
starter (Start to from c size service request ∷ xs) = from
starter (x ∷ xs) = 0

abbrev pub first_size : List Slot → ℕ
first_size [] = 0
first_size (x ∷ xs) = size_of x

-- the length of a slot's text, with the pad that makes it even
abbrev pub even_up : ℕ → ℕ
even_up n = n + n % 2

abbrev pub params_len : Option ℕ → ℕ
params_len None = 1
params_len (Some id) = 5

abbrev pub slot_len : Slot → ℕ
slot_len (Start to from c size service request) = even_up (9 + length service + params_len request)
slot_len (DataA to from c bytes) = even_up (4 + length bytes)
slot_len (DataB to from c setting) = 10
slot_len (Attention to from flag) = 6
slot_len (Reject to from reason) = 4
slot_len (Stop to from reason) = 4
