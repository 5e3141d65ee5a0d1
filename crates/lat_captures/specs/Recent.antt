-- The last messages of one end.
use Rattle.std.specs.Prelude.{ℕ, ◌-◌, Bool, false, cond, List, [], ◌∷◌, ◌++◌, length, take, drop, nat_le, nat_lt, get_or}
use Rattle.std.specs.Str.{bytes_eq}
use Rattle.lat_captures.specs.declared.slot.OwnedSlot.{OwnedSlot}

-- a message that was sent: the text of its slots, and its slots with their sessions
pub record Message : Type 0 where
  pub text : List ℕ
  pub slots : List OwnedSlot

abbrev pub no_message : Message
no_message = record { text = []; slots = [] }

abbrev pub last_eight : {X : Type 0} → List X → List X
last_eight xs = drop (length xs - 8) xs

-- one more; of eight the first goes
abbrev pub pushed : {X : Type 0} → List X → X → List X
pushed xs x = cond (nat_le 8 (length xs)) (drop 1 xs) xs ++ x ∷ []

abbrev pub has_text : List ℕ → Message → Bool
has_text text m = bytes_eq m.text text

-- whether the message that stands so far before the last one has this text
abbrev pub has_back : List Message → ℕ → List ℕ → Bool
has_back ms back text = cond (nat_lt back (length ms)) (has_text text (get_or ms (length ms - 1 - back) no_message)) false

-- those from one place up to another
abbrev pub between : {X : Type 0} → List X → ℕ → ℕ → List X
between xs from to = drop from (take to xs)
