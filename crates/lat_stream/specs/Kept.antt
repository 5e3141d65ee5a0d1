-- What is kept of a session, and the session that it stands for.
use Rattle.std.specs.Prelude.{ℕ, ◌-◌, Bool, not, cond, ◌&&◌, List, [], ◌∷◌, map, length, drop, min, Option, Some, None, nat_eq, nat_lt}
use Rattle.lat_base.specs.declared.item.Item as base_item
use Rattle.lat_base.specs.declared.item.Item.TheVariants as kept_items
use Rattle.lat_base.specs.declared.state.SessionState as base_state
use Rattle.lat_base.specs.declared.state.SessionState.TheVariants as kept_states
use Rattle.lat_base.specs.declared.state.SessionEnd.{SessionEnd}
use Rattle.lat_base.specs.declared.state.SessionEnd.TheVariants as ends
use Rattle.lat_credit.specs.Account as account
use Rattle.lat_model.specs.Lists.{is_empty}
use Rattle.lat_model.specs.sessions.Slots.{Item, Byte, Setting, Slot, Reject, items_of, items, credits, costs, has_stop, first_size}
use Rattle.lat_model.specs.sessions.Session.{Session, SessionState, Free, Calling, Asked, Live, Closing, Left, peer, rejected, gone, free, state, unframed, held_slots}
use Rattle.lat_stream.specs.declared.opening.Opening.{Opening}

pub record Kept : Type 0 where
  pub state : base_state.SessionState
  pub closed : Bool  -- close was called
  pub stop_formed : Bool
  pub stop_heard : Bool
  pub peer : ℕ  -- the peer's id, 0 where it isn't known
  pub size : ℕ  -- the greatest data slot that the peer takes
  pub start : Option Opening  -- its start, while that waits to be formed
  pub attention : Option ℕ  -- waits to be sent
  pub mark : Option ℕ  -- heard last
  pub credits : account.Kept
  pub given : ℕ  -- the credits given and used, up to the greatest number of 64 bits
  pub used : ℕ
  pub unframed : List base_item.Item
  pub heard : List base_item.Item  -- and not taken
  pub held : List ℕ  -- of each held slot, how many of its items aren't taken
  pub end : Option SessionEnd  -- how it ended; None while it isn't over, and before the first session

abbrev pub item_of : Item → base_item.Item
item_of (Byte b) = kept_items.Byte b
item_of (Setting t) = kept_items.Set t

abbrev pub item_shown : base_item.Item → Item
item_shown (kept_items.Byte b) = Byte b
item_shown (kept_items.Set t) = Setting t

abbrev pub state_of : SessionState → base_state.SessionState
state_of Free = kept_states.Free
state_of Calling = kept_states.Calling
state_of Asked = kept_states.Asked
state_of Live = kept_states.Live
state_of Closing = kept_states.Closing
state_of Left = kept_states.Left

-- a total as it is told: it stops at the greatest number of 64 bits
abbrev pub saturated : ℕ → ℕ
saturated n = min 18446744073709551615 n

-- of each slot with an item behind the first n, how many of its items stand there
abbrev pub left_in : ℕ → List Slot → List ℕ
left_in n [] = []
left_in n (x ∷ xs) =
    cond (nat_lt n (length (items_of x)))
    ((length (items_of x) - n) ∷ left_in (n - length (items_of x)) xs)
    (left_in (n - length (items_of x)) xs)

-- the reason of the reject that was sent or heard
abbrev pub reject_reason : Session → ℕ
reject_reason s = cond s.rejects s.reason (heard_reason s.came)
  where
    heard_reason : List Slot → ℕ
    heard_reason [] = 0
    heard_reason (Reject to from r ∷ xs) = r
    heard_reason (x ∷ xs) = 0

-- how it ended; None while it isn't over. No session has the id 0
abbrev pub end_of : Session → Option SessionEnd
end_of s =
    cond (nat_eq s.id 0) None
    (cond (rejected s) (Some (ends.Rejected (reject_reason s)))
    (cond (free s) (Some ends.Closed) None))

-- its start, while that waits to be formed
abbrev pub start_left : Session → Option Opening
start_left s = cond (is_empty s.out && not (gone s)) (Some (record { service = s.service; request = s.request })) None

abbrev pub credits_kept : ℕ → Session → account.Kept
credits_kept ceiling s = record {
  ceiling = ceiling;
  outstanding = credits s.out - costs s.came;
  held = held_slots s;
  unused = credits s.came - costs s.out;
}

-- what an end with this side and ceiling keeps of the session
abbrev pub stream_of : Bool → ℕ → Session → Kept
stream_of master ceiling s = record {
  state = state_of (state master s);
  closed = s.closed;
  stop_formed = has_stop s.out;
  stop_heard = has_stop s.came;
  peer = peer s;
  size = first_size s.came;
  start = start_left s;
  attention = s.attention;
  mark = s.mark;
  credits = credits_kept ceiling s;
  given = saturated (credits s.out);
  used = saturated (costs s.out);
  unframed = cond (rejected s) [] (map item_of (unframed s));
  heard = cond s.closed [] (map item_of (drop s.taken (items s.came)));
  held = cond s.closed [] (left_in s.taken s.came);
  end = end_of s;
}
