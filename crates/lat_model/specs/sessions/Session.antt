-- A session keeps the slots that it formed and those that it heard; its state, its credits and its items are words
-- over these lists.
use Rattle.std.specs.Prelude.{ℕ, ◌+◌, ◌-◌, Bool, true, false, not, cond, ◌&&◌, ◌||◌, List, [], ◌∷◌, length, drop, Option, None, nat_lt, nat_le}
use Rattle.lat_model.specs.sessions.Slots.{Item, Slot, items_of, items, credits, costs, has_stop, starts, turned, starter}
use Rattle.lat_model.specs.Lists.{is_empty}

pub record Session : Type 0 where
  pub id : ℕ  -- this end's id; ids are used again, sessions are not
  pub generation : ℕ  -- the place of its asking start among all asks, from 1 on; 0 before that start is formed
  pub service : List ℕ
  pub request : Option ℕ
  pub accepted : Bool  -- true at the master; at the slave once it is answered
  pub rejects : Bool  -- at the slave: a reject goes out, or went out
  pub reason : ℕ  -- of that reject
  pub closed : Bool  -- close was called
  pub attention : Option ℕ  -- waits to be sent
  pub mark : Option ℕ  -- heard last
  pub put : List Item  -- all that was accepted
  pub out : List Slot  -- all slots that it formed
  pub came : List Slot  -- all slots that it heard
  pub taken : ℕ  -- how many heard items were taken

-- both ends have it
abbrev pub answered : Session → Bool
answered s = s.accepted && starts s.came

abbrev pub rejected : Session → Bool
rejected s = s.rejects || turned s.came

abbrev pub peer : Session → ℕ
peer s = starter s.came

-- both stops were formed and heard
abbrev pub stopped : Session → Bool
stopped s = has_stop s.out && has_stop s.came

-- free or left
abbrev pub gone : Session → Bool
gone s = rejected s || stopped s

abbrev pub free : Session → Bool
free s = rejected s || (stopped s && (s.closed || nat_le (length (items s.came)) s.taken))

-- live or closing
abbrev pub runs : Session → Bool
runs s = answered s && not (gone s)

-- calling or asked
abbrev pub waits : Session → Bool
waits s = not (answered s) && not (gone s)

-- a reject waits to be sent
abbrev pub rejecting : Session → Bool
rejecting s = s.rejects && is_empty s.out

pub data SessionState : Type 0 where
  Free : SessionState
  Calling : SessionState
  Asked : SessionState
  Live : SessionState
  Closing : SessionState
  Left : SessionState

abbrev pub state : Bool → Session → SessionState
state master s =
    cond (free s) Free
    (cond (gone s) Left
    (cond (answered s) (cond (s.closed || has_stop s.came) Closing Live)
    (cond master Calling Asked)))

-- items of `put` that stand in no slot yet; an end that heard a stop has none
abbrev pub unframed : Session → List Item
unframed s = cond (has_stop s.came) [] (drop (length (items s.out)) s.put)

-- credited slots heard of which an item is neither taken nor dropped
abbrev pub held_from : ℕ → List Slot → ℕ
held_from n [] = 0
held_from n (x ∷ xs) = cond (nat_lt n (length (items_of x))) 1 0 + held_from (n - length (items_of x)) xs

abbrev pub held_slots : Session → ℕ
held_slots s = cond s.closed 0 (held_from s.taken s.came)

-- given by this end less those used up, and the slots held
abbrev pub due : ℕ → Session → ℕ
due ceiling s = ceiling - ((credits s.out - costs s.came) + held_slots s)

abbrev pub put_open : Session → Bool
put_open s = s.accepted && not (gone s) && not s.closed && not (has_stop s.came)

abbrev pub take_open : Session → Bool
take_open s = s.accepted && not (free s) && not s.closed

-- no session at all
abbrev pub blank : Session
blank = record {
  id = 0;
  generation = 0;
  service = [];
  request = None;
  accepted = false;
  rejects = true;
  reason = 0;
  closed = false;
  attention = None;
  mark = None;
  put = [];
  out = [];
  came = [];
  taken = 0;
}
