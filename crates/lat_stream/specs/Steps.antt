-- What calls and slots do to what is kept.
use Rattle.std.specs.Prelude.{ℕ, suc, ◌+◌, ◌-◌, Bool, true, false, not, cond, ◌&&◌, ◌||◌, List, [], ◌∷◌, ◌++◌, length, drop, Some, None, nat_lt, nat_le}
use Rattle.lat_base.specs.declared.item.Item as base_item
use Rattle.lat_base.specs.declared.state.SessionState.{SessionState}
use Rattle.lat_base.specs.declared.state.SessionState.TheVariants.{Free, Calling, Asked, Live, Closing, Left}
use Rattle.lat_base.specs.declared.state.SessionEnd.TheVariants as ends
use Rattle.lat_model.specs.Lists.{is_empty}
use Rattle.lat_stream.specs.Kept.{Kept}

-- items are put in these states
abbrev pub puts_in : SessionState → Bool
puts_in Calling = true
puts_in Live = true
puts_in s = false

-- items are taken in these
abbrev pub takes_in : SessionState → Bool
takes_in Free = false
takes_in Asked = false
takes_in s = true

-- both ends have it
abbrev pub runs_in : SessionState → Bool
runs_in Live = true
runs_in Closing = true
runs_in s = false

abbrev pub is_left : SessionState → Bool
is_left Left = true
is_left s = false

abbrev pub can_put : Kept → Bool
can_put k = puts_in k.state && not k.closed

abbrev pub can_take : Kept → Bool
can_take k = takes_in k.state && not k.closed

-- data, an attention or a stop is heard
abbrev pub can_hear : Kept → Bool
can_hear k = runs_in k.state && not k.stop_heard

-- of each held slot how many of its items aren't taken, once n more are taken
abbrev pub still_held : ℕ → List ℕ → List ℕ
still_held n [] = []
still_held n (k ∷ ks) = cond (nat_lt n k) ((k - n) ∷ ks) (still_held (n - k) ks)

abbrev pub ended : Kept → Kept
ended k = record k { state = Free; end = Some ends.Closed }

-- a session that is left ends when nothing is to be taken
abbrev pub ended_if_done : Kept → Kept
ended_if_done k = cond (is_left k.state && is_empty k.heard) (ended k) k

-- n heard items are taken
abbrev pub took : ℕ → Kept → Kept
took n k = ended_if_done (record k {
  heard = drop n k.heard;
  held = still_held n k.held;
  credits = record k.credits { held = length (still_held n k.held) };
})

-- a session that runs, once both ends have it
abbrev pub state_running : (closed stop_heard : Bool) → SessionState
state_running closed stop_heard = cond (closed || stop_heard) Closing Live

abbrev pub state_closed : SessionState → SessionState
state_closed Live = Closing
state_closed s = s

-- close drops the heard items
abbrev pub closed : Kept → Kept
closed k = ended_if_done (record k {
  state = state_closed k.state;
  closed = true;
  heard = [];
  held = [];
  credits = record k.credits { held = 0 };
})

-- it is rejected
abbrev pub rejected_for : ℕ → Kept → Kept
rejected_for reason k = record k { state = Free; start = None; unframed = []; end = Some (ends.Rejected reason) }

-- a slot with n items came, for a credit; it is held unless the session closed
abbrev pub held_more : ℕ → Kept → Kept
held_more n k = record k {
  credits = record k.credits {
    outstanding = k.credits.outstanding - 1;
    held = cond k.closed k.credits.held (suc k.credits.held);
  };
  held = cond k.closed k.held (k.held ++ n ∷ []);
}

-- with these items, which are dropped where it closed
abbrev pub kept_more : List base_item.Item → Kept → Kept
kept_more xs k = record k { heard = cond k.closed k.heard (k.heard ++ xs) }

-- credits are granted
abbrev pub granted : ℕ → Kept → Kept
granted n k = record k { credits = record k.credits { unused = k.credits.unused + n } }

-- a data slot with items may come: a credit is outstanding, and the n credits that it brings are not too many
abbrev pub can_pay : ℕ → Kept → Bool
can_pay n k = nat_lt 0 k.credits.outstanding && nat_le (k.credits.unused + n) 255

-- a session that heard the peer's stop sends no more items
abbrev pub silent : Kept → Kept
silent k = ended_if_done (record k { state = cond k.stop_formed Left Closing; unframed = [] })

abbrev pub stop_in : Kept → Kept
stop_in k = silent (record k { stop_heard = true })
