-- What is counted of the frames that one end sent the other.
use Rattle.std.specs.Prelude.{◌≡◌, ℕ, zero, suc, ◌+◌, ◌<◌, ◌≤◌, Bool, true, false, cond, ◌&&◌, ◌||◌, List, [], ◌∷◌, length, Option, Some, None, is_none, nat_eq, slice_get}
use Rattle.lat_wire.specs.declared.ledger.post.Sent.{Sent}
use Rattle.lat_wire.specs.declared.ledger.posts.Mark.{Mark}
use Rattle.lat_wire.specs.declared.ledger.posts.Way.{Way}
use Rattle.lat_wire.specs.declared.ledger.posts.Ways.{Ways}
use Rattle.lat_wire.specs.declared.ledger.row.PostRow.{PostRow}
use Rattle.lat_wire.specs.ledger.Posts.{PostView}

-- what is known of a frame, as it is told and as it is kept

abbrev pub mark_shown : Sent → Mark
mark_shown s = record { by_server = s.post.by_server; turn = s.turn; delivered = s.delivered }

abbrev pub mark_of : PostRow → Mark
mark_of r = record { by_server = r.by_server; turn = r.turn; delivered = r.delivered }

-- it is not to be delivered any more: it was, or it isn't for the other end
abbrev pub is_through : Mark → Bool
is_through m = m.delivered || is_none m.turn

-- all before this index are
abbrev pub AllThrough : List Mark → ℕ → Type 0
AllThrough marks next = (i : ℕ) (m : Mark) → i < next → slice_get marks i ≡ Some m → is_through m ≡ true

-- the index of the first one that is still to be delivered, or the number of all
pub record IsNext (marks : List Mark) (next : ℕ) : Type 0 where
  pub within : next ≤ length marks
  pub before : AllThrough marks next
  pub still : (m : Mark) → slice_get marks next ≡ Some m → is_through m ≡ false

-- the one of this index is delivered
abbrev pub marked : List Mark → ℕ → List Mark
marked [] i = []
marked (m ∷ ms) zero = record m { delivered = true } ∷ ms
marked (m ∷ ms) (suc i) = m ∷ marked ms i

abbrev pub side_of : Ways → Bool → Way
side_of w true = w.server
side_of w false = w.node

-- of neither side more came
pub record CameAtMost (n : ℕ) (w : Ways) : Type 0 where
  pub server : w.server.came ≤ n
  pub node : w.node.came ≤ n

-- one more was sent to the other end
abbrev pub turned : Bool → Ways → Ways
turned true w = record w { server = record { turns = w.server.turns + 1; came = w.server.came } }
turned false w = record w { node = record { turns = w.node.turns + 1; came = w.node.came } }

-- one more came; nothing was lost so far where it was its turn
abbrev pub come : Bool → ℕ → Ways → Ways
come true turn w = record w { server = record { turns = w.server.turns; came = w.server.came + 1 }; lossless = w.lossless && nat_eq w.server.came turn }
come false turn w = record w { node = record { turns = w.node.turns; came = w.node.came + 1 }; lossless = w.lossless && nat_eq w.node.came turn }

abbrev pub come_first : Bool → Option ℕ → Ways → Ways
come_first b None w = w
come_first b (Some turn) w = come b turn w

-- where the frame comes for the first time to the other end
abbrev pub come_behind : Mark → Ways → Ways
come_behind m w = cond m.delivered w (come_first m.by_server m.turn w)

pub record Log : Type 0 where
  pub posts : List PostView
  pub marks : List Mark
  pub ways : Ways

abbrev pub way_of : Log → Bool → Way
way_of k b = side_of k.ways b

-- with the room for so many more frames, and for so many more bytes of payloads
pub record Kept : Type 0 where
  pub log : Log
  pub reserved : ℕ
  pub bytes : ℕ
