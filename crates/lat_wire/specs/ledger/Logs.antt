-- Whether a log is that of two machines.
use Rattle.std.specs.Prelude.{◌≡◌, ℕ, ◌<◌, ◌↔◌, Bool, cond, List, length, take, Option, Some, None, slice_get, IsTrue}
use Rattle.lat_model.specs.Lists.{Each}
use Rattle.lat_machines.specs.world.Machines.{Setups, Posted, is_for_other}
use Rattle.lat_laws.specs.rounds.Lossless.{is_in, sent_from}
use Rattle.lat_wire.specs.declared.ledger.post.Sent.{Sent}
use Rattle.lat_wire.specs.ledger.Lossless.{came_in, LosslessIn}
use Rattle.lat_wire.specs.declared.ledger.posts.Mark.{Mark}
use Rattle.lat_wire.specs.ledger.Posts.{post_shown}
use Rattle.lat_wire.specs.ledger.Ways.{Log, mark_shown, way_of}

-- the place of a frame among those that its sender sent the other end, or everyone, behind these
abbrev pub turn_of : Setups → List Posted → Posted → Option ℕ
turn_of u before p = cond (is_for_other u p) (Some (length (sent_from u p.by_server 0 before))) None

-- what is known of the frame of an index
pub record IsMarked (u : Setups) (posts : List Posted) (done : List ℕ) (i : ℕ) (m : Mark) (p : Posted) : Type 0 where
  pub by_server : m.by_server ≡ p.by_server
  pub turn : m.turn ≡ turn_of u (take i posts) p
  pub delivered : m.delivered ≡ is_in i done

-- the log is that of two machines of which these frames were sent, and these indices delivered, in order
pub record IsLog (u : Setups) (k : Log) (posts : List Posted) (delivered : List ℕ) : Type 0 where
  pub count : length k.marks ≡ length posts
  pub each :
      (i : ℕ) (m : Mark) (p : Posted) →
      slice_get k.marks i ≡ Some m →
      slice_get posts i ≡ Some p →
      IsMarked u posts delivered i m p
  pub within : Each (λ i. i < length posts) delivered
  pub turns : (b : Bool) → (way_of k b).turns ≡ length (sent_from u b 0 posts)
  pub came : (b : Bool) → (way_of k b).came ≡ length (came_in u b posts delivered)
  pub lossless : IsTrue k.ways.lossless ↔ LosslessIn u posts delivered

-- the frame of an index, with what is known of it
pub record IsAt (k : Log) (i : ℕ) (s : Sent) : Type 0 where
  pub post : slice_get k.posts i ≡ Some (post_shown s.post)
  pub mark : slice_get k.marks i ≡ Some (mark_shown s)
