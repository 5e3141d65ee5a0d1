-- What two ends keep whatever is lost, repeated or reordered, and which frames their number fields tell whole.
use Rattle.std.specs.Prelude.{◌≡◌, ℕ, suc, ◌+◌, ◌*◌, ◌%◌, ◌<◌, ◌≤◌, List, ◌∷◌, ◌++◌, length, Option, Some, None}
use Rattle.lat_model.specs.numbers.Link.{Link, Frame}
use Rattle.lat_model.specs.numbers.Near.{near}
use Rattle.lat_model.specs.numbers.Net.{Net, side}
use Rattle.lat_model.specs.Lists.{Each, IsPrefixOf}

-- the messages from a to b
pub record Way (M : Type 0) (a : Link M) (b : Link M) : Type 0 where
  pub known_taken : a.known ≤ length b.came
  pub window : length a.sent ≤ a.known + 8
  pub came_first : IsPrefixOf b.came a.sent
  pub shown_taken : a.shown ≤ length a.came
  pub known_shown : b.known ≤ a.shown

-- a message with its number
pub record Stands (M : Type 0) (sent : List M) (n : ℕ) (m : M) : Type 0 where
  pub front : List M
  pub back : List M
  pub parts : sent ≡ front ++ m ∷ back
  pub number : n ≡ suc (length front)

abbrev pub BodyIs : {M : Type 0} → List M → ℕ → Option M → Type 0
BodyIs {M} sent n None = Unit {0}
BodyIs {M} sent n (Some m) = Stands M sent n m

-- a frame of the end l
pub record FrameOf (M : Type 0) (l : Link M) (f : Frame M) : Type 0 where
  pub number : f.number ≤ length l.sent
  pub shown : f.acknowledgement ≤ l.shown
  pub body : BodyIs l.sent f.number f.body

pub record NetOk (M : Type 0) (w : Net M) : Type 0 where
  pub up : Way M w.master w.slave
  pub down : Way M w.slave w.master
  pub frames : Each (λ p. FrameOf M (side w p.by_master) p.frame) w.posts

-- less than r behind in both numbers, when it is heard
pub record Young (M : Type 0) (r : ℕ) (sender : Link M) (f : Frame M) : Type 0 where
  pub message : length sender.sent < f.number + r
  pub acknowledgement : sender.shown < f.acknowledgement + r

-- the frame as its two number fields tell it to the end l that hears it
abbrev pub as_bytes : {M : Type 0} → ℕ → Link M → Frame M → Frame M
as_bytes r l f = record {
  number = near (f.number % (2 * r)) (length l.came) r;
  acknowledgement = near (f.acknowledgement % (2 * r)) l.known r;
  body = f.body;
}
