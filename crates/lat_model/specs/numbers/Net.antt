-- Two ends and all frames that they ever sent, which may come in any order, any number of times, or never.
use Rattle.std.specs.Prelude.{ℕ, Bool, true, false, not, cond, List, [], ◌∷◌, ◌++◌, Option, Some, None, slice_get}
use Rattle.lat_model.specs.numbers.Link.{Link, Frame, fresh, showing, form_message, formed_frame, bare_frame, again_frames, window_open, frame_in}

pub record Post (M : Type 0) : Type 0 where
  pub by_master : Bool
  pub frame : Frame M

pub record Net (M : Type 0) : Type 0 where
  pub master : Link M
  pub slave : Link M
  pub posts : List (Post M)

pub data Move (M : Type 0) : Type 0 where
  Forms : Bool → M → Move M  -- the end forms a message
  Repeats : Bool → Move M  -- it sends all unacknowledged ones again
  Acknowledges : Bool → Move M  -- it sends a frame without a message
  Comes : ℕ → Move M  -- the frame of this index is heard by the end that did not send it

abbrev pub post_all : {M : Type 0} → Bool → List (Frame M) → List (Post M)
post_all b [] = []
post_all b (f ∷ fs) = record { by_master = b; frame = f } ∷ post_all b fs

abbrev pub with_link : {M : Type 0} → Net M → Bool → Link M → List (Frame M) → Net M
with_link w true l fs = record { master = l; slave = w.slave; posts = w.posts ++ post_all true fs }
with_link w false l fs = record { master = w.master; slave = l; posts = w.posts ++ post_all false fs }

abbrev pub side : {M : Type 0} → Net M → Bool → Link M
side w true = w.master
side w false = w.slave

abbrev pub comes : {M : Type 0} → Net M → Option (Post M) → Net M
comes w None = w
comes w (Some p) = with_link w (not p.by_master) (frame_in (side w (not p.by_master)) p.frame) []

abbrev pub moves : {M : Type 0} → Net M → Move M → Net M
moves w (Forms b m) =
    cond (window_open 8 (side w b)) (with_link w b (form_message (side w b) m) (formed_frame (side w b) m ∷ [])) w
moves w (Repeats b) = with_link w b (showing (side w b)) (again_frames (side w b))
moves w (Acknowledges b) = with_link w b (showing (side w b)) (bare_frame (side w b) ∷ [])
moves w (Comes k) = comes w (slice_get w.posts k)

abbrev pub run_net : {M : Type 0} → List (Move M) → Net M → Net M
run_net [] w = w
run_net (e ∷ es) w = run_net es (moves w e)

abbrev pub start_net : {M : Type 0} → Net M
start_net {M} = record { master = fresh; slave = fresh; posts = [] }
