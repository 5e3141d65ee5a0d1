-- Each move keeps what is known of two ends, their messages and their frames.
use Rattle.std.proofs.Common.{length-take-le, le_trans, le_refl, ◌≡◌, ℕ, zero, suc, ◌+◌, ◌*◌, ◌%◌, ◌<◌, ◌≤◌, sym, ap, ◌∙◌, refl, subst, arith, Bool, true, false, not, cond, List, [], ◌∷◌, ◌++◌, length, drop, take, Option, Some, None, nat_lt, slice_get, length-append, append_assoc, append-nil, eqb-true, ltb-true, take-append-drop}
use Rattle.lat_model.specs.numbers.Link.{Link, Frame, fresh, showing, form_message, formed_frame, bare_frame, frames_from, again_frames, window_open, frame_in, body_in, ack_in, is_next, take_message}
use Rattle.lat_model.specs.numbers.Net.{Post, Net, Move, Forms, Repeats, Acknowledges, Comes, post_all, with_link, side, comes, moves, run_net, start_net}
use Rattle.lat_model.specs.Lists.{Each, IsPrefixOf}
use Rattle.lat_model.specs.numbers.NetOk.{Way, Stands, BodyIs, FrameOf, NetOk, Young, as_bytes}
use Rattle.lat_model.specs.numbers.Near.{near}
use Rattle.lat_model.proofs.numbers.Nears.{near_found}

-- lists

pub each_imp : {X : Type 0} (P Q : X → Type 0) → ((x : X) → P x → Q x) → (xs : List X) → Each P xs → Each Q xs
each_imp P Q h [] e = tt
each_imp P Q h (x ∷ xs) e = (h x e.0, each_imp P Q h xs e.1)

pub each_append : {X : Type 0} (P : X → Type 0) → (xs ys : List X) → Each P xs → Each P ys → Each P (xs ++ ys)
each_append P [] ys e f = f
each_append P (x ∷ xs) ys e f = (e.0, each_append P xs ys e.1 f)

pub each_at : {X : Type 0} (P : X → Type 0) → (xs : List X) (k : ℕ) (x : X) → Each P xs → slice_get xs k ≡ Some x → P x
each_at P [] k x e h = cc
each_at P (y ∷ ys) zero x e h = let q : y ≡ x = cc in subst P q e.0
each_at P (y ∷ ys) (suc k) x e h = each_at P ys k x e.1 h

-- two fronts of one length
pub same_front : {X : Type 0} (a b c d : List X) → a ++ b ≡ c ++ d → length a ≡ length c → (a ≡ c) × (b ≡ d)
same_front [] b [] d e l = (refl, e)
same_front [] b (y ∷ c) d e l = absurd (omega arith)
same_front (x ∷ a) b [] d e l = absurd (omega arith)
same_front (x ∷ a) b (y ∷ c) d e l =
    let r : (a ≡ c) × (b ≡ d) = same_front a b c d (cc) (omega arith) in
    let h : x ≡ y = cc in
    (cc (r.0, h), r.1)

-- an end goes on: it forms messages and shows what it took, and takes nothing back
pub record Grows (M : Type 0) (l : Link M) (k : Link M) : Type 0 where
  pub sent : IsPrefixOf l.sent k.sent
  pub shown : l.shown ≤ k.shown

pub grows_same : {M : Type 0} (l k : Link M) → k.sent ≡ l.sent → l.shown ≤ k.shown → Grows M l k
grows_same l k e h = record { sent = ([], append-nil l.sent ∙ sym e); shown = h }

stands_grows : {M : Type 0} (xs ys : List M) (n : ℕ) (m : M) → IsPrefixOf xs ys → Stands M xs n m → Stands M ys n m
stands_grows xs ys n m g s = record {
  front = s.front;
  back = s.back ++ g.0;
  parts = sym g.1 ∙ ap (λ z. z ++ g.0) s.parts ∙ append_assoc s.front (m ∷ s.back) g.0;
  number = s.number;
}

body_grows : {M : Type 0} (xs ys : List M) (n : ℕ) (m : Option M) → IsPrefixOf xs ys → BodyIs xs n m → BodyIs ys n m
body_grows xs ys n None g b = tt
body_grows xs ys n (Some m) g b = stands_grows xs ys n m g b

pub prefix_length : {M : Type 0} (xs ys : List M) → IsPrefixOf xs ys → length xs ≤ length ys
prefix_length xs ys g = omega (arith, length-append xs g.0, ap length g.1)

pub frame_grows : {M : Type 0} (l k : Link M) (f : Frame M) → Grows M l k → FrameOf M l f → FrameOf M k f
frame_grows l k f g o =
    let p : length l.sent ≤ length k.sent = prefix_length l.sent k.sent g.sent in
    record {
      number = le_trans o.number p;
      shown = le_trans o.shown g.shown;
      body = body_grows l.sent k.sent f.number f.body g.sent o.body;
    }

-- each repeated frame bears its message
pub again_ok : {M : Type 0} (l : Link M) (a : ℕ) → a ≤ l.shown → (k : ℕ) (front ms : List M) → l.sent ≡ front ++ ms → length front ≡ k → Each (FrameOf M l) (frames_from k a ms)
again_ok l a h k front [] e n = tt
again_ok l a h k front (m ∷ ms) e n =
    let s : length l.sent ≡ length front + suc (length ms) = ap length e ∙ length-append front (m ∷ ms) in (
      record { number = omega arith; shown = h; body = record { front = front; back = ms; parts = e; number = omega arith } },
      again_ok l a h (suc k) (front ++ m ∷ []) ms (e ∙ sym (append_assoc front (m ∷ []) ms)) (length-append front (m ∷ []) ∙ (omega arith)),
    )

-- what a move of one end keeps of both directions

pub form_own : {M : Type 0} (a b : Link M) (m : M) → length a.sent < a.known + 8 → Way M a b → Way M (form_message a m) b
form_own a b m h w = record {
  known_taken = w.known_taken;
  window = omega (arith, length-append a.sent (m ∷ []));
  came_first = (w.came_first.0 ++ m ∷ [], sym (append_assoc b.came w.came_first.0 (m ∷ [])) ∙ ap (λ z. z ++ m ∷ []) w.came_first.1);
  shown_taken = le_refl _;
  known_shown = le_trans w.known_shown w.shown_taken;
}

pub form_other : {M : Type 0} (a b : Link M) (m : M) → Way M b a → Way M b (form_message a m)
form_other a b m w = record { known_taken = w.known_taken; window = w.window; came_first = w.came_first; shown_taken = w.shown_taken; known_shown = w.known_shown }

pub show_own : {M : Type 0} (a b : Link M) → Way M a b → Way M (showing a) b
show_own a b w = record { known_taken = w.known_taken; window = w.window; came_first = w.came_first; shown_taken = le_refl _; known_shown = le_trans w.known_shown w.shown_taken }

pub show_other : {M : Type 0} (a b : Link M) → Way M b a → Way M b (showing a)
show_other a b w = record { known_taken = w.known_taken; window = w.window; came_first = w.came_first; shown_taken = w.shown_taken; known_shown = w.known_shown }

-- hearing an acknowledgement that the sender showed
pub ack_to : {M : Type 0} (a b : Link M) (n : ℕ) → n ≤ a.shown → Way M a b → Way M a (ack_in b n)
ack_to {M} a b n h w = go (nat_lt b.known n) refl
  where
    go : (t : Bool) → nat_lt b.known n ≡ t → Way M a (record b { known = cond t n b.known })
    go true e = record { known_taken = w.known_taken; window = w.window; came_first = w.came_first; shown_taken = w.shown_taken; known_shown = h }
    go false e = w

pub ack_from : {M : Type 0} (a b : Link M) (n : ℕ) → n ≤ a.shown → Way M a b → Way M b a → Way M (ack_in b n) a
ack_from {M} a b n h w v = go (nat_lt b.known n) refl
  where
    go : (t : Bool) → nat_lt b.known n ≡ t → Way M (record b { known = cond t n b.known }) a
    go true e = record { known_taken = le_trans h w.shown_taken; window = omega (arith, v.window, ltb-true b.known n e); came_first = v.came_first; shown_taken = v.shown_taken; known_shown = v.known_shown }
    go false e = v

-- taking the next message
pub take_to : {M : Type 0} (a b : Link M) (m : M) → Stands M a.sent (suc (length b.came)) m → Way M a b → Way M a (take_message b m)
take_to a b m s w =
    let q : (b.came ≡ s.front) × (w.came_first.0 ≡ m ∷ s.back) = same_front b.came w.came_first.0 s.front (m ∷ s.back) (w.came_first.1 ∙ s.parts) (omega (arith, s.number)) in
    record {
      known_taken = omega (arith, w.known_taken, length-append b.came (m ∷ []));
      window = w.window;
      came_first = (s.back, append_assoc b.came (m ∷ []) s.back ∙ ap (λ z. b.came ++ z) (sym q.1) ∙ w.came_first.1);
      shown_taken = w.shown_taken;
      known_shown = w.known_shown;
    }

pub take_from : {M : Type 0} (a b : Link M) (m : M) → Way M b a → Way M (take_message b m) a
take_from a b m v = record {
  known_taken = v.known_taken;
  window = v.window;
  came_first = v.came_first;
  shown_taken = omega (arith, v.shown_taken, length-append b.came (m ∷ []));
  known_shown = v.known_shown;
}

body_to : {M : Type 0} (a b : Link M) (n : ℕ) (o : Option M) → BodyIs a.sent n o → Way M a b → Way M a (body_in b n o)
body_to a b n None s w = w
body_to {M} a b n (Some m) s w = go (is_next b n) refl
  where
    go : (t : Bool) → is_next b n ≡ t → Way M a (cond t (take_message b m) b)
    go true e = take_to a b m (subst (λ z. Stands M a.sent z m) (eqb-true n (suc (length b.came)) e) s) w
    go false e = w

body_from : {M : Type 0} (a b : Link M) (n : ℕ) (o : Option M) → Way M b a → Way M (body_in b n o) a
body_from a b n None v = v
body_from {M} a b n (Some m) v = go (is_next b n)
  where
    go : (t : Bool) → Way M (cond t (take_message b m) b) a
    go true = take_from a b m v
    go false = v

pub frame_to : {M : Type 0} (a b : Link M) (f : Frame M) → FrameOf M a f → Way M a b → Way M a (frame_in b f)
frame_to a b f o w = body_to a (ack_in b f.acknowledgement) f.number f.body o.body (ack_to a b f.acknowledgement o.shown w)

pub frame_from : {M : Type 0} (a b : Link M) (f : Frame M) → FrameOf M a f → Way M a b → Way M b a → Way M (frame_in b f) a
frame_from a b f o w v = body_from a (ack_in b f.acknowledgement) f.number f.body (ack_from a b f.acknowledgement o.shown w v)

-- between the ends no acknowledgement is of what was never sent
pub never_unsent : {M : Type 0} (a b : Link M) (f : Frame M) → FrameOf M a f → Way M a b → Way M b a → f.acknowledgement ≤ length b.sent
never_unsent a b f o w v = le_trans o.shown (le_trans w.shown_taken (prefix_length a.came b.sent v.came_first))

-- a young frame is heard by its bytes as by its numbers
pub young_bytes : {M : Type 0} (r : ℕ) (a b : Link M) (f : Frame M) → 8 < r → FrameOf M a f → Way M a b → Way M b a → Young M r a f → as_bytes r b f ≡ f
young_bytes r a b f h o w v y =
    let taken : length b.came ≤ length a.sent = prefix_length b.came a.sent w.came_first in
    let came : length a.came ≤ length b.sent = prefix_length a.came b.sent v.came_first in
    let n : near (f.number % (2 * r)) (length b.came) r ≡ f.number = near_found f.number (length b.came) r (omega arith) (omega (arith, y.message)) (omega (arith, o.number, w.window, w.known_taken)) in
    let k : near (f.acknowledgement % (2 * r)) b.known r ≡ f.acknowledgement = near_found f.acknowledgement b.known r (omega arith) (omega (arith, y.acknowledgement, w.known_shown)) (omega (arith, o.shown, w.shown_taken, v.window)) in
    λ i. record { number = n i; acknowledgement = k i; body = f.body }

-- the list of all frames

frame_in_grows : {M : Type 0} (b : Link M) (f : Frame M) → Grows M b (frame_in b f)
frame_in_grows {M} b f = go f.body
  where
    at_next : (m : M) (t : Bool) → Grows M b (cond t (take_message (ack_in b f.acknowledgement) m) (ack_in b f.acknowledgement))
    at_next m true = grows_same b (take_message (ack_in b f.acknowledgement) m) refl (le_refl _)
    at_next m false = grows_same b (ack_in b f.acknowledgement) refl (le_refl _)

    go : (o : Option M) → Grows M b (body_in (ack_in b f.acknowledgement) f.number o)
    go None = grows_same b (ack_in b f.acknowledgement) refl (le_refl _)
    go (Some m) = at_next m (is_next (ack_in b f.acknowledgement) f.number)

grows_with : {M : Type 0} (w : Net M) (b : Bool) (l : Link M) (fs : List (Frame M)) → Grows M (side w b) l → (c : Bool) → Grows M (side w c) (side (with_link w b l fs) c)
grows_with w true l fs g true = g
grows_with w true l fs g false = grows_same w.slave w.slave refl (le_refl _)
grows_with w false l fs g true = grows_same w.master w.master refl (le_refl _)
grows_with w false l fs g false = g

posts_ok : {M : Type 0} (w : Net M) (b : Bool) (fs : List (Frame M)) → Each (FrameOf M (side w b)) fs → Each (λ p. FrameOf M (side w p.by_master) p.frame) (post_all b fs)
posts_ok w b [] e = tt
posts_ok w b (f ∷ fs) e = (e.0, posts_ok w b fs e.1)

side_with : {M : Type 0} (w : Net M) (b : Bool) (l : Link M) (fs : List (Frame M)) → side (with_link w b l fs) b ≡ l
side_with w true l fs = refl
side_with w false l fs = refl

posts_with : {M : Type 0} (w : Net M) (b : Bool) (l : Link M) (fs : List (Frame M)) → (with_link w b l fs).posts ≡ w.posts ++ post_all b fs
posts_with w true l fs = refl
posts_with w false l fs = refl

frames_with : {M : Type 0} (w : Net M) (b : Bool) (l : Link M) (fs : List (Frame M)) → Grows M (side w b) l → Each (FrameOf M l) fs → Each (λ p. FrameOf M (side w p.by_master) p.frame) w.posts → Each (λ p. FrameOf M (side (with_link w b l fs) p.by_master) p.frame) (with_link w b l fs).posts
frames_with {M} w b l fs g e h =
    let v : Net M = with_link w b l fs in
    let P : Post M → Type 0 = λ p. FrameOf M (side v p.by_master) p.frame in
    subst (Each P) (sym (posts_with w b l fs))
    (each_append P w.posts (post_all b fs)
    (each_imp (λ p. FrameOf M (side w p.by_master) p.frame) P (λ p. frame_grows (side w p.by_master) (side v p.by_master) p.frame (grows_with w b l fs g p.by_master)) w.posts h)
    (posts_ok v b fs (subst (λ k. Each (FrameOf M k) fs) (sym (side_with w b l fs)) e)))

-- a move of the end b, by what it keeps of both directions
net_with : {M : Type 0} (w : Net M) (b : Bool) (l : Link M) (fs : List (Frame M)) → NetOk M w → Grows M (side w b) l → Way M l (side w (not b)) → Way M (side w (not b)) l → Each (FrameOf M l) fs → NetOk M (with_link w b l fs)
net_with w true l fs k g u d e = record { up = u; down = d; frames = frames_with w true l fs g e k.frames }
net_with w false l fs k g u d e = record { up = d; down = u; frames = frames_with w false l fs g e k.frames }

pub way_of : {M : Type 0} (w : Net M) → NetOk M w → (b : Bool) → Way M (side w b) (side w (not b))
way_of w k true = k.up
way_of w k false = k.down

pub way_to : {M : Type 0} (w : Net M) → NetOk M w → (b : Bool) → Way M (side w (not b)) (side w b)
way_to w k true = k.down
way_to w k false = k.up

comes_ok : {M : Type 0} (w : Net M) → NetOk M w → (o : Option (Post M)) → ((p : Post M) → o ≡ Some p → FrameOf M (side w p.by_master) p.frame) → NetOk M (comes w o)
comes_ok w k None h = k
comes_ok {M} w k (Some p) h = at p.by_master (h p refl)
  where
    at : (c : Bool) → FrameOf M (side w c) p.frame → NetOk M (with_link w (not c) (frame_in (side w (not c)) p.frame) [])
    at true o = net_with w false (frame_in w.slave p.frame) [] k (frame_in_grows w.slave p.frame) (frame_from w.master w.slave p.frame o k.up k.down) (frame_to w.master w.slave p.frame o k.up) tt
    at false o = net_with w true (frame_in w.master p.frame) [] k (frame_in_grows w.master p.frame) (frame_from w.slave w.master p.frame o k.down k.up) (frame_to w.slave w.master p.frame o k.down) tt

pub moves_ok : {M : Type 0} (w : Net M) → NetOk M w → (e : Move M) → NetOk M (moves w e)
moves_ok {M} w k (Forms b m) = go (window_open 8 (side w b)) refl
  where
    l : Link M
    l = side w b

    go : (t : Bool) → window_open 8 l ≡ t → NetOk M (cond t (with_link w b (form_message l m) (formed_frame l m ∷ [])) w)
    go true e =
        net_with w b (form_message l m) (formed_frame l m ∷ []) k
        (record { sent = (m ∷ [], refl); shown = (way_of w k b).shown_taken })
        (form_own l (side w (not b)) m (ltb-true (length l.sent) (l.known + 8) e) (way_of w k b))
        (form_other l (side w (not b)) m (way_to w k b))
        (record { number = omega (arith, length-append l.sent (m ∷ [])); shown = le_refl _; body = record { front = l.sent; back = []; parts = refl; number = refl } }, tt)
    go false e = k
moves_ok w k (Repeats b) =
    net_with w b (showing (side w b)) (again_frames (side w b)) k
    (grows_same (side w b) (showing (side w b)) refl (way_of w k b).shown_taken)
    (show_own (side w b) (side w (not b)) (way_of w k b))
    (show_other (side w b) (side w (not b)) (way_to w k b))
    (again_ok (showing (side w b)) (length (side w b).came) (le_refl _) (side w b).known (take (side w b).known (side w b).sent) (drop (side w b).known (side w b).sent) (sym (take-append-drop (side w b).known (side w b).sent)) (length-take-le (side w b).known (side w b).sent (le_trans (way_of w k b).known_taken (prefix_length (side w (not b)).came (side w b).sent (way_of w k b).came_first))))
moves_ok w k (Acknowledges b) =
    net_with w b (showing (side w b)) (bare_frame (side w b) ∷ []) k
    (grows_same (side w b) (showing (side w b)) refl (way_of w k b).shown_taken)
    (show_own (side w b) (side w (not b)) (way_of w k b))
    (show_other (side w b) (side w (not b)) (way_to w k b))
    (record { number = le_refl _; shown = le_refl _; body = tt }, tt)
moves_ok {M} w k (Comes i) = comes_ok w k (slice_get w.posts i) (λ p e. each_at (λ q. FrameOf M (side w q.by_master) q.frame) w.posts i p k.frames e)

pub run_net_ok : {M : Type 0} (es : List (Move M)) (w : Net M) → NetOk M w → NetOk M (run_net es w)
run_net_ok [] w k = k
run_net_ok (e ∷ es) w k = run_net_ok es (moves w e) (moves_ok w k e)

pub fresh_way : {M : Type 0} → Way M fresh fresh
fresh_way = record { known_taken = le_refl 0; window = omega arith; came_first = ([], refl); shown_taken = le_refl 0; known_shown = le_refl 0 }

pub start_net_ok : {M : Type 0} → NetOk M start_net
start_net_ok = record { up = fresh_way; down = fresh_way; frames = tt }
