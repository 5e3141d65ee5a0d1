-- What is kept of a session after it formed a slot.
use Rattle.std.proofs.Common.{◌≡◌, ℕ, ◌+◌, ◌-◌, ap, ◌∙◌, refl, arith, Bool, true, false, not, cond, ◌&&◌, ◌||◌, List, [], ◌∷◌, ◌++◌, map, length, drop, Option, Some, None, nat_eq, nat_le, append-nil, length-append}
use Rattle.lat_base.specs.declared.state.SessionEnd.TheVariants as ends
use Rattle.lat_model.specs.Lists.{is_empty}
use Rattle.lat_model.specs.sessions.Slots.{Slot, items, items_of, credits, credits_of, costs, cost_of, has_stop, is_stop, is_attention, first_size}
use Rattle.lat_model.specs.sessions.Session.{Session, Free, Calling, Asked, Live, Closing, Left, peer, answered, rejected, held_slots}
use Rattle.lat_model.specs.sessions.Packing.{formed}
use Rattle.lat_model.proofs.sessions.Words.{items-append, credits-append, costs-append, has_stop-append}
use Rattle.lat_stream.specs.Kept.{Kept, stream_of, item_of, state_of, saturated, left_in, reject_reason}

-- over: both stops were formed and heard
abbrev pub over_by : Session → (stop : Bool) → Bool
over_by s stop = rejected s || (stop && has_stop s.came)

abbrev pub free_by : Session → (stop : Bool) → Bool
free_by s stop = rejected s || ((stop && has_stop s.came) && (s.closed || nat_le (length (items s.came)) s.taken))

-- what is kept of the session, with other words for what it formed
abbrev pub kept_with : Bool → ℕ → Session → (attention : Option ℕ) (none stop : Bool) (outstanding unused given used count : ℕ) → Kept
kept_with master ceiling s attention none stop outstanding unused given used count = record {
  state = state_of (cond (free_by s stop) Free (cond (over_by s stop) Left (cond (answered s) (cond (s.closed || has_stop s.came) Closing Live) (cond master Calling Asked))));
  closed = s.closed;
  stop_formed = stop;
  stop_heard = has_stop s.came;
  peer = peer s;
  size = first_size s.came;
  start = cond (none && not (over_by s stop)) (Some (record { service = s.service; request = s.request })) None;
  attention = attention;
  mark = s.mark;
  credits = record { ceiling = ceiling; outstanding = outstanding; held = held_slots s; unused = unused };
  given = given;
  used = used;
  unframed = cond (rejected s) [] (map item_of (cond (has_stop s.came) [] (drop count s.put)));
  heard = cond s.closed [] (map item_of (drop s.taken (items s.came)));
  held = cond s.closed [] (left_in s.taken s.came);
  end = cond (nat_eq s.id 0) None (cond (rejected s) (Some (ends.Rejected (reject_reason s))) (cond (free_by s stop) (Some ends.Closed) None));
}

-- by the words themselves
abbrev pub kept_now : Bool → ℕ → Session → (attention : Option ℕ) (none stop : Bool) (given used count : ℕ) → Kept
kept_now master ceiling s attention none stop given used count =
    kept_with master ceiling s attention none stop (given - costs s.came) (credits s.came - used) (saturated given) (saturated used) count

pub now_is : (m : Bool) (c : ℕ) (s : Session) → stream_of m c s ≡ kept_now m c s s.attention (is_empty s.out) (has_stop s.out) (credits s.out) (costs s.out) (length (items s.out))
now_is m c s = refl

some_out : (xs : List Slot) (x : Slot) → is_empty (xs ++ x ∷ []) ≡ false
some_out [] x = refl
some_out (y ∷ ys) x = refl

pub or_false : (b : Bool) → (b || false) ≡ b
or_false true = refl
or_false false = refl

-- after a slot
pub then_is : (m : Bool) (c : ℕ) (s : Session) (x : Slot) → stream_of m c (formed s x) ≡
    kept_now m c s (cond (is_attention x) None s.attention) false (has_stop s.out || is_stop x) (credits s.out + credits_of x) (costs s.out + cost_of x) (length (items s.out) + length (items_of x))
then_is m c s x =
    let a : Option ℕ = cond (is_attention x) None s.attention in
    let o : List Slot = s.out ++ x ∷ [] in
    let stop : has_stop o ≡ (has_stop s.out || is_stop x) = has_stop-append s.out (x ∷ []) ∙ ap (λ z. has_stop s.out || z) (or_false (is_stop x)) in
    let k : costs o ≡ costs s.out + (cost_of x + 0) = costs-append s.out (x ∷ []) in
    let l : credits o ≡ credits s.out + (credits_of x + 0) = credits-append s.out (x ∷ []) in
    let i : items o ≡ items s.out ++ items_of x = items-append s.out (x ∷ []) ∙ ap (λ z. items s.out ++ z) (append-nil (items_of x)) in
    let n : length (items o) ≡ length (items s.out) + length (items_of x) = ap length i ∙ length-append (items s.out) (items_of x) in
    let k' : costs o ≡ costs s.out + cost_of x = omega arith in
    let l' : credits o ≡ credits s.out + credits_of x = omega arith in
    ap (λ z. kept_now m c s a z (has_stop o) (credits o) (costs o) (length (items o))) (some_out s.out x)
    ∙ ap (λ z. kept_now m c s a false z (credits o) (costs o) (length (items o))) stop
    ∙ ap (λ z. kept_now m c s a false (has_stop s.out || is_stop x) z (costs o) (length (items o))) l'
    ∙ ap (λ z. kept_now m c s a false (has_stop s.out || is_stop x) (credits s.out + credits_of x) z (length (items o))) k'
    ∙ ap (λ z. kept_now m c s a false (has_stop s.out || is_stop x) (credits s.out + credits_of x) (costs s.out + cost_of x) z) n

-- the totals as they are told
pub told_more : (n k : ℕ) → saturated (n + k) ≡ saturated (saturated n + k)
told_more n k = omega arith
