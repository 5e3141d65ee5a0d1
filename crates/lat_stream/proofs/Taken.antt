-- Items that are put and taken.
use Rattle.std.proofs.Common.{◌≡◌, ℕ, ◌+◌, ◌-◌, ◌≤◌, sym, ap, ap₂, ◌∙◌, refl, arith, Bool, true, false, not, cond, ◌&&◌, ◌||◌, List, [], ◌∷◌, ◌++◌, length, map, take, drop, min, Some, None, nat_eq, nat_le, length-append, length-drop, ne_eqb}
use Rattle.std.proofs.lemmas.Bool.{and_parts, or_parts, not-true, le-leb, lt-leb}
use Rattle.std.proofs.lemmas.List.{map-append, length-map, drop-append-le, drop-map, drop-drop}
use Rattle.std.specs.List.{take-map}
use Rattle.lat_base.specs.declared.item.Item as base_item
use Rattle.lat_base.specs.declared.item.Item.TheVariants as kept_items
use Rattle.lat_base.specs.declared.state.SessionState.TheVariants as kept_states
use Rattle.lat_base.specs.declared.state.SessionEnd.TheVariants as ends
use Rattle.lat_model.specs.Lists.{is_empty, IsPrefixOf}
use Rattle.lat_model.specs.sessions.Slots.{Item, Byte, items, credits, costs, has_stop, turned}
use Rattle.lat_model.specs.sessions.Session.{Session, Free, Calling, Asked, Live, Closing, Left, state, answered, rejected, stopped, gone, free, unframed, held_from, put_open, take_open}
use Rattle.lat_model.specs.sessions.Calls.{put_items, put_count, take_count}
use Rattle.lat_stream.specs.Kept.{Kept, stream_of, item_of, state_of, left_in, end_of, reject_reason}
use Rattle.lat_stream.specs.Sound.{Sound}
use Rattle.lat_stream.specs.Steps.{can_put, can_take, is_left, ended_if_done, ended, took, still_held}
use Rattle.lat_stream.proofs.Left.{bytes_shown, left_count, still_left}
use Rattle.lat_stream.proofs.Same.{same}

pub can_put_is : (m : Bool) (c : ℕ) (s : Session) → Sound m c s → can_put (stream_of m c s) ≡ put_open s
can_put_is m c s h = grind (arith, h.opens, h.begun)

pub can_take_is : (m : Bool) (c : ℕ) (s : Session) → Sound m c s → can_take (stream_of m c s) ≡ take_open s
can_take_is m c s h = grind (arith, h.opens, h.begun)

pub take_some : (s : Session) → take_open s ≡ true → (s.closed ≡ false) × (free s ≡ false)
take_some s h =
    let p : ((s.accepted && not (free s)) ≡ true) × (not s.closed ≡ true) = and_parts (s.accepted && not (free s)) (not s.closed) h in
    (not-true s.closed p.1, not-true (free s) (and_parts s.accepted (not (free s)) p.0).1)

pub put_some : (s : Session) → put_open s ≡ true → (rejected s ≡ false) × (has_stop s.came ≡ false)
put_some s h =
    let p : ((s.accepted && not (gone s) && not s.closed) ≡ true) × (not (has_stop s.came) ≡ true) = and_parts (s.accepted && not (gone s) && not s.closed) (not (has_stop s.came)) h in
    let q : ((s.accepted && not (gone s)) ≡ true) × (not s.closed ≡ true) = and_parts (s.accepted && not (gone s)) (not s.closed) p.0 in
    let g : gone s ≡ false = not-true (gone s) (and_parts s.accepted (not (gone s)) q.0).1 in
    ((or_parts (rejected s) (stopped s) g).0, not-true (has_stop s.came) p.1)

pub waiting_is : (m : Bool) (c : ℕ) (s : Session) → Sound m c s → cond (can_take (stream_of m c s)) (length (stream_of m c s).heard) 0 ≡ cond (take_open s) (length (items s.came) - s.taken) 0
waiting_is m c s h = ap (λ b. cond b (length (stream_of m c s).heard) 0) (can_take_is m c s h) ∙ go (take_open s) refl
  where
    go : (b : Bool) → take_open s ≡ b → cond b (length (stream_of m c s).heard) 0 ≡ cond b (length (items s.came) - s.taken) 0
    go true e = ap (λ b. length (cond b [] (map item_of (drop s.taken (items s.came))))) (take_some s e).0 ∙ length-map (drop s.taken (items s.came)) item_of ∙ length-drop s.taken (items s.came)
    go false e = refl

pub room_is : (m : Bool) (c : ℕ) (s : Session) → Sound m c s → cond (can_put (stream_of m c s)) (4096 - length (stream_of m c s).unframed) 0 ≡ cond (put_open s) (4096 - length (unframed s)) 0
room_is m c s h = ap (λ b. cond b (4096 - length (stream_of m c s).unframed) 0) (can_put_is m c s h) ∙ go (put_open s) refl
  where
    go : (b : Bool) → put_open s ≡ b → cond b (4096 - length (stream_of m c s).unframed) 0 ≡ cond b (4096 - length (unframed s)) 0
    go true e = ap (λ z. 4096 - z) (ap (λ r. length (cond r [] (map item_of (unframed s)))) (put_some s e).0 ∙ length-map (unframed s) item_of)
    go false e = refl

-- items are put

framed_fit : (xs ys : List Item) → IsPrefixOf xs ys → length xs ≤ length ys
framed_fit xs ys h =
    let e : length (xs ++ h.0) ≡ length ys = ap length h.1 in
    omega (arith, length-append xs h.0)

pub put_is : (m : Bool) (c : ℕ) (s : Session) (xs : List Item) → Sound m c s → put_open s ≡ true → record (stream_of m c s) { unframed = (stream_of m c s).unframed ++ map item_of xs } ≡ stream_of m c (put_items s xs)
put_is m c s xs h o =
    let e : (rejected s ≡ false) × (has_stop s.came ≡ false) = put_some s o in
    let n : ℕ = length (items s.out) in
    ap (λ (z : List base_item.Item). record (stream_of m c s) { unframed = z })
    (ap₂ (λ r b. cond r [] (map item_of (cond b [] (drop n s.put))) ++ map item_of xs) e.0 e.1
    ∙ sym (map-append item_of (drop n s.put) xs)
    ∙ ap (λ z. map item_of z) (sym (drop-append-le n s.put xs (framed_fit (items s.out) s.put h.accounts.framed)))
    ∙ ap₂ (λ r b. cond r [] (map item_of (cond b [] (drop n (s.put ++ xs))))) (sym e.0) (sym e.1))

put_count_is : (m : Bool) (c : ℕ) (s : Session) (n : ℕ) → put_open s ≡ true → min n (4096 - length (stream_of m c s).unframed) ≡ put_count s n
put_count_is m c s n o =
    ap (λ z. min n (4096 - z)) (ap (λ r. length (cond r [] (map item_of (unframed s)))) (put_some s o).0 ∙ length-map (unframed s) item_of)

pub put_bytes_is : (m : Bool) (c : ℕ) (s : Session) (bs : List ℕ) (n : ℕ) → Sound m c s → put_open s ≡ true → n ≡ min (length bs) (4096 - length (stream_of m c s).unframed) →
    record (stream_of m c s) { unframed = (stream_of m c s).unframed ++ map kept_items.Byte (take n bs) } ≡ stream_of m c (put_items s (map Byte (take (put_count s (length bs)) bs)))
put_bytes_is m c s bs n h o e =
    ap (λ z. record (stream_of m c s) { unframed = (stream_of m c s).unframed ++ z }) (sym (bytes_shown (take n bs)))
    ∙ put_is m c s (map Byte (take n bs)) h o
    ∙ ap (λ z. stream_of m c (put_items s (map Byte (take z bs)))) (e ∙ put_count_is m c s (length bs) o)

-- items are taken

-- a session that ends, field by field
pub ended_if_done_is : (k : Kept) → ended_if_done k ≡ record k {
  state = cond (is_left k.state && is_empty k.heard) kept_states.Free k.state;
  end = cond (is_left k.state && is_empty k.heard) (Some ends.Closed) k.end;
}
ended_if_done_is k = go (is_left k.state && is_empty k.heard)
  where
    go : (b : Bool) → cond b (ended k) k ≡ record k { state = cond b kept_states.Free k.state; end = cond b (Some ends.Closed) k.end }
    go true = refl
    go false = refl

pub none_left : (n : ℕ) (xs : List Item) → is_empty (map item_of (drop n xs)) ≡ nat_le (length xs) n
none_left n xs = go (drop n xs) (length-drop n xs)
  where
    go : (ys : List Item) → length ys ≡ length xs - n → is_empty (map item_of ys) ≡ nat_le (length xs) n
    go [] e = sym (le-leb (length xs) n (omega (arith, e)))
    go (y ∷ ys) e = sym (lt-leb (length xs) n (omega (arith, e)))

taken_now : (s : Session) (n : ℕ) → s.closed ≡ false → drop n (cond s.closed [] (map item_of (drop s.taken (items s.came)))) ≡ cond s.closed [] (map item_of (drop (s.taken + n) (items s.came)))
taken_now s n e =
    ap (λ b. drop n (cond b [] (map item_of (drop s.taken (items s.came))))) e
    ∙ drop-map item_of n (drop s.taken (items s.came))
    ∙ ap (λ z. map item_of z) (drop-drop n s.taken (items s.came))
    ∙ ap (λ b. cond b [] (map item_of (drop (s.taken + n) (items s.came)))) (sym e)

held_now : (s : Session) (n : ℕ) → s.closed ≡ false → still_held n (cond s.closed [] (left_in s.taken s.came)) ≡ cond s.closed [] (left_in (s.taken + n) s.came)
held_now s n e =
    ap (λ b. still_held n (cond b [] (left_in s.taken s.came))) e
    ∙ still_left n s.taken s.came
    ∙ ap (λ b. cond b [] (left_in (s.taken + n) s.came)) (sym e)

held_count : (s : Session) (n : ℕ) → length (cond s.closed [] (left_in n s.came)) ≡ cond s.closed 0 (held_from n s.came)
held_count s n = go s.closed
  where
    go : (b : Bool) → length (cond b [] (left_in n s.came)) ≡ cond b 0 (held_from n s.came)
    go true = refl
    go false = left_count n s.came

-- a session that is left ends where nothing is left to take

state_then : (r t l d e a h m : Bool) → l ≡ false → (r || (t && (l || d))) ≡ false → r ≡ false →
    cond (is_left (state_of (cond (r || (t && (l || d))) Free (cond (r || t) Left (cond a (cond (l || h) Closing Live) (cond m Calling Asked))))) && e) kept_states.Free (state_of (cond (r || (t && (l || d))) Free (cond (r || t) Left (cond a (cond (l || h) Closing Live) (cond m Calling Asked)))))
    ≡ state_of (cond (r || (t && (l || e))) Free (cond (r || t) Left (cond a (cond (l || h) Closing Live) (cond m Calling Asked))))
state_then r t l d e a h m k f g = grind arith

end_then : (r t l d e a h m : Bool) (reason : ℕ) → l ≡ false → (r || (t && (l || d))) ≡ false → r ≡ false →
    cond (is_left (state_of (cond (r || (t && (l || d))) Free (cond (r || t) Left (cond a (cond (l || h) Closing Live) (cond m Calling Asked))))) && e) (Some ends.Closed) (cond r (Some (ends.Rejected reason)) (cond (r || (t && (l || d))) (Some ends.Closed) None))
    ≡ cond r (Some (ends.Rejected reason)) (cond (r || (t && (l || e))) (Some ends.Closed) None)
end_then r t l d e a h m reason k f g = grind arith

pub took_is : (m : Bool) (c : ℕ) (s : Session) (n : ℕ) → Sound m c s → take_open s ≡ true → took n (stream_of m c s) ≡ stream_of m c (record s { taken = s.taken + n })
took_is m c s n h o =
    let q : (s.closed ≡ false) × (free s ≡ false) = take_some s o in
    let r : rejected s ≡ false = (or_parts (rejected s) (stopped s && (s.closed || nat_le (length (items s.came)) s.taken)) q.1).0 in
    let id : nat_eq s.id 0 ≡ false = ne_eqb s.id 0 (h.shape.id_some (or_parts s.rejects (turned s.came) r).0) in
    let d : Bool = nat_le (length (items s.came)) s.taken in
    let e : Bool = nat_le (length (items s.came)) (s.taken + n) in
    let done : is_empty (drop n (stream_of m c s).heard) ≡ nat_le (length (items s.came)) (s.taken + n) =
    ap is_empty (taken_now s n q.0) ∙ ap (λ b. is_empty (cond b [] (map item_of (drop (s.taken + n) (items s.came))))) q.0 ∙ none_left (s.taken + n) (items s.came) in
    let k : Kept = record (stream_of m c s) {
      heard = drop n (stream_of m c s).heard;
      held = still_held n (stream_of m c s).held;
      credits = record (stream_of m c s).credits { held = length (still_held n (stream_of m c s).held) };
    } in
    ended_if_done_is k ∙ same _ _ (record {
      state =
          ap (λ b. cond (is_left (state_of (state m s)) && b) kept_states.Free (state_of (state m s))) done
          ∙ state_then (rejected s) (stopped s) s.closed d e (answered s) (has_stop s.came) m q.0 q.1 r;
      is_closed = refl;
      stop_formed = refl;
      stop_heard = refl;
      peer = refl;
      size = refl;
      start = refl;
      attention = refl;
      mark = refl;
      credits = ap (λ (z : ℕ). record { ceiling = c; outstanding = credits s.out - costs s.came; held = z; unused = credits s.came - costs s.out }) (ap length (held_now s n q.0) ∙ held_count s (s.taken + n));
      given = refl;
      used = refl;
      unframed = refl;
      heard = taken_now s n q.0;
      held = held_now s n q.0;
      end =
          ap (λ b. cond (is_left (state_of (state m s)) && b) (Some ends.Closed) (end_of s)) done
          ∙ ap (λ b. cond (is_left (state_of (state m s)) && e) (Some ends.Closed) (cond b None (cond (rejected s) (Some (ends.Rejected (reject_reason s))) (cond (free s) (Some ends.Closed) None)))) id
          ∙ end_then (rejected s) (stopped s) s.closed d e (answered s) (has_stop s.came) m (reject_reason s) q.0 q.1 r
          ∙ ap (λ b. cond b None (end_of (record s { id = 1; taken = s.taken + n }))) (sym id);
    })

-- what a take gives
pub given_is : (m : Bool) (c : ℕ) (s : Session) (n : ℕ) → take_open s ≡ true → min n (length (stream_of m c s).heard) ≡ take_count s n
given_is m c s n o =
    ap (λ z. min n z) (ap (λ b. length (cond b [] (map item_of (drop s.taken (items s.came))))) (take_some s o).0 ∙ length-map (drop s.taken (items s.came)) item_of ∙ length-drop s.taken (items s.came))

pub gives : (m : Bool) (c : ℕ) (s : Session) (n : ℕ) → take_open s ≡ true → take n (stream_of m c s).heard ≡ map item_of (take n (drop s.taken (items s.came)))
gives m c s n o =
    ap (λ b. take n (cond b [] (map item_of (drop s.taken (items s.came))))) (take_some s o).0
    ∙ take-map item_of n (drop s.taken (items s.came))
