-- What is kept after each kind of slot that a session forms behind its start.
use Rattle.std.proofs.Common.{◌≡◌, ◌≢◌, ℕ, zero, suc, ◌+◌, ◌-◌, ◌≤◌, sym, ap, ◌∙◌, refl, arith, Bool, true, false, cond, ◌&&◌, ◌||◌, List, [], ◌∷◌, map, length, drop, Option, Some, None, nat_eq, nat_le, ne_eqb}
use Rattle.std.proofs.Math.Dec.{leb-zero, leb-suc-zero, leb-suc-suc}
use Rattle.std.proofs.lemmas.Bool.{true≢false, false≢true}
use Rattle.lat_base.specs.declared.state.SessionState as base_state
use Rattle.lat_base.specs.declared.state.SessionState.TheVariants as kept_states
use Rattle.lat_base.specs.declared.state.SessionEnd.{SessionEnd}
use Rattle.lat_base.specs.declared.state.SessionEnd.TheVariants as ends
use Rattle.lat_model.specs.Lists.{is_empty}
use Rattle.lat_model.specs.sessions.Slots.{Item, Slot, Start, DataA, DataB, Attention, Stop, items, items_of, credits, credits_of, costs, cost_of, has_stop, is_stop, is_attention}
use Rattle.lat_model.specs.sessions.Session.{Session, Free, Calling, Asked, Live, Closing, Left, peer, answered, rejected, held_slots}
use Rattle.lat_model.specs.sessions.Session as session
use Rattle.lat_model.specs.sessions.Offers.{start_of}
use Rattle.lat_model.specs.sessions.Packing.{formed}
use Rattle.lat_stream.specs.Kept.{Kept, stream_of, item_of, state_of, saturated, reject_reason}
use Rattle.lat_stream.specs.Turns.{gave, framed, stopped}
use Rattle.lat_stream.proofs.Forms.{kept_with, kept_now, then_is, or_false, told_more}

-- words that are equal leave the same
pub with_same : (m : Bool) (c : ℕ) (s : Session) (a : Option ℕ) (none : Bool) (t t' : Bool) (o o' u u' g g' w w' n n' : ℕ) → t ≡ t' → o ≡ o' → u ≡ u' → g ≡ g' → w ≡ w' → n ≡ n' →
    kept_with m c s a none t o u g w n ≡ kept_with m c s a none t' o' u' g' w' n'
with_same m c s a none t t' o o' u u' g g' w w' n n' et eo eu eg ew en =
    ap (λ z. kept_with m c s a none z o u g w n) et
    ∙ ap (λ z. kept_with m c s a none t' z u g w n) eo
    ∙ ap (λ z. kept_with m c s a none t' o' z g w n) eu
    ∙ ap (λ z. kept_with m c s a none t' o' u' z w n) eg
    ∙ ap (λ z. kept_with m c s a none t' o' u' g' z n) ew
    ∙ ap (λ z. kept_with m c s a none t' o' u' g' w' z) en

-- a session whose start was formed, and not its stop
abbrev pub open_kept : Bool → ℕ → Session → Kept
open_kept m c s = kept_now m c s s.attention false false (credits s.out) (costs s.out) (length (items s.out))

pub open_is : (m : Bool) (c : ℕ) (s : Session) → is_empty s.out ≡ false → has_stop s.out ≡ false → stream_of m c s ≡ open_kept m c s
open_is m c s e h =
    ap (λ z. kept_now m c s s.attention z (has_stop s.out) (credits s.out) (costs s.out) (length (items s.out))) e
    ∙ ap (λ z. kept_now m c s s.attention false z (credits s.out) (costs s.out) (length (items s.out))) h

pub open_then : (m : Bool) (c : ℕ) (s : Session) (x : Slot) → has_stop s.out ≡ false → stream_of m c (formed s x) ≡
    kept_now m c s (cond (is_attention x) None s.attention) false (is_stop x) (credits s.out + credits_of x) (costs s.out + cost_of x) (length (items s.out) + length (items_of x))
open_then m c s x h =
    then_is m c s x
    ∙ ap (λ z. kept_now m c s (cond (is_attention x) None s.attention) false (z || is_stop x) (credits s.out + credits_of x) (costs s.out + cost_of x) (length (items s.out) + length (items_of x))) h

-- a slot that gives n credits and costs none
gives_more : (m : Bool) (c : ℕ) (s : Session) (a : Option ℕ) (t t' : Bool) (n : ℕ) → costs s.came ≤ credits s.out → t ≡ t' →
    kept_now m c s a false t (credits s.out + n) (costs s.out + 0) (length (items s.out) + 0) ≡
    kept_with m c s a false t' (credits s.out - costs s.came + n) (credits s.came - costs s.out) (saturated (saturated (credits s.out) + n)) (saturated (costs s.out)) (length (items s.out))
gives_more m c s a t t' n h e =
    let w : costs s.out + 0 ≡ costs s.out = omega arith in
    with_same m c s a false t t' _ (credits s.out - costs s.came + n) _ (credits s.came - costs s.out) _ (saturated (saturated (credits s.out) + n)) _ (saturated (costs s.out)) _ (length (items s.out))
    e (omega (arith, h)) (omega arith) (told_more (credits s.out) n) (ap saturated w) (omega arith)

-- a slot that neither gives a credit nor costs one
plain : (m : Bool) (c : ℕ) (s : Session) (a : Option ℕ) (t : Bool) →
    kept_now m c s a false t (credits s.out + 0) (costs s.out + 0) (length (items s.out) + 0) ≡ kept_now m c s a false t (credits s.out) (costs s.out) (length (items s.out))
plain m c s a t =
    let g : credits s.out + 0 ≡ credits s.out = omega arith in
    let w : costs s.out + 0 ≡ costs s.out = omega arith in
    let n : length (items s.out) + 0 ≡ length (items s.out) = omega arith in
    ap (λ z. kept_now m c s a false t z (costs s.out + 0) (length (items s.out) + 0)) g
    ∙ ap (λ z. kept_now m c s a false t (credits s.out) z (length (items s.out) + 0)) w
    ∙ ap (λ z. kept_now m c s a false t (credits s.out) (costs s.out) z) n

pub start_after : (m : Bool) (c : ℕ) (s : Session) → costs s.came ≤ credits s.out → stream_of m c (formed s (start_of m c s)) ≡ record (gave (stream_of m c s)) { start = None }
start_after true c s h = then_is true c s (start_of true c s) ∙ gives_more true c s s.attention (has_stop s.out || false) (has_stop s.out) (session.due c s) h (or_false (has_stop s.out))
start_after false c s h = then_is false c s (start_of false c s) ∙ gives_more false c s s.attention (has_stop s.out || false) (has_stop s.out) (session.due c s) h (or_false (has_stop s.out))

pub attention_after : (m : Bool) (c : ℕ) (s : Session) (flag : ℕ) → has_stop s.out ≡ false → stream_of m c (formed s (Attention (peer s) s.id flag)) ≡ record (open_kept m c s) { attention = None }
attention_after m c s flag h = open_then m c s (Attention (peer s) s.id flag) h ∙ plain m c s None false

pub credits_after : (m : Bool) (c : ℕ) (s : Session) → costs s.came ≤ credits s.out → has_stop s.out ≡ false → stream_of m c (formed s (DataA (peer s) s.id (session.due c s) [])) ≡ gave (open_kept m c s)
credits_after m c s i h = open_then m c s (DataA (peer s) s.id (session.due c s) []) h ∙ gives_more m c s s.attention false false (session.due c s) i refl

-- the items of a slot stood first

map_drop : {A B : Type 0} (f : A → B) (n : ℕ) (xs : List A) → map f (drop n xs) ≡ drop n (map f xs)
map_drop f zero xs = refl
map_drop f (suc n) [] = refl
map_drop f (suc n) (x ∷ xs) = map_drop f n xs

drop_more : {A : Type 0} (k n : ℕ) (xs : List A) → drop (k + n) xs ≡ drop n (drop k xs)
drop_more zero n xs = let e : 0 + n ≡ n = omega arith in ap (λ z. drop z xs) e
drop_more (suc k) zero [] = let e : suc k + 0 ≡ suc k = omega arith in ap (λ z. drop z []) e
drop_more (suc k) (suc n) [] = let e : suc k + suc n ≡ suc (k + suc n) = omega arith in ap (λ z. drop z []) e
drop_more (suc k) n (x ∷ xs) = let e : suc k + n ≡ suc (k + n) = omega arith in ap (λ z. drop z (x ∷ xs)) e ∙ drop_more k n xs

drop_none : {A : Type 0} (n : ℕ) → drop {A = A} n [] ≡ []
drop_none zero = refl
drop_none (suc n) = refl

left_unframed : (r h : Bool) (k n : ℕ) (put : List Item) → cond r [] (map item_of (cond h [] (drop (k + n) put))) ≡ drop n (cond r [] (map item_of (cond h [] (drop k put))))
left_unframed true h k n put = sym (drop_none n)
left_unframed false true k n put = sym (drop_none n)
left_unframed false false k n put = ap (map item_of) (drop_more k n put) ∙ map_drop item_of n (drop k put)

frames_more : (m : Bool) (c : ℕ) (s : Session) (n : ℕ) → costs s.came ≤ credits s.out →
    kept_now m c s s.attention false false (credits s.out + session.due c s) (costs s.out + 1) (length (items s.out) + n) ≡ framed n (gave (open_kept m c s))
frames_more m c s n h =
    let d : ℕ = session.due c s in
    let k : Kept = kept_with m c s s.attention false false (credits s.out - costs s.came + d) (credits s.came - costs s.out - 1) (saturated (saturated (credits s.out) + d)) (saturated (saturated (costs s.out) + 1)) (length (items s.out) + n) in
    with_same m c s s.attention false false false _ (credits s.out - costs s.came + d) _ (credits s.came - costs s.out - 1) _ (saturated (saturated (credits s.out) + d)) _ (saturated (saturated (costs s.out) + 1)) _ (length (items s.out) + n)
    refl (omega (arith, h)) (omega arith) (told_more (credits s.out) d) (told_more (costs s.out) 1) refl
    ∙ ap (λ z. record k { unframed = z }) (left_unframed (rejected s) (has_stop s.came) (length (items s.out)) n s.put)

pub setting_after : (m : Bool) (c : ℕ) (s : Session) (t : List ℕ) → costs s.came ≤ credits s.out → has_stop s.out ≡ false → stream_of m c (formed s (DataB (peer s) s.id (session.due c s) t)) ≡ framed 1 (gave (open_kept m c s))
setting_after m c s t i h = open_then m c s (DataB (peer s) s.id (session.due c s) t) h ∙ frames_more m c s 1 i

map_len : {A B : Type 0} (f : A → B) (xs : List A) → length (map f xs) ≡ length xs
map_len f [] = refl
map_len f (x ∷ xs) = ap suc (map_len f xs)

pub bytes_after : (m : Bool) (c : ℕ) (s : Session) (b : ℕ) (bs : List ℕ) → costs s.came ≤ credits s.out → has_stop s.out ≡ false → stream_of m c (formed s (DataA (peer s) s.id (session.due c s) (b ∷ bs))) ≡ framed (length (b ∷ bs)) (gave (open_kept m c s))
bytes_after m c s b bs i h =
    let x : Slot = DataA (peer s) s.id (session.due c s) (b ∷ bs) in
    open_then m c s x h ∙ frames_more m c s (length (items_of x)) i
    ∙ ap (λ n. framed n (gave (open_kept m c s))) (map_len Rattle.lat_model.specs.sessions.Slots.Byte (b ∷ bs))

-- the stop

-- nothing is left of a list exactly where all of it was taken
all_taken : {A B : Type 0} (f : A → B) (n : ℕ) (xs : List A) → is_empty (map f (drop n xs)) ≡ nat_le (length xs) n
all_taken f zero [] = refl
all_taken {A} f zero (x ∷ xs) = sym (leb-suc-zero (length xs))
all_taken f (suc n) [] = sym (leb-zero (suc n))
all_taken f (suc n) (x ∷ xs) = all_taken f n xs ∙ sym (leb-suc-suc (length xs) n)

heard_gone : {A B : Type 0} (f : A → B) (closed : Bool) (n : ℕ) (xs : List A) → is_empty (cond closed [] (map f (drop n xs))) ≡ (closed || nat_le (length xs) n)
heard_gone f true n xs = refl
heard_gone f false n xs = all_taken f n xs

abbrev state_by : Bool → (r sc cl nl an stop : Bool) → base_state.SessionState
state_by m r sc cl nl an stop = state_of (cond (r || ((stop && sc) && (cl || nl))) Free (cond (r || (stop && sc)) Left (cond an (cond (cl || sc) Closing Live) (cond m Calling Asked))))

-- r: rejected; sc: a stop was heard; cl: closed; nl: all was taken; an: answered
state_after : (m r sc cl nl an : Bool) → r ≡ false → an ≡ true → state_by m r sc cl nl an true ≡ cond sc (cond (cl || nl) kept_states.Free kept_states.Left) (state_by m r sc cl nl an false)
state_after m true sc cl nl an e a = absurd (true≢false e)
state_after m false sc cl nl false e a = absurd (false≢true a)
state_after m false true true nl true e a = refl
state_after m false true false true true e a = refl
state_after m false true false false true e a = refl
state_after m false false cl nl true e a = refl

abbrev end_by : (none r sc taken stop : Bool) → ℕ → Option SessionEnd
end_by none r sc taken stop reason = cond none None (cond r (Some (ends.Rejected reason)) (cond (r || ((stop && sc) && taken)) (Some ends.Closed) None))

end_after : (none r sc taken : Bool) (reason : ℕ) → none ≡ false → r ≡ false → end_by none r sc taken true reason ≡ cond sc (cond taken (Some ends.Closed) (end_by none r sc taken false reason)) (end_by none r sc taken false reason)
end_after true r sc taken reason e f = absurd (true≢false e)
end_after false true sc taken reason e f = absurd (true≢false f)
end_after false false true true reason e f = refl
end_after false false true false reason e f = refl
end_after false false false taken reason e f = refl

-- with this state and end
abbrev stopped_with : Kept → base_state.SessionState → Option SessionEnd → Kept
stopped_with k state end = record k { stop_formed = true; state = state; end = end }

stopped_is : (k : Kept) → stopped k ≡ stopped_with k (cond k.stop_heard (cond (is_empty k.heard) kept_states.Free kept_states.Left) k.state) (cond k.stop_heard (cond (is_empty k.heard) (Some ends.Closed) k.end) k.end)
stopped_is k = go k.stop_heard (is_empty k.heard)
  where
    go : (h e : Bool) → cond h (cond e (record k { stop_formed = true; state = kept_states.Free; end = Some ends.Closed }) (record k { stop_formed = true; state = kept_states.Left })) (record k { stop_formed = true }) ≡ stopped_with k (cond h (cond e kept_states.Free kept_states.Left) k.state) (cond h (cond e (Some ends.Closed) k.end) k.end)
    go true true = refl
    go true false = refl
    go false e = refl

pub stop_after : (m : Bool) (c : ℕ) (s : Session) → s.id ≢ 0 → rejected s ≡ false → answered s ≡ true → has_stop s.out ≡ false → stream_of m c (formed s (Stop (peer s) s.id 1)) ≡ stopped (open_kept m c s)
stop_after m c s n r a h =
    let k : Kept = open_kept m c s in
    let sc : Bool = has_stop s.came in
    let taken : Bool = s.closed || nat_le (length (items s.came)) s.taken in
    let gone : is_empty k.heard ≡ taken = heard_gone item_of s.closed s.taken (items s.came) in
    open_then m c s (Stop (peer s) s.id 1) h ∙ plain m c s s.attention true
    ∙ ap (λ z. stopped_with k z (end_by (nat_eq s.id 0) (rejected s) sc taken true (reject_reason s))) (state_after m (rejected s) sc s.closed (nat_le (length (items s.came)) s.taken) (answered s) r a)
    ∙ ap (λ z. stopped_with k (cond sc (cond taken kept_states.Free kept_states.Left) k.state) z) (end_after (nat_eq s.id 0) (rejected s) sc taken (reject_reason s) (ne_eqb s.id 0 n) r)
    ∙ sym (stopped_is k ∙ ap (λ b. stopped_with k (cond sc (cond b kept_states.Free kept_states.Left) k.state) (cond sc (cond b (Some ends.Closed) k.end) k.end)) gone)
