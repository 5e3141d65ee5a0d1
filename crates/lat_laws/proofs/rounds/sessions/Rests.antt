-- Two ends with nothing on the wire and nothing to send have brought all that was put.
use Rattle.std.proofs.Common.{◌≡◌, ℕ, zero, suc, ◌+◌, ◌-◌, ◌<◌, ◌≤◌, ◌⊎◌, inl, inr, ⊎_elim, sym, ap, ap₂, ◌∙◌, refl, arith, Bool, true, false, not, cond, ◌&&◌, ◌||◌, List, [], ◌∷◌, ◌++◌, length, drop, take, Option, Some, None, nat_lt, nat_le, append-nil, length-append, ltb-false, le-ltb, zero-add}
use Rattle.std.proofs.lemmas.Bool.{or_parts, both_ways, true≢false, false≢true}
use Rattle.std.proofs.lemmas.List.{drop_at}
use Rattle.lat_model.specs.sessions.Slots.{Item, Byte, Setting, Slot, Start, DataA, DataB, Attention, Reject, Stop, items, items_of, credits, costs, has_stop, starts, turned, is_start, is_reject}
use Rattle.lat_model.specs.sessions.Session.{Session, blank, free, rejected, stopped, waits, unframed, held_from, held_slots, due, peer}
use Rattle.lat_model.specs.sessions.Sessions.{Sessions, of_generation}
use Rattle.lat_model.specs.sessions.Offers.{Nothing, Unfit, Offers, fit, start_of, leading, most_bytes, may_spend, bytes_offer, credit_offer, data_offer, stop_due, live_offer, reject_offer, start_offer, later_offer, offer}
use Rattle.lat_model.specs.Lists.{is_empty, IsPrefixOf}
use Rattle.lat_model.specs.sessions.EndOk.{Shape}
use Rattle.lat_laws.specs.rounds.Idle.{AtRest, AllThrough}
use Rattle.lat_laws.proofs.rounds.sessions.Turns.{held_turn, reject_turn}

fit_some : (room : ℕ) (x : Slot) → fit room x ≡ Nothing → ⊥
fit_some room x = go (nat_le _ room)
  where
    go : (b : Bool) → cond b (Offers x) Unfit ≡ Nothing → ⊥
    go true e = cc
    go false e = cc

-- a running session that has nothing to send: no credits are due, and it has no items or no credit
record Rested (c : ℕ) (s : Session) : Type 0 where
  due : due c s ≡ 0
  spent : (unframed s ≡ []) ⊎ (credits s.came ≤ costs s.out)

credit_none : (room n : ℕ) (s : Session) → credit_offer room n s ≡ Nothing → n ≡ 0
credit_none room zero s e = refl
credit_none room (suc n) s e = absurd (fit_some room (DataA (peer s) s.id (suc n) []) e)

bytes_none : (c : ℕ) (s : Session) (bs : List ℕ) → bytes_offer c s bs ≡ Nothing → ⊥
bytes_none c s [] e = cc
bytes_none c s (b ∷ bs) e = cc

data_none : (c room : ℕ) (s : Session) (us : List Item) → data_offer c room s us ≡ Nothing → (due c s ≡ 0) × ((us ≡ []) ⊎ (credits s.came ≤ costs s.out))
data_none c room s [] e = (credit_none room (due c s) s e, inl refl)
data_none c room s (Byte b ∷ xs) e = go (may_spend s) refl e
  where
    go : (t : Bool) → nat_lt (costs s.out) (credits s.came) ≡ t → cond t (bytes_offer (due c s) s (take (most_bytes room s) (leading (Byte b ∷ xs)))) (credit_offer room (due c s) s) ≡ Nothing → (due c s ≡ 0) × ((Byte b ∷ xs ≡ []) ⊎ (credits s.came ≤ costs s.out))
    go true q e = absurd (bytes_none (due c s) s _ e)
    go false q e = (credit_none room (due c s) s e, inr (ltb-false (costs s.out) (credits s.came) q))
data_none c room s (Setting t ∷ xs) e = go (may_spend s) refl e
  where
    go : (b : Bool) → nat_lt (costs s.out) (credits s.came) ≡ b → cond b (fit room (DataB (peer s) s.id (due c s) t)) (credit_offer room (due c s) s) ≡ Nothing → (due c s ≡ 0) × ((Setting t ∷ xs ≡ []) ⊎ (credits s.came ≤ costs s.out))
    go true q e = absurd (fit_some room (DataB (peer s) s.id (due c s) t) e)
    go false q e = (credit_none room (due c s) s e, inr (ltb-false (costs s.out) (credits s.came) q))

live_none : (c room : ℕ) (s : Session) (o : Option ℕ) → live_offer c room s o ≡ Nothing → Rested c s
live_none c room s (Some flag) e = absurd (fit_some room (Attention (peer s) s.id flag) e)
live_none c room s None e = go (stop_due s) e
  where
    go : (b : Bool) → cond b (fit room (Stop (peer s) s.id 1)) (data_offer c room s (unframed s)) ≡ Nothing → Rested c s
    go true e = absurd (fit_some room (Stop (peer s) s.id 1) e)
    go false e = let p : (due c s ≡ 0) × ((unframed s ≡ []) ⊎ (credits s.came ≤ costs s.out)) = data_none c room s (unframed s) e in record { due = p.0; spent = p.1 }

-- what was taken isn't held
pub held_none : (n : ℕ) (xs : List Slot) → length (items xs) ≤ n → held_from n xs ≡ 0
held_none n [] h = refl
held_none n (x ∷ xs) h =
    let l : length (items_of x ++ items xs) ≡ length (items_of x) + length (items xs) = length-append (items_of x) (items xs) in
    ap (λ b. cond b 1 0 + held_from (n - length (items_of x)) xs) (le-ltb n (length (items_of x)) (omega (arith, h, l)))
    ∙ zero-add (held_from (n - length (items_of x)) xs) ∙ held_none (n - length (items_of x)) xs (omega (arith, h, l))

-- one direction
way_done : (ca cb : ℕ) (a b : Session) → 0 < cb → b.came ≡ a.out → a.came ≡ b.out → Rested ca a → Rested cb b → b.closed ≡ false → length (items b.came) ≤ b.taken → has_stop a.came ≡ false → IsPrefixOf (items a.out) a.put → items b.came ≡ a.put
way_done ca cb a b h e f ra rb c t n p = ap items e ∙ sym (append-nil (items a.out)) ∙ ap (λ z. items a.out ++ z) (sym rest) ∙ p.1
  where
    gives : credits a.came ≤ costs a.out → ⊥
    gives l =
        let held : held_slots b ≡ 0 = ap (λ z. cond z 0 (held_from b.taken b.came)) c ∙ held_none b.taken b.came t in
        let x : costs b.came ≡ costs a.out = ap costs e in
        let y : credits a.came ≡ credits b.out = ap credits f in
        absurd (omega (arith, rb.due, held, x, y, l, h))

    unsent : unframed a ≡ []
    unsent = ⊎_elim {C = unframed a ≡ []} (λ z. z) (λ z. absurd (gives z)) ra.spent

    rest : p.0 ≡ []
    rest = sym (drop_at (items a.out) p.0 (length (items a.out)) refl) ∙ ap (drop (length (items a.out))) p.1 ∙ ap (λ z. cond z [] (drop (length (items a.out)) a.put)) (sym n) ∙ unsent

-- both sessions of a generation, each with its start out

record Running (c : ℕ) (room : ℕ) (s : Session) : Type 0 where
  rejects : s.rejects ≡ false
  accepted : s.accepted ≡ true
  out : is_empty s.out ≡ false
  came : starts s.came ≡ true
  stop : has_stop s.out ≡ false

running_rests : (m : Bool) (c room : ℕ) (s : Session) → Running c room s → offer m c room s ≡ Nothing → Rested c s
running_rests m c room s r e = go s.rejects (is_empty s.out) s.accepted (starts s.came) (has_stop s.out) r.rejects r.out r.accepted r.came r.stop e
  where
    go : (a b x y z : Bool) → a ≡ false → b ≡ false → x ≡ true → y ≡ true → z ≡ false → cond a (reject_offer room s) (cond b (start_offer m c room s) (cond ((x && y) && not z) (live_offer c room s s.attention) Nothing)) ≡ Nothing → Rested c s
    go true b x y z p q i j k e = absurd (true≢false p)
    go false true x y z p q i j k e = absurd (true≢false q)
    go false false false y z p q i j k e = absurd (false≢true i)
    go false false true false z p q i j k e = absurd (false≢true j)
    go false false true true true p q i j k e = absurd (true≢false k)
    go false false true true false p q i j k e = live_none c room s s.attention e

-- a session that hasn't formed its start, and may, has a slot
start_some : (m : Bool) (c room : ℕ) (s : Session) → s.rejects ≡ false → s.accepted ≡ true → turned s.came ≡ false → s.out ≡ [] → offer m c room s ≡ Nothing → ⊥
start_some m c room s r a t o = go s.rejects (is_empty s.out) s.accepted (turned s.came) r (ap is_empty o) a t
  where
    go : (x y z w : Bool) → x ≡ false → y ≡ true → z ≡ true → w ≡ false → cond x (reject_offer room s) (cond y (cond (z && not w) (fit room (start_of m c s)) Nothing) (later_offer c room s)) ≡ Nothing → ⊥
    go true y z w p q i j e = true≢false p
    go false false z w p q i j e = false≢true q
    go false true false w p q i j e = false≢true i
    go false true true true p q i j e = true≢false j
    go false true true false p q i j e = fit_some room (start_of m c s) e

-- a reject that waits is a slot
reject_some : (m : Bool) (c room : ℕ) (s : Session) → s.rejects ≡ true → s.out ≡ [] → is_empty s.came ≡ false → offer m c room s ≡ Nothing → ⊥
reject_some m c room s r o n = go s.rejects (is_empty s.out) (is_empty s.came) r (ap is_empty o) n
  where
    go : (x y z : Bool) → x ≡ true → y ≡ true → z ≡ false → cond x (cond (y && not z) (fit room (Reject (peer s) 0 s.reason)) Nothing) (cond y (start_offer m c room s) (later_offer c room s)) ≡ Nothing → ⊥
    go false y z p q i e = false≢true p
    go true false z p q i e = false≢true q
    go true true true p q i e = true≢false i
    go true true false p q i e = fit_some room (Reject (peer s) 0 s.reason) e

-- the parts of a session that is held
record Held (s : Session) : Type 0 where
  rejects : s.rejects ≡ false
  turned : turned s.came ≡ false

held_parts : (s : Session) → free s ≡ false → Held s
held_parts s h =
    let p : (rejected s ≡ false) × ((stopped s && (s.closed || nat_le (length (items s.came)) s.taken)) ≡ false) = or_parts (rejected s) _ h in
    let q : (s.rejects ≡ false) × (turned s.came ≡ false) = or_parts s.rejects (turned s.came) p.0 in
    record { rejects = q.0; turned = q.1 }

-- the session of the slave is held where it isn't refused and there is no stop
slave_held : (s : Session) → s.rejects ≡ false → turned s.came ≡ false → has_stop s.out ≡ false → free s ≡ false
slave_held s r t n = go s.rejects (turned s.came) (has_stop s.out) r t n
  where
    go : (a b d : Bool) → a ≡ false → b ≡ false → d ≡ false → ((a || b) || ((d && has_stop s.came) && (s.closed || nat_le (length (items s.came)) s.taken))) ≡ false
    go true b d p q i = absurd (true≢false p)
    go false true d p q i = absurd (true≢false q)
    go false false true p q i = absurd (true≢false i)
    go false false false p q i = refl

-- and is accepted where it doesn't wait
slave_accepted : (s : Session) → s.rejects ≡ false → starts s.came ≡ true → turned s.came ≡ false → has_stop s.out ≡ false → waits s ≡ false → s.accepted ≡ true
slave_accepted s r st t n w = go s.accepted s.rejects (starts s.came) (turned s.came) (has_stop s.out) r st t n w
  where
    go : (a b x y z : Bool) → b ≡ false → x ≡ true → y ≡ false → z ≡ false → (not (a && x) && not ((b || y) || (z && has_stop s.came))) ≡ false → a ≡ true
    go true b x y z p q i j e = refl
    go false true x y z p q i j e = absurd (true≢false p)
    go false false x true z p q i j e = absurd (true≢false i)
    go false false x false true p q i j e = absurd (true≢false j)
    go false false x false false p q i j e = absurd (true≢false e)

start_turned : (xs : List Slot) → starts xs ≡ true → turned xs ≡ false
start_turned [] e = absurd (false≢true e)
start_turned (Start to from c size service request ∷ xs) e = refl
start_turned (DataA to from c bytes ∷ xs) e = refl
start_turned (DataB to from c setting ∷ xs) e = refl
start_turned (Attention to from flag ∷ xs) e = refl
start_turned (Reject to from reason ∷ xs) e = absurd (false≢true e)
start_turned (Stop to from reason ∷ xs) e = refl

-- what stands first in a list that isn't empty: a start, or the reject of a session that is refused
first_out : (m : Bool) (s : Session) → (xs : List Slot) → Shape m s xs → (xs ≡ [] → ⊥) → s.rejects ≡ false → starts xs ≡ true
first_out m s [] h n r = absurd (n refl)
first_out m s (x ∷ xs) h n r = go (is_start x) refl
  where
    go : (b : Bool) → is_start x ≡ b → b ≡ true
    go true e = refl
    go false e = absurd (both_ways s.rejects r (h.reject e).1)

turned_out : (m : Bool) (s : Session) → (xs : List Slot) → Shape m s xs → (xs ≡ [] → ⊥) → s.rejects ≡ true → turned xs ≡ true
turned_out m s [] h n r = absurd (n refl)
turned_out m s (x ∷ xs) h n r = go (is_start x) refl
  where
    go : (b : Bool) → is_start x ≡ b → is_reject x ≡ true
    go true e = absurd (both_ways s.rejects (h.start e).2 r)
    go false e = (h.reject e).0

list_case : (xs : List Slot) → (xs ≡ []) ⊎ (is_empty xs ≡ false)
list_case [] = inl refl
list_case (x ∷ xs) = inr refl

full : (xs : List Slot) → is_empty xs ≡ false → xs ≡ [] → ⊥
full [] e q = true≢false e
full (x ∷ xs) e q = cc

starts_full : (xs : List Slot) → starts xs ≡ true → is_empty xs ≡ false
starts_full [] e = absurd (false≢true e)
starts_full (x ∷ xs) e = refl

nonempty : (xs : List Slot) → (xs ≡ [] → ⊥) → is_empty xs ≡ false
nonempty [] n = absurd (n refl)
nonempty (x ∷ xs) n = refl

blank_starts : (s : Session) → s ≡ blank → starts s.came ≡ true → ⊥
blank_starts s e h = false≢true (sym (ap (λ (z : Session). starts z.came) e) ∙ h)

positive : (n : ℕ) → (n ≡ 0 → ⊥) → 0 < n
positive zero h = absurd (h refl)
positive (suc n) h = omega arith

-- the two sessions of a generation, with what both lists say
record Both (m : Sessions) (s : Sessions) (k : ℕ) : Type 0 where
  named : of_generation m (m.session k).generation ≡ m.session k
  up : (of_generation s (m.session k).generation).came ≡ (m.session k).out
  down : (m.session k).came ≡ (of_generation s (m.session k).generation).out
  started : starts (m.session k).out ≡ true

both : (room back : ℕ) (m s : Sessions) → AtRest room back m s → (k : ℕ) → free (m.session k) ≡ false → Both m s k
both room back m s r k h = record {
  named = named;
  up = sym (append-nil b.came) ∙ sym (r.joined.flow_up.at_generation a.generation) ∙ ap (λ (z : Session). z.out) named;
  down = ap (λ (z : Session). z.came) (sym named) ∙ sym (append-nil (of_generation m a.generation).came) ∙ sym (r.joined.flow_down.at_generation a.generation);
  started = first_out m.master a a.out (r.joined.master_ok.each k).shape some p.rejects;
}
  where
    a : Session
    a = m.session k

    b : Session
    b = of_generation s a.generation

    p : Held a
    p = held_parts a h

    some : a.out ≡ [] → ⊥
    some e = start_some m.master m.ceiling room a p.rejects (r.master_accepts k p.rejects) p.turned e (r.master_silent k (held_turn m k r.joined.master_ok r.master_ids h))

    named : of_generation m a.generation ≡ a
    named = ap m.session (r.joined.master_ok.serial_found k (λ e. some ((r.joined.master_ok.each k).unnamed e)))

-- the slave has accepted it, and its own start is out
record Replied (s : Session) : Type 0 where
  rejects : s.rejects ≡ false
  accepted : s.accepted ≡ true
  started : starts s.out ≡ true
  held : free s ≡ false

replied : (room back : ℕ) (m s : Sessions) → AtRest room back m s → (k : ℕ) → free (m.session k) ≡ false → has_stop (of_generation s (m.session k).generation).out ≡ false → Replied (of_generation s (m.session k).generation)
replied room back m s r k h n = go b.rejects refl
  where
    a : Session
    a = m.session k

    j : ℕ
    j = s.serial_of a.generation

    b : Session
    b = s.session j

    p : Held a
    p = held_parts a h

    two : Both m s k
    two = both room back m s r k h

    came : starts b.came ≡ true
    came = ap starts two.up ∙ two.started

    some : 0 < j
    some = positive j (λ e. blank_starts b (ap s.session e ∙ r.joined.slave_ok.none) came)

    made : j ≤ s.made
    made = r.joined.slave_ok.serial_made a.generation

    turns_back : turned b.out ≡ false
    turns_back = ap turned (sym two.down) ∙ p.turned

    waits_not : b.rejects ≡ true → b.out ≡ [] → ⊥
    waits_not e o = reject_some s.master s.ceiling back b e o (starts_full b.came came) (r.slave_silent j (reject_turn s j some made (ap₂ (λ x y. x && y) e (ap is_empty o))))

    unturned : turned b.came ≡ false
    unturned = start_turned b.came came

    accepted : b.rejects ≡ false → b.accepted ≡ true
    accepted e = slave_accepted b e came unturned n (r.slave_answers j)

    held : b.rejects ≡ false → free b ≡ false
    held e = slave_held b e unturned n

    out : b.rejects ≡ false → b.out ≡ [] → ⊥
    out e o = start_some s.master s.ceiling back b e (accepted e) unturned o (r.slave_silent j (held_turn s j r.joined.slave_ok r.slave_ids (held e)))

    go : (c : Bool) → b.rejects ≡ c → Replied b
    go true e = absurd (false≢true (sym turns_back ∙ turned_out s.master b b.out (r.joined.slave_ok.each j).shape (waits_not e) e))
    go false e = record { rejects = e; accepted = accepted e; started = first_out s.master b b.out (r.joined.slave_ok.each j).shape (out e) e; held = held e }

-- two ends at rest have brought all
pub at_rest : (room back : ℕ) (m s : Sessions) → AtRest room back m s → AllThrough m s
at_rest room back m s r k h ca cb = (
  record { heard = way_done m.ceiling s.ceiling a b r.slave_gives two.up two.down ra rb cb (r.slave_takes j cb) quiet_here (r.joined.master_ok.accounts k).framed; taken = r.slave_takes j cb },
  record { heard = way_done s.ceiling m.ceiling b a r.master_gives two.down two.up rb ra ca (r.master_takes k ca) quiet_there (r.joined.slave_ok.accounts j).framed; taken = r.master_takes k ca },
)
  where
    a : Session
    a = m.session k

    j : ℕ
    j = s.serial_of a.generation

    b : Session
    b = s.session j

    p : Held a
    p = held_parts a h

    two : Both m s k
    two = both room back m s r k h

    stops : (has_stop (of_generation m a.generation).out ≡ false) × (has_stop b.out ≡ false)
    stops = r.no_stops a.generation (ap (λ (z : Session). z.closed) two.named ∙ ca) cb

    no_stop : has_stop a.out ≡ false
    no_stop = ap (λ (z : Session). has_stop z.out) (sym two.named) ∙ stops.0

    quiet_here : has_stop a.came ≡ false
    quiet_here = ap has_stop two.down ∙ stops.1

    quiet_there : has_stop b.came ≡ false
    quiet_there = ap has_stop two.up ∙ no_stop

    q : Replied b
    q = replied room back m s r k h stops.1

    ra : Rested m.ceiling a
    ra = running_rests m.master m.ceiling room a (record { rejects = p.rejects; accepted = r.master_accepts k p.rejects; out = starts_full a.out two.started; came = ap starts two.down ∙ q.started; stop = no_stop }) (r.master_silent k (held_turn m k r.joined.master_ok r.master_ids h))

    rb : Rested s.ceiling b
    rb = running_rests s.master s.ceiling back b (record { rejects = q.rejects; accepted = q.accepted; out = starts_full b.out q.started; came = ap starts two.up ∙ two.started; stop = stops.1 }) (r.slave_silent j (held_turn s j r.joined.slave_ok r.slave_ids q.held))
