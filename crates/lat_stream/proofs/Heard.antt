-- What is kept of a session that runs, behind a slot that it hears.
use Rattle.std.proofs.Common.{◌≡◌, ℕ, suc, ◌+◌, ◌-◌, ◌<◌, ◌≤◌, sym, ap, ap₂, ◌∙◌, refl, arith, Bool, true, false, not, cond, ◌&&◌, ◌||◌, List, [], ◌∷◌, ◌++◌, length, map, drop, Option, Some, None, nat_lt, nat_le, subst, length-append, length-drop, append-nil}
use Rattle.std.proofs.lemmas.Bool.{lt-ltb, ltb-true, and_parts}
use Rattle.std.proofs.lemmas.List.{map-append, length-map, drop-append-le}
use Rattle.lat_base.specs.declared.item.Item.TheVariants as kept_items
use Rattle.lat_credit.specs.Account.{Account}
use Rattle.lat_credit.specs.Account as account
use Rattle.lat_credit.proofs.Sessions as sessions
use Rattle.lat_model.specs.Lists.{is_empty}
use Rattle.lat_model.specs.sessions.Slots.{Byte, Slot, DataA, DataB, Attention, items_of, items, credits, credits_of, costs, cost_of, mark_after, is_stop, has_stop}
use Rattle.lat_model.specs.sessions.Session.{Session, Closing, Live, held_slots}
use Rattle.lat_model.specs.sessions.Hearing.{heard}
use Rattle.lat_model.specs.sessions.EndOk.{Accounts, Small}
use Rattle.lat_model.proofs.numbers.Net.{each_append}
use Rattle.lat_model.proofs.sessions.Bounds.{heard_fit}
use Rattle.lat_model.proofs.sessions.Hears.{starter_more, heard_accounts}
use Rattle.lat_model.proofs.sessions.Words.{items-append}
use Rattle.lat_stream.specs.declared.opening.Opening.{Opening}
use Rattle.lat_stream.specs.Kept.{Kept, stream_of, item_of, state_of, left_in}
use Rattle.lat_stream.specs.Sound.{Sound}
use Rattle.lat_stream.specs.Steps.{granted, held_more, kept_more, can_pay}
use Rattle.lat_stream.proofs.Same.{same}
use Rattle.lat_stream.proofs.Left.{left_behind, bytes_shown}
use Rattle.lat_stream.proofs.Running.{Runs, runs_more, rejected_more, no_stop_more, state_runs, end_runs, size_more}

-- the counters behind a slot
abbrev pub credits_more : ℕ → Session → Slot → account.Kept
credits_more c s x = record {
  ceiling = c;
  outstanding = credits s.out - (costs s.came + cost_of x);
  held = held_slots s + cond s.closed 0 (cost_of x);
  unused = credits s.came + credits_of x - costs s.out;
}

pub heard_items : (s : Session) (x : Slot) → s.taken ≤ length (items s.came) → map item_of (drop s.taken (items (s.came ++ x ∷ []))) ≡ map item_of (drop s.taken (items s.came)) ++ map item_of (items_of x ++ [])
heard_items s x h =
    ap (λ z. map item_of (drop s.taken z)) (items-append s.came (x ∷ []))
    ∙ ap (λ z. map item_of z) (drop-append-le s.taken (items s.came) (items_of x ++ []) h)
    ∙ map-append item_of (drop s.taken (items s.came)) (items_of x ++ [])

pub heard_is : (m : Bool) (c : ℕ) (s : Session) (x : Slot) → s.taken ≤ length (items s.came) → Runs s → has_stop s.came ≡ false → is_stop x ≡ false →
    record (stream_of m c s) {
      mark = mark_after s.mark x;
      credits = credits_more c s x;
      heard = cond s.closed [] (map item_of (drop s.taken (items s.came)) ++ map item_of (items_of x ++ []));
      held = cond s.closed [] (left_in s.taken s.came ++ left_in 0 (x ∷ []));
    } ≡ stream_of m c (heard s x)
heard_is m c s x t r h i =
    let q : Runs (heard s x) = runs_more s x r h i in
    let stop : has_stop (s.came ++ x ∷ []) ≡ has_stop s.came = no_stop_more s.came x h i ∙ sym h in
    same _ _ (record {
      state = ap state_of (state_runs m s r ∙ ap (λ b. cond (s.closed || b) Closing Live) (sym stop) ∙ sym (state_runs m (heard s x) q));
      is_closed = refl;
      stop_formed = refl;
      stop_heard = sym stop;
      peer = sym (starter_more s.came (x ∷ []) r.some);
      size = sym (size_more s.came (x ∷ []) r.some);
      start = ap (λ b. cond {A = Option Opening} (is_empty s.out && not b) (Some (record { service = s.service; request = s.request })) None) (r.is_gone ∙ sym q.is_gone);
      attention = refl;
      mark = refl;
      credits = ap (λ (a : Account). record { ceiling = c; outstanding = a.given - a.heard; held = a.held; unused = a.granted - a.used }) (sym (sessions.heard_is s x t));
      given = refl;
      used = refl;
      unframed = ap₂ (λ a b. cond a [] (map item_of (cond b [] (drop (length (items s.out)) s.put)))) (sym (rejected_more s x r.some)) (sym stop);
      heard = ap (λ z. cond s.closed [] z) (sym (heard_items s x t));
      held = ap (λ z. cond s.closed [] z) (sym (left_behind s.taken s.came x t));
      end = end_runs s r ∙ sym (end_runs (heard s x) q);
    })

abbrev pub counters : ℕ → ℕ → ℕ → ℕ → account.Kept
counters c o h u = record { ceiling = c; outstanding = o; held = h; unused = u }

pub counters_same : (c o h u p i v : ℕ) → o ≡ p → h ≡ i → u ≡ v → counters c o h u ≡ counters c p i v
counters_same c o h u p i v e f g = ap (λ z. counters c z h u) e ∙ ap (λ z. counters c p z u) f ∙ ap (λ z. counters c p i z) g

-- credits alone, or an attention

pub free_of : (m : Bool) (c : ℕ) (s : Session) (x : Slot) → Accounts c s → Runs s → has_stop s.came ≡ false → is_stop x ≡ false → cost_of x ≡ 0 → items_of x ≡ [] →
    record (granted (credits_of x) (stream_of m c s)) { mark = mark_after s.mark x } ≡ stream_of m c (heard s x)
free_of m c s x ac r h i cost none =
    same _ _ (record {
      state = refl;
      is_closed = refl;
      stop_formed = refl;
      stop_heard = refl;
      peer = refl;
      size = refl;
      start = refl;
      attention = refl;
      mark = refl;
      credits = counters_same c _ _ _ _ _ _ (omega (arith, cost)) (omega (arith, nothing s.closed (cost_of x) cost)) (omega (arith, ac.spends));
      given = refl;
      used = refl;
      unframed = refl;
      heard = ap (λ z. cond s.closed [] z) (sym (append-nil _) ∙ ap (λ z. map item_of (drop s.taken (items s.came)) ++ map item_of (z ++ [])) (sym none));
      held = ap (λ z. cond s.closed [] z) (sym (append-nil _) ∙ ap (λ z. left_in s.taken s.came ++ cond (nat_lt 0 (length z)) ((length z - 0) ∷ []) []) (sym none));
      end = refl;
    }) ∙ heard_is m c s x ac.taken r h i
  where
    nothing : (b : Bool) (n : ℕ) → n ≡ 0 → cond b 0 n ≡ 0
    nothing true n e = refl
    nothing false n e = e

-- items come, for a credit

pub paid_for : (m : Bool) (c : ℕ) (s : Session) (x : Slot) → Accounts c s → Runs s → has_stop s.came ≡ false → is_stop x ≡ false → cost_of x ≡ 1 → 0 < length (items_of x) → mark_after s.mark x ≡ s.mark →
    kept_more (map item_of (items_of x)) (held_more (length (items_of x)) (granted (credits_of x) (stream_of m c s))) ≡ stream_of m c (heard s x)
paid_for m c s x ac r h i cost some mark =
    same _ _ (record {
      state = refl;
      is_closed = refl;
      stop_formed = refl;
      stop_heard = refl;
      peer = refl;
      size = refl;
      start = refl;
      attention = refl;
      mark = sym mark;
      credits = counters_same c _ _ _ _ _ _ (omega (arith, cost)) (bound s.closed) (omega (arith, ac.spends));
      given = refl;
      used = refl;
      unframed = refl;
      heard = items_come s.closed;
      held = is_held s.closed;
      end = refl;
    }) ∙ heard_is m c s x ac.taken r h i
  where
    bound : (b : Bool) → cond b (held_slots s) (suc (held_slots s)) ≡ held_slots s + cond b 0 (cost_of x)
    bound true = omega arith
    bound false = omega (arith, cost)

    items_come : (b : Bool) → cond b (cond b [] (map item_of (drop s.taken (items s.came)))) (cond b [] (map item_of (drop s.taken (items s.came))) ++ map item_of (items_of x)) ≡ cond b [] (map item_of (drop s.taken (items s.came)) ++ map item_of (items_of x ++ []))
    items_come true = refl
    items_come false = ap (λ z. map item_of (drop s.taken (items s.came)) ++ map item_of z) (sym (append-nil (items_of x)))

    is_held : (b : Bool) → cond b (cond b [] (left_in s.taken s.came)) (cond b [] (left_in s.taken s.came) ++ length (items_of x) ∷ []) ≡ cond b [] (left_in s.taken s.came ++ cond (nat_lt 0 (length (items_of x))) ((length (items_of x) - 0) ∷ []) [])
    is_held true = refl
    is_held false =
        let e : length (items_of x) ≡ length (items_of x) - 0 = omega arith in
        ap (λ z. left_in s.taken s.came ++ z ∷ []) e
        ∙ ap (λ b. left_in s.taken s.came ++ cond b ((length (items_of x) - 0) ∷ []) []) (sym (lt-ltb 0 (length (items_of x)) some))

-- there is room for them

pub room_for : (m : Bool) (c : ℕ) (s : Session) (x : Slot) → c ≤ 15 → Accounts c s → Small s.came → length (items_of x) ≤ 255 → costs s.came + cost_of x ≤ credits s.out → length (stream_of m c s).heard + length (items_of x) ≤ 3825
room_for m c s x most ac small few fit = go s.closed refl
  where
    more : Small (s.came ++ x ∷ [])
    more = each_append (λ y. length (items_of y) ≤ 255) s.came (x ∷ []) small (few, tt)

    go : (b : Bool) → s.closed ≡ b → length (cond b [] (map item_of (drop s.taken (items s.came)))) + length (items_of x) ≤ 3825
    go true q = omega (arith, few)
    go false q =
        let all : length (items (s.came ++ x ∷ [])) - s.taken ≤ 3825 = heard_fit c (heard s x) most (heard_accounts c s x fit ac) more q in
        let sum : length (items (s.came ++ x ∷ [])) ≡ length (items s.came) + length (items_of x ++ []) = ap length (items-append s.came (x ∷ [])) ∙ length-append (items s.came) (items_of x ++ []) in
        let last : length (items_of x ++ []) ≡ length (items_of x) = ap length (append-nil (items_of x)) in
        let left : length (map item_of (drop s.taken (items s.came))) ≡ length (items s.came) - s.taken = length-map (drop s.taken (items s.came)) item_of ∙ length-drop s.taken (items s.came) in
        omega (arith, ac.taken)

pub attention_is : (m : Bool) (c : ℕ) (s : Session) (to from flag : ℕ) → Accounts c s → Runs s → has_stop s.came ≡ false → record (stream_of m c s) { mark = Some flag } ≡ stream_of m c (heard s (Attention to from flag))
attention_is m c s to from flag ac r h =
    let e : credits s.came - costs s.out ≡ credits s.came - costs s.out + 0 = omega arith in
    ap (λ (u : ℕ). record (stream_of m c s) { mark = Some flag; credits = record (stream_of m c s).credits { unused = u } }) e
    ∙ free_of m c s (Attention to from flag) ac r h refl refl refl

pub bytes_are : (m : Bool) (c : ℕ) (s : Session) (to from n : ℕ) (bs : List ℕ) → 0 < length bs → Accounts c s → Runs s → has_stop s.came ≡ false →
    kept_more (map kept_items.Byte bs) (held_more (length bs) (granted n (stream_of m c s))) ≡ stream_of m c (heard s (DataA to from n bs))
bytes_are m c s to from n [] some ac r h = absurd (omega (arith, some))
bytes_are m c s to from n (b ∷ bs) some ac r h =
    ap (λ z. kept_more z (held_more (length (b ∷ bs)) (granted n (stream_of m c s)))) (sym (bytes_shown (b ∷ bs)))
    ∙ ap (λ z. kept_more (map item_of (map Byte (b ∷ bs))) (held_more z (granted n (stream_of m c s)))) (sym (length-map (b ∷ bs) Byte))
    ∙ paid_for m c s (DataA to from n (b ∷ bs)) ac r h refl refl (omega arith) refl

pub no_bytes_are : (m : Bool) (c : ℕ) (s : Session) (to from n : ℕ) (bs : List ℕ) → length bs ≡ 0 → Accounts c s → Runs s → has_stop s.came ≡ false →
    granted n (stream_of m c s) ≡ stream_of m c (heard s (DataA to from n bs))
no_bytes_are m c s to from n [] none ac r h = free_of m c s (DataA to from n []) ac r h refl refl refl
no_bytes_are m c s to from n (b ∷ bs) none ac r h = absurd (omega (arith, none))

pub setting_is : (m : Bool) (c : ℕ) (s : Session) (to from n : ℕ) (t : List ℕ) → Accounts c s → Runs s → has_stop s.came ≡ false →
    kept_more (kept_items.Set t ∷ []) (held_more 1 (granted n (stream_of m c s))) ≡ stream_of m c (heard s (DataB to from n t))
setting_is m c s to from n t ac r h = paid_for m c s (DataB to from n t) ac r h refl refl (omega arith) refl

-- a slot that may be paid has a credit

pub has_credit : (m : Bool) (c : ℕ) (s : Session) (k : Kept) (n : ℕ) → k ≡ stream_of m c s → can_pay n k ≡ true → costs s.came + 1 ≤ credits s.out
has_credit m c s k n e h =
    let p : (nat_lt 0 k.credits.outstanding ≡ true) × _ = and_parts (nat_lt 0 k.credits.outstanding) (nat_le (k.credits.unused + n) 255) h in
    let q : 0 < credits s.out - costs s.came = subst (λ (z : Kept). 0 < z.credits.outstanding) e (ltb-true 0 k.credits.outstanding p.0) in
    omega (arith, q)

pub room_for_bytes : (m : Bool) (c : ℕ) (s : Session) (to from n : ℕ) (bs : List ℕ) → c ≤ 15 → 0 < length bs → length bs ≤ 255 → Sound m c s → costs s.came + 1 ≤ credits s.out → length (stream_of m c s).heard + length bs ≤ 3825
room_for_bytes m c s to from n [] most some few h fit = absurd (omega (arith, some))
room_for_bytes m c s to from n (b ∷ bs) most some few h fit =
    let same_length : length (map Byte (b ∷ bs)) ≡ length (b ∷ bs) = length-map (b ∷ bs) Byte in
    omega (arith, room_for m c s (DataA to from n (b ∷ bs)) most h.accounts h.small (omega (arith, few)) fit)
