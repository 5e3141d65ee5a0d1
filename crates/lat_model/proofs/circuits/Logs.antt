-- All messages with the generations of their slots, and the credits that stood behind each of them.
use Rattle.std.proofs.Common.{◌≡◌, ℕ, zero, suc, ◌+◌, ◌<◌, ◌≤◌, inl, inr, ⊎_elim, sym, ap, ◌∙◌, refl, subst, arith, Bool, true, false, List, [], ◌∷◌, ◌++◌, length, get_or, take, drop, ◌||◌, append_assoc, append-nil, length-append, take_all, take_at, take-append-drop}
use Rattle.std.proofs.lemmas.List.{append_cancel_right, get_or_append_left, get_or_push, take-append-le}
use Rattle.std.proofs.lemmas.Bool.{cases_lt, false≢true, or_right, and_parts}
use Rattle.lat_model.specs.sessions.Slots.{Slot, credits, costs, starts, turned, has_stop, is_start}
use Rattle.lat_model.specs.sessions.Sessions.{Sessions, of_generation}
use Rattle.lat_model.specs.sessions.Packing.{TaggedSlot, Packing}
use Rattle.lat_model.specs.numbers.Link.{form_message, take_message}
use Rattle.lat_model.specs.sessions.Joined.{Joined, slots_of, has_start}
use Rattle.lat_model.specs.sessions.EndOk.{EndOk, Head, Shape, is_behind}
use Rattle.lat_model.specs.ends.End.{wire_of, Half}
use Rattle.lat_model.specs.circuits.Together.{wires, flat, Credit, Over, Renewed, Answered, Logs}
use Rattle.lat_model.specs.Lists.{Each}
use Rattle.lat_model.proofs.numbers.Net.{each_imp}
use Rattle.lat_model.proofs.sessions.Words.{slots_of-append}
use Rattle.lat_model.proofs.sessions.Hears.{who_some}
use Rattle.lat_model.proofs.sessions.Starts.{free_cases, free_decides}
use Rattle.lat_model.proofs.sessions.Freshly.{FirstStart, first_start}
use Rattle.lat_model.proofs.sessions.News.{News, NewStart}

pub wires-append : (xs ys : List (List TaggedSlot)) → wires (xs ++ ys) ≡ wires xs ++ wires ys
wires-append [] ys = refl
wires-append (x ∷ xs) ys = ap (λ z. wire_of x ∷ z) (wires-append xs ys)

pub flat-append : (xs ys : List (List TaggedSlot)) → flat (xs ++ ys) ≡ flat xs ++ flat ys
flat-append [] ys = refl
flat-append (x ∷ xs) ys = ap (λ z. x ++ z) (flat-append xs ys) ∙ sym (append_assoc x (flat xs) (flat ys))

pub flat-push : (xs : List (List TaggedSlot)) (y : List TaggedSlot) → flat (xs ++ y ∷ []) ≡ flat xs ++ y
flat-push xs y = flat-append xs (y ∷ []) ∙ ap (λ z. flat xs ++ z) (append-nil y)

wires_length : (xs : List (List TaggedSlot)) → length (wires xs) ≡ length xs
wires_length [] = refl
wires_length (x ∷ xs) = ap suc (wires_length xs)

-- two joined states that differ in one end tell what it formed

pub outs_up : (m s f s2 : Sessions) (u d u2 d2 : List TaggedSlot) → u2 ≡ u → Joined m s u d → Joined f s u2 d2 → (g : ℕ) → (of_generation f g).out ≡ (of_generation m g).out
outs_up m s f s2 u d u2 d2 e j k g = k.flow_up.at_generation g ∙ ap (λ z. (of_generation s g).came ++ slots_of g z) e ∙ sym (j.flow_up.at_generation g)

pub outs_down : (m s m2 f : Sessions) (u d u2 d2 : List TaggedSlot) → d2 ≡ d → Joined m s u d → Joined m f u2 d2 → (g : ℕ) → (of_generation f g).out ≡ (of_generation s g).out
outs_down m s m2 f u d u2 d2 e j k g = k.flow_down.at_generation g ∙ ap (λ z. (of_generation m g).came ++ slots_of g z) e ∙ sym (j.flow_down.at_generation g)

-- ids stay where something was formed
abbrev pub SameIds : Sessions → Sessions → Type 0
SameIds a b = (g : ℕ) → ((of_generation a g).out ≡ [] → ⊥) → (of_generation b g).id ≡ (of_generation a g).id

has_start-nil : (xs : List Slot) → has_start xs ≡ true → xs ≡ [] → ⊥
has_start-nil xs h e = false≢true (sym (ap has_start e) ∙ h)

starts-nil : (xs : List Slot) → starts xs ≡ true → xs ≡ [] → ⊥
starts-nil xs h e = false≢true (sym (ap starts e) ∙ h)

start_front : (xs ys : List Slot) → has_start xs ≡ true → has_start (xs ++ ys) ≡ true
start_front [] ys h = absurd (false≢true h)
start_front (x ∷ xs) ys h = go (start_front xs ys) (is_start x) h
  where
    go : (has_start xs ≡ true → has_start (xs ++ ys) ≡ true) → (b : Bool) → (b || has_start xs) ≡ true → (b || has_start (xs ++ ys)) ≡ true
    go ih true h = h
    go ih false h = ih h

start_back : (xs ys : List Slot) → has_start ys ≡ true → has_start (xs ++ ys) ≡ true
start_back [] ys h = h
start_back (x ∷ xs) ys h = or_right (is_start x) (has_start (xs ++ ys)) (start_back xs ys h)

-- a start in one message is among all
start_among : (g : ℕ) (sent : List (List TaggedSlot)) (k : ℕ) → has_start (slots_of g (get_or sent k [])) ≡ true → has_start (slots_of g (flat sent)) ≡ true
start_among g [] k h = h
start_among g (m ∷ ms) zero h = ap has_start (slots_of-append g m (flat ms)) ∙ start_front (slots_of g m) (slots_of g (flat ms)) h
start_among g (m ∷ ms) (suc k) h = ap has_start (slots_of-append g m (flat ms)) ∙ start_back (slots_of g m) (slots_of g (flat ms)) (start_among g ms k h)

front_nil : (xs ys : List Slot) → xs ++ ys ≡ [] → xs ≡ []
front_nil [] ys q = refl
front_nil (x ∷ xs) ys q = cc

front_among : (h : ℕ) (sent : List (List TaggedSlot)) (k : ℕ) → starts (slots_of h (flat (take k sent))) ≡ true → slots_of h (flat sent) ≡ [] → ⊥
front_among h sent k st e =
    starts-nil (slots_of h (flat (take k sent))) st
    (front_nil (slots_of h (flat (take k sent))) (slots_of h (flat (drop k sent)))
    (sym (slots_of-append h (flat (take k sent)) (flat (drop k sent))) ∙ ap (slots_of h) (sym (flat-append (take k sent) (drop k sent)) ∙ ap flat (take-append-drop k sent)) ∙ e))

renewed_keep : (a b : Sessions) (sent : List (List TaggedSlot)) (taken_then : List ℕ) (heard : List (List TaggedSlot)) → ((g : ℕ) → (of_generation a g).out ≡ slots_of g (flat sent)) → SameIds a b → Renewed a sent taken_then heard → Renewed b sent taken_then heard
renewed_keep a b sent taken_then heard log same r = record {
  over = λ k g h i sg ne ids sh. r.over k g h i sg ne (sym (same h (λ q. front_among h sent k sh (sym (log h) ∙ q))) ∙ ids ∙ same g (some g k sg)) sh;
  single = λ k g h i sg sh ids. r.single k g h i sg sh (sym (same h (some h k sh)) ∙ ids ∙ same g (some g k sg));
}
  where
    some : (g k : ℕ) → has_start (slots_of g (get_or sent k [])) ≡ true → (of_generation a g).out ≡ [] → ⊥
    some g k sg q = has_start-nil (slots_of g (flat sent)) (start_among g sent k sg) (sym (log g) ∙ q)

renewed_heard : (a : Sessions) (sent : List (List TaggedSlot)) (taken_then : List ℕ) (heard : List (List TaggedSlot)) (os : List TaggedSlot) → Credit sent taken_then heard → Renewed a sent taken_then heard → Renewed a sent taken_then (heard ++ os ∷ [])
renewed_heard a sent taken_then heard os c r = record {
  over = λ k g h i sg ne ids sh. subst (λ z. Over h (take k sent) z) (sym (take-append-le (get_or taken_then k 0) heard (os ∷ []) (c.taken k i))) (r.over k g h i sg ne ids sh);
  single = r.single;
}

renewed_more : (a : Sessions) (sent : List (List TaggedSlot)) (taken_then : List ℕ) (heard : List (List TaggedSlot)) (os : List TaggedSlot) (n : ℕ) → n ≡ length heard → length taken_then ≡ length sent →
    ((g h : ℕ) → has_start (slots_of g os) ≡ true → (h ≡ g → ⊥) → (of_generation a h).id ≡ (of_generation a g).id → starts (slots_of h (flat sent)) ≡ true → Over h sent heard) →
    ((g h : ℕ) → has_start (slots_of g os) ≡ true → has_start (slots_of h os) ≡ true → (of_generation a h).id ≡ (of_generation a g).id → h ≡ g) →
    Renewed a sent taken_then heard → Renewed a (sent ++ os ∷ []) (taken_then ++ n ∷ []) heard
renewed_more a sent taken_then heard os n e l new one r = record { over = over; single = single }
  where
    all : List (List TaggedSlot)
    all = sent ++ os ∷ []

    at_old : (k : ℕ) → k < length sent → get_or all k [] ≡ get_or sent k []
    at_old k q = get_or_append_left sent (os ∷ []) [] k q

    at_new : (k : ℕ) → k < length all → length sent ≤ k → get_or all k [] ≡ os
    at_new k i q = get_or_push sent os [] k (omega (arith, length-append sent (os ∷ [])))

    over : (k g h : ℕ) → k < length all → has_start (slots_of g (get_or all k [])) ≡ true → (h ≡ g → ⊥) → (of_generation a h).id ≡ (of_generation a g).id → starts (slots_of h (flat (take k all))) ≡ true → Over h (take k all) (take (get_or (taken_then ++ n ∷ []) k 0) heard)
    over k g h i sg ne ids sh = ⊎_elim {C = Over h (take k all) (take (get_or (taken_then ++ n ∷ []) k 0) heard)} old late (cases_lt k (length sent))
      where
        old : k < length sent → Over h (take k all) (take (get_or (taken_then ++ n ∷ []) k 0) heard)
        old q =
            let t : take k all ≡ take k sent = take-append-le k sent (os ∷ []) (omega arith) in
            let b : get_or (taken_then ++ n ∷ []) k 0 ≡ get_or taken_then k 0 = get_or_append_left taken_then (n ∷ []) 0 k (omega (arith, l)) in
            subst (λ z. Over h z (take (get_or (taken_then ++ n ∷ []) k 0) heard)) (sym t) (subst (λ z. Over h (take k sent) (take z heard)) (sym b)
            (r.over k g h q (ap (λ z. has_start (slots_of g z)) (sym (at_old k q)) ∙ sg) ne ids (ap (λ z. starts (slots_of h (flat z))) (sym t) ∙ sh)))

        late : length sent ≤ k → Over h (take k all) (take (get_or (taken_then ++ n ∷ []) k 0) heard)
        late q =
            let kk : length sent ≡ k = omega (arith, length-append sent (os ∷ [])) in
            let t : take k all ≡ sent = take_at sent (os ∷ []) k kk in
            let b : take (get_or (taken_then ++ n ∷ []) k 0) heard ≡ heard = take_all (get_or (taken_then ++ n ∷ []) k 0) heard (omega (arith, get_or_push taken_then n 0 k (omega (arith, l)))) in
            subst (λ z. Over h z (take (get_or (taken_then ++ n ∷ []) k 0) heard)) (sym t) (subst (λ z. Over h sent z) (sym b)
            (new g h (ap (λ z. has_start (slots_of g z)) (sym (at_new k i q)) ∙ sg) ne ids (ap (λ z. starts (slots_of h (flat z))) (sym t) ∙ sh)))

    single : (k g h : ℕ) → k < length all → has_start (slots_of g (get_or all k [])) ≡ true → has_start (slots_of h (get_or all k [])) ≡ true → (of_generation a h).id ≡ (of_generation a g).id → h ≡ g
    single k g h i sg sh ids = ⊎_elim {C = h ≡ g}
        (λ q. r.single k g h q (ap (λ z. has_start (slots_of g z)) (sym (at_old k q)) ∙ sg) (ap (λ z. has_start (slots_of h z)) (sym (at_old k q)) ∙ sh) ids)
        (λ q. one g h (ap (λ z. has_start (slots_of g z)) (sym (at_new k i q)) ∙ sg) (ap (λ z. has_start (slots_of h z)) (sym (at_new k i q)) ∙ sh) ids)
        (cases_lt k (length sent))

answered_heard : (sent : List (List TaggedSlot)) (taken_then : List ℕ) (heard : List (List TaggedSlot)) (os : List TaggedSlot) → Credit sent taken_then heard → Answered sent taken_then heard → Answered sent taken_then (heard ++ os ∷ [])
answered_heard sent taken_then heard os c a = record { each = λ k i. subst (λ z. Each (λ o. is_behind o.slot ≡ true → starts (slots_of o.generation (flat z)) ≡ true) (get_or sent k [])) (sym (take-append-le (get_or taken_then k 0) heard (os ∷ []) (c.taken k i))) (a.each k i) }

answered_more : (sent : List (List TaggedSlot)) (taken_then : List ℕ) (heard : List (List TaggedSlot)) (os : List TaggedSlot) (n : ℕ) → n ≡ length heard → length taken_then ≡ length sent → Each (λ o. is_behind o.slot ≡ true → starts (slots_of o.generation (flat heard)) ≡ true) os → Answered sent taken_then heard → Answered (sent ++ os ∷ []) (taken_then ++ n ∷ []) heard
answered_more sent taken_then heard os n e l new a = record { each = λ k i. ⊎_elim {C = Goal k (get_or (taken_then ++ n ∷ []) k 0) (get_or (sent ++ os ∷ []) k [])} (old k) (late k i) (cases_lt k (length sent)) }
  where
    Goal : ℕ → ℕ → List TaggedSlot → Type 0
    Goal k b xs = Each (λ o. is_behind o.slot ≡ true → starts (slots_of o.generation (flat (take b heard))) ≡ true) xs

    old : (k : ℕ) → k < length sent → Goal k (get_or (taken_then ++ n ∷ []) k 0) (get_or (sent ++ os ∷ []) k [])
    old k q = subst (λ z. Goal k z (get_or (sent ++ os ∷ []) k [])) (sym (get_or_append_left taken_then (n ∷ []) 0 k (omega (arith, l)))) (subst (Goal k (get_or taken_then k 0)) (sym (get_or_append_left sent (os ∷ []) [] k q)) (a.each k q))

    late : (k : ℕ) → k < length (sent ++ os ∷ []) → length sent ≤ k → Goal k (get_or (taken_then ++ n ∷ []) k 0) (get_or (sent ++ os ∷ []) k [])
    late k i q =
        let b : get_or (taken_then ++ n ∷ []) k 0 ≡ n = get_or_push taken_then n 0 k (omega (arith, l, length-append sent (os ∷ []))) in
        let t : take n heard ≡ heard = take_all n heard (omega (arith, e)) in
        subst (λ z. Goal k z (get_or (sent ++ os ∷ []) k [])) (sym b) (subst (Goal k n) (sym (get_or_push sent os [] k (omega (arith, length-append sent (os ∷ []))))) (subst (λ z. Each (λ o. is_behind o.slot ≡ true → starts (slots_of o.generation (flat z)) ≡ true) os) (sym t) new))

-- what a packing tells of the starts in it
later_ids : (m : Sessions) (p : Packing) → EndOk m → News m p → SameIds m p.after
later_ids m p ok n g e =
    let w : m.serial_of g ≡ 0 → ⊥ = who_some m (λ z. z.out ≡ [] → ⊥) (λ z. z refl) ok g e in
    n.later.id (p.after.serial_of g) ∙ ap (λ z. (m.session z).id) (n.later.serial_of g w)

started : (m : Sessions) (p : Packing) → News m p → (g : ℕ) → (x : NewStart m p.after g) → (of_generation p.after g).id ≡ (m.session x.serial).id
started m p n g x = n.later.id (p.after.serial_of g) ∙ ap (λ z. (m.session z).id) x.at

news_over : (m : Sessions) (p : Packing) (sent heard : List (List TaggedSlot)) → EndOk m → News m p → ((g : ℕ) → (of_generation m g).out ≡ slots_of g (flat sent)) → ((g : ℕ) → (of_generation m g).came ≡ slots_of g (flat heard)) →
    (g h : ℕ) → has_start (slots_of g p.slots) ≡ true → (h ≡ g → ⊥) → (of_generation p.after h).id ≡ (of_generation p.after g).id → starts (slots_of h (flat sent)) ≡ true → Over h sent heard
news_over m p sent heard ok n out came g h sg ne ids sh =
    let x : NewStart m p.after g = n.starts g sg in
    let so : starts (of_generation m h).out ≡ true = ap starts (out h) ∙ sh in
    let some : m.serial_of h ≡ 0 → ⊥ = who_some m (λ z. starts z.out ≡ true) (λ z. false≢true z) ok h so in
    let same : (of_generation m h).id ≡ (m.session x.serial).id = sym (later_ids m p ok n h (starts-nil (of_generation m h).out so)) ∙ ids ∙ started m p n g x in
    let first : FirstStart (of_generation m h) = first_start m.master (of_generation m h) (ok.each (m.serial_of h)) (starts_has (of_generation m h).out so) in
    let head : Head m.master (of_generation m h) first.slot first.rest = subst (Shape m.master (of_generation m h)) first.parts (ok.each (m.serial_of h)).shape in
    ⊎_elim {C = Over h sent heard}
    (λ f. ⊎_elim {C = Over h sent heard} (λ t. inr (ap turned (sym (came h)) ∙ t))
    (λ t. (let b : (has_stop (of_generation m h).out ≡ true) × (has_stop (of_generation m h).came ≡ true) = and_parts (has_stop (of_generation m h).out) (has_stop (of_generation m h).came) t in
    inl (ap has_stop (sym (out h)) ∙ b.0, ap has_stop (sym (came h)) ∙ b.1)))
    (free_cases (of_generation m h) (head.start first.start).2 f))
    (λ f. absurd (ne (x.only h (sym (ok.holds (m.serial_of h) f) ∙ ap m.at_id same ∙ ok.holds x.serial x.held))))
    (free_decides (of_generation m h))
  where
    starts_has : (xs : List Slot) → starts xs ≡ true → has_start xs ≡ true
    starts_has [] e = e
    starts_has (y ∷ ys) e = ap (λ z. z || has_start ys) e

news_single : (m : Sessions) (p : Packing) → EndOk m → EndOk p.after → News m p → (g h : ℕ) → has_start (slots_of g p.slots) ≡ true → has_start (slots_of h p.slots) ≡ true → (of_generation p.after h).id ≡ (of_generation p.after g).id → h ≡ g
news_single m p ok pk n g h sg sh ids =
    let x : NewStart m p.after g = n.starts g sg in
    let y : NewStart m p.after h = n.starts h sh in
    let same : (m.session y.serial).id ≡ (m.session x.serial).id = sym (started m p n h y) ∙ ids ∙ started m p n g x in
    let k : y.serial ≡ x.serial = sym (ok.holds y.serial y.held) ∙ ap m.at_id same ∙ ok.holds x.serial x.held in
    sym (pk.generation_found h (λ q. y.some (sym y.at ∙ q))) ∙ ap (λ z. (p.after.session z).generation) (y.at ∙ k ∙ sym x.at) ∙ pk.generation_found g (λ q. x.some (sym x.at ∙ q))

pub same_logs : (m s m' s' : Half) (ud u dd d : List (List TaggedSlot)) → s'.link.came ≡ s.link.came → m'.link.came ≡ m.link.came → m'.link.taken_then ≡ m.link.taken_then → s'.link.taken_then ≡ s.link.taken_then → ((g : ℕ) → (of_generation m'.sessions g).out ≡ (of_generation m.sessions g).out) → ((g : ℕ) → (of_generation s'.sessions g).out ≡ (of_generation s.sessions g).out) → SameIds m.sessions m'.sessions → SameIds s.sessions s'.sessions → Logs m s ud u dd d → Logs m' s' ud u dd d
same_logs m s m' s' ud u dd d a b p q om os im is l = record {
  done_up = l.done_up ∙ sym a;
  done_down = l.done_down ∙ sym b;
  log_up = λ g. om g ∙ l.log_up g;
  log_down = λ g. os g ∙ l.log_down g;
  credit_up = subst (λ z. Credit (ud ++ u) z dd) (sym p) l.credit_up;
  credit_down = subst (λ z. Credit (dd ++ d) z ud) (sym q) l.credit_down;
  renewed_up = subst (λ z. Renewed m'.sessions (ud ++ u) z dd) (sym p) (renewed_keep m.sessions m'.sessions (ud ++ u) m.link.taken_then dd l.log_up im l.renewed_up);
  renewed_down = subst (λ z. Renewed s'.sessions (dd ++ d) z ud) (sym q) (renewed_keep s.sessions s'.sessions (dd ++ d) s.link.taken_then ud l.log_down is l.renewed_down);
  answered_up = subst (λ z. Answered (ud ++ u) z dd) (sym p) l.answered_up;
  answered_down = subst (λ z. Answered (dd ++ d) z ud) (sym q) l.answered_down;
}

-- credits

credit_more : (sent : List (List TaggedSlot)) (taken_then : List ℕ) (heard : List (List TaggedSlot)) (os : List TaggedSlot) (n : ℕ) → n ≡ length heard → ((g : ℕ) → costs (slots_of g (flat (sent ++ os ∷ []))) ≤ credits (slots_of g (flat heard))) → Credit sent taken_then heard → Credit (sent ++ os ∷ []) (taken_then ++ n ∷ []) heard
credit_more sent taken_then heard os n e h c = record {
  each = length-append taken_then (n ∷ []) ∙ ap (λ z. z + 1) c.each ∙ sym (length-append sent (os ∷ []));
  taken = λ k i. ⊎_elim {C = get_or (taken_then ++ n ∷ []) k 0 ≤ length heard} (λ q. subst (λ z. z ≤ length heard) (sym (old k q)) (c.taken k q)) (λ q. subst (λ z. z ≤ length heard) (sym (new k i q)) (omega arith)) (cases_lt k (length sent));
  spends = λ k g i. ⊎_elim {C = costs (slots_of g (flat (take (suc k) (sent ++ os ∷ [])))) ≤ credits (slots_of g (flat (take (get_or (taken_then ++ n ∷ []) k 0) heard)))}
      (λ q. subst (λ z. costs (slots_of g (flat z)) ≤ credits (slots_of g (flat (take (get_or (taken_then ++ n ∷ []) k 0) heard)))) (sym (take-append-le (suc k) sent (os ∷ []) q))
      (subst (λ z. costs (slots_of g (flat (take (suc k) sent))) ≤ credits (slots_of g (flat (take z heard)))) (sym (old k q)) (c.spends k g q)))
      (λ q. subst (λ z. costs (slots_of g (flat z)) ≤ credits (slots_of g (flat (take (get_or (taken_then ++ n ∷ []) k 0) heard)))) (sym (take_all (suc k) (sent ++ os ∷ []) (omega (arith, length-append sent (os ∷ [])))))
      (subst (λ z. costs (slots_of g (flat (sent ++ os ∷ []))) ≤ credits (slots_of g (flat z))) (sym (take_all (get_or (taken_then ++ n ∷ []) k 0) heard (omega (arith, new k i q)))) (h g)))
      (cases_lt k (length sent));
}
  where
    old : (k : ℕ) → k < length sent → get_or (taken_then ++ n ∷ []) k 0 ≡ get_or taken_then k 0
    old k q = get_or_append_left taken_then (n ∷ []) 0 k (omega (arith, c.each))

    new : (k : ℕ) → k < length (sent ++ os ∷ []) → length sent ≤ k → get_or (taken_then ++ n ∷ []) k 0 ≡ n
    new k i q = get_or_push taken_then n 0 k (omega (arith, c.each, length-append sent (os ∷ [])))

credit_heard : (sent : List (List TaggedSlot)) (taken_then : List ℕ) (heard : List (List TaggedSlot)) (os : List TaggedSlot) → Credit sent taken_then heard → Credit sent taken_then (heard ++ os ∷ [])
credit_heard sent taken_then heard os c = record {
  each = c.each;
  taken = λ k i. omega (arith, c.taken k i, length-append heard (os ∷ []));
  spends = λ k g i. subst (λ z. costs (slots_of g (flat (take (suc k) sent))) ≤ credits (slots_of g (flat z))) (sym (take-append-le (get_or taken_then k 0) heard (os ∷ []) (c.taken k i))) (c.spends k g i);
}

-- what an end heard is what it took

split : (g : ℕ) (xs ys : List (List TaggedSlot)) → slots_of g (flat (xs ++ ys)) ≡ slots_of g (flat xs) ++ slots_of g (flat ys)
split g xs ys = ap (slots_of g) (flat-append xs ys) ∙ slots_of-append g (flat xs) (flat ys)

-- messages formed

pub logs_form_up : (m s : Half) (p : Packing) (ud u dd d : List (List TaggedSlot)) → Joined m.sessions s.sessions (flat u) (flat d) → Joined p.after s.sessions (flat u ++ p.slots) (flat d) → News m.sessions p → Logs m s ud u dd d → Logs (record { link = form_message m.link (wire_of p.slots); sessions = p.after }) s ud (u ++ p.slots ∷ []) dd d
logs_form_up m s p ud u dd d j k n l = record {
  done_up = l.done_up;
  done_down = l.done_down;
  log_up = log;
  log_down = l.log_down;
  credit_up = subst (λ z. Credit z (m.link.taken_then ++ length m.link.came ∷ []) dd) (append_assoc ud u (os ∷ []))
      (credit_more (ud ++ u) m.link.taken_then dd os (length m.link.came) (sym (ap length l.done_down) ∙ wires_length dd) afford l.credit_up);
  credit_down = l.credit_down;
  renewed_up = subst (λ z. Renewed f z (m.link.taken_then ++ length m.link.came ∷ []) dd) (append_assoc ud u (os ∷ []))
      (renewed_more f (ud ++ u) m.link.taken_then dd os (length m.link.came) (sym (ap length l.done_down) ∙ wires_length dd) l.credit_up.each
      (news_over m.sessions p (ud ++ u) dd j.master_ok n l.log_up before) (news_single m.sessions p j.master_ok k.master_ok n)
      (renewed_keep m.sessions f (ud ++ u) m.link.taken_then dd l.log_up (later_ids m.sessions p j.master_ok n) l.renewed_up));
  renewed_down = l.renewed_down;
  answered_up = subst (λ z. Answered z (m.link.taken_then ++ length m.link.came ∷ []) dd) (append_assoc ud u (os ∷ []))
      (answered_more (ud ++ u) m.link.taken_then dd os (length m.link.came) (sym (ap length l.done_down) ∙ wires_length dd) l.credit_up.each
      (each_imp (λ o. is_behind o.slot ≡ true → starts (of_generation f o.generation).came ≡ true) (λ o. is_behind o.slot ≡ true → starts (slots_of o.generation (flat dd)) ≡ true) (λ o h i. ap starts (sym (came o.generation)) ∙ h i) os n.behinds) l.answered_up);
  answered_down = l.answered_down;
}
  where
    f : Sessions
    f = p.after

    os : List TaggedSlot
    os = p.slots

    before : (g : ℕ) → (of_generation m.sessions g).came ≡ slots_of g (flat dd)
    before g = append_cancel_right (of_generation m.sessions g).came (slots_of g (flat dd)) (slots_of g (flat d)) (sym (j.flow_down.at_generation g) ∙ l.log_down g ∙ split g dd d)

    log : (g : ℕ) → (of_generation f g).out ≡ slots_of g (flat (ud ++ (u ++ os ∷ [])))
    log g =
        k.flow_up.at_generation g ∙ ap (λ z. (of_generation s.sessions g).came ++ z) (slots_of-append g (flat u) os) ∙ sym (append_assoc (of_generation s.sessions g).came (slots_of g (flat u)) (slots_of g os))
        ∙ ap (λ z. z ++ slots_of g os) (sym (j.flow_up.at_generation g) ∙ l.log_up g) ∙ sym (slots_of-append g (flat (ud ++ u)) os)
        ∙ ap (slots_of g) (sym (flat-push (ud ++ u) os)) ∙ ap (λ z. slots_of g (flat z)) (append_assoc ud u (os ∷ []))

    came : (g : ℕ) → (of_generation f g).came ≡ slots_of g (flat dd)
    came g = append_cancel_right (of_generation f g).came (slots_of g (flat dd)) (slots_of g (flat d)) (sym (k.flow_down.at_generation g) ∙ l.log_down g ∙ split g dd d)

    afford : (g : ℕ) → costs (slots_of g (flat ((ud ++ u) ++ os ∷ []))) ≤ credits (slots_of g (flat dd))
    afford g = subst (λ z. costs (slots_of g (flat z)) ≤ credits (slots_of g (flat dd))) (sym (append_assoc ud u (os ∷ [])))
        (omega (arith, (k.master_ok.accounts (f.serial_of g)).spends, ap costs (log g), ap credits (came g)))

pub logs_form_down : (m s : Half) (p : Packing) (ud u dd d : List (List TaggedSlot)) → Joined m.sessions s.sessions (flat u) (flat d) → Joined m.sessions p.after (flat u) (flat d ++ p.slots) → News s.sessions p → Logs m s ud u dd d → Logs m (record { link = form_message s.link (wire_of p.slots); sessions = p.after }) ud u dd (d ++ p.slots ∷ [])
logs_form_down m s p ud u dd d j k n l = record {
  done_up = l.done_up;
  done_down = l.done_down;
  log_up = l.log_up;
  log_down = log;
  credit_up = l.credit_up;
  credit_down = subst (λ z. Credit z (s.link.taken_then ++ length s.link.came ∷ []) ud) (append_assoc dd d (os ∷ []))
      (credit_more (dd ++ d) s.link.taken_then ud os (length s.link.came) (sym (ap length l.done_up) ∙ wires_length ud) afford l.credit_down);
  renewed_up = l.renewed_up;
  renewed_down = subst (λ z. Renewed f z (s.link.taken_then ++ length s.link.came ∷ []) ud) (append_assoc dd d (os ∷ []))
      (renewed_more f (dd ++ d) s.link.taken_then ud os (length s.link.came) (sym (ap length l.done_up) ∙ wires_length ud) l.credit_down.each
      (news_over s.sessions p (dd ++ d) ud j.slave_ok n l.log_down before) (news_single s.sessions p j.slave_ok k.slave_ok n)
      (renewed_keep s.sessions f (dd ++ d) s.link.taken_then ud l.log_down (later_ids s.sessions p j.slave_ok n) l.renewed_down));
  answered_up = l.answered_up;
  answered_down = subst (λ z. Answered z (s.link.taken_then ++ length s.link.came ∷ []) ud) (append_assoc dd d (os ∷ []))
      (answered_more (dd ++ d) s.link.taken_then ud os (length s.link.came) (sym (ap length l.done_up) ∙ wires_length ud) l.credit_down.each
      (each_imp (λ o. is_behind o.slot ≡ true → starts (of_generation f o.generation).came ≡ true) (λ o. is_behind o.slot ≡ true → starts (slots_of o.generation (flat ud)) ≡ true) (λ o h i. ap starts (sym (came o.generation)) ∙ h i) os n.behinds) l.answered_down);
}
  where
    f : Sessions
    f = p.after

    os : List TaggedSlot
    os = p.slots

    before : (g : ℕ) → (of_generation s.sessions g).came ≡ slots_of g (flat ud)
    before g = append_cancel_right (of_generation s.sessions g).came (slots_of g (flat ud)) (slots_of g (flat u)) (sym (j.flow_up.at_generation g) ∙ l.log_up g ∙ split g ud u)

    log : (g : ℕ) → (of_generation f g).out ≡ slots_of g (flat (dd ++ (d ++ os ∷ [])))
    log g =
        k.flow_down.at_generation g ∙ ap (λ z. (of_generation m.sessions g).came ++ z) (slots_of-append g (flat d) os) ∙ sym (append_assoc (of_generation m.sessions g).came (slots_of g (flat d)) (slots_of g os))
        ∙ ap (λ z. z ++ slots_of g os) (sym (j.flow_down.at_generation g) ∙ l.log_down g) ∙ sym (slots_of-append g (flat (dd ++ d)) os)
        ∙ ap (slots_of g) (sym (flat-push (dd ++ d) os)) ∙ ap (λ z. slots_of g (flat z)) (append_assoc dd d (os ∷ []))

    came : (g : ℕ) → (of_generation f g).came ≡ slots_of g (flat ud)
    came g = append_cancel_right (of_generation f g).came (slots_of g (flat ud)) (slots_of g (flat u)) (sym (k.flow_up.at_generation g) ∙ l.log_up g ∙ split g ud u)

    afford : (g : ℕ) → costs (slots_of g (flat ((dd ++ d) ++ os ∷ []))) ≤ credits (slots_of g (flat ud))
    afford g = subst (λ z. costs (slots_of g (flat z)) ≤ credits (slots_of g (flat ud))) (sym (append_assoc dd d (os ∷ [])))
        (omega (arith, (k.slave_ok.accounts (f.serial_of g)).spends, ap costs (log g), ap credits (came g)))

-- messages taken

push_done : (came : List (List Slot)) (xs : List (List TaggedSlot)) (os : List TaggedSlot) → wires xs ≡ came → wires (xs ++ os ∷ []) ≡ came ++ wire_of os ∷ []
push_done came xs os e = wires-append xs (os ∷ []) ∙ ap (λ z. z ++ wire_of os ∷ []) e

pub logs_take_up : (m s : Half) (f : Sessions) (os : List TaggedSlot) (ud u dd d : List (List TaggedSlot)) → Joined m.sessions s.sessions (os ++ flat u) (flat d) → Joined m.sessions f (flat u) (flat d) → SameIds s.sessions f → Logs m s ud (os ∷ u) dd d → Logs m (record { link = take_message s.link (wire_of os); sessions = f }) (ud ++ os ∷ []) u dd d
logs_take_up m s f os ud u dd d j k i l = record {
  done_up = push_done s.link.came ud os l.done_up;
  done_down = l.done_down;
  log_up = λ g. l.log_up g ∙ ap (λ z. slots_of g (flat z)) (sym (append_assoc ud (os ∷ []) u));
  log_down = λ g. outs_down m.sessions s.sessions m.sessions f (os ++ flat u) (flat d) (flat u) (flat d) refl j k g ∙ l.log_down g;
  credit_up = subst (λ z. Credit z m.link.taken_then dd) (sym (append_assoc ud (os ∷ []) u)) l.credit_up;
  credit_down = credit_heard (dd ++ d) s.link.taken_then ud os l.credit_down;
  renewed_up = subst (λ z. Renewed m.sessions z m.link.taken_then dd) (sym (append_assoc ud (os ∷ []) u)) l.renewed_up;
  renewed_down = renewed_heard f (dd ++ d) s.link.taken_then ud os l.credit_down (renewed_keep s.sessions f (dd ++ d) s.link.taken_then ud l.log_down i l.renewed_down);
  answered_up = subst (λ z. Answered z m.link.taken_then dd) (sym (append_assoc ud (os ∷ []) u)) l.answered_up;
  answered_down = answered_heard (dd ++ d) s.link.taken_then ud os l.credit_down l.answered_down;
}

pub logs_take_down : (m s : Half) (f : Sessions) (os : List TaggedSlot) (ud u dd d : List (List TaggedSlot)) → Joined m.sessions s.sessions (flat u) (os ++ flat d) → Joined f s.sessions (flat u) (flat d) → SameIds m.sessions f → Logs m s ud u dd (os ∷ d) → Logs (record { link = take_message m.link (wire_of os); sessions = f }) s ud u (dd ++ os ∷ []) d
logs_take_down m s f os ud u dd d j k i l = record {
  done_up = l.done_up;
  done_down = push_done m.link.came dd os l.done_down;
  log_up = λ g. outs_up m.sessions s.sessions f s.sessions (flat u) (os ++ flat d) (flat u) (flat d) refl j k g ∙ l.log_up g;
  log_down = λ g. l.log_down g ∙ ap (λ z. slots_of g (flat z)) (sym (append_assoc dd (os ∷ []) d));
  credit_up = credit_heard (ud ++ u) m.link.taken_then dd os l.credit_up;
  credit_down = subst (λ z. Credit z s.link.taken_then ud) (sym (append_assoc dd (os ∷ []) d)) l.credit_down;
  renewed_up = renewed_heard f (ud ++ u) m.link.taken_then dd os l.credit_up (renewed_keep m.sessions f (ud ++ u) m.link.taken_then dd l.log_up i l.renewed_up);
  renewed_down = subst (λ z. Renewed s.sessions z s.link.taken_then ud) (sym (append_assoc dd (os ∷ []) d)) l.renewed_down;
  answered_up = answered_heard (ud ++ u) m.link.taken_then dd os l.credit_up l.answered_up;
  answered_down = subst (λ z. Answered z s.link.taken_then ud) (sym (append_assoc dd (os ∷ []) d)) l.answered_down;
}
