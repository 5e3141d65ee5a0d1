-- The tests over what is kept are the tests over what was seen.
use Rattle.std.proofs.Common.{◌≡◌, ◌≢◌, ℕ, suc, ◌+◌, ◌-◌, ◌^◌, ◌<◌, ◌≤◌, sym, ap, ap₂, ◌∙◌, refl, arith, subst, Bool, true, false, not, cond, ◌&&◌, ◌||◌, List, [], ◌∷◌, length, min, nat_eq, nat_le, get_or}
use Rattle.std.specs.Prelude.{Option, Some, None, Result, Ok, Err, nat_lt, bytes_eq}
use Rattle.std.proofs.lemmas.Bool.{false≢true, leb-true, leb-false}
use Rattle.std.proofs.lemmas.Bool.Decides.{nat_tests}
use Rattle.std.proofs.lemmas.List.{get_or-map, get_or-drop, length-map, length-drop}
use Rattle.std.proofs.lemmas.Slice.Eq.{bytes_eq-Decides}
use Rattle.lat_model.specs.Lists.{is_empty}
use Rattle.lat_model.specs.sessions.Slots.{Slot}
use Rattle.lat_machines.specs.values.Messages.{Head}
use Rattle.lat_captures.specs.Entries.{Entry}
use Rattle.lat_captures.specs.Seen.{Seen, Both, own, Texts, own_texts}
use Rattle.lat_captures.specs.Belonging.{Owned}
use Rattle.lat_captures.specs.Legal.{NumberFits, AcknowledgementFits, IdsRule, SlotsRule, WindowRule, CreditRule}
use Rattle.lat_captures.specs.Audit as audits
use Rattle.lat_captures.specs.Audit.{same_bytes, same_slots, find_from, number_found, slots_test, acknowledgement_found, window_test, credit_test, Tested, Passes, Fails, run_test}
use Rattle.lat_captures.proofs.Tests.{bytes_true, bytes_same, slots_same, number_sound, ack_sound, decides_window}
use Rattle.lat_captures.specs.declared.head.Title.{Title}
use Rattle.lat_captures.specs.declared.head.RunHead.{RunHead}
use Rattle.lat_captures.specs.declared.rule.Rule.{Rule}
use Rattle.lat_captures.specs.declared.rule.Rule.TheVariants.{Ids, Slots, Window}
use Rattle.lat_captures.specs.declared.side.Side.{Side}
use Rattle.lat_captures.specs.declared.side.Near.{Near}
use Rattle.lat_captures.specs.Rules.{title_shown, head_shown, rule_shown}
use Rattle.lat_captures.specs.Recent.{Message, no_message, has_text, has_back}
use Rattle.lat_captures.specs.Stands.{SideStands}
use Rattle.lat_captures.specs.Tests.{bears, ids_hold, number_near, ack_near, repeats, in_window, after_ack, after_number, tests_hold}
use Rattle.lat_captures.proofs.Finding.{finds_same, no_floor}

-- numbers

not_below : (n m : ℕ) → n ≤ m → nat_lt m n ≡ false
not_below n m l = grind (arith, nat_tests)

is_below : (n m : ℕ) → m < n → nat_lt m n ≡ true
is_below n m l = grind (arith, nat_tests)

number_is : (t : Title) (s : Side) (seen : Seen) (ask : Bool) (h : RunHead) (xs : List Slot) → s.count ≡ length seen.messages → number_near t.wide s.count h.seq (is_empty xs) ≡ number_found (title_shown t) seen (head_shown ask h) xs
number_is t s seen ask h [] e = ap (λ n. cond (bears t.wide h.seq n) (Some n) None) e
number_is t s seen ask h (x ∷ xs) e =
    let n : ℕ = length seen.messages in
    let least : s.count - 8 + 1 ≡ suc (n - 8) = omega (arith, e) in
    let many : min (s.count + 1) 9 ≡ min 9 (suc n) = omega (arith, e) in
    finds_same (λ n. bears t.wide h.seq n && nat_le 0 n) (bears t.wide h.seq) (s.count - 8 + 1) (min (s.count + 1) 9) (λ n. no_floor (bears t.wide h.seq) n)
    ∙ ap₂ (find_from (bears t.wide h.seq)) least many

ack_is : (t : Title) (s o : Side) (seen other : Seen) (ask : Bool) (h : RunHead) → s.acknowledged ≡ seen.acknowledged → o.count ≡ length other.messages
    → ack_near t.wide s.acknowledged o.count h.ack ≡ acknowledgement_found (title_shown t) seen other (head_shown ask h)
ack_is t s o seen other ask h a e =
    let n : ℕ = length other.messages in
    let least : o.count - 8 ≡ n - 8 = omega (arith, e) in
    let many : min (o.count + 1) 9 ≡ min 9 (suc n) = omega (arith, e) in
    ap (λ z. find_from (λ a. bears t.wide h.ack a && nat_le z a) (o.count - 8) (min (o.count + 1) 9)) a
    ∙ ap₂ (find_from (λ a. bears t.wide h.ack a && nat_le seen.acknowledged a)) least many

-- slots of a message that comes again

text_at : (tell : List ℕ → List Slot) (s : Side) (seen : Seen) (texts : List (List ℕ)) (lists : List (List Owned)) (n : ℕ) (text : List ℕ) → SideStands tell s seen texts lists → 1 ≤ n → n ≤ length seen.messages → length seen.messages < n + 8
    → has_back s.recent (s.count - n) text ≡ bytes_eq (get_or texts (n - 1) []) text
text_at tell s seen texts lists n text h low high near =
    ap (λ c. cond c (has_text text (get_or s.recent j no_message)) false) inside ∙ ap (λ z. bytes_eq z text) at
  where
    count : ℕ
    count = length seen.messages

    many : length texts ≡ count
    many = sym (length-map texts tell) ∙ ap length h.reads

    long : length s.recent ≡ count - (count - 8)
    long = sym (length-map s.recent (λ (m : Message). m.text)) ∙ ap length h.texts_are ∙ length-drop (length texts - 8) texts ∙ ap (λ z. z - (z - 8)) many

    j : ℕ
    j = length s.recent - 1 - (s.count - n)

    within : s.count - n < length s.recent
    within = omega (arith, h.count, long, low, high, near)

    inside : nat_lt (s.count - n) (length s.recent) ≡ true
    inside = is_below (length s.recent) (s.count - n) within

    in_list : j < length s.recent
    in_list = omega (arith, h.count, long, low, high, near)

    place : length texts - 8 + j ≡ n - 1
    place = omega (arith, h.count, long, low, high, near, many)

    at : (get_or s.recent j no_message).text ≡ get_or texts (n - 1) []
    at =
        sym (get_or-map (λ (m : Message). m.text) s.recent j no_message [] in_list)
        ∙ ap (λ z. get_or z j []) h.texts_are ∙ get_or-drop (length texts - 8) texts j [] ∙ ap (λ z. get_or texts z []) place

both_same : (slots : List Slot) (xs : List Slot) (a b : List ℕ) → (a ≡ b → slots ≡ xs) → (same_slots slots xs && same_bytes a b) ≡ bytes_eq a b
both_same slots xs a b tells = go (bytes_eq a b) refl
  where
    and_false : (c : Bool) → (c && false) ≡ false
    and_false true = refl
    and_false false = refl

    differ : (c : Bool) → same_bytes a b ≡ c → (a ≢ b) → c ≡ false
    differ true q n = absurd (n (bytes_true a b q))
    differ false q n = refl

    go : (c : Bool) → bytes_eq a b ≡ c → (same_slots slots xs && same_bytes a b) ≡ c
    go true e =
        let same : a ≡ b = (bytes_eq-Decides a b).0 e in
        ap₂ (λ u v. u && v) (subst (λ z. same_slots slots z ≡ true) (tells same) (slots_same slots)) (subst (λ z. same_bytes a z ≡ true) same (bytes_same a))
    go false e =
        let other : a ≢ b = λ q. false≢true (sym e ∙ (bytes_eq-Decides a b).1 q) in
        ap (λ z. same_slots slots xs && z) (differ (same_bytes a b) refl other) ∙ and_false (same_slots slots xs)

slots_are : (tell : List ℕ → List Slot) (s : Side) (seen : Seen) (texts : List (List ℕ)) (lists : List (List Owned)) (n : ℕ) (xs : List Slot) (text : List ℕ) → SideStands tell s seen texts lists → NumberFits seen n xs → tell text ≡ xs
    → slots_test seen texts n xs text ≡ not (not (is_empty xs) && not (repeats s n text))
slots_are tell s seen texts lists n [] text h f told = refl
slots_are tell s seen texts lists n (x ∷ xs) text h f told = go (nat_le n count) refl
  where
    count : ℕ
    count = length seen.messages

    twice : (c : Bool) → c ≡ not (not c)
    twice true = refl
    twice false = refl

    go : (c : Bool) → nat_le n count ≡ c → (not (nat_le n count) || (same_slots (get_or seen.messages (n - 1) []) (x ∷ xs) && same_bytes (get_or texts (n - 1) []) text)) ≡ not (not (repeats s n text))
    go true e =
        let high : n ≤ count = leb-true n count e in
        let sent : nat_lt s.count n ≡ false = let k = h.count in grind (arith, nat_tests) in
        let many : length texts ≡ count = sym (length-map texts tell) ∙ ap length h.reads in
        let message : get_or seen.messages (n - 1) [] ≡ tell (get_or texts (n - 1) []) = ap (λ z. get_or z (n - 1) []) (sym h.reads) ∙ get_or-map tell texts (n - 1) [] [] (omega (arith, many, high, f.0)) in
        ap (λ c. not c || (same_slots (get_or seen.messages (n - 1) []) (x ∷ xs) && same_bytes (get_or texts (n - 1) []) text)) e
        ∙ both_same (get_or seen.messages (n - 1) []) (x ∷ xs) (get_or texts (n - 1) []) text (λ q. message ∙ ap tell q ∙ told)
        ∙ sym (text_at tell s seen texts lists n text h f.0 high f.1)
        ∙ sym (ap (λ c. c || has_back s.recent (s.count - n) text) sent)
        ∙ twice (repeats s n text)
    go false e =
        let low : count < n = leb-false n count e in
        let new : nat_lt s.count n ≡ true = let k = h.count in grind (arith, nat_tests) in
        ap (λ c. not c || (same_slots (get_or seen.messages (n - 1) []) (x ∷ xs) && same_bytes (get_or texts (n - 1) []) text)) e
        ∙ sym (ap (λ c. not (not (c || has_back s.recent (s.count - n) text))) new)

-- the window

window_is : (s o : Side) (seen other : Seen) (n : ℕ) → s.count ≡ length seen.messages → o.acknowledged ≡ other.acknowledged → n ≤ suc (length seen.messages) → n < 2 ^ 64 → in_window s o n ≡ window_test seen other n
window_is s o seen other n e a high fit = go (nat_eq n (suc (length seen.messages))) refl
  where
    go : (c : Bool) → nat_eq n (suc (length seen.messages)) ≡ c → in_window s o n ≡ (not c || nat_le n (other.acknowledged + 8))
    go true q =
        let new : n ≡ suc (length seen.messages) = grind (arith, nat_tests) in
        let ahead : nat_lt s.count n ≡ true = grind (arith, nat_tests) in
        ap (λ c. not (c && nat_lt (min (o.acknowledged + 8) (2 ^ 64 - 1)) n)) ahead ∙ at (nat_le n (other.acknowledged + 8)) refl
      where
        at : (c : Bool) → nat_le n (other.acknowledged + 8) ≡ c → not (nat_lt (min (o.acknowledged + 8) (2 ^ 64 - 1)) n) ≡ c
        at true r =
            let l : n ≤ other.acknowledged + 8 = leb-true n (other.acknowledged + 8) r in
            let m : n ≤ min (o.acknowledged + 8) (2 ^ 64 - 1) = omega (arith, l, a, fit) in
            let f : nat_lt (min (o.acknowledged + 8) (2 ^ 64 - 1)) n ≡ false = not_below n (min (o.acknowledged + 8) (2 ^ 64 - 1)) m in
            ap not f
        at false r =
            let l : other.acknowledged + 8 < n = leb-false n (other.acknowledged + 8) r in
            let m : min (o.acknowledged + 8) (2 ^ 64 - 1) < n = omega (arith, l, a) in
            let f : nat_lt (min (o.acknowledged + 8) (2 ^ 64 - 1)) n ≡ true = is_below n (min (o.acknowledged + 8) (2 ^ 64 - 1)) m in
            ap not f
    go false q =
        let old : n ≤ length seen.messages = let other : n ≢ suc (length seen.messages) = grind (arith, nat_tests) in omega arith in
        let behind : nat_lt s.count n ≡ false = grind (arith, nat_tests) in
        ap (λ c. not (c && nat_lt (min (o.acknowledged + 8) (2 ^ 64 - 1)) n)) behind

-- all of them

pub record NearAs (t : Title) (b : Both) (x : Texts) (e : Entry) (wide : Bool) (h : Head) (xs : List Slot) (told : Near) : Type 0 where
  pub test : run_test (title_shown t) b x e wide h xs ≡ cond (credit_test b e.by_master told.number told.ack xs) (Passes told.number told.ack) (Fails CreditRule)
  pub number : NumberFits (own b e.by_master) told.number xs
  pub acks : AcknowledgementFits (own b e.by_master) (own b (not e.by_master)) told.ack
  pub window : told.number ≡ suc (length (own b e.by_master).messages) → told.number ≤ (own b (not e.by_master)).acknowledged + 8

abbrev pub TestsAs : Title → Both → Texts → Entry → Bool → Head → List Slot → Result Near Rule → Type 0
TestsAs t b x e wide h xs (Err rule) = run_test (title_shown t) b x e wide h xs ≡ Fails (rule_shown rule)
TestsAs t b x e wide h xs (Ok told) = NearAs t b x e wide h xs told

number_high : (seen : Seen) (n : ℕ) (xs : List Slot) → NumberFits seen n xs → n ≤ suc (length seen.messages)
number_high seen n [] f = omega (arith, f)
number_high seen n (x ∷ xs) f = f.2

pub tests_as : (tell : List ℕ → List Slot) (t : Title) (s o : Side) (b : Both) (x : Texts) (e : Entry) (ask : Bool) (h : RunHead) (xs : List Slot) (lists : List (List Owned))
    → SideStands tell s (own b e.by_master) (own_texts x e.by_master) lists → o.count ≡ length (own b (not e.by_master)).messages → o.acknowledged ≡ (own b (not e.by_master)).acknowledged
    → tell e.text ≡ xs → suc (length (own b e.by_master).messages) < 2 ^ 64 → TestsAs t b x e h.wide (head_shown ask h) xs (tests_hold t s o e.by_master h (is_empty xs) e.text)
tests_as tell t s o b x e ask h xs lists stands count acknowledged told fit = by_ids (ids_hold t e.by_master h) refl
  where
    m : Bool
    m = e.by_master

    hd : Head
    hd = head_shown ask h

    seen : Seen
    seen = own b m

    other : Seen
    other = own b (not m)

    bare : Bool
    bare = is_empty xs

    run : Tested
    run = run_test (title_shown t) b x e h.wide hd xs

    finish : ℕ → ℕ → Tested
    finish n a = cond (credit_test b m n a xs) (Passes n a) (Fails CreditRule)

    by_window : (n a : ℕ) → NumberFits seen n xs → AcknowledgementFits seen other a → (c : Bool) → in_window s o n ≡ c → run ≡ cond (window_test seen other n) (finish n a) (Fails WindowRule)
        → TestsAs t b x e h.wide hd xs (cond c (Ok (record { number = n; ack = a })) (Err Window))
    by_window n a f g c q r = at c q
      where
        same : in_window s o n ≡ window_test seen other n
        same = window_is s o seen other n stands.count acknowledged (number_high seen n xs f) (omega (arith, number_high seen n xs f, fit))

        at : (c : Bool) → in_window s o n ≡ c → TestsAs t b x e h.wide hd xs (cond c (Ok (record { number = n; ack = a })) (Err Window))
        at true q = record { test = r ∙ ap (λ c. cond c (finish n a) (Fails WindowRule)) (sym same ∙ q); number = f; acks = g; window = (decides_window seen other n).told (sym same ∙ q) }
        at false q = r ∙ ap (λ c. cond c (finish n a) (Fails WindowRule)) (sym same ∙ q)

    by_ack : (n : ℕ) → NumberFits seen n xs → (q : Option ℕ) → acknowledgement_found (title_shown t) seen other hd ≡ q → run ≡ audits.after_acknowledgement b m xs n q
        → TestsAs t b x e h.wide hd xs (after_ack s o n q)
    by_ack n f None q r = r
    by_ack n f (Some a) q r = by_window n a f (ack_sound (title_shown t) seen other hd a q).1 (in_window s o n) refl r

    by_slots : (n : ℕ) → NumberFits seen n xs → (c : Bool) → (not bare && not (repeats s n e.text)) ≡ c
        → run ≡ cond (slots_test seen (own_texts x m) n xs e.text) (audits.after_acknowledgement b m xs n (acknowledgement_found (title_shown t) seen other hd)) (Fails SlotsRule)
        → TestsAs t b x e h.wide hd xs (cond c (Err Slots) (after_ack s o n (ack_near t.wide s.acknowledged o.count h.ack)))
    by_slots n f c q r = at c q
      where
        tested : (c : Bool) → (not bare && not (repeats s n e.text)) ≡ c → run ≡ cond (not c) (audits.after_acknowledgement b m xs n (acknowledgement_found (title_shown t) seen other hd)) (Fails SlotsRule)
        tested c q = r ∙ ap (λ c. cond c (audits.after_acknowledgement b m xs n (acknowledgement_found (title_shown t) seen other hd)) (Fails SlotsRule))
            (slots_are tell s seen (own_texts x m) lists n xs e.text stands f told ∙ ap not q)

        at : (c : Bool) → (not bare && not (repeats s n e.text)) ≡ c → TestsAs t b x e h.wide hd xs (cond c (Err Slots) (after_ack s o n (ack_near t.wide s.acknowledged o.count h.ack)))
        at true q = tested true q
        at false q =
            subst (λ z. TestsAs t b x e h.wide hd xs (after_ack s o n z)) (sym (ack_is t s o seen other ask h stands.acknowledged count))
            (by_ack n f (acknowledgement_found (title_shown t) seen other hd) refl (tested false q))

    by_number : (q : Option ℕ) → number_found (title_shown t) seen hd xs ≡ q → run ≡ audits.after_number (title_shown t) b x e hd xs q → TestsAs t b x e h.wide hd xs (after_number t s o h bare e.text q)
    by_number None q r = r
    by_number (Some n) q r = by_slots n (number_sound (title_shown t) seen hd xs n q).1 (not bare && not (repeats s n e.text)) refl r

    by_ids : (c : Bool) → ids_hold t m h ≡ c → TestsAs t b x e h.wide hd xs (cond c (after_number t s o h bare e.text (number_near t.wide s.count h.seq bare)) (Err Ids))
    by_ids true q =
        subst (λ z. TestsAs t b x e h.wide hd xs (after_number t s o h bare e.text z)) (sym (number_is t s seen ask h xs stands.count))
        (by_number (number_found (title_shown t) seen hd xs) refl (ap (λ c. cond c (audits.after_number (title_shown t) b x e hd xs (number_found (title_shown t) seen hd xs)) (Fails IdsRule)) q))
    by_ids false q = ap (λ c. cond c (audits.after_number (title_shown t) b x e hd xs (number_found (title_shown t) seen hd xs)) (Fails IdsRule)) q
