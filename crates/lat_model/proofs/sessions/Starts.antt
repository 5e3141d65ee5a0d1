-- A start or a reject comes: which session hears it, and that no other one stands in its way.
use Rattle.std.proofs.Common.{◌≡◌, ℕ, zero, suc, ◌<◌, ◌≤◌, ◌⊎◌, inl, inr, ⊎_elim, sym, ap, ◌∙◌, refl, arith, Bool, true, false, cond, ◌&&◌, ◌||◌, List, [], ◌∷◌, ◌++◌, length, nat_le, append-nil, eq-eqb, ne_eqb, le_refl}
use Rattle.std.proofs.lemmas.Bool.{and_parts, and_from, or_parts, true≢false, false≢true, both_ways}
use Rattle.lat_model.specs.sessions.Slots.{Slot, Start, DataA, DataB, Attention, Reject, Stop, source, items, has_stop, starts, turned, is_start, is_ask, is_reject}
use Rattle.lat_model.specs.sessions.Session.{Session, free, gone, answered, rejected, stopped, peer}
use Rattle.lat_model.specs.sessions.Sessions.{Sessions, of_generation}
use Rattle.lat_model.specs.sessions.Packing.{TaggedSlot}
use Rattle.lat_model.specs.Lists.{any_up_to}
use Rattle.lat_model.specs.sessions.EndOk.{Head, Shape, SessionOk, EndOk}
use Rattle.lat_model.specs.sessions.Joined.{Flows, FreshHead, slots_of}
use Rattle.lat_model.proofs.sessions.Words.{has_stop-append}
use Rattle.lat_model.proofs.sessions.Meets.{not_nil, start_no_reject, start_no_stop, Met, met}
use Rattle.lat_model.proofs.sessions.Hears.{who_some, starts_more}

-- tests

pub none_upto : (p : ℕ → Bool) (n : ℕ) → ((k : ℕ) → 0 < k → k ≤ n → p k ≡ false) → any_up_to p n ≡ false
none_upto p zero h = refl
none_upto p (suc n) h = both (p (suc n)) (h (suc n) (omega arith) (le_refl _)) (none_upto p n (λ k i j. h k i (omega arith)))
  where
    both : (b : Bool) → b ≡ false → any_up_to p n ≡ false → (b || any_up_to p n) ≡ false
    both true e f = absurd (true≢false e)
    both false e f = f

pub ask_starts : (x : Slot) → is_ask x ≡ true → is_start x ≡ true
ask_starts (Start to from c size service request) e = refl
ask_starts (DataA to from c bytes) e = e
ask_starts (DataB to from c setting) e = e
ask_starts (Attention to from flag) e = e
ask_starts (Reject to from reason) e = e
ask_starts (Stop to from reason) e = e

pub reject_turns : (x : Slot) → is_reject x ≡ true → is_start x ≡ false
reject_turns (Start to from c size service request) e = absurd (false≢true e)
reject_turns (DataA to from c bytes) e = refl
reject_turns (DataB to from c setting) e = refl
reject_turns (Attention to from flag) e = refl
reject_turns (Reject to from reason) e = refl
reject_turns (Stop to from reason) e = refl

pub stop_in_front : (xs ys : List Slot) → has_stop xs ≡ true → has_stop (xs ++ ys) ≡ true
stop_in_front xs ys e = has_stop-append xs ys ∙ ap (λ z. z || has_stop ys) e

pub no_stop_in_front : (xs ys : List Slot) → has_stop (xs ++ ys) ≡ false → has_stop xs ≡ false
no_stop_in_front xs ys e = (or_parts (has_stop xs) (has_stop ys) (sym (has_stop-append xs ys) ∙ e)).0

pub starts_not_nil : (xs : List Slot) → starts xs ≡ true → xs ≡ [] → ⊥
starts_not_nil xs e q = false≢true (sym (ap starts q) ∙ e)

pub starts_not_turned : (xs : List Slot) → starts xs ≡ true → turned xs ≡ false
starts_not_turned [] e = refl
starts_not_turned (x ∷ xs) e = start_no_reject x e

pub turned_not_starts : (xs : List Slot) → turned xs ≡ true → starts xs ≡ false
turned_not_starts [] e = refl
turned_not_starts (x ∷ xs) e = reject_turns x e

-- the wire behind its first slot
pub slots_other : (g : ℕ) (o : TaggedSlot) (wire : List TaggedSlot) → (o.generation ≡ g → ⊥) → slots_of g (o ∷ wire) ≡ slots_of g wire
slots_other g o wire n = ap (λ b. cond b (o.slot ∷ slots_of g wire) (slots_of g wire)) (ne_eqb o.generation g n)

pub slots_here : (o : TaggedSlot) (wire : List TaggedSlot) → slots_of o.generation (o ∷ wire) ≡ o.slot ∷ slots_of o.generation wire
slots_here o wire = ap (λ b. cond b (o.slot ∷ slots_of o.generation wire) (slots_of o.generation wire)) (eq-eqb o.generation o.generation refl)

-- states

pub not_gone : (s : Session) → s.rejects ≡ false → turned s.came ≡ false → has_stop s.came ≡ false → gone s ≡ false
not_gone s r t h = go s.rejects (turned s.came) (has_stop s.came) (has_stop s.out) r t h
  where
    go : (a b c d : Bool) → a ≡ false → b ≡ false → c ≡ false → ((a || b) || (d && c)) ≡ false
    go true b c d e f h = absurd (true≢false e)
    go false true c d e f h = absurd (true≢false f)
    go false false true d e f h = absurd (true≢false h)
    go false false false true e f h = refl
    go false false false false e f h = refl

pub free_goes : (s : Session) → gone s ≡ false → free s ≡ false
free_goes s e = go (rejected s) (stopped s) (s.closed || nat_le (length (items s.came)) s.taken) e
  where
    go : (a b c : Bool) → (a || b) ≡ false → (a || (b && c)) ≡ false
    go true b c e = e
    go false true c e = absurd (true≢false e)
    go false false c e = refl

-- a free session that doesn't reject
pub free_cases : (s : Session) → s.rejects ≡ false → free s ≡ true → (turned s.came ≡ true) ⊎ (stopped s ≡ true)
free_cases s r f = go s.rejects (turned s.came) (stopped s) (s.closed || nat_le (length (items s.came)) s.taken) r f
  where
    go : (a b c d : Bool) → a ≡ false → ((a || b) || (c && d)) ≡ true → (b ≡ true) ⊎ (c ≡ true)
    go true b c d e h = absurd (true≢false e)
    go false true c d e h = inl refl
    go false false true d e h = inr refl
    go false false false d e h = absurd (false≢true h)

pub stopped_goes : (s : Session) → stopped s ≡ true → gone s ≡ true
stopped_goes s e = or_from_right (rejected s) (stopped s) e
  where
    or_from_right : (a b : Bool) → b ≡ true → (a || b) ≡ true
    or_from_right true b h = refl
    or_from_right false b h = h

pub refused_goes : (s : Session) → s.rejects ≡ true → gone s ≡ true
refused_goes s e = go s.rejects e
  where
    go : (a : Bool) → a ≡ true → ((a || turned s.came) || stopped s) ≡ true
    go true h = refl
    go false h = absurd (false≢true h)

-- an unanswered session of the master has no stop out
pub unanswered_no_stop : (s : Session) → SessionOk true s → answered s ≡ false → has_stop s.out ≡ false
unanswered_no_stop s ok n = go s.out ok.shape
  where
    ask_no_stop : (x : Slot) → is_ask x ≡ true → has_stop (x ∷ []) ≡ false
    ask_no_stop x e = ap (λ z. z || false) (start_no_stop x (ask_starts x e))

    alone : (x : Slot) (xs : List Slot) → Head true s x xs → has_stop (x ∷ xs) ≡ false
    alone x [] h = ask_no_stop x h.asks
    alone x (y ∷ ys) h = absurd (both_ways (answered s) n (h.behind (not_nil [] y ys)))

    go : (xs : List Slot) → Shape true s xs → has_stop xs ≡ false
    go [] h = refl
    go (x ∷ xs) h = alone x xs h

-- two sessions of one id that aren't free are one
pub one_holder : (e : Sessions) → EndOk e → (g h : ℕ) → (e.serial_of g ≡ 0 → ⊥) → (e.serial_of h ≡ 0 → ⊥) → free (of_generation e g) ≡ false → free (of_generation e h) ≡ false → (of_generation e g).id ≡ (of_generation e h).id → g ≡ h
one_holder e ok g h ng nh fg fh q =
    let k : e.serial_of g ≡ e.serial_of h = sym (ok.holds (e.serial_of g) fg) ∙ ap e.at_id q ∙ ok.holds (e.serial_of h) fh in
    sym (ok.generation_found g ng) ∙ ap (λ z. (e.session z).generation) k ∙ ok.generation_found h nh

pub free_decides : (s : Session) → (free s ≡ true) ⊎ (free s ≡ false)
free_decides s = go (free s)
  where
    go : (b : Bool) → (b ≡ true) ⊎ (b ≡ false)
    go true = inl refl
    go false = inr refl

-- The wire from a to b begins with a start of generation o.gen, whose session isn't free. No session of b that
-- heard a start under the same id is still there: n is its generation
pub no_clash : (a b : Sessions) (o : TaggedSlot) (wire back : List TaggedSlot) → EndOk a → EndOk b → Flows a b (o ∷ wire) → Flows b a back → FreshHead a o wire → is_start o.slot ≡ true → free (of_generation a o.generation) ≡ false → (a.serial_of o.generation ≡ 0 → ⊥) → (of_generation a o.generation).id ≡ source o.slot →
    (n : ℕ) → (n ≡ o.generation → ⊥) → starts (of_generation b n).came ≡ true → peer (of_generation b n) ≡ source o.slot → (turned (of_generation a n).came ≡ true → gone (of_generation b n) ≡ true) → gone (of_generation b n) ≡ true
no_clash a b o wire back aok bok f r fresh st fa na ida n ne sb p t =
    let sa' : Session = of_generation a n in
    let sb' : Session = of_generation b n in
    let m : Met sb' sa' = met a.master sb' sa' (slots_of n (o ∷ wire)) (aok.each (a.serial_of n)) (f.at_generation n) sb in
    let ids : sa'.id ≡ (of_generation a o.generation).id = sym m.peer ∙ p ∙ sym ida in
    let out_starts : starts sa'.out ≡ true = ap starts (f.at_generation n) ∙ starts_more sb'.came (slots_of n (o ∷ wire)) (starts_not_nil sb'.came sb) ∙ sb in
    let na' : a.serial_of n ≡ 0 → ⊥ = who_some a (λ z. starts z.out ≡ true) (λ h. false≢true h) aok n out_starts in
    let by_stop : stopped sa' ≡ true → gone sb' ≡ true = λ h.
    let hs : (has_stop sa'.out ≡ true) × (has_stop sa'.came ≡ true) = and_parts (has_stop sa'.out) (has_stop sa'.came) h in
    let empty : slots_of n (o ∷ wire) ≡ [] = slots_other n o wire (λ q. ne (sym q)) ∙ fresh.none st n ne ids out_starts in
    let all : sa'.out ≡ sb'.came = f.at_generation n ∙ ap (λ z. sb'.came ++ z) empty ∙ append-nil sb'.came in
    let c1 : has_stop sb'.came ≡ true = sym (ap has_stop all) ∙ hs.0 in
    let c2 : has_stop sb'.out ≡ true = ap has_stop (r.at_generation n) ∙ stop_in_front sa'.came (slots_of n back) hs.1 in
    stopped_goes sb' (and_from (has_stop sb'.out) (has_stop sb'.came) c2 c1) in
    ⊎_elim {C = gone sb' ≡ true} (λ h. ⊎_elim {C = gone sb' ≡ true} t by_stop (free_cases sa' m.rejects h)) (λ h. absurd (ne (one_holder a aok n o.generation na' na h fa ids))) (free_decides sa')
