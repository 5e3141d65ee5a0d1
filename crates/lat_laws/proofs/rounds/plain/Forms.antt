-- Slots that are formed keep sessions plain: a start gives the whole ceiling, and no slot behind it is idle.
use Rattle.std.proofs.Common.{◌≡◌, ◌≢◌, ℕ, zero, suc, ◌<◌, ◌≤◌, ◌⊎◌, inl, inr, ⊎_elim, sym, ap, ◌∙◌, refl, subst, arith, Bool, true, false, not, cond, ◌&&◌, List, [], ◌∷◌, ◌++◌, length, take, Option, Some, None, nat_eq, nat_le, eqb-true, append-nil, length-append}
use Rattle.std.proofs.lemmas.Bool.{true≢false, false≢true, both_ways, eqb-false, and_parts}
use Rattle.lat_model.specs.sessions.Slots.{Item, Byte, Setting, Slot, Start, DataA, DataB, Attention, Reject, Stop, is_start, items, items_of, credits, credits_of, slot_len, turned, has_stop, starts}
use Rattle.lat_model.specs.sessions.Session.{Session, answered, peer, unframed, due, held_from}
use Rattle.lat_model.specs.sessions.Sessions.{Sessions, of_generation}
use Rattle.lat_model.specs.sessions.Packing.{TaggedSlot, formed, first_form, next_form, form, Packing, turn_by, turn, turn_all, turns, pack}
use Rattle.lat_model.specs.sessions.Offers.{Offer, Nothing, Unfit, Offers, fit, start_of, leading, most_bytes, may_spend, bytes_offer, credit_offer, data_offer, stop_due, live_offer, reject_offer, start_offer, later_offer, offer}
use Rattle.lat_model.specs.Lists.{is_empty}
use Rattle.lat_model.specs.sessions.EndOk.{EndOk, Shape}
use Rattle.lat_model.specs.sessions.MayForm.{MayForm}
use Rattle.lat_model.specs.sessions.Joined.{Joined, slots_of}
use Rattle.lat_model.proofs.numbers.Net.{each_append}
use Rattle.lat_model.proofs.sessions.Words.{upd_all, items-append}
use Rattle.lat_model.proofs.sessions.Forms.{formed_as, former_some, slave_named}
use Rattle.lat_model.proofs.sessions.Offers.{Fine, offer_fine}
use Rattle.lat_model.proofs.sessions.Packs.{accepted_named, turn_up, turn_down}
use Rattle.lat_model.proofs.sessions.Low.{turn_within}
use Rattle.lat_model.proofs.sessions.Starts.{ask_starts}
use Rattle.lat_laws.specs.rounds.Measure.{IsNotIdle, Frugal, AllNumbered}
use Rattle.lat_laws.specs.rounds.Plain.{Neat, PlainOne, Plain}
use Rattle.lat_laws.proofs.rounds.sessions.Rests.{held_none}
use Rattle.lat_laws.proofs.rounds.plain.Hears.{number_more}

-- what is offered

record Fine_slot (s : Session) (c : ℕ) (x : Slot) : Type 0 where
  neat : Neat x
  tells : (s.out ≡ [] → ⊥) → IsNotIdle x
  first : s.out ≡ [] → is_start x ≡ true → credits_of x ≡ due c s

fit_is : (room : ℕ) (y x : Slot) → fit room y ≡ Offers x → y ≡ x
fit_is room y x = go (nat_le (slot_len y) room)
  where
    go : (b : Bool) → cond b (Offers y) Unfit ≡ Offers x → y ≡ x
    go true e = cc
    go false e = cc

no_start_fine : (s : Session) (c : ℕ) (x : Slot) → Neat x → is_start x ≡ false → IsNotIdle x → Fine_slot s c x
no_start_fine s c x n i t = record { neat = n; tells = λ o. t; first = λ o q. absurd (both_ways (is_start x) i q) }

credit_slot : (room n : ℕ) (c : ℕ) (s : Session) (x : Slot) → credit_offer room n s ≡ Offers x → Fine_slot s c x
credit_slot room zero c s x e = cc
credit_slot room (suc n) c s x e = subst (λ z. Fine_slot s c z) (fit_is room (DataA (peer s) s.id (suc n) []) x e) (no_start_fine s c (DataA (peer s) s.id (suc n) []) (omega arith) refl (λ a b. omega arith))

bytes_slot : (c d : ℕ) (s : Session) (bs : List ℕ) (x : Slot) → length bs ≤ 255 → bytes_offer d s bs ≡ Offers x → Fine_slot s c x
bytes_slot c d s [] x l e = cc
bytes_slot c d s (b ∷ bs) x l e = let q : DataA (peer s) s.id d (b ∷ bs) ≡ x = cc in subst (λ z. Fine_slot s c z) q (no_start_fine s c (DataA (peer s) s.id d (b ∷ bs)) l refl (λ a b. omega arith))

take_most : (n : ℕ) (xs : List ℕ) → length (take n xs) ≤ n
take_most zero xs = omega arith
take_most (suc n) [] = omega arith
take_most (suc n) (x ∷ xs) = omega (arith, take_most n xs)

data_slot : (c room : ℕ) (s : Session) (us : List Item) (x : Slot) → data_offer c room s us ≡ Offers x → Fine_slot s c x
data_slot c room s [] x e = credit_slot room (due c s) c s x e
data_slot c room s (Byte b ∷ xs) x e = go (may_spend s) e
  where
    go : (t : Bool) → cond t (bytes_offer (due c s) s (take (most_bytes room s) (leading (Byte b ∷ xs)))) (credit_offer room (due c s) s) ≡ Offers x → Fine_slot s c x
    go true e = bytes_slot c (due c s) s (take (most_bytes room s) (leading (Byte b ∷ xs))) x (omega (arith, take_most (most_bytes room s) (leading (Byte b ∷ xs)))) e
    go false e = credit_slot room (due c s) c s x e
data_slot c room s (Setting t ∷ xs) x e = go (may_spend s) e
  where
    y : Slot
    y = DataB (peer s) s.id (due c s) t

    go : (b : Bool) → cond b (fit room y) (credit_offer room (due c s) s) ≡ Offers x → Fine_slot s c x
    go true e = subst (λ z. Fine_slot s c z) (fit_is room y x e) (no_start_fine s c y tt refl (λ a b. omega arith))
    go false e = credit_slot room (due c s) c s x e

live_slot : (c room : ℕ) (s : Session) (o : Option ℕ) (x : Slot) → live_offer c room s o ≡ Offers x → Fine_slot s c x
live_slot c room s (Some flag) x e = subst (λ z. Fine_slot s c z) (fit_is room (Attention (peer s) s.id flag) x e) (no_start_fine s c (Attention (peer s) s.id flag) tt refl (λ a b. absurd (true≢false a)))
live_slot c room s None x e = go (stop_due s) e
  where
    go : (b : Bool) → cond b (fit room (Stop (peer s) s.id 1)) (data_offer c room s (unframed s)) ≡ Offers x → Fine_slot s c x
    go true e = subst (λ z. Fine_slot s c z) (fit_is room (Stop (peer s) s.id 1) x e) (no_start_fine s c (Stop (peer s) s.id 1) tt refl (λ a b. absurd (true≢false b)))
    go false e = data_slot c room s (unframed s) x e

start_slot : (m : Bool) (c : ℕ) (s : Session) → s.out ≡ [] → length s.service ≤ 255 → Fine_slot s c (start_of m c s)
start_slot true c s o l = record { neat = (omega arith, l); tells = λ n. absurd (n o); first = λ q i. refl }
start_slot false c s o l = record { neat = (omega arith, l); tells = λ n. absurd (n o); first = λ q i. refl }

empty_out : (s : Session) → is_empty s.out ≡ true → s.out ≡ []
empty_out s e = go s.out e
  where
    go : (xs : List Slot) → is_empty xs ≡ true → xs ≡ []
    go [] e = refl
    go (x ∷ xs) e = absurd (false≢true e)

offer_slot : (m : Bool) (c room : ℕ) (s : Session) (x : Slot) → length s.service ≤ 255 → offer m c room s ≡ Offers x → Fine_slot s c x
offer_slot m c room s x l e = go s.rejects (is_empty s.out) refl e
  where
    rejects : (b d : Bool) → is_empty s.out ≡ b → cond (b && d) (fit room (Reject (peer s) 0 s.reason)) Nothing ≡ Offers x → Fine_slot s c x
    rejects true true q e = subst (λ z. Fine_slot s c z) (fit_is room (Reject (peer s) 0 s.reason) x e) (record { neat = tt; tells = λ n. absurd (n (empty_out s q)); first = λ o i. absurd (false≢true i) })
    rejects true false q e = cc
    rejects false d q e = cc

    begins : (b : Bool) → s.out ≡ [] → cond b (fit room (start_of m c s)) Nothing ≡ Offers x → Fine_slot s c x
    begins true o e = subst (λ z. Fine_slot s c z) (fit_is room (start_of m c s) x e) (start_slot m c s o l)
    begins false o e = cc

    later : (b : Bool) → cond b (live_offer c room s s.attention) Nothing ≡ Offers x → Fine_slot s c x
    later true e = live_slot c room s s.attention x e
    later false e = cc

    go : (r o : Bool) → is_empty s.out ≡ o → cond r (reject_offer room s) (cond o (start_offer m c room s) (later_offer c room s)) ≡ Offers x → Fine_slot s c x
    go true o q e = rejects (is_empty s.out) (not (is_empty s.came)) refl e
    go false true q e = begins (s.accepted && not (turned s.came)) (empty_out s q) e
    go false false q e = later (answered s && not (has_stop s.out)) e

-- a slot more

frugal_more : (c : ℕ) (xs : List Slot) (x : Slot) → (xs ≡ [] → is_start x ≡ true → credits_of x ≡ c) → ((xs ≡ [] → ⊥) → IsNotIdle x) → Frugal c xs → Frugal c (xs ++ x ∷ [])
frugal_more c [] x h t f = (h refl, tt)
frugal_more c (y ∷ ys) x h t f = (f.0, each_append (λ z. IsNotIdle z) ys (x ∷ []) f.1 (t (λ q. cc), tt))

formed_plain : (m : Bool) (c : ℕ) (s : Session) (n : ℕ) (x : Slot) → Fine_slot s c x → (s.out ≡ [] → due c s ≡ c) → PlainOne m c s → PlainOne m c (formed_as s n x)
formed_plain m c s n x f d p = record {
  short = p.short;
  frugal = frugal_more c s.out x (λ o i. f.first o i ∙ d o) f.tells p.frugal;
  accepts = p.accepts;
  neat = each_append (λ z. Neat z) s.out (x ∷ []) p.neat (f.neat, tt);
}

-- the sessions after a turn, but for their ids
record TurnPlain (f : Sessions) : Type 0 where
  each : (k : ℕ) → PlainOne f.master f.ceiling (f.session k)
  numbered : AllNumbered f

form_plain : (e : Sessions) (k : ℕ) (x : Slot) → 0 < k → Fine_slot (e.session k) e.ceiling x → ((e.session k).out ≡ [] → due e.ceiling (e.session k) ≡ e.ceiling) → Plain e → TurnPlain (form e k x)
form_plain e k x h f d p = go (nat_eq (e.session k).generation 0)
  where
    go : (b : Bool) → TurnPlain (cond b (first_form e k x) (next_form e k x))
    go true = record {
      each = upd_all (λ z. PlainOne e.master e.ceiling z) e.session k (formed_as (e.session k) (suc e.generations) x) (formed_plain e.master e.ceiling (e.session k) (suc e.generations) x f d (p.each k)) p.each;
      numbered = number_more e.serial_of e.generations k h p.numbered;
    }
    go false = record {
      each = upd_all (λ z. PlainOne e.master e.ceiling z) e.session k (formed (e.session k) x) (formed_plain e.master e.ceiling (e.session k) (e.session k).generation x f d (p.each k)) p.each;
      numbered = p.numbered;
    }

positive : (n : ℕ) → (n ≡ 0 → ⊥) → 0 < n
positive zero h = absurd (h refl)
positive (suc n) h = omega arith

turn_plain : (p : Packing) (k : ℕ) → EndOk p.after → (((p.after.session k).out ≡ []) → (p.after.session k).generation ≢ 0 ⊎ (p.after.master ≡ true) → due p.after.ceiling (p.after.session k) ≡ p.after.ceiling) → Plain p.after → Plain (turn p k).after
turn_plain p k ok d pl = let t : TurnPlain (turn p k).after = go p.going (offer p.after.master p.after.ceiling p.room (p.after.session k)) refl in record { each = t.each; numbered = t.numbered; ids = turn_within 64 p k pl.ids }
  where
    same : TurnPlain p.after
    same = record { each = pl.each; numbered = pl.numbered }

    named : (b : Bool) → p.after.master ≡ b → (x : Slot) → MayForm p.after.master (p.after.session k) x → (p.after.session k).generation ≢ 0 ⊎ (p.after.master ≡ true)
    named true q x may = inr q
    named false q x may = inl (slave_named p.after k x ok may q)

    go : (b : Bool) (o : Offer) → offer p.after.master p.after.ceiling p.room (p.after.session k) ≡ o → TurnPlain (cond b (turn_by p k o) p).after
    go true Nothing e = same
    go true Unfit e = same
    go true (Offers x) e =
        let f : Fine p.after.master p.after.ceiling (p.after.session k) x = offer_fine p.after.master p.after.ceiling p.room (p.after.session k) x (ok.each k) (ok.accounts k) (accepted_named p.after k ok) e in
        form_plain p.after k x (positive k (former_some p.after k x ok f.may)) (offer_slot p.after.master p.after.ceiling p.room (p.after.session k) x (pl.each k).short e) (λ o. d o (named p.after.master refl x f.may)) pl
    go false o e = same

-- before its start a session holds nothing

due_whole : (c : ℕ) (s : Session) → s.out ≡ [] → length (items s.came) ≡ 0 → due c s ≡ c
due_whole c s o n = omega (arith, ap credits o, held s.closed)
  where
    held : (b : Bool) → cond b 0 (held_from s.taken s.came) ≡ 0
    held true = refl
    held false = held_none s.taken s.came (omega (arith, n))

asks_no_items : (x : Slot) → is_start x ≡ true → items_of x ≡ []
asks_no_items (Start to from c size service request) e = refl
asks_no_items (DataA to from c bytes) e = absurd (false≢true e)
asks_no_items (DataB to from c setting) e = absurd (false≢true e)
asks_no_items (Attention to from flag) e = refl
asks_no_items (Reject to from reason) e = refl
asks_no_items (Stop to from reason) e = refl

-- a master that heard nothing has formed its ask at most
no_items_yet : (a : Session) (xs : List Slot) → Shape true a xs → a.came ≡ [] → length (items xs) ≡ 0
no_items_yet a [] h c = refl
no_items_yet a (x ∷ []) h c = ap (λ z. length (z ++ [])) (asks_no_items x (ask_starts x h.asks))
no_items_yet a (x ∷ y ∷ ys) h c = absurd (false≢true (sym (ap starts c) ∙ (and_parts a.accepted (starts a.came) (h.behind (λ q. cc))).1))

nil_front : (xs ys : List Slot) → [] ≡ xs ++ ys → xs ≡ []
nil_front [] ys e = refl
nil_front (x ∷ xs) ys e = cc

master_whole : (m s : Sessions) (up down : List TaggedSlot) → Joined m s up down → (k : ℕ) → (m.session k).out ≡ [] → due m.ceiling (m.session k) ≡ m.ceiling
master_whole m s up down j k o = due_whole m.ceiling (m.session k) o (ap (λ z. length (items z)) (j.quiet_up k (zero_gen (nat_eq (m.session k).generation 0) refl)))
  where
    zero_gen : (b : Bool) → nat_eq (m.session k).generation 0 ≡ b → (m.session k).generation ≡ 0
    zero_gen true q = eqb-true (m.session k).generation 0 q
    zero_gen false q = absurd ((j.master_ok.each k).ask_out j.master (eqb-false (m.session k).generation 0 q) o)

slave_whole : (m s : Sessions) (up down : List TaggedSlot) → Joined m s up down → (k : ℕ) → (s.session k).generation ≢ 0 → (s.session k).out ≡ [] → due s.ceiling (s.session k) ≡ s.ceiling
slave_whole m s up down j k n o = due_whole s.ceiling (s.session k) o none
  where
    g : ℕ
    g = (s.session k).generation

    named : of_generation s g ≡ s.session k
    named = ap s.session (j.slave_ok.serial_found k n)

    a : Session
    a = of_generation m g

    quiet : a.came ≡ []
    quiet = nil_front a.came (slots_of g down) (sym o ∙ ap (λ (z : Session). z.out) (sym named) ∙ j.flow_down.at_generation g)

    whole : length (items a.out) ≡ 0
    whole = no_items_yet a a.out (subst (λ b. Shape b a a.out) j.master (j.master_ok.each (m.serial_of g)).shape) quiet

    none : length (items (s.session k).came) ≡ 0
    none = omega (arith, whole, ap (λ z. length (items z)) (j.flow_up.at_generation g), ap length (items-append (of_generation s g).came (slots_of g up)), length-append (items (of_generation s g).came) (items (slots_of g up)), ap (λ (z : Session). length (items z.came)) named)

-- whole messages

turns_plain_up : (s : Sessions) (up down : List TaggedSlot) (ks : List ℕ) (p : Packing) → Joined p.after s (up ++ p.slots) down → Plain p.after → Plain (turn_all ks p).after
turns_plain_up s up down [] p j pl = pl
turns_plain_up s up down (k ∷ ks) p j pl = turns_plain_up s up down ks (turn p k) (turn_up s up down p k j) (turn_plain p k j.master_ok (λ o n. master_whole p.after s (up ++ p.slots) down j k o) pl)

pub pack_plain_up : (m s : Sessions) (up down : List TaggedSlot) (room : ℕ) → Joined m s up down → Plain m → Plain (pack room m).after
pack_plain_up m s up down room j pl = turns_plain_up s up down (turns m) (record { after = m; slots = []; room = room; left = 255; going = true }) (subst (λ z. Joined m s z down) (sym (append-nil up)) j) pl

turns_plain_down : (m : Sessions) (up down : List TaggedSlot) (ks : List ℕ) (p : Packing) → Joined m p.after up (down ++ p.slots) → Plain p.after → Plain (turn_all ks p).after
turns_plain_down m up down [] p j pl = pl
turns_plain_down m up down (k ∷ ks) p j pl = turns_plain_down m up down ks (turn p k) (turn_down m up down p k j) (turn_plain p k j.slave_ok (λ o n. slave_whole m p.after up (down ++ p.slots) j k (⊎_elim {C = (p.after.session k).generation ≢ 0} (λ z. z) (λ z. absurd (both_ways p.after.master j.slave z)) n) o) pl)

pub pack_plain_down : (m s : Sessions) (up down : List TaggedSlot) (room : ℕ) → Joined m s up down → Plain s → Plain (pack room s).after
pack_plain_down m s up down room j pl = turns_plain_down m up down (turns s) (record { after = s; slots = []; room = room; left = 255; going = true }) (subst (λ z. Joined m s up z) (sym (append-nil down)) j) pl
