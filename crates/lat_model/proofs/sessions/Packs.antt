-- Whole messages: packing forms slots one by one, hearing takes them one by one.
use Rattle.std.proofs.Common.{◌≡◌, ℕ, zero, suc, ◌<◌, ◌≤◌, ⊎_elim, sym, ap, ◌∙◌, refl, subst, arith, Bool, true, false, cond, List, [], ◌∷◌, ◌++◌, Some, None, append_assoc, append-nil}
use Rattle.std.proofs.lemmas.Bool.{cases_lt, true≢false, false≢true}
use Rattle.lat_model.specs.sessions.Session.{Session}
use Rattle.lat_model.specs.sessions.Sessions.{Sessions, of_generation}
use Rattle.lat_model.specs.sessions.Packing.{TaggedSlot, form, tagged, Packing, turn_by, turn, turn_all, turns, pack}
use Rattle.lat_model.specs.sessions.Offers.{Offer, Nothing, Unfit, Offers, offer}
use Rattle.lat_model.specs.sessions.Hearing.{hear_all, HeardAll}
use Rattle.lat_model.specs.sessions.EndOk.{EndOk}
use Rattle.lat_model.specs.sessions.MayForm.{MayForm}
use Rattle.lat_model.specs.sessions.Joined.{Joined}
use Rattle.lat_model.specs.ends.End.{wire_of}
use Rattle.lat_model.proofs.sessions.Offers.{Fine, offer_fine}
use Rattle.lat_model.proofs.sessions.Joins.{form_up, form_down, hear_up, hear_down, HeardUp, HeardDown}

-- an accepted session of the slave has a generation
pub accepted_named : (e : Sessions) (k : ℕ) → EndOk e → e.master ≡ false → (e.session k).accepted ≡ true → (e.session k).generation ≡ 0 → ⊥
accepted_named e k ok m a = ok.all_named m k (pos k not_zero) made
  where
    pos : (n : ℕ) → (n ≡ 0 → ⊥) → 0 < n
    pos zero h = absurd (h refl)
    pos (suc n) h = omega arith

    not_zero : k ≡ 0 → ⊥
    not_zero q = false≢true (sym (ap (λ z. (e.session z).accepted) q ∙ ap (λ (s : Session). s.accepted) ok.none) ∙ a)

    made : k ≤ e.made
    made = ⊎_elim {C = k ≤ e.made} (λ h. absurd (false≢true (sym (ap (λ (s : Session). s.accepted) (ok.past k h)) ∙ a))) (λ h. h) (cases_lt e.made k)

pub turn_up : (s : Sessions) (up down : List TaggedSlot) (p : Packing) (k : ℕ) → Joined p.after s (up ++ p.slots) down → Joined (turn p k).after s (up ++ (turn p k).slots) down
turn_up s up down p k j = go p.going (offer p.after.master p.after.ceiling p.room (p.after.session k)) refl
  where
    go : (b : Bool) (o : Offer) → offer p.after.master p.after.ceiling p.room (p.after.session k) ≡ o → Joined (cond b (turn_by p k o) p).after s (up ++ (cond b (turn_by p k o) p).slots) down
    go true Nothing e = j
    go true Unfit e = j
    go true (Offers x) e =
        let f : Fine p.after.master p.after.ceiling (p.after.session k) x = offer_fine p.after.master p.after.ceiling p.room (p.after.session k) x (j.master_ok.each k) (j.master_ok.accounts k) (λ q. absurd (true≢false (sym j.master ∙ q))) e in
        subst (λ z. Joined (form p.after k x) s z down) (append_assoc up p.slots (tagged p.after k x ∷ []))
        (form_up p.after s (up ++ p.slots) down k x j (subst (λ z. MayForm z (p.after.session k) x) j.master f.may) f.affords)
    go false o e = j

pub turns_up : (s : Sessions) (up down : List TaggedSlot) (ks : List ℕ) (p : Packing) → Joined p.after s (up ++ p.slots) down → Joined (turn_all ks p).after s (up ++ (turn_all ks p).slots) down
turns_up s up down [] p j = j
turns_up s up down (k ∷ ks) p j = turns_up s up down ks (turn p k) (turn_up s up down p k j)

pub pack_up : (m s : Sessions) (up down : List TaggedSlot) (room : ℕ) → Joined m s up down → Joined (pack room m).after s (up ++ (pack room m).slots) down
pack_up m s up down room j = turns_up s up down (turns m) (record { after = m; slots = []; room = room; left = 255; going = true }) (subst (λ z. Joined m s z down) (sym (append-nil up)) j)

pub turn_down : (m : Sessions) (up down : List TaggedSlot) (p : Packing) (k : ℕ) → Joined m p.after up (down ++ p.slots) → Joined m (turn p k).after up (down ++ (turn p k).slots)
turn_down m up down p k j = go p.going (offer p.after.master p.after.ceiling p.room (p.after.session k)) refl
  where
    go : (b : Bool) (o : Offer) → offer p.after.master p.after.ceiling p.room (p.after.session k) ≡ o → Joined m (cond b (turn_by p k o) p).after up (down ++ (cond b (turn_by p k o) p).slots)
    go true Nothing e = j
    go true Unfit e = j
    go true (Offers x) e =
        let f : Fine p.after.master p.after.ceiling (p.after.session k) x = offer_fine p.after.master p.after.ceiling p.room (p.after.session k) x (j.slave_ok.each k) (j.slave_ok.accounts k) (accepted_named p.after k j.slave_ok) e in
        subst (λ z. Joined m (form p.after k x) up z) (append_assoc down p.slots (tagged p.after k x ∷ []))
        (form_down m p.after up (down ++ p.slots) k x j (subst (λ z. MayForm z (p.after.session k) x) j.slave f.may) f.affords)
    go false o e = j

pub turns_down : (m : Sessions) (up down : List TaggedSlot) (ks : List ℕ) (p : Packing) → Joined m p.after up (down ++ p.slots) → Joined m (turn_all ks p).after up (down ++ (turn_all ks p).slots)
turns_down m up down [] p j = j
turns_down m up down (k ∷ ks) p j = turns_down m up down ks (turn p k) (turn_down m up down p k j)

pub pack_down : (m s : Sessions) (up down : List TaggedSlot) (room : ℕ) → Joined m s up down → Joined m (pack room s).after up (down ++ (pack room s).slots)
pack_down m s up down room j = turns_down m up down (turns s) (record { after = s; slots = []; room = room; left = 255; going = true }) (subst (λ z. Joined m s up z) (sym (append-nil down)) j)

-- a whole message is heard, and no slot of it is bad

-- ids and slots formed stay where something was formed
pub record AllHeard (e : Sessions) (r : HeardAll) : Type 0 where
  pub good : r.good ≡ true
  pub ids : (g : ℕ) → ((of_generation e g).out ≡ [] → ⊥) → (of_generation r.after g).id ≡ (of_generation e g).id
  pub outs : (g : ℕ) → (of_generation r.after g).out ≡ (of_generation e g).out

heard_on : (e f : Sessions) (r : HeardAll) → ((g : ℕ) → ((of_generation e g).out ≡ [] → ⊥) → (of_generation f g).id ≡ (of_generation e g).id) → ((g : ℕ) → (of_generation f g).out ≡ (of_generation e g).out) → AllHeard f r → AllHeard e r
heard_on e f r i o h = record { good = h.good; ids = λ g n. h.ids g (λ q. n (sym (o g) ∙ q)) ∙ i g n; outs = λ g. h.outs g ∙ o g }

pub all_up : (m s : Sessions) (os up down : List TaggedSlot) → Joined m s (os ++ up) down → AllHeard s (hear_all (wire_of os) s) × Joined m (hear_all (wire_of os) s).after up down
all_up m s [] up down j = (record { good = refl; ids = λ g n. refl; outs = λ g. refl }, j)
all_up m s (o ∷ os) up down j =
    let h : HeardUp m s o (os ++ up) down = hear_up m s o (os ++ up) down j in
    let e : hear_all (wire_of (o ∷ os)) s ≡ hear_all (wire_of os) h.after = ap (λ z. elim z as (λ w. HeardAll) [ None ↦ record { after = s; good = false } | Some f ↦ hear_all (wire_of os) f ]) h.hears in
    let r : AllHeard h.after (hear_all (wire_of os) h.after) × Joined m (hear_all (wire_of os) h.after).after up down = all_up m h.after os up down h.joined in
    (subst (AllHeard s) (sym e) (heard_on s h.after (hear_all (wire_of os) h.after) h.ids h.outs r.0), subst (λ (z : HeardAll). Joined m z.after up down) (sym e) r.1)

pub all_down : (m s : Sessions) (os up down : List TaggedSlot) → Joined m s up (os ++ down) → AllHeard m (hear_all (wire_of os) m) × Joined (hear_all (wire_of os) m).after s up down
all_down m s [] up down j = (record { good = refl; ids = λ g n. refl; outs = λ g. refl }, j)
all_down m s (o ∷ os) up down j =
    let h : HeardDown m s o up (os ++ down) = hear_down m s o up (os ++ down) j in
    let e : hear_all (wire_of (o ∷ os)) m ≡ hear_all (wire_of os) h.after = ap (λ z. elim z as (λ w. HeardAll) [ None ↦ record { after = m; good = false } | Some f ↦ hear_all (wire_of os) f ]) h.hears in
    let r : AllHeard h.after (hear_all (wire_of os) h.after) × Joined (hear_all (wire_of os) h.after).after s up down = all_down h.after s os up down h.joined in
    (subst (AllHeard m) (sym e) (heard_on m h.after (hear_all (wire_of os) h.after) h.ids h.outs r.0), subst (λ (z : HeardAll). Joined z.after s up down) (sym e) r.1)
