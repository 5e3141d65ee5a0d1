-- An occasion forms a message exactly where a session has a slot.
use Rattle.std.proofs.Common.{◌≡◌, ℕ, inl, inr, ⊎_elim, sym, ap, ◌∙◌, refl, subst, Bool, true, false, cond, List, [], ◌∷◌, ◌++◌}
use Rattle.lat_model.specs.sessions.Sessions.{Sessions}
use Rattle.lat_model.specs.sessions.Offers.{Offer, Nothing, Unfit, Offers, offer}
use Rattle.lat_model.specs.sessions.Packing.{Packing, TaggedSlot, tagged, turn_by, turn, turn_all, turns, pack}
use Rattle.lat_laws.specs.rounds.Idle.{In, Silent, Fitting}

pushed : (xs : List TaggedSlot) (x : TaggedSlot) → xs ++ x ∷ [] ≡ [] → ⊥
pushed [] x e = cc
pushed (y ∷ ys) x e = cc

grown : (p : Packing) (k : ℕ) → (p.slots ≡ [] → ⊥) → (turn p k).slots ≡ [] → ⊥
grown p k h = go p.going (offer p.after.master p.after.ceiling p.room (p.after.session k))
  where
    go : (b : Bool) (o : Offer) → (cond b (turn_by p k o) p).slots ≡ [] → ⊥
    go true Nothing e = h e
    go true Unfit e = h e
    go true (Offers x) e = pushed p.slots (tagged p.after k x) e
    go false o e = h e

all_grown : (ks : List ℕ) (p : Packing) → (p.slots ≡ [] → ⊥) → (turn_all ks p).slots ≡ [] → ⊥
all_grown [] p h e = h e
all_grown (k ∷ ks) p h e = all_grown ks (turn p k) (grown p k h) e

abbrev first_packing : ℕ → Sessions → Packing
first_packing room e = record { after = e; slots = []; room = room; left = 255; going = true }

none_formed : (room : ℕ) (e : Sessions) → Fitting room e → (ks : List ℕ) → (turn_all ks (first_packing room e)).slots ≡ [] → (k : ℕ) → In k ks → offer e.master e.ceiling room (e.session k) ≡ Nothing
none_formed room e f [] h k i = absurd i
none_formed room e f (j ∷ js) h k i = go (offer e.master e.ceiling room (e.session j)) refl h (none_formed room e f js)
  where
    go : (o : Offer) → offer e.master e.ceiling room (e.session j) ≡ o → (turn_all js (turn_by (first_packing room e) j o)).slots ≡ [] → ((turn_all js (first_packing room e)).slots ≡ [] → (k : ℕ) → In k js → offer e.master e.ceiling room (e.session k) ≡ Nothing) → offer e.master e.ceiling room (e.session k) ≡ Nothing
    go Nothing q h ih = ⊎_elim {C = offer e.master e.ceiling room (e.session k) ≡ Nothing} (λ w. subst (λ z. offer e.master e.ceiling room (e.session z) ≡ Nothing) (sym w) q) (λ w. ih h k w) i
    go Unfit q h ih = absurd (f j q)
    go (Offers x) q h ih = absurd (all_grown js (turn_by (first_packing room e) j (Offers x)) (pushed [] (tagged e j x)) h)

-- where nothing is formed, no session had a slot
pub none_packed : (room : ℕ) (e : Sessions) → Fitting room e → (pack room e).slots ≡ [] → Silent room e
none_packed room e f h = none_formed room e f (turns e) h

silent_turns : (room : ℕ) (e : Sessions) (ks : List ℕ) → ((k : ℕ) → In k ks → offer e.master e.ceiling room (e.session k) ≡ Nothing) → turn_all ks (first_packing room e) ≡ first_packing room e
silent_turns room e [] h = refl
silent_turns room e (j ∷ js) h = ap (λ o. turn_all js (turn_by (first_packing room e) j o)) (h j (inl refl)) ∙ silent_turns room e js (λ k i. h k (inr i))

-- and where no session has a slot, nothing is formed
pub silent_packs : (room : ℕ) (e : Sessions) → Silent room e → (pack room e).slots ≡ []
silent_packs room e h = ap (λ (p : Packing). p.slots) (silent_turns room e (turns e) h)
