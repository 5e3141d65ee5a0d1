-- What a change of one session does to what is known of an end and of the wires.
use Rattle.std.proofs.Common.{◌≡◌, ℕ, ◌≤◌, sym, ap, ◌∙◌, refl, arith, Bool, true, false, cond, List, [], ◌∷◌, ◌++◌, nat_eq, append_assoc, append-nil, eqb-true}
use Rattle.std.proofs.lemmas.Bool.{eqb-false}
use Rattle.lat_model.specs.sessions.Slots.{Slot}
use Rattle.lat_model.specs.sessions.Session.{Session, free}
use Rattle.lat_model.specs.sessions.Sessions.{Sessions, of_generation}
use Rattle.lat_model.specs.sessions.Packing.{TaggedSlot}
use Rattle.lat_model.specs.Lists.{updated}
use Rattle.lat_model.specs.sessions.EndOk.{SessionOk, Accounts, EndOk}
use Rattle.lat_model.specs.sessions.Joined.{Flows, slots_of}
use Rattle.lat_model.proofs.sessions.Words.{upd_other, upd_field, upd_all, slots_of-append}

-- one session of the end is put anew
abbrev pub place : Sessions → ℕ → Session → ℕ → Sessions
place e k s v = record e { session = updated e.session k s; served = v }

-- what a change of one session must keep for its end
pub record KeepsId (old : Session) (new : Session) : Type 0 where
  pub id : new.id ≡ old.id
  pub generation : new.generation ≡ old.generation
  pub free : free new ≡ false → free old ≡ false

pub end_placed : (e : Sessions) (k : ℕ) (s : Session) (v : ℕ) → EndOk e → (k ≡ 0 → ⊥) → k ≤ e.made → KeepsId (e.session k) s → SessionOk e.master s → Accounts e.ceiling s → EndOk (place e k s v)
end_placed e k s v ok nz made kept so ac = record {
  agreed = ok.agreed;
  each = upd_all (λ z. SessionOk e.master z) e.session k s so ok.each;
  accounts = upd_all (λ z. Accounts e.ceiling z) e.session k s ac ok.accounts;
  holds = λ j. holds j (nat_eq j k) refl;
  at_made = ok.at_made;
  found = λ i h. upd_field (λ (z : Session). z.id) e.session k s kept.id (e.at_id i) ∙ ok.found i h;
  generation_found = λ g h. generations (e.serial_of g) (nat_eq (e.serial_of g) k) refl ∙ ok.generation_found g h;
  serial_found = λ j h. ap e.serial_of (generations j (nat_eq j k) refl) ∙ ok.serial_found j (λ q. h (generations j (nat_eq j k) refl ∙ q));
  serial_zero = ok.serial_zero;
  serial_past = ok.serial_past;
  serial_made = ok.serial_made;
  none = upd_other e.session k s 0 (λ q. nz (sym q)) ∙ ok.none;
  past = λ j h. upd_other e.session k s j (λ q. absurd (omega arith)) ∙ ok.past j h;
  all_named = λ m j h i q. ok.all_named m j h i (sym (generations j (nat_eq j k) refl) ∙ q);
}
  where
    holds : (j : ℕ) (b : Bool) → nat_eq j k ≡ b → free (cond b s (e.session j)) ≡ false → e.at_id (cond b s (e.session j)).id ≡ j
    holds j true q h = ap e.at_id kept.id ∙ ok.holds k (kept.free h) ∙ sym (eqb-true j k q)
    holds j false q h = ok.holds j h

    generations : (j : ℕ) (b : Bool) → nat_eq j k ≡ b → (cond b s (e.session j)).generation ≡ (e.session j).generation
    generations j true q = kept.generation ∙ ap (λ z. (e.session z).generation) (sym (eqb-true j k q))
    generations j false q = refl

-- Wires

-- neither side's lists change
pub flows_same : (a b a' b' : Sessions) (wire : List TaggedSlot) → ((g : ℕ) → (of_generation a' g).out ≡ (of_generation a g).out) → ((g : ℕ) → (of_generation b' g).came ≡ (of_generation b g).came) → Flows a b wire → Flows a' b' wire
flows_same a b a' b' wire p q f = record { at_generation = λ g. p g ∙ f.at_generation g ∙ ap (λ z. z ++ slots_of g wire) (sym (q g)) }

-- a session of generation g, and no other, is known by g
who_is : (e : Sessions) → EndOk e → (k g : ℕ) → (e.session k).generation ≡ g → (g ≡ 0 → ⊥) → e.serial_of g ≡ k
who_is e ok k g q nz = ap e.serial_of (sym q) ∙ ok.serial_found k (λ z. nz (sym q ∙ z))

who_not : (e : Sessions) → EndOk e → (k g h : ℕ) → (e.session k).generation ≡ g → (k ≡ 0 → ⊥) → e.serial_of h ≡ k → g ≡ h
who_not e ok k g h q nz w = sym q ∙ ap (λ z. (e.session z).generation) (sym w) ∙ ok.generation_found h (λ z. nz (sym w ∙ z))

-- a slot is formed by the session k of a
pub flows_formed : (a b : Sessions) (k : ℕ) (x : Slot) (s : Session) (v : ℕ) (wire : List TaggedSlot) → EndOk a → (k ≡ 0 → ⊥) → ((a.session k).generation ≡ 0 → ⊥) → s.out ≡ (a.session k).out ++ x ∷ [] → Flows a b wire → Flows (place a k s v) b (wire ++ record { generation = (a.session k).generation; slot = x } ∷ [])
flows_formed a b k x s v wire ok nz named e f = record { at_generation = λ g. go g (nat_eq (a.serial_of g) k) refl (nat_eq n g) refl ∙ sym (ap (λ z. (of_generation b g).came ++ z) (slots_of-append g wire (o ∷ []))) }
  where
    n : ℕ
    n = (a.session k).generation

    o : TaggedSlot
    o = record { generation = n; slot = x }

    go : (g : ℕ) (b1 : Bool) → nat_eq (a.serial_of g) k ≡ b1 → (c : Bool) → nat_eq n g ≡ c → (cond b1 s (a.session (a.serial_of g))).out ≡ (of_generation b g).came ++ (slots_of g wire ++ cond c (x ∷ []) [])
    go g true q true r =
        e ∙ ap (λ z. (a.session z).out ++ x ∷ []) (sym (eqb-true (a.serial_of g) k q)) ∙ ap (λ z. z ++ x ∷ []) (f.at_generation g) ∙ append_assoc (of_generation b g).came (slots_of g wire) (x ∷ [])
    go g true q false r = absurd (eqb-false n g r (who_not a ok k n g refl nz (eqb-true (a.serial_of g) k q)))
    go g false q true r = absurd (eqb-false (a.serial_of g) k q (who_is a ok k g (eqb-true n g r) (λ z. named (eqb-true n g r ∙ z))))
    go g false q false r = f.at_generation g ∙ ap (λ z. (of_generation b g).came ++ z) (sym (append-nil (slots_of g wire)))

-- the first slot of the wire is heard by the session k of b
pub flows_heard : (a b : Sessions) (k : ℕ) (o : TaggedSlot) (s : Session) (v : ℕ) (wire : List TaggedSlot) → EndOk b → (k ≡ 0 → ⊥) → (o.generation ≡ 0 → ⊥) → (b.session k).generation ≡ o.generation → s.came ≡ (b.session k).came ++ o.slot ∷ [] → Flows a b (o ∷ wire) → Flows a (place b k s v) wire
flows_heard a b k o s v wire ok nz named generation e f = record { at_generation = λ g. f.at_generation g ∙ sym (go g (nat_eq (b.serial_of g) k) refl (nat_eq o.generation g) refl) }
  where
    go : (g : ℕ) (b1 : Bool) → nat_eq (b.serial_of g) k ≡ b1 → (c : Bool) → nat_eq o.generation g ≡ c → (cond b1 s (b.session (b.serial_of g))).came ++ slots_of g wire ≡ (of_generation b g).came ++ cond c (o.slot ∷ slots_of g wire) (slots_of g wire)
    go g true q true r =
        ap (λ z. z ++ slots_of g wire) e ∙ append_assoc (b.session k).came (o.slot ∷ []) (slots_of g wire) ∙ ap (λ z. (b.session z).came ++ o.slot ∷ slots_of g wire) (sym (eqb-true (b.serial_of g) k q))
    go g true q false r = absurd (eqb-false o.generation g r (who_not b ok k o.generation g generation nz (eqb-true (b.serial_of g) k q)))
    go g false q true r = absurd (eqb-false (b.serial_of g) k q (who_is b ok k g (generation ∙ eqb-true o.generation g r) (λ z. named (eqb-true o.generation g r ∙ z))))
    go g false q false r = refl
