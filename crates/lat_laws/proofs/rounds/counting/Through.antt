-- What is through stays so, where nothing is put.
use Rattle.std.proofs.Common.{◌≡◌, ◌≢◌, ℕ, zero, suc, ◌<◌, ◌≤◌, ⊎_elim, refl, sym, ap, ◌∙◌, subst, arith, Bool, true, false, List, [], ◌∷◌, ◌++◌, length, nat_eq, eqb-true, length-append}
use Rattle.std.proofs.lemmas.Bool.{true≢false, eqb-false, cases_lt}
use Rattle.lat_model.specs.sessions.Slots.{Item, Slot, items, items_of}
use Rattle.lat_model.specs.sessions.Session.{Session, blank, free}
use Rattle.lat_model.specs.sessions.Sessions.{Sessions, of_generation}
use Rattle.lat_model.specs.sessions.Packing.{TaggedSlot}
use Rattle.lat_model.specs.sessions.EndOk.{EndOk}
use Rattle.lat_model.specs.sessions.Joined.{Joined, slots_of}
use Rattle.lat_model.specs.Lists.{IsPrefixOf}
use Rattle.lat_laws.specs.rounds.Idle.{Through, AllThrough}
use Rattle.lat_laws.specs.rounds.Measure.{AllNumbered}
use Rattle.lat_laws.proofs.rounds.counting.Stays.{Void, OntoOne}

append_same : {A : Type 0} → (xs ys zs : List A) → xs ++ (ys ++ zs) ≡ (xs ++ ys) ++ zs
append_same [] ys zs = refl
append_same (x ∷ xs) ys zs = ap (λ z. x ∷ z) (append_same xs ys zs)

append_none : {A : Type 0} → (xs : List A) → xs ++ [] ≡ xs
append_none [] = refl
append_none (x ∷ xs) = ap (λ z. x ∷ z) (append_none xs)

items_more : (xs ys : List Slot) → items (xs ++ ys) ≡ items xs ++ items ys
items_more [] ys = refl
items_more (x ∷ xs) ys = ap (λ z. items_of x ++ z) (items_more xs ys) ∙ append_same (items_of x) (items xs) (items ys)

pub no_more : (xs : List Item) → length xs ≤ 0 → xs ≡ []
no_more [] h = refl
no_more (x ∷ xs) h = absurd (omega (arith, h))

-- a session that heard all that was put hears no more
all_heard : (b c : Session) (put : List Item) → OntoOne b c → items b.came ≡ put → length (items c.came) ≤ length put → items c.came ≡ items b.came
all_heard b c put o h l =
    let e : items c.came ≡ items b.came ++ items o.came.0 = ap items (sym o.came.1) ∙ items_more b.came o.came.0 in
    let n : items o.came.0 ≡ [] = no_more (items o.came.0) (omega (arith, l, ap length h, ap length e, length-append (items b.came) (items o.came.0))) in
    e ∙ (ap (λ z. items b.came ++ z) n ∙ append_none (items b.came))

through_on : (a b c d : Session) → OntoOne a c → OntoOne b d → length (items d.came) ≤ length c.put → Through a b → Through c d
through_on a b c d p q l t =
    let e : items d.came ≡ items b.came = all_heard b d a.put q t.heard (omega (arith, l, ap (λ (z : List Item). length z) p.put)) in
    record { heard = e ∙ (t.heard ∙ sym p.put); taken = omega (arith, ap length e, t.taken, q.taken) }

-- a heard no more than b has put
pub heard_most : (a b : Session) (wire : List Slot) → b.out ≡ a.came ++ wire → IsPrefixOf (items b.out) b.put → length (items a.came) ≤ length b.put
heard_most a b wire f p = omega (arith, ap length p.1, length-append (items b.out) p.0, ap (λ z. length (items z)) f, ap length (items_more a.came wire), length-append (items a.came) (items wire))

blank_at : (e : Sessions) → EndOk e → e.master ≡ false → (k : ℕ) → (e.session k).generation ≡ 0 → e.session k ≡ blank
blank_at e ok m zero z = ok.none
blank_at e ok m (suc k) z = ⊎_elim {C = e.session (suc k) ≡ blank} (λ l. ok.past (suc k) l) (λ l. absurd (ok.all_named m (suc k) (omega arith) (omega (arith, l)) z)) (cases_lt e.made (suc k))

zeroth : (e : Sessions) → EndOk e → of_generation e 0 ≡ blank
zeroth e ok = ap e.session ok.serial_zero ∙ ok.none

module _ (m s n r : Sessions) (up down up_now down_now : List TaggedSlot) (j : Joined m s up down) (i : Joined n r up_now down_now) (num : AllNumbered m) (on_m : (k : ℕ) → OntoOne (m.session k) (n.session k)) (on_s : (k : ℕ) → OntoOne (s.session k) (r.session k)) where
  some : (g : ℕ) → g ≢ 0 → 0 < g
  some zero w = absurd (w refl)
  some (suc g) w = omega arith

  -- a generation that the slave has, the master had
  asked_by : (k g : ℕ) → (s.session k).generation ≡ g → g ≢ 0 → (z : ℕ) → (n.session z).generation ≡ g → (m.session z).generation ≡ g
  asked_by k g h w z e = subst (λ x. (m.session x).generation ≡ g) (sym serial_then ∙ serial_now) there
    where
      serial : s.serial_of g ≡ k
      serial = ap s.serial_of (sym h) ∙ j.slave_ok.serial_found k (λ q. w (sym h ∙ q))

      low : g ≤ s.generations
      low = ⊎_elim {C = g ≤ s.generations} (λ l. let q : (s.session 0).generation ≡ g = ap (λ x. (s.session x).generation) (sym (j.slave_ok.serial_past g l) ∙ serial) ∙ h in absurd (w (sym q ∙ ap (λ (x : Session). x.generation) j.slave_ok.none))) (λ l. omega (arith, l)) (cases_lt s.generations g)

      there : (m.session (m.serial_of g)).generation ≡ g
      there = let p : 0 < m.serial_of g = num g (some g w) (omega (arith, low, j.asked)) in j.master_ok.generation_found g (λ q. absurd (omega (arith, p, q)))

      now : (n.session (m.serial_of g)).generation ≡ g
      now = (on_m (m.serial_of g)).generation (λ q. w (sym there ∙ q)) ∙ there

      serial_then : n.serial_of g ≡ m.serial_of g
      serial_then = ap n.serial_of (sym now) ∙ i.master_ok.serial_found (m.serial_of g) (λ q. w (sym now ∙ q))

      serial_now : n.serial_of g ≡ z
      serial_now = ap n.serial_of (sym e) ∙ i.master_ok.serial_found z (λ q. w (sym e ∙ q))

  -- the session of a generation at the slave was in the same place before
  mate_same : (k : ℕ) → of_generation s (m.session k).generation ≡ s.session (r.serial_of (n.session k).generation)
  mate_same k = go (nat_eq (s.session x).generation 0) refl (nat_eq g 0) refl
    where
      g : ℕ
      g = (m.session k).generation

      h : ℕ
      h = (n.session k).generation

      x : ℕ
      x = r.serial_of h

      kept : g ≢ 0 → h ≡ g
      kept w = (on_m k).generation w

      -- it was in no other place
      at : g ≢ 0 → (s.session x).generation ≡ 0 → s.serial_of g ≡ 0
      at w z = by (nat_eq (s.serial_of g) 0) refl
        where
          by : (b : Bool) → nat_eq (s.serial_of g) 0 ≡ b → s.serial_of g ≡ 0
          by true q = eqb-true (s.serial_of g) 0 q
          by false q =
              let f : (s.session (s.serial_of g)).generation ≡ g = j.slave_ok.generation_found g (eqb-false (s.serial_of g) 0 q) in
              let f2 : (r.session (s.serial_of g)).generation ≡ g = (on_s (s.serial_of g)).generation (λ c. w (sym f ∙ c)) ∙ f in
              let f3 : x ≡ s.serial_of g = ap r.serial_of (kept w ∙ sym f2) ∙ i.slave_ok.serial_found (s.serial_of g) (λ c. w (sym f2 ∙ c)) in
              absurd (w (sym f ∙ (ap (λ c. (s.session c).generation) (sym f3) ∙ z)))

      has : (s.session x).generation ≢ 0 → (s.session x).generation ≡ h
      has w =
          let f : (r.session x).generation ≡ (s.session x).generation = (on_s x).generation w in
          sym f ∙ i.slave_ok.generation_found h (λ c. w (sym f ∙ (ap (λ y. (r.session y).generation) c ∙ ap (λ (y : Session). y.generation) i.slave_ok.none)))

      go : (a : Bool) → nat_eq (s.session x).generation 0 ≡ a → (b : Bool) → nat_eq g 0 ≡ b → of_generation s g ≡ s.session x
      go true p true q = ap (of_generation s) (eqb-true g 0 q) ∙ (zeroth s j.slave_ok ∙ sym (blank_at s j.slave_ok j.slave x (eqb-true _ 0 p)))
      go true p false q = ap s.session (at (eqb-false g 0 q) (eqb-true _ 0 p)) ∙ (j.slave_ok.none ∙ sym (blank_at s j.slave_ok j.slave x (eqb-true _ 0 p)))
      go false p true q =
          let w : (s.session x).generation ≢ 0 = eqb-false _ 0 p in
          let e : (m.session k).generation ≡ h = asked_by x h (has w) (λ c. w (has w ∙ c)) k refl in
          absurd (w (has w ∙ (sym e ∙ eqb-true g 0 q)))
      go false p false q =
          let w : (s.session x).generation ≢ 0 = eqb-false _ 0 p in
          ap s.session (ap s.serial_of (sym (kept (eqb-false g 0 q)) ∙ sym (has w)) ∙ j.slave_ok.serial_found x w)

  pub through_stays : AllThrough m s → AllThrough n r
  through_stays t k f c d = go (free a) refl
    where
      a : Session
      a = m.session k

      b : Session
      b = of_generation s a.generation

      e : Session
      e = n.session k

      o : Session
      o = of_generation r e.generation

      on_b : OntoOne b o
      on_b = subst (λ z. OntoOne z o) (sym (mate_same k)) (on_s (r.serial_of e.generation))

      -- neither heard more than the other put
      named : e.generation ≢ 0 → of_generation n e.generation ≡ e
      named w = ap n.session (i.master_ok.serial_found k w)

      down_most : length (items o.came) ≤ length e.put
      down_most = by (nat_eq e.generation 0) refl
        where
          by : (z : Bool) → nat_eq e.generation 0 ≡ z → length (items o.came) ≤ length e.put
          by true q = let y : length (items o.came) ≡ 0 = ap (λ (x : Session). length (items x.came)) (ap (of_generation r) (eqb-true e.generation 0 q) ∙ zeroth r i.slave_ok) in omega (arith, y)
          by false q = heard_most o e (slots_of e.generation up_now) (ap (λ (x : Session). x.out) (sym (named (eqb-false e.generation 0 q))) ∙ i.flow_up.at_generation e.generation) (i.master_ok.accounts k).framed

      up_most : length (items e.came) ≤ length o.put
      up_most = by (nat_eq e.generation 0) refl
        where
          by : (z : Bool) → nat_eq e.generation 0 ≡ z → length (items e.came) ≤ length o.put
          by true q = let y : length (items e.came) ≡ 0 = ap (λ z. length (items z)) (i.quiet_up k (eqb-true e.generation 0 q)) in omega (arith, y)
          by false q = heard_most e o (slots_of e.generation down_now) (i.flow_down.at_generation e.generation ∙ ap (λ (x : Session). x.came ++ slots_of e.generation down_now) (named (eqb-false e.generation 0 q))) (i.slave_ok.accounts (r.serial_of e.generation)).framed

      on : Through a b × Through b a → Through e o × Through o e
      on p = (through_on a b e o (on_m k) on_b down_most p.0, through_on b a o e on_b (on_m k) up_most p.1)

      void : Void a → Through a b × Through b a
      void v =
          let z : b ≡ blank = ap (of_generation s) v.generation ∙ zeroth s j.slave_ok in
          let y : items a.came ≡ [] = ap items v.came in
          (record { heard = ap (λ (x : Session). items x.came) z ∙ sym v.put; taken = omega (arith, ap (λ (x : Session). length (items x.came)) z) }, record { heard = y ∙ sym (ap (λ (x : Session). x.put) z); taken = omega (arith, ap length y) })

      go : (z : Bool) → free a ≡ z → Through e o × Through o e
      go false q = on (t k q (sym (on_m k).closed ∙ c) (sym on_b.closed ∙ d))
      go true q = ⊎_elim {C = Through e o × Through o e} (λ y. absurd (true≢false (sym y ∙ f))) (λ v. on (void v)) ((on_m k).free q)
