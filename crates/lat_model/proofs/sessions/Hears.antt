-- What hearing a slot keeps of the session that hears it, of its end and of the wires.
use Rattle.std.proofs.Common.{◌≡◌, ℕ, ◌+◌, ◌-◌, ◌≤◌, sym, ap, ap₂, ◌∙◌, refl, subst, arith, Bool, true, false, cond, ◌&&◌, List, [], ◌∷◌, ◌++◌, length, Some, nat_lt, eq-eqb, length-append}
use Rattle.std.proofs.lemmas.Bool.{le-ltb, and_parts, true≢false, false≢true, both_ways}
use Rattle.lat_model.specs.sessions.Slots.{Slot, Start, DataA, DataB, Attention, Reject, Stop, destination, items, credits, costs, credits_of, cost_of, items_of, starts, starter}
use Rattle.lat_model.specs.sessions.Session.{Session, blank, free, answered, peer, held_from, held_slots}
use Rattle.lat_model.specs.sessions.Sessions.{Sessions, of_generation}
use Rattle.lat_model.specs.sessions.Packing.{TaggedSlot}
use Rattle.lat_model.specs.sessions.Hearing.{heard, hear_at, hear_slot, behind_fits}
use Rattle.lat_model.specs.sessions.EndOk.{Tail, Head, Shape, SessionOk, Accounts, EndOk}
use Rattle.lat_model.specs.sessions.Joined.{Flows, slots_of}
use Rattle.lat_model.proofs.sessions.Words.{items-append, credits-append, costs-append, upd_field}
use Rattle.lat_model.proofs.sessions.Wire.{place, end_placed, flows_same, flows_heard}
use Rattle.lat_model.proofs.sessions.Meets.{spends_fit, not_nil, Arrives, arrives, fits, hears_at}

-- the front of a longer list

pub starts_more : (xs ys : List Slot) → (xs ≡ [] → ⊥) → starts (xs ++ ys) ≡ starts xs
starts_more [] ys n = absurd (n refl)
starts_more (x ∷ xs) ys n = refl

pub starter_more : (xs ys : List Slot) → (xs ≡ [] → ⊥) → starter (xs ++ ys) ≡ starter xs
starter_more [] ys n = absurd (n refl)
starter_more (Start to from c size service request ∷ xs) ys n = refl
starter_more (DataA to from c bytes ∷ xs) ys n = refl
starter_more (DataB to from c setting ∷ xs) ys n = refl
starter_more (Attention to from flag ∷ xs) ys n = refl
starter_more (Reject to from reason ∷ xs) ys n = refl
starter_more (Stop to from reason ∷ xs) ys n = refl

-- the head of a session's slots depends on a few words of the session alone
pub record SameFace (s : Session) (t : Session) : Type 0 where
  pub id : t.id ≡ s.id
  pub accepted : t.accepted ≡ s.accepted
  pub rejects : t.rejects ≡ s.rejects
  pub peer : peer t ≡ peer s
  pub starts : starts t.came ≡ starts s.came

pub head_keeps : (m : Bool) (s t : Session) (x : Slot) (xs : List Slot) → SameFace s t → Head m s x xs → Head m t x xs
head_keeps m s t x xs f h = record {
  asks = h.asks;
  start = λ e. ((h.start e).0 ∙ sym f.id, f.accepted ∙ (h.start e).1, f.rejects ∙ (h.start e).2);
  reject = λ e. ((h.reject e).0, f.rejects ∙ (h.reject e).1, (h.reject e).2);
  reply = λ e. ((h.reply e).0 ∙ sym f.peer, f.starts ∙ (h.reply e).1);
  tail = subst (λ w. Tail w t.id xs) (sym f.peer) (subst (λ w. Tail (peer s) w xs) (sym f.id) h.tail);
  behind = λ n. ap₂ (λ u v. u && v) f.accepted f.starts ∙ h.behind n;
}

pub shape_keeps : (m : Bool) (s t : Session) (xs : List Slot) → SameFace s t → Shape m s xs → Shape m t xs
shape_keeps m s t [] f h = tt
shape_keeps m s t (x ∷ xs) f h = head_keeps m s t x xs f h

pub face_heard : (s : Session) (x : Slot) → (s.came ≡ [] → ⊥) → SameFace s (heard s x)
face_heard s x n = record { id = refl; accepted = refl; rejects = refl; peer = starter_more s.came (x ∷ []) n; starts = starts_more s.came (x ∷ []) n }

-- a session that had heard something hears one slot more
pub heard_more_ok : (m : Bool) (s : Session) (x : Slot) → (s.came ≡ [] → ⊥) → SessionOk m s → SessionOk m (heard s x)
heard_more_ok m s x n ok = record {
  shape = shape_keeps m s (heard s x) s.out (face_heard s x n) ok.shape;
  unnamed = ok.unnamed;
  asked = λ z h. starts_more s.came (x ∷ []) n ∙ ok.asked z h;
  id_some = ok.id_some;
  peer_some = λ z h q. ok.peer_some z h (sym (starter_more s.came (x ∷ []) n) ∙ q);
  ask_out = ok.ask_out;
  never_rejects = λ z r. absurd (n (ok.never_rejects z r).1);
}

-- a session of the master that had heard nothing has at most its ask out
pub heard_first_ok : (s : Session) (x : Slot) → s.came ≡ [] → s.rejects ≡ false → SessionOk true s → SessionOk true (heard s x)
heard_first_ok s x e r ok = record {
  shape = go s.out ok.shape;
  unnamed = ok.unnamed;
  asked = λ z h. absurd (true≢false z);
  id_some = ok.id_some;
  peer_some = λ z. absurd (true≢false z);
  ask_out = ok.ask_out;
  never_rejects = λ z q. absurd (both_ways s.rejects r q);
}
  where
    no_answer : answered s ≡ true → ⊥
    no_answer a = false≢true (sym (ap starts e) ∙ (and_parts s.accepted (starts s.came) a).1)

    alone : (x' : Slot) (xs : List Slot) → Head true s x' xs → Head true (heard s x) x' xs
    alone x' [] h = record { asks = h.asks; start = h.start; reject = h.reject; reply = λ z. absurd (true≢false z); tail = tt; behind = λ n. absurd (n refl) }
    alone x' (y ∷ ys) h = absurd (no_answer (h.behind (not_nil [] y ys)))

    go : (xs : List Slot) → Shape true s xs → Shape true (heard s x) xs
    go [] h = tt
    go (x' ∷ xs) h = alone x' xs h

-- the slots held
none_held : (n : ℕ) → cond (nat_lt n 0) 1 0 ≤ 0
none_held n = subst (λ z. cond z 1 0 ≤ 0) (sym (le-ltb n 0 (omega arith))) (omega arith)

held_one : (n : ℕ) (x : Slot) → cond (nat_lt n (length (items_of x))) 1 0 ≤ cost_of x
held_one n (Start to from c size service request) = none_held n
held_one n (DataA to from c []) = none_held n
held_one n (DataA to from c (b ∷ bs)) = small (nat_lt n (length (items_of (DataA to from c (b ∷ bs)))))
  where
    small : (t : Bool) → cond t 1 0 ≤ 1
    small true = omega arith
    small false = omega arith
held_one n (DataB to from c setting) = small (nat_lt n 1)
  where
    small : (t : Bool) → cond t 1 0 ≤ 1
    small true = omega arith
    small false = omega arith
held_one n (Attention to from flag) = none_held n
held_one n (Reject to from reason) = none_held n
held_one n (Stop to from reason) = none_held n

held_more : (n : ℕ) (xs : List Slot) (x : Slot) → held_from n (xs ++ x ∷ []) ≤ held_from n xs + cost_of x
held_more n [] x = omega (arith, held_one n x)
held_more n (y ∷ ys) x = omega (arith, held_more (n - length (items_of y)) ys x)

held_heard : (s : Session) (x : Slot) → held_slots (heard s x) ≤ held_slots s + cost_of x
held_heard s x = go s.closed
  where
    go : (c : Bool) → cond c 0 (held_from s.taken (s.came ++ x ∷ [])) ≤ cond c 0 (held_from s.taken s.came) + cost_of x
    go true = omega arith
    go false = held_more s.taken s.came x

pub heard_accounts : (c : ℕ) (s : Session) (x : Slot) → costs s.came + cost_of x ≤ credits s.out → Accounts c s → Accounts c (heard s x)
heard_accounts c s x h ac =
    let k : costs (s.came ++ x ∷ []) ≡ costs s.came + (cost_of x + 0) = costs-append s.came (x ∷ []) in
    let l : credits (s.came ++ x ∷ []) ≡ credits s.came + (credits_of x + 0) = credits-append s.came (x ∷ []) in
    let i : length (items (s.came ++ x ∷ [])) ≡ length (items s.came) + length (items_of x ++ []) = ap length (items-append s.came (x ∷ [])) ∙ length-append (items s.came) (items_of x ++ []) in
    record {
      spends = omega (arith, ac.spends);
      spent = omega arith;
      gives = omega (arith, ac.gives, held_heard s x);
      framed = ac.framed;
      taken = omega (arith, ac.taken);
    }

-- the end that hears

pub who_some : (e : Sessions) (P : Session → Type 0) → (P blank → ⊥) → EndOk e → (g : ℕ) → P (of_generation e g) → e.serial_of g ≡ 0 → ⊥
who_some e P n ok g h q = n (subst P (ap e.session q ∙ ok.none) h)

pub gen_some : (e : Sessions) → EndOk e → (g : ℕ) → (e.serial_of g ≡ 0 → ⊥) → g ≡ 0 → ⊥
gen_some e ok g n q = n (ap e.serial_of q ∙ ok.serial_zero)

pub record HeardBy (a : Sessions) (b : Sessions) (o : TaggedSlot) (wire : List TaggedSlot) (back : List TaggedSlot) : Type 0 where
  pub hears : hear_slot b o.slot ≡ Some (hear_at b (b.serial_of o.generation) o.slot)
  pub named : (of_generation b o.generation).generation ≡ 0 → ⊥
  pub b_ok : EndOk (hear_at b (b.serial_of o.generation) o.slot)
  pub flow : Flows a (hear_at b (b.serial_of o.generation) o.slot) wire
  pub flow_back : Flows (hear_at b (b.serial_of o.generation) o.slot) a back

-- what hearing at a session keeps, once it is known that this session hears it
pub heard_kept : (a b : Sessions) (o : TaggedSlot) (wire back : List TaggedSlot) → EndOk b → Flows a b (o ∷ wire) → Flows b a back → (b.serial_of o.generation ≡ 0 → ⊥) → (free (heard (of_generation b o.generation) o.slot) ≡ false → free (of_generation b o.generation) ≡ false) → SessionOk b.master (heard (of_generation b o.generation) o.slot) → Accounts b.ceiling (heard (of_generation b o.generation) o.slot) → hear_slot b o.slot ≡ Some (hear_at b (b.serial_of o.generation) o.slot) → HeardBy a b o wire back
heard_kept a b o wire back ok f r n fr so ac h =
    let s : Session = heard (of_generation b o.generation) o.slot in
    record {
      hears = h;
      named = λ q. gen_some b ok o.generation n (sym (ok.generation_found o.generation n) ∙ q);
      b_ok = end_placed b (b.serial_of o.generation) s b.served ok n (ok.serial_made o.generation) (record { id = refl; generation = refl; free = fr }) so ac;
      flow = flows_heard a b (b.serial_of o.generation) o s b.served wire ok n (gen_some b ok o.generation n) (ok.generation_found o.generation n) refl f;
      flow_back = flows_same b a (place b (b.serial_of o.generation) s b.served) a back (λ g. upd_field (λ (z : Session). z.out) b.session (b.serial_of o.generation) s refl (b.serial_of g)) (λ g. refl) r;
    }

-- a slot behind a start comes to a session that has heard something
pub behind_heard : (a b : Sessions) (o : TaggedSlot) (wire back : List TaggedSlot) → EndOk a → EndOk b → a.ceiling ≤ 255 → Flows a b (o ∷ wire) → Flows b a back → ((of_generation b o.generation).came ≡ [] → ⊥) → HeardBy a b o wire back
behind_heard a b o wire back aok bok c f r n =
    let sa : Session = of_generation a o.generation in
    let sb : Session = of_generation b o.generation in
    let ea : sa.out ≡ sb.came ++ o.slot ∷ slots_of o.generation wire = f.at_generation o.generation ∙ ap (λ z. sb.came ++ cond z (o.slot ∷ slots_of o.generation wire) (slots_of o.generation wire)) (eq-eqb o.generation o.generation refl) in
    let eb : sb.out ≡ sa.came ++ slots_of o.generation back = r.at_generation o.generation in
    let v : Arrives sa sb o.slot = arrives a.master b.master sa sb o.slot (slots_of o.generation wire) (slots_of o.generation back) (aok.each (a.serial_of o.generation)) (bok.each (b.serial_of o.generation)) n ea eb in
    let fit : behind_fits sb o.slot ≡ true = fits sa sb o.slot (slots_of o.generation wire) (slots_of o.generation back) a.ceiling b.ceiling c (aok.accounts (a.serial_of o.generation)) (bok.accounts (b.serial_of o.generation)) ea eb v in
    let w : b.serial_of o.generation ≡ 0 → ⊥ = who_some b (λ z. z.came ≡ [] → ⊥) (λ h. h refl) bok o.generation n in
    let at : b.at_id (destination o.slot) ≡ b.serial_of o.generation = ap b.at_id v.behind.destination ∙ bok.holds (b.serial_of o.generation) v.free_b in
    heard_kept a b o wire back bok f r w (λ z. v.free_b) (heard_more_ok b.master sb o.slot n (bok.each (b.serial_of o.generation)))
    (heard_accounts b.ceiling sb o.slot (spends_fit sa sb o.slot (slots_of o.generation wire) (slots_of o.generation back) a.ceiling (aok.accounts (a.serial_of o.generation)) ea eb) (bok.accounts (b.serial_of o.generation)))
    (hears_at b o.slot (b.serial_of o.generation) v.behind.kind at fit)
