-- A session of a master beside that of its generation at the slave, where both ends are joined.
use Rattle.std.proofs.Common.{◌≡◌, ℕ, ◌≤◌, refl, sym, ap, ◌∙◌, subst, arith, Bool, true, false, List, [], ◌∷◌, ◌++◌, take, drop, nat_eq, eqb-true, append_assoc}
use Rattle.std.proofs.lemmas.Bool.{true≢false, false≢true, eqb-false}
use Rattle.std.proofs.lemmas.List.{take-append-drop}
use Rattle.lat_model.specs.Lists.{IsPrefixOf}
use Rattle.lat_model.specs.sessions.Slots.{Slot, Start, DataA, DataB, Attention, Reject, Stop, items, credits, costs}
use Rattle.lat_model.specs.sessions.Session.{Session, blank}
use Rattle.lat_model.specs.sessions.Sessions.{Sessions, of_generation}
use Rattle.lat_model.specs.sessions.Packing.{TaggedSlot}
use Rattle.lat_model.specs.sessions.EndOk.{Shape, Accounts}
use Rattle.lat_model.specs.sessions.Joined.{Joined, slots_of}
use Rattle.lat_model.specs.circuits.InOrder.{Stream}
use Rattle.lat_model.proofs.sessions.Words.{items-append, credits-append}
use Rattle.lat_machines.specs.world.Reports.{direction}
use Rattle.lat_laws.specs.promises.Rows.{TakesInOrder, WithinCredit}

-- both directions of one session
pub record Beside (a : Session) (b : Session) : Type 0 where
  pub up : Stream a b
  pub down : Stream b a
  pub up_credit : costs a.out ≤ credits b.out
  pub down_credit : costs b.out ≤ credits a.out

-- what one formed is what the other heard, and more
stream_of : (a b : Session) (c d : ℕ) (wire : List Slot) → Accounts c a → Accounts d b → a.out ≡ b.came ++ wire → Stream a b
stream_of a b c d wire i o f = record {
  taken = o.taken;
  heard = (items wire, sym (items-append b.came wire) ∙ ap items (sym f));
  framed = i.framed;
}

-- so it was given all that it used
credit_of : (a b : Session) (c : ℕ) (wire : List Slot) → Accounts c a → b.out ≡ a.came ++ wire → costs a.out ≤ credits b.out
credit_of a b c wire i f = let e : credits b.out ≡ credits (a.came ++ wire) = ap credits f in omega (arith, i.spends, e, credits-append a.came wire)

module _ (m s : Sessions) (up down : List TaggedSlot) (j : Joined m s up down) (k : ℕ) where
  abbrev a : Session
  a = m.session k

  abbrev g : ℕ
  g = (m.session k).generation

  abbrev b : Session
  b = of_generation s (m.session k).generation

  -- one that has no generation formed and heard nothing
  named : ((of_generation m g).out ≡ a.out) × ((of_generation m g).came ≡ a.came)
  named = go (nat_eq (m.session k).generation 0) refl
    where
      go : (c : Bool) → nat_eq (m.session k).generation 0 ≡ c → ((of_generation m g).out ≡ a.out) × ((of_generation m g).came ≡ a.came)
      go true q =
          let z : (m.session k).generation ≡ 0 = eqb-true (m.session k).generation 0 q in
          let n : of_generation m g ≡ blank = ap (of_generation m) z ∙ (ap m.session j.master_ok.serial_zero ∙ j.master_ok.none) in
          (ap (λ (x : Session). x.out) n ∙ sym ((j.master_ok.each k).unnamed z), ap (λ (x : Session). x.came) n ∙ sym (j.quiet_up k z))
      go false q =
          let n : of_generation m g ≡ a = ap m.session (j.master_ok.serial_found k (eqb-false (m.session k).generation 0 q)) in
          (ap (λ (x : Session). x.out) n, ap (λ (x : Session). x.came) n)

  flow_up : a.out ≡ b.came ++ slots_of g up
  flow_up = sym named.0 ∙ j.flow_up.at_generation g

  flow_down : b.out ≡ a.came ++ slots_of g down
  flow_down = j.flow_down.at_generation g ∙ ap (λ x. x ++ slots_of g down) named.1

  pub beside : Beside a b
  beside =
      let i : Accounts m.ceiling a = j.master_ok.accounts k in
      let o : Accounts s.ceiling b = j.slave_ok.accounts (s.serial_of g) in
      record {
        up = stream_of a b m.ceiling s.ceiling (slots_of g up) i o flow_up;
        down = stream_of b a s.ceiling m.ceiling (slots_of g down) o i flow_down;
        up_credit = credit_of a b m.ceiling (slots_of g down) i flow_down;
        down_credit = credit_of b a s.ceiling (slots_of g up) o flow_up;
      }

-- prefixes

prefix_then : {X : Type 0} (xs ys zs : List X) → IsPrefixOf xs ys → IsPrefixOf ys zs → IsPrefixOf xs zs
prefix_then xs ys zs p q = (p.0 ++ q.0, sym (append_assoc xs p.0 q.0) ∙ (ap (λ x. x ++ q.0) p.1 ∙ q.1))

pub none_before : {X : Type 0} (xs ys : List X) → xs ++ ys ≡ [] → xs ≡ []
none_before [] ys h = refl
none_before (x ∷ xs) ys h = let z : ⊥ = cc in absurd z

none_taken : {X : Type 0} (n : ℕ) (xs : List X) → xs ≡ [] → take n xs ≡ []
none_taken n xs h = none_before (take n xs) (drop n xs) (take-append-drop n xs ∙ h)

-- the directions of a row

pub takes_in_order : (a b : Session) → Stream a b → TakesInOrder (direction a b)
takes_in_order a b s =
    prefix_then (take b.taken (items b.came)) (items b.came) a.put (drop b.taken (items b.came), take-append-drop b.taken (items b.came))
    (prefix_then (items b.came) (items a.out) a.put s.heard s.framed)

-- a session that wasn't accepted formed a reject at most
silent : (master : Bool) (x : Session) (xs : List Slot) → Shape master x xs → x.accepted ≡ false → (items xs ≡ []) × (credits xs ≡ 0)
silent master x [] h n = (refl, refl)
silent master x (Start to from c size service request ∷ xs) h n = absurd (true≢false (sym (h.start refl).1 ∙ n))
silent master x (DataA to from c bytes ∷ xs) h n = absurd (false≢true (h.reject refl).0)
silent master x (DataB to from c setting ∷ xs) h n = absurd (false≢true (h.reject refl).0)
silent master x (Attention to from flag ∷ xs) h n = absurd (false≢true (h.reject refl).0)
silent master x (Reject to from reason ∷ xs) h n = let z : credits xs ≡ 0 = ap credits (h.reject refl).2 in (ap items (h.reject refl).2, omega (arith, z))
silent master x (Stop to from reason ∷ xs) h n = absurd (false≢true (h.reject refl).0)

-- a session that heard no item and spent no credit
pub record Idle (a : Session) : Type 0 where
  pub heard : items a.came ≡ []
  pub unspent : costs a.out ≡ 0

-- as one whose mate wasn't accepted
pub idle_beside : (master : Bool) (x y : Session) → Shape master y y.out → y.accepted ≡ false → Beside x y → Idle x
idle_beside master x y h n b =
    let q : (items y.out ≡ []) × (credits y.out ≡ 0) = silent master y y.out h n in
    record { heard = none_before (items x.came) b.down.heard.0 (b.down.heard.1 ∙ q.0); unspent = omega (arith, b.up_credit, q.1) }

-- beside the blank session nothing was taken, and the blank one took and spent nothing
pub blank_takes : (x y : Session) → y ≡ blank → TakesInOrder (direction x y)
blank_takes x y q = subst (λ (z : Session). TakesInOrder (direction x z)) (sym q) (x.put, refl)

pub blank_spends : (x y : Session) → y ≡ blank → WithinCredit (direction y x)
blank_spends x y q = subst (λ (z : Session). WithinCredit (direction z x)) (sym q) (omega arith)

pub idle_takes : (x y : Session) → y ≡ blank → Idle x → TakesInOrder (direction y x)
idle_takes x y q i = subst (λ (z : Session). TakesInOrder (direction z x)) (sym q) ([], ap (λ z. z ++ []) (none_taken x.taken (items x.came) i.heard))

pub idle_spends : (x y : Session) → y ≡ blank → Idle x → WithinCredit (direction x y)
idle_spends x y q i = omega (arith, i.unspent)
