-- The frames of the machines and those of the world of circuits: a notice has no place there; and what comes in its turn at
-- the machines comes in its turn there.
use Rattle.std.proofs.Common.{◌≡◌, ℕ, zero, suc, ◌+◌, ◌<◌, ◌≤◌, ⊎_elim, sym, ap, ap₂, ◌∙◌, refl, subst, arith, Bool, true, false, not, cond, ◌||◌, List, [], ◌∷◌, Some, None, nat_eq, slice_get}
use Rattle.std.proofs.lemmas.Bool.{cases_lt}
use Rattle.lat_model.specs.ends.End.{Sent, Run, CallStart, ReplyStart, Stopped}
use Rattle.lat_model.specs.circuits.World.{Wired, World}
use Rattle.lat_machines.specs.values.Addresses.{everyone}
use Rattle.lat_machines.specs.values.Notices.{Notice}
use Rattle.lat_machines.specs.values.Frames.{Value, OfCircuit, OfNotice}
use Rattle.lat_machines.specs.cores.Cores.{Side, Core, sent_frame}
use Rattle.lat_machines.specs.world.Machines.{Setups, Posted, Machines, own_of, is_for_other, marked_delivered}
use Rattle.lat_machines.specs.world.Ties.{Shown, Shows}
use Rattle.lat_machines.proofs.events.Tied.{sent_to}
use Rattle.lat_laws.specs.rounds.Lossless.{Lossless, is_in}
use Rattle.lat_laws.specs.rounds.Carried.{IsNext}
use Rattle.lat_laws.proofs.rounds.rounds.Turns.{in_turn}

abbrev pub is_notice_value : Value → Bool
is_notice_value (OfCircuit m) = false
is_notice_value (OfNotice n) = true

abbrev pub is_notice : Posted → Bool
is_notice p = is_notice_value p.frame.value

-- how many of the first n are frames of circuits
abbrev pub place : List Posted → ℕ → ℕ
place [] n = 0
place (p ∷ ps) zero = 0
place (p ∷ ps) (suc n) = cond (is_notice p) 0 1 + place ps n

pub place_rises : (ps : List Posted) (i j : ℕ) → i ≤ j → place ps i ≤ place ps j
place_rises [] i j l = omega arith
place_rises (p ∷ ps) zero j l = omega arith
place_rises (p ∷ ps) (suc i) zero l = absurd (omega (arith, l))
place_rises (p ∷ ps) (suc i) (suc j) l = omega (arith, place_rises ps i j (omega (arith, l)))

circuit_value : (k : Side) (c : Core) (v : Wired) → is_notice_value (sent_frame k c v).value ≡ false
circuit_value k c v = go v.by_server v.circuit v.to v.destination v.source v.sent
  where
    go : (b : Bool) (x to d s : ℕ) (t : Sent) → is_notice_value (sent_frame k c (record { by_server = b; circuit = x; to = to; destination = d; source = s; sent = t })).value ≡ false
    go b x to d s (Run m ask f) = refl
    go b x to d s CallStart = refl
    go b x to d s ReplyStart = refl
    go b x to d s (Stopped r) = refl

pub shown_circuit : (p : Posted) (v : Wired) → Shown p v → is_notice p ≡ false
shown_circuit p v s = ap (λ f. is_notice_value f.value) s.frame ∙ circuit_value s.side s.core v

pub shown_to : (p : Posted) (v : Wired) → Shown p v → p.frame.to ≡ v.to
shown_to p v s = ap (λ f. f.to) s.frame ∙ sent_to s.side s.core v.by_server v.circuit v.to v.destination v.source v.sent

-- the frame of the machines that is a frame of the world
pub record Placed (ps : List Posted) (j : ℕ) (v : Wired) : Type 0 where
  pub index : ℕ
  pub post : Posted
  pub there : slice_get ps index ≡ Some post
  pub shown : Shown post v
  pub at : place ps index ≡ j

pub placed : (ps : List Posted) (ws : List Wired) (j : ℕ) (v : Wired) → Shows ps ws → slice_get ws j ≡ Some v → Placed ps j v
placed [] ws j v s e = let z : ⊥ = (let q : slice_get ws j ≡ None = ap (λ z. slice_get z j) s in cc) in absurd z
placed (p ∷ ps) ws j v s e = ⊎_elim {C = Placed (p ∷ ps) j v} (λ n. later_notice n.0.0 n.0.1 (placed ps ws j v n.1 e)) (λ n. here n.0 n.1 n.2 n.3 j e (λ k q. placed ps n.1 k v n.4 q)) s
  where
    later_notice : (n : Notice) → p.frame.value ≡ OfNotice n → Placed ps j v → Placed (p ∷ ps) j v
    later_notice n h r = record { index = suc r.index; post = r.post; there = r.there; shown = r.shown; at = omega (arith, ap (λ z. cond (is_notice_value z) 0 1 + place ps r.index) h, r.at) }

    here : (x : Wired) (rest : List Wired) → ws ≡ x ∷ rest → Shown p x → (k : ℕ) → slice_get ws k ≡ Some v → ((m : ℕ) → slice_get rest m ≡ Some v → Placed ps m v) → Placed (p ∷ ps) k v
    here x rest w h zero q more = let same : x ≡ v = (let f : slice_get ws 0 ≡ Some x = ap (λ z. slice_get z 0) w in cc) in record { index = 0; post = p; there = refl; shown = subst (Shown p) same h; at = refl }
    here x rest w h (suc k) q more =
        let r : Placed ps k v = more k (sym (ap (λ z. slice_get z (suc k)) w) ∙ q) in
        record { index = suc r.index; post = r.post; there = r.there; shown = r.shown; at = omega (arith, ap (λ z. cond z 0 1 + place ps r.index) (shown_circuit p x h), r.at) }

-- what comes in its turn at the machines does so in the world of circuits
pub next_shown : (u : Setups) (m : Machines) (w : World) (done : List ℕ) (i : ℕ) (p : Posted) (v : Wired) → Shows m.posts w.frames → ((k : ℕ) (q : Posted) → slice_get m.posts k ≡ Some q → is_for_other u q ≡ true → is_notice q ≡ false → is_in k m.delivered ≡ true → is_in (place m.posts k) done ≡ true) → Lossless u (marked_delivered i m) → slice_get m.posts i ≡ Some p → is_for_other u p ≡ true → is_in i m.delivered ≡ false → Shown p v → IsNext w done v (place m.posts i)
next_shown u m w done i p v s known l at other new h j x less there side to = go (placed m.posts w.frames j x s there)
  where
    go : Placed m.posts j x → is_in j done ≡ true
    go r = subst (λ z. is_in z done ≡ true) r.at (known r.index r.post r.there q_other (shown_circuit r.post x r.shown) old)
      where
        q_side : r.post.by_server ≡ p.by_server
        q_side = r.shown.by_server ∙ (side ∙ sym h.by_server)

        q_to : r.post.frame.to ≡ p.frame.to
        q_to = shown_to r.post x r.shown ∙ (to ∙ sym (shown_to p v h))

        q_other : is_for_other u r.post ≡ true
        q_other = ap₂ (λ y b. nat_eq y (own_of u (not b)) || nat_eq y everyone) q_to q_side ∙ other

        before : r.index < i
        before = ⊎_elim {C = r.index < i} (λ z. z) (λ z. absurd (omega (arith, less, r.at, place_rises m.posts i r.index z))) (cases_lt r.index i)

        old : is_in r.index m.delivered ≡ true
        old = in_turn u m i p l at other new r.index r.post before r.there q_side q_other
