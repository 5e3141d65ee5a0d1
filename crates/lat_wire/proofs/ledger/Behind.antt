-- What is counted behind the frames of an event.
use Rattle.std.proofs.Common.{◌≡◌, ℕ, ◌+◌, ◌∙◌, refl, arith, Bool, true, false, cond, ◌&&◌, ◌||◌, List, [], ◌∷◌, nat_eq}
use Rattle.lat_machines.specs.values.Frames.{OutFrame}
use Rattle.lat_machines.specs.world.Tally.{new_messages, new_of, is_run, sends_run}
use Rattle.lat_wire.specs.declared.ledger.tallies.Tally.{Tally}
use Rattle.lat_wire.specs.ledger.Books.{Counts, behind, behind_all, HaveCounts}

pub behind_formed : (fs : List OutFrame) (n : Counts) (x : ℕ) → (behind_all fs n).formed x ≡ n.formed x + new_of x fs
behind_formed [] n x = omega arith
behind_formed (f ∷ fs) n x = let h : (behind_all fs (behind f n)).formed x ≡ (n.formed x + cond (nat_eq f.circuit x) (new_messages f.mark) 0) + new_of x fs = behind_formed fs (behind f n) x in omega (arith, h)

pub behind_taken : (fs : List OutFrame) (n : Counts) (x : ℕ) → (behind_all fs n).taken x ≡ n.taken x
behind_taken [] n x = refl
behind_taken (f ∷ fs) n x = behind_taken fs (behind f n) x

pub behind_shown : (fs : List OutFrame) (n : Counts) (x : ℕ) → (behind_all fs n).shown x ≡ cond (sends_run x fs) (n.taken x) (n.shown x)
behind_shown [] n x = refl
behind_shown (f ∷ fs) n x = behind_shown fs (behind f n) x ∙ go (is_run f.mark && nat_eq f.circuit x) (sends_run x fs)
  where
    go : (a b : Bool) → cond b (n.taken x) (cond a (n.taken x) (n.shown x)) ≡ cond (a || b) (n.taken x) (n.shown x)
    go true true = refl
    go true false = refl
    go false true = refl
    go false false = refl

pub tells_same : (ts : List Tally) (n m : Counts) → ((x : ℕ) → n.formed x ≡ m.formed x) → ((x : ℕ) → n.taken x ≡ m.taken x) → ((x : ℕ) → n.shown x ≡ m.shown x) → HaveCounts ts n → HaveCounts ts m
tells_same ts n m f t s h x l =
    let a = f x in
    let b = t x in
    let c = s x in
    h x l ∙ (λ i. record { formed = a i; taken = b i; shown = c i })
