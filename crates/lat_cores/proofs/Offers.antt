-- Offers of lines that differ.
use Rattle.std.proofs.Common.{◌≡◌, ℕ, ◌≢◌, Bool, true, false, ◌||◌, nat_eq, List, [], ◌∷◌, ◌++◌, map, refl, sym, subst, Result, Ok, Err, OnOk, OnErr}
use Rattle.std.specs.List.{list_any}
use Rattle.std.proofs.lemmas.Bool.{eqb-false, true≢false}
use Rattle.lat_model.specs.Lists.{Each}
use Rattle.lat_lines.specs.Kept.{Apart, IsLine}
use Rattle.lat_server.specs.declared.config.Offer.{Offer}
use Rattle.lat_server.specs.Config.{AreOffers}

abbrev line_of : Offer → ℕ
line_of o = o.line

each_push : {X : Type 0} (P : X → Type 0) (xs : List X) (r : X) → Each P xs → P r → Each P (xs ++ r ∷ [])
each_push P [] r e h = (h, tt)
each_push P (x ∷ xs) r e h = (e.0, each_push P xs r e.1 h)

neither : (a b : Bool) → (a || b) ≡ false → (a ≡ false) × (b ≡ false)
neither false b h = (refl, h)
neither true b h = absurd (true≢false h)

-- one more line that isn't x
others_push : (x : ℕ) (os : List Offer) (o : Offer) → Each (λ y. y ≢ x) (map line_of os) → o.line ≢ x → Each (λ y. y ≢ x) (map line_of (os ++ o ∷ []))
others_push x [] o e d = (d, tt)
others_push x (p ∷ os) o e d = (e.0, others_push x os o e.1 d)

-- one more line that is in no offer
apart_push : (os : List Offer) (o : Offer) → Apart (map line_of os) → list_any (λ (p : Offer). nat_eq p.line o.line) os ≡ false → Apart (map line_of (os ++ o ∷ []))
apart_push [] o a n = (tt, tt)
apart_push (p ∷ os) o a n =
    let h = neither (nat_eq p.line o.line) (list_any (λ (q : Offer). nat_eq q.line o.line) os) n in
    (others_push p.line os o a.0 (λ e. eqb-false p.line o.line h.0 (sym e)), apart_push os o a.1 h.1)

-- a line that exists and is in no offer may be in one more
offers_push : (lines : ℕ) (os : List Offer) (o : Offer) → AreOffers lines os → IsLine lines o.line → list_any (λ (p : Offer). nat_eq p.line o.line) os ≡ false → AreOffers lines (os ++ o ∷ [])
offers_push lines os o a l n = record {
  each = each_push (λ (p : Offer). IsLine lines p.line) os o a.each l;
  apart = apart_push os o a.apart n;
}

-- whether the list took it or not
pub either_offers : {A E : Type 0} (r : Result A E) (lines : ℕ) (os more : List Offer) (o : Offer) → OnOk r (more ≡ os ++ o ∷ []) → OnErr r (more ≡ os) → AreOffers lines os → IsLine lines o.line → list_any (λ (p : Offer). nat_eq p.line o.line) os ≡ false → AreOffers lines more
either_offers (Ok v) lines os more o k e a l n = subst (AreOffers lines) (sym k) (offers_push lines os o a l n)
either_offers (Err v) lines os more o k e a l n = subst (AreOffers lines) (sym e) a
