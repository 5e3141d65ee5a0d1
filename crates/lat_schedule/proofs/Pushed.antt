-- Lists with one more.
use Rattle.std.proofs.Common.{◌≡◌, ℕ, ◌≢◌, Bool, true, false, ◌||◌, nat_eq, List, [], ◌∷◌, ◌++◌, map, refl, sym, ap, ap₂, ◌∙◌}
use Rattle.std.specs.Prelude.{Option, Some, None, option_map}
use Rattle.std.specs.List.{list_any}
use Rattle.std.proofs.lemmas.Bool.{eqb-false, true≢false}
use Rattle.lat_model.specs.Lists.{Each}
use Rattle.lat_lines.specs.Kept.{Apart, IsLine}
use Rattle.lat_server.specs.declared.config.Offer.{Offer}
use Rattle.lat_server.specs.Config.{AreOffers}
use Rattle.lat_base.specs.declared.addr.Addr.{Addr}
use Rattle.lat_schedule.specs.declared.event.WorldEvent.{WorldEvent}
use Rattle.lat_schedule.specs.declared.listed.Listed.{Listed}
use Rattle.lat_schedule.specs.declared.setup_line.Version.{Version}
use Rattle.lat_schedule.specs.EventLines.{event_of}
use Rattle.lat_schedule.specs.Listed.{saturated_number, one_more, goes_on}
use Rattle.lat_schedule.specs.Places.{adds}

abbrev line_of : Offer → ℕ
line_of o = o.line

pub each_push : {X : Type 0} (P : X → Type 0) (xs : List X) (r : X) → Each P xs → P r → Each P (xs ++ r ∷ [])
each_push P [] r e h = (h, tt)
each_push P (x ∷ xs) r e h = (e.0, each_push P xs r e.1 h)

neither : (a b : Bool) → (a || b) ≡ false → (a ≡ false) × (b ≡ false)
neither false b h = (refl, h)
neither true b h = absurd (true≢false h)

-- one more line that isn't x
others_push : (x : ℕ) (os : List Offer) (o : Offer) → Each (λ y. y ≢ x) (map line_of os) → o.line ≢ x → Each (λ y. y ≢ x) (map line_of (os ++ o ∷ []))
others_push x [] o e d = (d, tt)
others_push x (p ∷ os) o e d = (e.0, others_push x os o e.1 d)

-- one more line that is in no offer
apart_push : (os : List Offer) (o : Offer) → Apart (map line_of os) → list_any (λ (p : Offer). nat_eq p.line o.line) os ≡ false → Apart (map line_of (os ++ o ∷ []))
apart_push [] o a n = (tt, tt)
apart_push (p ∷ os) o a n =
    let h = neither (nat_eq p.line o.line) (list_any (λ (q : Offer). nat_eq q.line o.line) os) n in
    (others_push p.line os o a.0 (λ e. eqb-false p.line o.line h.0 (sym e)), apart_push os o a.1 h.1)

-- a line that exists and is in no offer may be in one more
pub offers_push : (lines : ℕ) (os : List Offer) (o : Offer) → AreOffers lines os → IsLine lines o.line → list_any (λ (p : Offer). nat_eq p.line o.line) os ≡ false → AreOffers lines (os ++ o ∷ [])
offers_push lines os o a l n = record {
  each = each_push (λ (p : Offer). IsLine lines p.line) os o a.each l;
  apart = apart_push os o a.apart n;
}

-- a line that says one more, or none

pub adds_one : {A : Type 0} (read : List A → List ℕ → Option A) (before : List A) (number : ℕ) (line : List ℕ) (said : A) (after : List A)
    → Some said ≡ read before line → after ≡ before ++ said ∷ [] → Some after ≡ adds read before number line
adds_one read before number line said after is more = ap Some more ∙ ap (option_map (λ x. before ++ x ∷ [])) is

pub adds_none : {A : Type 0} (read : List A → List ℕ → Option A) (before : List A) (number : ℕ) (line : List ℕ) → None ≡ read before line → None ≡ adds read before number line
adds_none read before number line is = ap (option_map (λ x. before ++ x ∷ [])) is

-- the line of one more event, or of none

pub listed_one : (version : Version) (to : Addr) (before : Listed) (number : ℕ) (line : List ℕ) (event : WorldEvent) (lines : List ℕ) (events : List WorldEvent)
    → Some event ≡ event_of version to line → lines ≡ before.lines ++ saturated_number number ∷ [] → events ≡ before.events ++ event ∷ []
    → Some (let l : Listed = record { lines = lines; events = events } in l) ≡ goes_on version to before number line
listed_one version to before number line event lines events is counted more =
    ap₂ (λ x y. Some (let l : Listed = record { lines = x; events = y } in l)) counted more ∙ ap (option_map (one_more before number)) is

pub listed_none : (version : Version) (to : Addr) (before : Listed) (number : ℕ) (line : List ℕ) → None ≡ event_of version to line → None ≡ goes_on version to before number line
listed_none version to before number line is = ap (option_map (one_more before number)) is
