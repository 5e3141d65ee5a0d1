-- Lines that call.
use Rattle.std.proofs.Common.{◌≡◌, ◌≤◌, ◌-◌, ℕ, zero, suc, Bool, true, false, List, refl, sym, ap, subst, ◌∙◌, arith}
use Rattle.std.specs.Prelude.{not, ◌||◌, nat_le}
use Rattle.std.proofs.lemmas.Bool.Decides.{nat_tests}
use Rattle.lat_words.specs.declared.settings.Offer.{Offer}
use Rattle.lat_words.specs.Offers.{is_offering}
use Rattle.lat_words.specs.Seats.{some_call}

either : (a b : Bool) → b ≡ true → (a || b) ≡ true
either true b h = refl
either false b h = h

last_line : (line lines : ℕ) (offers : List Offer) → line ≡ suc lines → is_offering line offers ≡ false → some_call (suc lines) offers ≡ true
last_line line lines offers is none =
    let here : is_offering (suc lines) offers ≡ false = ap (λ n. is_offering n offers) (sym is) ∙ none in
    rw here refl

-- it is the last line, or one below
at_or_below : (below : Bool) (lines line : ℕ) (offers : List Offer) → (line ≤ lines → some_call lines offers ≡ true) → nat_le line lines ≡ below
    → line ≤ suc lines → is_offering line offers ≡ false → some_call (suc lines) offers ≡ true
at_or_below true lines line offers below_calls is within none =
    either (not (is_offering (suc lines) offers)) (some_call lines offers) (below_calls (grind (arith, nat_tests)))
at_or_below false lines line offers below_calls is within none = last_line line lines offers (grind (arith, nat_tests)) none

-- a line without an offer calls
pub line_calls : (lines line : ℕ) (offers : List Offer) → 1 ≤ line → line ≤ lines → is_offering line offers ≡ false → some_call lines offers ≡ true
line_calls zero line offers some within none = absurd (omega (arith, some, within))
line_calls (suc lines) line offers some within none =
    at_or_below (nat_le line lines) lines line offers (λ below. line_calls lines line offers some below none) refl within none

pub no_more : (line next : ℕ) (offers : List Offer) → 1 ≤ line → next ≡ line → some_call (line - 1) offers ≡ false → is_offering line offers ≡ true → some_call next offers ≡ false
no_more zero next offers some is none offering = absurd (omega (arith, some))
no_more (suc line) next offers some is none offering =
    let below : suc line - 1 ≡ line = omega arith in
    let before : some_call line offers ≡ false = subst (λ n. some_call n offers ≡ false) below none in
    ap (λ n. some_call n offers) is ∙ rw (offering, before) refl
