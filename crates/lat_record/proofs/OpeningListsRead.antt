-- The offers of a server, and the services and rates of a node, are read as they were written.
use Rattle.std.proofs.Common.{◌≡◌, ◌≢◌, ℕ, ◌+◌, ◌<◌, ◌≤◌, ◌^◌, Bool, true, false, nat_eq, List, [], ◌∷◌, ◌++◌, map, length, refl, sym, ap, subst, ◌∙◌, append_assoc, arith}
use Rattle.std.specs.Prelude.{Some, None, Ok, bytes_eq, codes, decimal, nat_lt}
use Rattle.std.specs.List.{list_any, flat_map}
use Rattle.std.proofs.lemmas.Bool.{ne_eqb}
use Rattle.std.proofs.lemmas.Bool.Decides.{nat_tests}
use Rattle.std.proofs.lemmas.List.{length-append}
use Rattle.lat_base.specs.Names.{IsName}
use Rattle.lat_lines.specs.Kept.{Apart, IsLine}
use Rattle.lat_model.specs.Lists.{Each}
use Rattle.lat_server.specs.Config.{AreOffers}
use Rattle.lat_server.specs.declared.config.Offer.{Offer}
use Rattle.lat_text.specs.Lines.{line_feed}
use Rattle.lat_text.specs.NameText.{name_text}
use Rattle.lat_text.specs.NameWritten.{name_of}
use Rattle.lat_text.specs.Numbers.{number_within}
use Rattle.lat_text.specs.Words.{space, first_word, behind_word}
use Rattle.lat_schedule.specs.Places.{Place, many, adds}
use Rattle.lat_schedule.specs.SetupLines.{offer_of}
use Rattle.lat_schedule.proofs.Words.{IsWord, IsOneLine, visible, word_in_line, spaced, word_first}
use Rattle.lat_schedule.proofs.FieldsRead.{decimal_word, within_read, name_word, named_read}
use Rattle.lat_record.specs.declared.opening.Rate.{Rate}
use Rattle.lat_record.specs.OpeningRead.{service_of, rate_of}
use Rattle.lat_record.specs.OpeningText.{offer_line, service_line, rate_line, rate_words}
use Rattle.lat_record.specs.Openings.{IsRate}
use Rattle.lat_record.specs.RecordRead.{offers_at, services_at, rates_at, one_service, one_rate}
use Rattle.lat_record.proofs.LinesRead.{at, Follow, list_read, list_ends}
use Rattle.lat_record.proofs.OpeningLinesRead as lines
use Rattle.lat_record.proofs.OpeningLinesRead.{behind_known, rate_read}

-- offers

abbrev line_of : Offer → ℕ
line_of o = o.line

abbrev offer_words : Offer → List ℕ
offer_words o = codes "offer" ++ space ∷ (decimal o.line ++ space ∷ name_text o.service)

offer_same : (o : Offer) → offer_line o ≡ offer_words o ++ codes "\n"
offer_same o = go (decimal o.line) (name_text o.service)
  where
    go : (a b : List ℕ) → codes "offer " ++ (a ++ (codes " " ++ (b ++ codes "\n"))) ≡ (codes "offer" ++ space ∷ (a ++ space ∷ b)) ++ codes "\n"
    go a b = simp append_assoc

-- no offer before has the line
free : (x : ℕ) (os : List Offer) → Each (λ y. y ≢ x) (map line_of os) → list_any (λ (o : Offer). nat_eq o.line x) os ≡ false
free x [] e = refl
free x (o ∷ os) e =
    let here : nat_eq o.line x ≡ false = ne_eqb o.line x e.0 in
    rw (here, free x os e.1) refl

offer_chain : (count : ℕ) (before : List Offer) (line text word name service : List ℕ) (place : ℕ) → behind_word (codes "offer") line ≡ Some text →
    first_word text ≡ Some (word, name) → number_within 1 count word ≡ Some place → name_of name ≡ Some service →
    list_any (λ (o : Offer). nat_eq o.line place) before ≡ false → offer_of count before line ≡ Some (record { line = place; service = service })
offer_chain count before line text word name service place behind first number named apart = rw (behind, first, number, named, apart) refl

offer_read : (count : ℕ) (before : List Offer) (o : Offer) → count ≤ 32 → IsLine count o.line → IsName o.service →
    Each (λ y. y ≢ o.line) (map line_of before) → offer_of count before (offer_words o) ≡ Some o
offer_read count before o few is named apart =
    let n : o.line < 2 ^ 64 = omega (arith, is.1, few) in
    offer_chain count before (offer_words o) (decimal o.line ++ space ∷ name_text o.service) (decimal o.line) (name_text o.service) o.service o.line
    (behind_known (codes "offer") (decimal o.line ++ space ∷ name_text o.service) (visible (codes "offer") refl))
    (word_first (decimal o.line) (name_text o.service) (decimal_word o.line n))
    (within_read 1 count o.line is.0 is.1 n)
    (named_read o.service named)
    (free o.line before apart)

offer_one : (count : ℕ) (o : Offer) → count ≤ 32 → IsLine count o.line → IsName o.service → IsOneLine (offer_words o)
offer_one count o few is named =
    spaced (codes "offer") _ (visible (codes "offer") refl)
    (spaced (decimal o.line) (name_text o.service) (decimal_word o.line (omega (arith, is.1, few))) (word_in_line (name_text o.service) (name_word o.service named.each)))

-- those before it stay apart from the others
abbrev Beside : List ℕ → List ℕ → Type 0
Beside before xs = Each (λ x. Each (λ y. y ≢ x) before) xs

beside_push : (before xs : List ℕ) (x : ℕ) → Beside before xs → Each (λ y. y ≢ x) xs → Beside (before ++ x ∷ []) xs
beside_push before [] x b e = tt
beside_push before (y ∷ xs) x b e = (others before b.0, beside_push before xs x b.1 e.1)
  where
    others : (zs : List ℕ) → Each (λ z. z ≢ y) zs → Each (λ z. z ≢ y) (zs ++ x ∷ [])
    others [] h = (λ same. e.0 (sym same), tt)
    others (z ∷ zs) h = (h.0, others zs h.1)

map_push : (before : List Offer) (o : Offer) → map line_of (before ++ o ∷ []) ≡ map line_of before ++ o.line ∷ []
map_push [] o = refl
map_push (p ∷ before) o = ap (λ l. p.line ∷ l) (map_push before o)

offers_follow : (count : ℕ) (before os : List Offer) → count ≤ 32 → Each (λ (o : Offer). IsLine count o.line) os → Each (λ (o : Offer). IsName o.service) os →
    Apart (map line_of os) → Beside (map line_of before) (map line_of os) → Follow (offer_of count) offer_words before os
offers_follow count before [] few are named apart beside = tt
offers_follow count before (o ∷ os) few are named apart beside =
    let next : Beside (map line_of (before ++ o ∷ [])) (map line_of os) =
    subst (λ (b : List ℕ). Beside b (map line_of os)) (sym (map_push before o)) (beside_push (map line_of before) (map line_of os) o.line beside.1 apart.0) in
    (offer_read count before o few are.0 named.0 beside.0, offer_one count o few are.0 named.0, offers_follow count (before ++ o ∷ []) os few are.1 named.1 apart.1 next)

beside_none : (xs : List ℕ) → Beside [] xs
beside_none [] = tt
beside_none (x ∷ xs) = (tt, beside_none xs)

pub offers_read : (count : ℕ) (os : List Offer) (number : ℕ) (rest : List ℕ) → count ≤ 32 → AreOffers count os → Each (λ (o : Offer). IsName o.service) os →
    offers_at count (at number (flat_map offer_line os ++ (codes "go" ++ line_feed ∷ rest))) ≡ (os, at (number + length os) (codes "go" ++ line_feed ∷ rest))
offers_read count os number rest few are named =
    list_read (offer_of count) offer_line offer_words offer_same os [] number (codes "go" ++ line_feed ∷ rest)
    (offers_follow count [] os few are.each named are.apart (beside_none (map line_of os)))
    ∙ list_ends (offer_of count) os (number + length os) (codes "go") rest refl (word_in_line (codes "go") (visible (codes "go") refl))

-- services

abbrev service_words : List ℕ → List ℕ
service_words name = codes "service" ++ space ∷ name_text name

service_same : (name : List ℕ) → service_line name ≡ service_words name ++ codes "\n"
service_same name = go (name_text name)
  where
    go : (a : List ℕ) → codes "service " ++ (a ++ codes "\n") ≡ (codes "service" ++ space ∷ a) ++ codes "\n"
    go a = simp append_assoc

service_chain : (others : ℕ) (line text name : List ℕ) → behind_word (codes "service") line ≡ Some text → name_of text ≡ Some name → nat_lt others 32 ≡ true →
    service_of others line ≡ Some name
service_chain others line text name behind named room = rw (behind, named, room) refl

service_read : (others : ℕ) (name : List ℕ) → others < 32 → IsName name → service_of others (service_words name) ≡ Some name
service_read others name few named =
    let room : nat_lt others 32 ≡ true = grind (arith, nat_tests, few) in
    service_chain others (service_words name) (name_text name) name (behind_known (codes "service") (name_text name) (visible (codes "service") refl)) (named_read name named) room

services_follow : (before names : List (List ℕ)) → length before + length names ≤ 32 → Each IsName names → Follow one_service service_words before names
services_follow before [] few named = tt
services_follow before (name ∷ names) few named =
    let more : length (before ++ name ∷ []) ≡ length before + 1 = length-append before (name ∷ []) in (
      service_read (length before) name (omega (arith, few)) named.0,
      spaced (codes "service") (name_text name) (visible (codes "service") refl) (word_in_line (name_text name) (name_word name named.0.each)),
      services_follow (before ++ name ∷ []) names (omega (arith, few, more)) named.1,
    )

-- rates

abbrev rate_line_words : Rate → List ℕ
rate_line_words rate = codes "rate" ++ space ∷ rate_words rate

rate_same : (rate : Rate) → rate_line rate ≡ rate_line_words rate ++ codes "\n"
rate_same rate = go (rate_words rate)
  where
    go : (a : List ℕ) → codes "rate " ++ (a ++ codes "\n") ≡ (codes "rate" ++ space ∷ a) ++ codes "\n"
    go a = simp append_assoc

rates_follow : (before rates : List Rate) → Each IsRate rates → Follow one_rate rate_line_words before rates
rates_follow before [] are = tt
rates_follow before (rate ∷ rates) are = (rate_read rate are.0, lines.rate_line rate are.0, rates_follow (before ++ rate ∷ []) rates are.1)

pub rates_read : (rates : List Rate) (number : ℕ) (rest : List ℕ) → Each IsRate rates →
    rates_at (at number (flat_map rate_line rates ++ (codes "go" ++ line_feed ∷ rest))) ≡ (rates, at (number + length rates) (codes "go" ++ line_feed ∷ rest))
rates_read rates number rest are =
    list_read one_rate rate_line rate_line_words rate_same rates [] number (codes "go" ++ line_feed ∷ rest) (rates_follow [] rates are)
    ∙ list_ends one_rate rates (number + length rates) (codes "go") rest refl (word_in_line (codes "go") (visible (codes "go") refl))

-- a line with another first word is no service's
no_service : (others : ℕ) (line word text : List ℕ) → first_word line ≡ Some (word, text) → bytes_eq word (codes "service") ≡ false → service_of others line ≡ None
no_service others line word text first other = rw (first, other) refl

-- behind the services stands a rate, or `go`
services_end : (names : List (List ℕ)) (rates : List Rate) (number : ℕ) (rest : List ℕ) → Each IsRate rates →
    many (adds one_service) names (at number (flat_map rate_line rates ++ (codes "go" ++ line_feed ∷ rest)))
    ≡ (names, at number (flat_map rate_line rates ++ (codes "go" ++ line_feed ∷ rest)))
services_end names [] number rest are =
    list_ends one_service names number (codes "go") rest refl (word_in_line (codes "go") (visible (codes "go") refl))
services_end names (rate ∷ rates) number rest are =
    let more : List ℕ = flat_map rate_line rates ++ (codes "go" ++ line_feed ∷ rest) in
    let first : (rate_line rate ++ flat_map rate_line rates) ++ (codes "go" ++ line_feed ∷ rest) ≡ rate_line_words rate ++ line_feed ∷ more =
    append_assoc (rate_line rate) (flat_map rate_line rates) (codes "go" ++ line_feed ∷ rest)
    ∙ ap (λ t. t ++ more) (rate_same rate)
    ∙ append_assoc (rate_line_words rate) (codes "\n") more in
    let other : one_service names (rate_line_words rate) ≡ None = no_service (length names) (rate_line_words rate) (codes "rate") (rate_words rate) (word_first (codes "rate") (rate_words rate) (visible (codes "rate") refl)) refl in
    ap (λ t. many (adds one_service) names (at number t)) first
    ∙ list_ends one_service names number (rate_line_words rate) more other (lines.rate_line rate are.0)
    ∙ ap (λ t. (names, at number t)) (sym first)

pub services_read : (names : List (List ℕ)) (rates : List Rate) (number : ℕ) (rest : List ℕ) → length names ≤ 32 → Each IsName names → Each IsRate rates →
    services_at (at number (flat_map service_line names ++ (flat_map rate_line rates ++ (codes "go" ++ line_feed ∷ rest))))
    ≡ (names, at (number + length names) (flat_map rate_line rates ++ (codes "go" ++ line_feed ∷ rest)))
services_read names rates number rest few named are =
    list_read one_service service_line service_words service_same names [] number (flat_map rate_line rates ++ (codes "go" ++ line_feed ∷ rest))
    (services_follow [] names (omega (arith, few)) named)
    ∙ services_end names rates (number + length names) rest are
