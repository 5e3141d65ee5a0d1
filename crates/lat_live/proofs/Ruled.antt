-- The rules of the words' services, and the offers of their lines.
use Rattle.std.proofs.Common.{◌≡◌, ◌≤◌, ◌<◌, ◌≢◌, ℕ, zero, suc, ◌+◌, ◌&&◌, ◌||◌, Bool, true, not, rules, List, [], ◌∷◌, ◌++◌, length, map, take, get_or, refl, sym, ap, ap₂, subst, ◌∙◌, arith}
use Rattle.std.specs.List.{list_all}
use Rattle.lat_model.specs.Lists.{Each}
use Rattle.lat_lines.specs.Kept.{Apart, IsLine}
use Rattle.lat_machines.specs.values.Names as machine
use Rattle.lat_server.specs.Config.{AreOffers, offer_shown}
use Rattle.lat_server.specs.declared.config.Offer as server
use Rattle.lat_tariff.specs.declared.tariff.Rule.{Rule}
use Rattle.lat_tariff.specs.Tariffs as tariffs
use Rattle.lat_words.specs.Offers.{is_offering}
use Rattle.lat_words.specs.Services.{is_named, same}
use Rattle.lat_words.specs.Within as words
use Rattle.lat_words.specs.declared.settings.Offer.{Offer}
use Rattle.lat_words.specs.declared.settings.Service.{Service}
use Rattle.lat_words.specs.declared.settings.Settings.{Settings}
use Rattle.lat_live.specs.Openings.{offer_as, offer_of}
use Rattle.lat_live.specs.Rated.{rule_at, rules_from, tariff_of}
use Rattle.lat_live.specs.declared.rated.RateRule.{RateRule}
use Rattle.lat_live.proofs.Steps.{next}

-- ---- rules

rules_joined : (s : Settings) (place : ℕ) (xs : List Service) (x : Service) → rules_from s place (xs ++ x ∷ []) ≡ rules_from s place xs ++ rule_at s (place + length xs) x ∷ []
rules_joined s place [] x = ap (λ n. rule_at s n x ∷ []) (omega arith)
rules_joined s place (y ∷ xs) x =
    ap (λ l. rule_at s place y ∷ l) (rules_joined s (place + 1) xs x ∙ ap (λ n. rules_from s (place + 1) xs ++ rule_at s n x ∷ []) (omega arith))

length_taken : {A : Type 0} (xs : List A) (k : ℕ) → k ≤ length xs → length (take k xs) ≡ k
length_taken xs zero less = refl
length_taken [] (suc k) less = absurd (omega (arith, less))
length_taken (x ∷ xs) (suc k) less = ap suc (length_taken xs k (omega (arith, less)))

pub one_rule : (s : Settings) (xs : List Service) (k : ℕ) (x : Service) (rules rules' : List (Rule RateRule)) (r : Rule RateRule) → k < length xs → x ≡ get_or xs k x → r ≡ rule_at s k x →
    rules ≡ rules_from s 0 (take k xs) → rules' ≡ rules ++ r ∷ [] → rules' ≡ rules_from s 0 (take (k + 1) xs)
one_rule s xs k x rules rules' r less is rule so_far more =
    let behind : rules_from s 0 (take (k + 1) xs) ≡ rules_from s 0 (take k xs) ++ rule_at s (0 + length (take k xs)) x ∷ [] =
    ap (rules_from s 0) (next xs k x less is) ∙ rules_joined s 0 (take k xs) x in
    more ∙ ap₂ (λ (l : List (Rule RateRule)) (q : Rule RateRule). l ++ q ∷ []) so_far (rule ∙ ap (λ n. rule_at s n x) (omega (arith, length_taken xs k (omega (arith, less))))) ∙ sym behind

pub names_of : (s : Settings) (place : ℕ) (xs : List Service) → tariffs.names (rules_from s place xs) ≡ map (λ (x : Service). x.name) xs
names_of s place [] = refl
names_of s place (x ∷ xs) = ap (λ l. x.name ∷ l) (names_of s (place + 1) xs)

many_rules : (s : Settings) (place : ℕ) (xs : List Service) → length (rules_from s place xs) ≡ length xs
many_rules s place [] = refl
many_rules s place (x ∷ xs) = ap suc (many_rules s (place + 1) xs)

same_names : (a b : List ℕ) → machine.same a b ≡ same a b
same_names a b = refl

named_too : (s : Settings) (place : ℕ) (name : List ℕ) (xs : List Service) → tariffs.is_named name (rules_from s place xs) ≡ is_named name xs
named_too s place name [] = refl
named_too s place name (x ∷ xs) = ap₂ (λ (a b : Bool). a || b) (same_names name x.name) (named_too s (place + 1) name xs)

apart_too : (s : Settings) (place : ℕ) (xs : List Service) → tariffs.are_apart (rules_from s place xs) ≡ words.names_apart xs
apart_too s place [] = refl
apart_too s place (x ∷ xs) = ap₂ (λ (a b : Bool). not a && b) (named_too s (place + 1) x.name xs) (apart_too s (place + 1) xs)

pub is_tariff : (s : Settings) (rules : List (Rule RateRule)) → rules ≡ tariff_of s → words.AreServices s.seats.services.items → 1 ≤ length s.seats.services.items → tariffs.IsTariff rules
is_tariff s rules is services some =
    let xs = s.seats.services.items in
    subst (λ (l : List (Rule RateRule)). tariffs.IsTariff l) (sym is) (record {
      some = omega (arith, many_rules s 0 xs, some);
      few = omega (arith, many_rules s 0 xs, services.few);
      apart = apart_too s 0 xs ∙ services.apart;
    })

-- ---- offers

pub shown_offers : (xs : List Offer) → map offer_shown (map offer_as xs) ≡ map offer_of xs
shown_offers [] = refl
shown_offers (x ∷ xs) = ap (λ l. offer_of x ∷ l) (shown_offers xs)

each_line : (lines : ℕ) (xs : List Offer) → list_all (words.is_line lines) xs ≡ true → Each (λ (o : server.Offer). IsLine lines o.line) (map offer_as xs)
each_line lines [] all = tt
each_line lines (x ∷ xs) all = (search rules, each_line lines xs (search rules))

apart_from : (line : ℕ) (xs : List Offer) → not (is_offering line xs) ≡ true → Each (λ y. y ≢ line) (map (λ (o : server.Offer). o.line) (map offer_as xs))
apart_from line [] other = tt
apart_from line (x ∷ xs) other = (search rules, apart_from line xs (search rules))

lines_apart : (xs : List Offer) → words.lines_apart xs ≡ true → Apart (map (λ (o : server.Offer). o.line) (map offer_as xs))
lines_apart [] apart = tt
lines_apart (x ∷ xs) apart = (apart_from x.line xs (search rules), lines_apart xs (search rules))

pub are_offers : (lines : ℕ) (xs : List Offer) (offers : List server.Offer) → words.AreOffers lines xs → offers ≡ map offer_as xs → AreOffers lines offers
are_offers lines xs offers right is =
    subst (AreOffers lines) (sym is) (record { each = each_line lines xs right.each; apart = lines_apart xs right.apart })
