-- Keys that are one.
use Rattle.std.proofs.Common.{◌≡◌, refl, ◌∙◌, true, nat_eq, rules}
use Rattle.std.specs.Cmp.{IsEquivalence}
use Rattle.std.specs.Cmp.Rules.{comparing}
use Rattle.std.specs.Cmp.Lexicographic.{pointwise}
use Rattle.std.specs.Ordering.{on, eq_of_both}
use Rattle.lat_machines.specs.values.Names.{Name, folded, same}
use Rattle.lat_machines.specs.values.Keys.{Key, same_key}
use Rattle.lat_queue.specs.KeyHash.{one_key}
use Rattle.lat_queue.specs.Histories.{key_shown}
use Rattle.lat_queue.specs.declared.key.Key as own

one_is : (a b : own.Key) → one_key a b ≡ same_key (key_shown a) (key_shown b)
one_is a b = refl

keys_equiv : IsEquivalence (eq_of_both (on (λ (k : Key). folded k.node) (pointwise nat_eq)) (eq_of_both (on (λ (k : Key). k.incarnation) nat_eq) (on (λ (k : Key). k.request) nat_eq)))
keys_equiv = search (comparing, rules)

names_equiv : IsEquivalence (on folded (pointwise nat_eq))
names_equiv = search (comparing, rules)

pub key_self : (a : Key) → same_key a a ≡ true
key_self a = keys_equiv.refl a

pub key_turn : (a b : Key) → same_key a b ≡ same_key b a
key_turn a b = keys_equiv.symm a b

pub key_left : (a b c : Key) → same_key a b ≡ true → same_key a c ≡ same_key b c
key_left a b c q = keys_equiv.congr a b c q

pub key_right : (a b c : Key) → same_key b c ≡ true → same_key a b ≡ same_key a c
key_right a b c q = key_turn a b ∙ key_left b c a q ∙ key_turn c a

pub name_turn : (a b : Name) → same a b ≡ same b a
name_turn a b = names_equiv.symm a b

pub name_left : (a b c : Name) → same a b ≡ true → same a c ≡ same b c
name_left a b c q = names_equiv.congr a b c q
