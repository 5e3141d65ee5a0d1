-- Which verb a word begins.
use Rattle.std.proofs.Common.{◌≡◌, ℕ, ◌<◌, List, [], ◌∷◌, length, take, refl, arith, sym, ap, subst, ◌∙◌}
use Rattle.std.specs.Prelude.{Bool, true, false, ◌==◌, nat_le, if◌then◌else◌, codes, Option, Some, None, find}
use Rattle.std.specs.List.{list_any}
use Rattle.std.specs.Char.{to_ascii_lowercase}
use Rattle.std.specs.Str.{str_eq_ignore_ascii_case}
use Rattle.std.proofs.lemmas.Bool.{and_parts, eqb-true, false≢true, true≢false}
use Rattle.std.proofs.lemmas.List.Folds.{list_any_at}
use Rattle.lat_local.specs.declared.verb.Verb.{Verb}
use Rattle.lat_local.specs.declared.verb.Verb.TheVariants as verbs
use Rattle.lat_local.specs.Laws.{IsReadAlone}
use Rattle.lat_local.specs.Verbs.{all_verbs, verb_of, verb_word}
use Rattle.lat_local.specs.Words.{begins}

-- a word has the first letter of what begins with it
same_first : (b : ℕ) (bs : List ℕ) (c : ℕ) (cs : List ℕ) (fits : Bool) → nat_le (length (b ∷ bs)) (length (c ∷ cs)) ≡ fits → begins (b ∷ bs) (c ∷ cs) ≡ true →
    to_ascii_lowercase b ≡ to_ascii_lowercase c
same_first b bs c cs true fits h =
    let same : str_eq_ignore_ascii_case (b ∷ bs) (c ∷ take (length bs) cs) ≡ true = rw fits at h in
    eqb-true _ _ (and_parts _ _ same).0
same_first b bs c cs false fits h = let no : false ≡ true = rw fits at h in absurd (false≢true no)

abbrev letter : Verb → ℕ
letter verbs.Connect = 99
letter verbs.Disconnect = 100
letter verbs.Help = 104
letter verbs.Logout = 108
letter verbs.Resume = 114
letter verbs.Show = 115

begun_so : (b : ℕ) (bs : List ℕ) (v : Verb) → begins (b ∷ bs) (verb_word v) ≡ true → to_ascii_lowercase b ≡ letter v
begun_so b bs verbs.Connect h = same_first b bs 99 (codes "onnect") _ refl h
begun_so b bs verbs.Disconnect h = same_first b bs 100 (codes "isconnect") _ refl h
begun_so b bs verbs.Help h = same_first b bs 104 (codes "elp") _ refl h
begun_so b bs verbs.Logout h = same_first b bs 108 (codes "ogout") _ refl h
begun_so b bs verbs.Resume h = same_first b bs 114 (codes "esume") _ refl h
begun_so b bs verbs.Show h = same_first b bs 115 (codes "how") _ refl h

-- no two verbs have one first letter
abbrev with_letter : ℕ → Verb
with_letter n =
    if n == 99 then verbs.Connect
    else (if n == 100 then verbs.Disconnect
    else (if n == 104 then verbs.Help
    else (if n == 108 then verbs.Logout
    else (if n == 114 then verbs.Resume
    else verbs.Show))))

by_letter : (v : Verb) → with_letter (letter v) ≡ v
by_letter verbs.Connect = refl
by_letter verbs.Disconnect = refl
by_letter verbs.Help = refl
by_letter verbs.Logout = refl
by_letter verbs.Resume = refl
by_letter verbs.Show = refl

one_alone : (word : List ℕ) (u v : Verb) → 0 < length word → begins word (verb_word u) ≡ true → begins word (verb_word v) ≡ true → u ≡ v
one_alone [] u v some hu hv = absurd (omega (arith, some))
one_alone (b ∷ bs) u v some hu hv =
    sym (by_letter u) ∙ ap with_letter (sym (begun_so b bs u hu) ∙ begun_so b bs v hv) ∙ by_letter v

-- what a search finds
abbrev or_this : Verb → Option Verb → Verb
or_this v None = v
or_this v (Some u) = u

found_step : (test : Verb → Bool) (x v : Verb) (xs : List Verb) (b : Bool) → test x ≡ b → (find test xs ≡ Some v → test v ≡ true) → find test (x ∷ xs) ≡ Some v → test v ≡ true
found_step test x v xs true e more h =
    let is : Some x ≡ Some v = rw e at h in
    ap test (sym (ap (or_this x) is)) ∙ e
found_step test x v xs false e more h = more (rw e at h)

found_passes : (test : Verb → Bool) (v : Verb) (xs : List Verb) → find test xs ≡ Some v → test v ≡ true
found_passes test v [] h = cc
found_passes test v (x ∷ xs) h = found_step test x v xs (test x) refl (found_passes test v xs) h

find_step : (test : Verb → Bool) (x v : Verb) (xs : List Verb) (b : Bool) → test x ≡ b → ((u : Verb) → test u ≡ true → u ≡ v) → (list_any test xs ≡ true → find test xs ≡ Some v) →
    list_any test (x ∷ xs) ≡ true → find test (x ∷ xs) ≡ Some v
find_step test x v xs true e only more h = rw e (ap (λ u. Some u) (only x e))
find_step test x v xs false e only more h = rw e (more (rw e at h))

find_only : (test : Verb → Bool) (v : Verb) (xs : List Verb) → ((u : Verb) → test u ≡ true → u ≡ v) → list_any test xs ≡ true → find test xs ≡ Some v
find_only test v [] only h = absurd (false≢true h)
find_only test v (x ∷ xs) only h = find_step test x v xs (test x) refl only (find_only test v xs only) h

-- each verb is among all
among : (test : Verb → Bool) (v : Verb) → test v ≡ true → list_any test all_verbs ≡ true
among test verbs.Connect h = list_any_at test all_verbs 0 verbs.Help (omega arith) h
among test verbs.Disconnect h = list_any_at test all_verbs 1 verbs.Help (omega arith) h
among test verbs.Help h = list_any_at test all_verbs 2 verbs.Help (omega arith) h
among test verbs.Logout h = list_any_at test all_verbs 3 verbs.Help (omega arith) h
among test verbs.Resume h = list_any_at test all_verbs 4 verbs.Help (omega arith) h
among test verbs.Show h = list_any_at test all_verbs 5 verbs.Help (omega arith) h

pub read_alone : (word : List ℕ) (v : Verb) → 0 < length word → IsReadAlone word v
read_alone word v some =
    let test = λ (u : Verb). begins word (verb_word u) in
    record {
      whole = λ h. find_only test v all_verbs (λ u hu. one_alone word u v some hu h) (among test v h);
      begun = λ is. found_passes test v all_verbs is;
      alone = λ u is hu. one_alone word u v some hu (found_passes test v all_verbs is);
    }
