-- The test of parameters says what each must be.
use Rattle.std.proofs.Common.{◌≡◌, true, ltb, List, [], ◌∷◌, length, refl, arith}
use Rattle.std.specs.Prelude.{◌↔◌}
use Rattle.std.specs.List.{list_all, AllByRecursion}
use Rattle.std.proofs.lemmas.Bool.Decides.{nat_tests}
use Rattle.lat_fields.specs.declared.params.Param.{Param}
use Rattle.lat_fields.specs.Params.{IsEntry, is_entry}
use Rattle.lat_fields.proofs.Steps.{both}

entry_is : (p : Param) → is_entry p ≡ true → IsEntry p
entry_is p h =
    let t = both (ltb 0 p.code) (ltb (length p.bytes) 256) h in
    let one : ltb 0 p.code ≡ true = t.0 in
    let two : ltb (length p.bytes) 256 ≡ true = t.1 in
    record { code = grind (arith, nat_tests); text = grind (arith, nat_tests) }

entry_passes : (p : Param) → IsEntry p → is_entry p ≡ true
entry_passes p h =
    let one : ltb 0 p.code ≡ true = let c = h.code in grind (arith, nat_tests) in
    let two : ltb (length p.bytes) 256 ≡ true = let t = h.text in grind (arith, nat_tests) in
    rw (one, two) refl

pub entries_are : (ps : List Param) → list_all is_entry ps ≡ true → AllByRecursion IsEntry ps
entries_are [] h = tt
entries_are (p ∷ ps) h = let t = both (is_entry p) (list_all is_entry ps) h in (entry_is p t.0, entries_are ps t.1)

pub entries_all_pass : (ps : List Param) → AllByRecursion IsEntry ps → list_all is_entry ps ≡ true
entries_all_pass [] h = refl
entries_all_pass (p ∷ ps) h = rw (entry_passes p h.0) (entries_all_pass ps h.1)

pub entries_pass : (ps : List Param) → (list_all is_entry ps ≡ true) ↔ AllByRecursion IsEntry ps
entries_pass ps = (entries_are ps, entries_all_pass ps)
