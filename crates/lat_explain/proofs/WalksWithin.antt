-- A walk goes no further than its line.
use Rattle.std.proofs.Common.{◌≡◌, ℕ, ◌+◌, ◌-◌, ◌≤◌, Bool, true, false, List, [], ◌∷◌, length, drop, refl, sym, ap, subst, arith, length-append, length-drop}
use Rattle.std.specs.Prelude.{nat_lt}
use Rattle.lat_text.specs.Lines.{Lines, End, Cut, Line}
use Rattle.lat_explain.specs.declared.walk.Way.{Way}
use Rattle.lat_explain.specs.declared.walk.Way.TheVariants.{Open, Over, Stuck}
use Rattle.lat_explain.specs.Forms.{Taken, fits, begun}
use Rattle.lat_explain.specs.Walks.{Walk, walk, meets, ends, stops, again, front_word, way_behind, reads_within}
use Rattle.lat_explain.proofs.FirstWords.{split, front_is}
use Rattle.lat_explain.proofs.FormLaws.{begun_upto}
use Rattle.lat_explain.proofs.Reached.{stops_best, stops_way}
use Rattle.lat_explain.proofs.Tests.{true_lt}

record Inside (most : ℕ) (w : Walk) : Type 0 where
  pub best : w.best ≤ most
  pub way : reads_within most w.way

stops_inside : (most : ℕ) (w : Walk) (at : ℕ) (form : List ℕ) → w.best ≤ most → at ≤ most → Inside most (stops w at form)
stops_inside most w at form best le =
    let is = stops_best w at form in
    record { best = omega (arith, is, best, le); way = subst (reads_within most) (sym (stops_way w at form)) tt }

-- a word ends within its line
word_inside : (line : List ℕ) (at : ℕ) → at ≤ length line → at + length (front_word (drop at line)) ≤ length line
word_inside line at le =
    let s = split (drop at line) in
    let word = ap length (front_is (drop at line) s) in
    let all = ap length s.is in
    omega (arith, le, word, all, length-append s.word s.rest, length-drop at line)

behind_inside : (line : List ℕ) (end : ℕ) → reads_within (length line) (way_behind line end)
behind_inside line end = by (nat_lt end (length line)) refl
  where
    by : (t : Bool) → nat_lt end (length line) ≡ t → reads_within (length line) (way_behind line end)
    by true e = let less = true_lt end (length line) e in rw e (omega (arith, less))
    by false e = rw e tt

meets_inside : (taken : Taken) (line f : List ℕ) (w : Walk) (way : Way) → w.way ≡ way → Inside (length line) w → Inside (length line) (meets taken line f w way)
meets_inside taken line f w (Open at) is inside =
    by (fits taken f (front_word (drop at line))) refl (subst (reads_within (length line)) is inside.way)
  where
    by : (t : Bool) → fits taken f (front_word (drop at line)) ≡ t → at ≤ length line → Inside (length line) (meets taken line f w (Open at))
    by true e le = rw e (record { best = inside.best; way = behind_inside line (at + length (front_word (drop at line))) })
    by false e le =
        let upto = begun_upto taken f (front_word (drop at line)) (length (front_word (drop at line))) 0 in
        let word = word_inside line at le in
        rw e (stops_inside (length line) w (at + begun taken f (front_word (drop at line))) f inside.best (omega (arith, upto, word)))
meets_inside taken line f w Over is inside = stops_inside (length line) w (length line) f inside.best (omega arith)
meets_inside taken line f w Stuck is inside = inside

end_inside : (line : List ℕ) (w : Walk) (way : Way) → w.way ≡ way → Inside (length line) w → Inside (length line) (again (ends line w way))
end_inside line w (Open at) is inside =
    let le : at ≤ length line = subst (reads_within (length line)) is inside.way in
    record { best = (stops_inside (length line) w (at - 1) [] inside.best (omega (arith, le))).best; way = omega arith }
end_inside line w Over is inside = record { best = (stops_inside (length line) w (length line) [] inside.best (omega arith)).best; way = omega arith }
end_inside line w Stuck is inside = record { best = inside.best; way = omega arith }

walk_inside : (taken : Taken) (line : List ℕ) (lines : Lines) (w : Walk) → Inside (length line) w → (walk taken line w lines).best ≤ length line
unfolding walk
walk_inside taken line End w inside = inside.best
walk_inside taken line Cut w inside = inside.best
walk_inside taken line (Line [] more) w inside = walk_inside taken line more (again (ends line w w.way)) (end_inside line w w.way refl inside)
walk_inside taken line (Line (b ∷ f) more) w inside = walk_inside taken line more (meets taken line (b ∷ f) w w.way) (meets_inside taken line (b ∷ f) w w.way refl inside)

-- from its beginning on
pub walk_within : (taken : Taken) (line : List ℕ) (lines : Lines) (w : Walk) → w.best ≡ 0 → w.way ≡ Open 0 → (walk taken line w lines).best ≤ length line
walk_within taken line lines w none way =
    walk_inside taken line lines w (record { best = omega (arith, none); way = subst (reads_within (length line)) (sym way) (omega arith) })
