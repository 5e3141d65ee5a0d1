use Rattle.std.proofs.Common.{◌≡◌, refl, sym, subst, Bool, true, false, cond, ◌&&◌, ◌||◌, nat_eq, nat_lt}
use Rattle.std.specs.Ordering.{MatchOrdering, nat_cmp, is_lt}
use Rattle.std.specs.declared.cmp.Ordering.{Ordering}
use Rattle.std.specs.declared.cmp.Ordering.TheVariants.{Less, Equal, Greater}
use Rattle.std.proofs.lemmas.Cmp.{same_from_slice_cmp_tested}
use Rattle.lat_machines.specs.values.Names.{folded, is_before}
use Rattle.lat_dir.proofs.best.is_before.Goals as goal

-- at two bytes: whether one is the lesser, whether they are equal, and what comes of the bytes behind them
at_bytes : (less same rest : Bool) (o : Ordering) → o ≡ cond less Less (cond same Equal Greater) → MatchOrdering o ((less || (same && rest)) ≡ true) ((less || (same && rest)) ≡ rest) ((less || (same && rest)) ≡ false)
at_bytes true same rest o h = subst (λ o. MatchOrdering o (true ≡ true) (true ≡ rest) (true ≡ false)) (sym h) refl
at_bytes false true rest o h = subst (λ o. MatchOrdering o (rest ≡ true) (rest ≡ rest) (rest ≡ false)) (sym h) refl
at_bytes false false rest o h = subst (λ o. MatchOrdering o (false ≡ true) (false ≡ rest) (false ≡ false)) (sym h) refl

pub returns : goal.returns
returns c =
    let by = same_from_slice_cmp_tested nat_cmp is_lt is_before refl (λ _ _. refl) (λ _ _. refl) (λ x y xs ys o h. at_bytes (nat_lt x y) (nat_eq x y) (is_before xs ys) o h) in
    by (folded c.args.a.now) (folded c.args.b.now) c.lt.result (rw (c.bytes.ensures.value, c.folded.ensures, c.bytes-2.ensures.value, c.folded-2.ensures) at c.lt.ensures)
