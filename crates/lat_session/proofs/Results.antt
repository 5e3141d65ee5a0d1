-- What a call's answer says of what it left.
use Rattle.std.proofs.Common.{◌≡◌, ◌∙◌, refl, ap, ℕ, Option, None, subst, Bool, true, false, ◌&&◌, Result, Ok, Err, if◌then◌else◌, OnOk, OnErr, is_ok, is_err}
use Rattle.std.specs.Option.{ok_or}
use Rattle.lat_stream.specs.declared.calls.SessionFault.{SessionFault}
use Rattle.lat_stream.specs.declared.calls.SessionFault.TheVariants.{Full, Closed}
use Rattle.lat_stream.specs.Kept.{Kept}

-- one that was refused isn't good
pub err_not_ok : {A E : Type 0} (r : Result A E) → is_err r ≡ true → is_ok r ≡ false
err_not_ok (Ok x) h = let z : ⊥ = cc in absurd z
err_not_ok (Err x) h = refl

-- one that found nothing was refused so
pub found_none : (o : Option ℕ) (x y : SessionFault) (r : Result ℕ SessionFault) → r ≡ Err x → o ≡ None → Err x ≡ ok_or o y → r ≡ Err y
found_none o x y r p n q = p ∙ q ∙ ap (λ z. ok_or z y) n

-- it left y where it was done, and z where it was refused

pub done_or_closed : (a : Bool) (r : Result (Unit {0}) SessionFault) (x y z : Kept) → r ≡ (if a then Ok tt else Err Closed) → OnOk r (x ≡ y) → OnErr r (x ≡ z)
    → x ≡ (if a then y else z)
done_or_closed true r x y z is ok err = subst (λ o. OnOk o (x ≡ y)) is ok
done_or_closed false r x y z is ok err = subst (λ o. OnErr o (x ≡ z)) is err

pub done_or_refused : (a b : Bool) (r : Result (Unit {0}) SessionFault) (x y z : Kept) → r ≡ (if a then (if b then Ok tt else Err Full) else Err Closed) → OnOk r (x ≡ y) → OnErr r (x ≡ z)
    → x ≡ (if a && b then y else z)
done_or_refused true true r x y z is ok err = subst (λ o. OnOk o (x ≡ y)) is ok
done_or_refused true false r x y z is ok err = subst (λ o. OnErr o (x ≡ z)) is err
done_or_refused false b r x y z is ok err = subst (λ o. OnErr o (x ≡ z)) is err
