-- What a call does where it isn't refused.
use Rattle.std.proofs.Common.{◌≡◌, true, Result, Ok, Err, is_ok, OnOk}
use Rattle.std.proofs.lemmas.Bool.{false≢true}

pub then_ok : {A E P : Type 0} (r : Result A E) → is_ok r ≡ true → OnOk r P → P
then_ok (Ok x) e h = h
then_ok (Err x) e h = absurd (false≢true e)

pub on_ok : {A E P Q : Type 0} (r : Result A E) → OnOk r P → (P → Q) → OnOk r Q
on_ok (Ok x) h f = f h
on_ok (Err x) h f = h
