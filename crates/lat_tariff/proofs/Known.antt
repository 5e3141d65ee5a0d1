-- What is known of a value is known of it in a box.
use Rattle.std.proofs.Common.{refl, sym, subst}
use denote.Param.Object.{Made, read_made}
use denote.Param.Table.{Table, Entry}

pub in_box : {G : Type 0 → Type 1} {C : Type 0} (T : Table G C) (at : T.I) (P : (j : Entry G C) → j.0.Denot → Type 0) (i : T.I) (y : (T.entry i).0.Denot) (x : (T.entry at).0.Denot) →
    Made (λ j. (T.entry j).0.coded.code) (T.entry at).0.coded.code at i y x → P (T.entry at) x → P (T.entry i) y
in_box T at P i y x made known = subst {A = Type 0} (λ t. t) (sym (read_made T (T.entry at) at refl (Type 0) P i y x made)) known
