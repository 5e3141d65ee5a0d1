-- The first frame that is still to be delivered.
use Rattle.std.proofs.Common.{◌≡◌, ℕ, zero, suc, ◌+◌, ◌≤◌, sym, ap, ap₂, ◌∙◌, refl, subst, arith, Bool, true, false, not, cond, ◌&&◌, ◌||◌, List, [], ◌∷◌, ◌++◌, length, take, Some, None, slice_get, nat_lt, nat_eq, is_none, inl, inr, length-append, map, slice_set}
use Rattle.std.proofs.Math.Dec.{eqb-suc-zero, eqb-zero-suc, eqb-suc-suc}
use Rattle.std.proofs.lemmas.Bool.{lt-ltb, ltb-true, false≢true}
use Rattle.lat_machines.specs.world.Machines.{Setups, Posted, is_for_other}
use Rattle.lat_laws.specs.rounds.Lossless.{is_in, sent_from}
use Rattle.lat_laws.specs.rounds.Rounds.{undelivered_from}
use Rattle.lat_wire.specs.declared.ledger.posts.Mark.{Mark}
use Rattle.lat_wire.specs.declared.ledger.row.PostRow.{PostRow}
use Rattle.lat_wire.specs.ledger.Ways.{Log, mark_of, is_through, AllThrough, IsNext, marked}
use Rattle.lat_wire.specs.ledger.Logs.{IsMarked, IsLog}
use Rattle.lat_wire.proofs.ledger.Lists.{end_get}

abbrev pub Fits : Setups → List ℕ → ℕ → List Mark → List Posted → Type 0
Fits u done n ms ps = (i : ℕ) (m : Mark) (p : Posted) → slice_get ms i ≡ Some m → slice_get ps i ≡ Some p → (is_for_other u p && not (is_in (i + n) done)) ≡ not (is_through m)

ltb-suc-suc : (a b : ℕ) → nat_lt (suc a) (suc b) ≡ nat_lt a b
ltb-suc-suc a b = go (nat_lt a b) refl (nat_lt (suc a) (suc b)) refl
  where
    go : (x : Bool) → nat_lt a b ≡ x → (y : Bool) → nat_lt (suc a) (suc b) ≡ y → nat_lt (suc a) (suc b) ≡ nat_lt a b
    go true e y d = lt-ltb (suc a) (suc b) (omega (arith, ltb-true a b e)) ∙ sym e
    go false e false d = d ∙ sym e
    go false e true d = absurd (false≢true (sym e ∙ lt-ltb a b (omega (arith, ltb-true (suc a) (suc b) d))))

first : (u : Setups) (done : List ℕ) (n : ℕ) (ps : List Posted) (ms : List Mark) (p : Posted) (m : Mark) → Fits u done n (m ∷ ms) (p ∷ ps) → (is_for_other u p && not (is_in n done)) ≡ not (is_through m)
first u done n ps ms p m f = let e : 0 + n ≡ n = omega arith in subst (λ z. (is_for_other u p && not (is_in z done)) ≡ not (is_through m)) e (f 0 m p refl refl)

pub next_is : (u : Setups) (done : List ℕ) (n : ℕ) (ps : List Posted) (ms : List Mark) (next : ℕ) → length ms ≡ length ps → Fits u done n ms ps → IsNext ms next → undelivered_from u done n ps ≡ cond (nat_lt next (length ps)) (Some (next + n)) None
next_is u done n [] [] zero c f h = refl
next_is u done n [] [] (suc next) c f h = absurd (omega (arith, h.within))
next_is u done n [] (m ∷ ms) next c f h = absurd (omega (arith, c))
next_is u done n (p ∷ ps) [] next c f h = absurd (omega (arith, c))
next_is u done n (p ∷ ps) (m ∷ ms) zero c f h =
    let t : (is_for_other u p && not (is_in n done)) ≡ true = first u done n ps ms p m f ∙ ap not (h.still m refl) in
    let e : nat_lt 0 (length (p ∷ ps)) ≡ true = lt-ltb 0 (length (p ∷ ps)) (omega arith) in
    ap (λ b. cond b (Some n) (undelivered_from u done (suc n) ps)) t ∙ (ap (λ z. Some z) (omega arith) ∙ sym (ap (λ b. cond b (Some (0 + n)) None) e))
next_is u done n (p ∷ ps) (m ∷ ms) (suc next) c f h =
    let t : (is_for_other u p && not (is_in n done)) ≡ false = first u done n ps ms p m f ∙ ap not (h.before 0 m (omega arith) refl) in
    ap (λ b. cond b (Some n) (undelivered_from u done (suc n) ps)) t ∙ (next_is u done (suc n) ps ms next (omega (arith, c)) rest later ∙ (ap (λ z. cond (nat_lt next (length ps)) (Some z) None) (omega arith) ∙ ap (λ b. cond b (Some (suc next + n)) None) (sym (ltb-suc-suc next (length ps)))))
  where
    rest : Fits u done (suc n) ms ps
    rest i x y e g = subst (λ z. (is_for_other u y && not (is_in z done)) ≡ not (is_through x)) (omega arith) (f (suc i) x y e g)

    later : IsNext ms next
    later = record { within = omega (arith, h.within); before = λ i x l e. h.before (suc i) x (omega (arith, l)) e; still = h.still }

through_is : (o d : Bool) (k : ℕ) → (o && not d) ≡ not (d || is_none (cond o (Some k) None))
through_is true true k = refl
through_is true false k = refl
through_is false true k = refl
through_is false false k = refl

-- a mark tells whether its frame is to be delivered
pub log_fits : (u : Setups) (k : Log) (posts : List Posted) (done : List ℕ) → IsLog u k posts done → Fits u done 0 k.marks posts
log_fits u k posts done l i m p e g =
    let h : IsMarked u posts done i m p = l.each i m p e g in
    subst (λ z. (is_for_other u p && not (is_in z done)) ≡ not (is_through m)) (omega arith)
    (through_is (is_for_other u p) (is_in i done) (length (sent_from u p.by_server 0 (take i posts))) ∙ sym (ap₂ (λ d t. not (d || is_none t)) h.delivered h.turn))

pub log_next : (u : Setups) (k : Log) (posts : List Posted) (done : List ℕ) (next : ℕ) → IsLog u k posts done → IsNext k.marks next → undelivered_from u done 0 posts ≡ cond (nat_lt next (length posts)) (Some next) None
log_next u k posts done next l h = next_is u done 0 posts k.marks next l.count (log_fits u k posts done l) h ∙ ap (λ z. cond (nat_lt next (length posts)) (Some z) None) (omega arith)

-- of a list of which one was delivered

abbrev pub marked_if : Bool → Mark → Mark
marked_if b m = cond b (record m { delivered = true }) m

pub record Was (ms : List Mark) (i j : ℕ) (m : Mark) : Type 0 where
  pub before : Mark
  pub there : slice_get ms j ≡ Some before
  pub is : m ≡ marked_if (nat_eq j i) before

the_mark : (x m : Mark) → Some x ≡ Some m → m ≡ x
the_mark x m e = cc

pub marked_get : (ms : List Mark) (i j : ℕ) (m : Mark) → slice_get (marked ms i) j ≡ Some m → Was ms i j m
marked_get [] i j m e = let z : ⊥ = cc in absurd z
marked_get (x ∷ ms) zero zero m e = record { before = x; there = refl; is = the_mark (record x { delivered = true }) m e }
marked_get (x ∷ ms) zero (suc j) m e = record { before = m; there = e; is = ap (λ b. marked_if b m) (sym (eqb-suc-zero j)) }
marked_get (x ∷ ms) (suc i) zero m e = record { before = x; there = refl; is = the_mark x m e ∙ ap (λ b. marked_if b x) (sym (eqb-zero-suc i)) }
marked_get (x ∷ ms) (suc i) (suc j) m e =
    let r : Was ms i j m = marked_get ms i j m e in
    record { before = r.before; there = r.there; is = r.is ∙ ap (λ b. marked_if b r.before) (sym (eqb-suc-suc j i)) }

pub length-marked : (ms : List Mark) (i : ℕ) → length (marked ms i) ≡ length ms
length-marked [] i = refl
length-marked (m ∷ ms) zero = refl
length-marked (m ∷ ms) (suc i) = ap suc (length-marked ms i)

marked_through : (b : Bool) (m : Mark) → is_through m ≡ true → is_through (marked_if b m) ≡ true
marked_through true m h = refl
marked_through false m h = h

pub marked_all : (ms : List Mark) (i next : ℕ) → AllThrough ms next → AllThrough (marked ms i) next
marked_all ms i next h j m l e =
    let w : Was ms i j m = marked_get ms i j m e in
    ap is_through w.is ∙ marked_through (nat_eq j i) w.before (h j w.before l w.there)

-- the frame of a mark is delivered
pub map-set_marked : (xs : List PostRow) (i : ℕ) (x y : PostRow) → slice_get xs i ≡ Some x → mark_of y ≡ record (mark_of x) { delivered = true } → map mark_of (slice_set xs i y) ≡ marked (map mark_of xs) i
map-set_marked [] i x y e h = refl
map-set_marked (z ∷ xs) zero x y e h = let s : z ≡ x = cc in ap (λ a. a ∷ map mark_of xs) (h ∙ ap (λ q. record (mark_of q) { delivered = true }) (sym s))
map-set_marked (z ∷ xs) (suc i) x y e h = ap (λ a. mark_of z ∷ a) (map-set_marked xs i x y e h)

-- one more at the end

end_all : (ms : List Mark) (m : Mark) (next : ℕ) → next ≤ length ms → AllThrough ms next → AllThrough (ms ++ m ∷ []) next
end_all ms m next n h i x l e = elim (end_get ms m i x e) as (λ s. is_through x ≡ true) [
  | inl a ↦ h i x l a.1
  | inr a ↦ absurd (omega (arith, a.0, l, n))
]

pub end_still : (ms : List Mark) (m : Mark) (next : ℕ) → IsNext ms next → (next ≡ length ms → is_through m ≡ false) → IsNext (ms ++ m ∷ []) next
end_still ms m next h t = record {
  within = omega (arith, h.within, length-append ms (m ∷ []));
  before = end_all ms m next h.within h.before;
  still = λ x e. elim (end_get ms m next x e) as (λ s. is_through x ≡ false) [ inl a ↦ h.still x a.1 | inr a ↦ subst (λ z. is_through z ≡ false) a.1 (t a.0) ];
}

pub end_through : (ms : List Mark) (m : Mark) → IsNext ms (length ms) → is_through m ≡ true → IsNext (ms ++ m ∷ []) (length ms + 1)
end_through ms m h t = record {
  within = omega (arith, length-append ms (m ∷ []));
  before = λ i x l e. elim (end_get ms m i x e) as (λ s. is_through x ≡ true) [ inl a ↦ h.before i x a.0 a.1 | inr a ↦ subst (λ z. is_through z ≡ true) a.1 t ];
  still = λ x e. elim (end_get ms m (length ms + 1) x e) as (λ s. is_through x ≡ false) [ inl a ↦ absurd (omega (arith, a.0)) | inr a ↦ absurd (omega (arith, a.0)) ];
}
