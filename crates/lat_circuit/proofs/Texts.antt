-- The payloads of the messages that are kept.
use Rattle.std.proofs.Common.{◌≡◌, ℕ, zero, suc, ◌+◌, ◌-◌, ◌≤◌, false, List, [], ◌∷◌, map, ◌++◌, length, drop, slice_get, Some, refl, sym, ap, subst, ◌∙◌, arith}
use Rattle.circular_buffer.specs.Buffer.{keep_last}
use Rattle.lat_model.specs.numbers.Link.{frames_from}
use Rattle.lat_model.specs.sessions.Slots.{Slot}
use Rattle.lat_seq.specs.declared.span.Span.{Span}
use Rattle.lat_seq.specs.Spans.{field}
use Rattle.lat_circuit.specs.declared.ids.Ids.{Ids}
use Rattle.lat_circuit.specs.Payloads.{run_payload, acknowledged}
use Rattle.lat_circuit.specs.Links.{IsText, AreTexts}
use Rattle.lat_circuit.proofs.Runs.{run_acknowledged}

-- so many of the last are all
pub keep_all : {X : Type 0} (n : ℕ) (xs : List X) → length xs ≤ n → keep_last n xs ≡ xs
keep_all n xs h = ap (λ i. drop i xs) (none n (length xs) h)
  where
    none : (n m : ℕ) → m ≤ n → m - n ≡ 0
    none n m h = omega arith

-- one message more
pub texts_push : (ids : Ids) (span : Span) (k : ℕ) (ms : List (List Slot)) (ts : List (List ℕ)) (m : List Slot) (t : List ℕ) → AreTexts ids span k ms ts → IsText ids span (suc (k + length ms)) m t → AreTexts ids span k (ms ++ m ∷ []) (ts ++ t ∷ [])
texts_push ids span k [] [] m t all one = (subst (λ n. IsText ids span (suc n) m t) (omega arith) one, tt)
texts_push ids span k (x ∷ ms) (s ∷ ts) m t all one =
    (all.0, texts_push ids span (suc k) ms ts m t all.1 (subst (λ n. IsText ids span (suc n) m t) (omega arith) one))
texts_push ids span k [] (s ∷ ts) m t all one = absurd all
texts_push ids span k (x ∷ ms) [] m t all one = absurd all

-- the first n less
pub texts_drop : (ids : Ids) (span : Span) (k n : ℕ) (ms : List (List Slot)) (ts : List (List ℕ)) → AreTexts ids span k ms ts → AreTexts ids span (k + n) (drop n ms) (drop n ts)
texts_drop ids span k zero ms ts all = subst (λ i. AreTexts ids span i ms ts) (omega arith) all
texts_drop ids span k (suc n) [] [] all = tt
texts_drop ids span k (suc n) (m ∷ ms) (t ∷ ts) all =
    subst (λ i. AreTexts ids span i (drop n ms) (drop n ts)) (omega arith) (texts_drop ids span (suc k) n ms ts all.1)
texts_drop ids span k (suc n) [] (t ∷ ts) all = absurd all
texts_drop ids span k (suc n) (m ∷ ms) [] all = absurd all

pub texts_length : (ids : Ids) (span : Span) (k : ℕ) (ms : List (List Slot)) (ts : List (List ℕ)) → AreTexts ids span k ms ts → length ms ≡ length ts
texts_length ids span k [] [] all = refl
texts_length ids span k (m ∷ ms) (t ∷ ts) all = ap suc (texts_length ids span (suc k) ms ts all.1)
texts_length ids span k [] (t ∷ ts) all = absurd all
texts_length ids span k (m ∷ ms) [] all = absurd all

-- one of them, with another acknowledgement, is the frame that goes out again
pub texts_again : (ids : Ids) (span : Span) (k a : ℕ) (ms : List (List Slot)) (ts : List (List ℕ)) (i : ℕ) (t : List ℕ) → AreTexts ids span k ms ts → slice_get ts i ≡ Some t → slice_get (map (run_payload ids span false) (frames_from k a ms)) i ≡ Some (acknowledged span t (field span a))
texts_again ids span k a [] [] i t all at = absurd (cc)
texts_again ids span k a (m ∷ ms) (s ∷ ts) zero t all at =
    ap Some (sym (run_acknowledged ids span false (suc k) all.0.acknowledgement a (Some m)) ∙ ap (λ x. acknowledged span x (field span a)) (sym all.0.is ∙ same s t at))
  where
    same : (s t : List ℕ) → Some s ≡ Some t → s ≡ t
    same s t e = cc
texts_again ids span k a (m ∷ ms) (s ∷ ts) (suc i) t all at = texts_again ids span (suc k) a ms ts i t all.1 at
texts_again ids span k a [] (t' ∷ ts) i t all at = absurd all
texts_again ids span k a (m ∷ ms) [] i t all at = absurd all
