-- Runs and keys.
use Rattle.std.proofs.Common.{◌≡◌, ◌≢◌, ℕ, zero, suc, ◌+◌, ◌<◌, refl, sym, ap, ◌∙◌, subst, Bool, true, false, not, cond, ◌||◌, List, [], ◌∷◌, length, get_or, take, drop, arith, nat_eq, true≢false}
use Rattle.std.specs.List.{position_or_len}
use Rattle.std.proofs.lemmas.Bool.Decides.{nat_tests}
use Rattle.std.proofs.lemmas.List.Sums.{prefix_len-le-length}
use Rattle.lat_switch.specs.declared.piece.Piece.{Piece}
use Rattle.lat_switch.specs.declared.piece.Piece.TheVariants as pieces
use Rattle.lat_switch.specs.Pieces.{joined, pieces_of, is_key, run_length, sizes}

sizes_joined : (b : ℕ) (ps : List Piece) → sizes (joined b ps) ≡ 1 + sizes ps
sizes_joined b (pieces.Run bytes ∷ ps) = grind arith
sizes_joined b [] = refl
sizes_joined b (pieces.Next ∷ ps) = refl
sizes_joined b (pieces.Connect ∷ ps) = refl

sizes_of_byte : (b : ℕ) (ps : List Piece) (n : ℕ) (p q : Bool) → sizes ps ≡ n → sizes (cond p (pieces.Next ∷ ps) (cond q (pieces.Connect ∷ ps) (joined b ps))) ≡ suc n
sizes_of_byte b ps n true q h = omega arith
sizes_of_byte b ps n false true h = omega arith
sizes_of_byte b ps n false false h = omega (arith, sizes_joined b ps)

-- no byte is lost
pub sizes_of : (bs : List ℕ) → sizes (pieces_of bs) ≡ length bs
sizes_of [] = refl
sizes_of (b ∷ bs) = sizes_of_byte b (pieces_of bs) (length bs) (nat_eq b 0x1d) (nat_eq b 0x1c) (sizes_of bs)

neither : (p q : Bool) → (p || q) ≡ false → (p ≡ false) × (q ≡ false)
neither false q h = (refl, h)
neither true q h = absurd (true≢false h)

-- a byte that isn't a key begins a run
at_byte : (b : ℕ) (bs : List ℕ) → is_key b ≡ false → pieces_of (b ∷ bs) ≡ joined b (pieces_of bs)
at_byte b bs h = let n = neither (nat_eq b 0x1d) (nat_eq b 0x1c) h in rw (n.0, n.1) refl

-- a run of one byte
one_byte : (b : ℕ) (bs : List ℕ) → position_or_len is_key bs ≡ 0 → joined b (pieces_of bs) ≡ pieces.Run (b ∷ []) ∷ pieces_of bs
one_byte b [] h = refl
one_byte b (c ∷ bs) h = by (nat_eq c 0x1d) (nat_eq c 0x1c) h
  where
    by : (p q : Bool) → cond (not (p || q)) (1 + position_or_len is_key bs) 0 ≡ 0
        → joined b (cond p (pieces.Next ∷ pieces_of bs) (cond q (pieces.Connect ∷ pieces_of bs) (joined c (pieces_of bs))))
        ≡ pieces.Run (b ∷ []) ∷ cond p (pieces.Next ∷ pieces_of bs) (cond q (pieces.Connect ∷ pieces_of bs) (joined c (pieces_of bs)))
    by true q h = refl
    by false true h = refl
    by false false h = absurd (omega arith)

-- the bytes up to the first key are the first piece, where the first isn't a key

pub first_run : (bs : List ℕ) (n : ℕ) → n ≡ position_or_len is_key bs → 0 < n → pieces_of bs ≡ pieces.Run (take n bs) ∷ pieces_of (drop n bs)
first_run [] n e l = absurd (omega arith)
first_run (b ∷ bs) n e l = first_of b bs n (λ m h k. first_run bs m h k) (is_key b) refl e l
  where
    further : (b : ℕ) (bs : List ℕ) (m : ℕ) → ((k : ℕ) → k ≡ position_or_len is_key bs → 0 < k → pieces_of bs ≡ pieces.Run (take k bs) ∷ pieces_of (drop k bs)) → m ≡ position_or_len is_key bs → joined b (pieces_of bs) ≡ pieces.Run (b ∷ take m bs) ∷ pieces_of (drop m bs)
    further b bs zero ih h = one_byte b bs (sym h)
    further b bs (suc m) ih h = ap (joined b) (ih (suc m) h (omega arith))

    first_of : (b : ℕ) (bs : List ℕ) (n : ℕ) → ((k : ℕ) → k ≡ position_or_len is_key bs → 0 < k → pieces_of bs ≡ pieces.Run (take k bs) ∷ pieces_of (drop k bs)) → (k : Bool) → is_key b ≡ k → n ≡ position_or_len is_key (b ∷ bs) → 0 < n → pieces_of (b ∷ bs) ≡ pieces.Run (take n (b ∷ bs)) ∷ pieces_of (drop n (b ∷ bs))
    first_of b bs n ih true h e l = let z : n ≡ 0 = e ∙ ap (λ k. cond (not k) (1 + position_or_len is_key bs) 0) h in absurd (omega arith)
    first_of b bs n ih false h e l =
        let s : n ≡ 1 + position_or_len is_key bs = e ∙ ap (λ k. cond (not k) (1 + position_or_len is_key bs) 0) h in
        let t : n ≡ suc (position_or_len is_key bs) = omega arith in
        subst (λ k. pieces_of (b ∷ bs) ≡ pieces.Run (take k (b ∷ bs)) ∷ pieces_of (drop k (b ∷ bs))) (sym t) (at_byte b bs h ∙ further b bs (position_or_len is_key bs) ih refl)

pub run_is : (bs : List ℕ) → run_length bs ≡ position_or_len is_key bs
run_is bs = grind (arith, nat_tests, prefix_len-le-length (λ x. not (is_key x)) bs)

pub some_run : (bs : List ℕ) → 0 < length bs → get_or bs 0 0 ≢ 0x1d → get_or bs 0 0 ≢ 0x1c → 0 < position_or_len is_key bs
some_run [] l a b = absurd (omega arith)
some_run (x ∷ xs) l a b = grind (arith, nat_tests)
