-- The bytes that pieces are made of.
use Rattle.std.proofs.Common.{eqb-true, ◌≡◌, ℕ, ◌<◌, refl, sym, ap, ◌∙◌, Bool, true, false, cond, ◌||◌, List, [], ◌∷◌, ◌++◌, length, arith, nat_eq, append_assoc, true≢false}
use Rattle.lat_model.specs.Lists.{Each}
use Rattle.lat_switch.specs.declared.piece.Piece.{Piece}
use Rattle.lat_switch.specs.declared.piece.Piece.TheVariants as pieces
use Rattle.lat_switch.specs.Pieces.{joined, pieces_of, is_key}

abbrev pub bytes_of : Piece → List ℕ
bytes_of (pieces.Run bytes) = bytes
bytes_of pieces.Next = 0x1d ∷ []
bytes_of pieces.Connect = 0x1c ∷ []

abbrev pub flat : List Piece → List ℕ
flat [] = []
flat (p ∷ ps) = bytes_of p ++ flat ps

-- runs have a byte, no keys, and none follows another; after a run, where b is true
abbrev pub Stand : Bool → List Piece → Type 0
Stand b [] = Unit {0}
Stand b (pieces.Run bytes ∷ ps) = (b ≡ false) × (0 < length bytes) × Each (λ x. is_key x ≡ false) bytes × Stand true ps
Stand b (pieces.Next ∷ ps) = Stand false ps
Stand b (pieces.Connect ∷ ps) = Stand false ps

flat_joined : (b : ℕ) (ps : List Piece) → flat (joined b ps) ≡ b ∷ flat ps
flat_joined b (pieces.Run bytes ∷ ps) = refl
flat_joined b [] = refl
flat_joined b (pieces.Next ∷ ps) = refl
flat_joined b (pieces.Connect ∷ ps) = refl

stand_joined : (b : ℕ) (ps : List Piece) → is_key b ≡ false → Stand false ps → Stand false (joined b ps)
stand_joined b (pieces.Run bytes ∷ ps) k h = (refl, omega arith, (k, h.2), h.3)
stand_joined b [] k h = (refl, omega arith, (k, tt), tt)
stand_joined b (pieces.Next ∷ ps) k h = (refl, omega arith, (k, tt), h)
stand_joined b (pieces.Connect ∷ ps) k h = (refl, omega arith, (k, tt), h)

-- all bytes stand in the pieces

at_byte : (b : ℕ) (ps : List Piece) (bs : List ℕ) (p q : Bool) → nat_eq b 0x1d ≡ p → nat_eq b 0x1c ≡ q → flat ps ≡ bs
    → flat (cond p (pieces.Next ∷ ps) (cond q (pieces.Connect ∷ ps) (joined b ps))) ≡ b ∷ bs
at_byte b ps bs true q i j h = let e : b ≡ 0x1d = eqb-true b 0x1d i in ap (λ x. x ∷ flat ps) (sym e) ∙ ap (λ xs. b ∷ xs) h
at_byte b ps bs false true i j h = let e : b ≡ 0x1c = eqb-true b 0x1c j in ap (λ x. x ∷ flat ps) (sym e) ∙ ap (λ xs. b ∷ xs) h
at_byte b ps bs false false i j h = flat_joined b ps ∙ ap (λ xs. b ∷ xs) h

pub flat_of : (bs : List ℕ) → flat (pieces_of bs) ≡ bs
flat_of [] = refl
flat_of (b ∷ bs) = at_byte b (pieces_of bs) bs (nat_eq b 0x1d) (nat_eq b 0x1c) refl refl (flat_of bs)

stand_byte : (b : ℕ) (ps : List Piece) (p q : Bool) → (p || q) ≡ is_key b → Stand false ps
    → Stand false (cond p (pieces.Next ∷ ps) (cond q (pieces.Connect ∷ ps) (joined b ps)))
stand_byte b ps true q e h = h
stand_byte b ps false true e h = h
stand_byte b ps false false e h = stand_joined b ps (sym e) h

pub stand_of : (bs : List ℕ) → Stand false (pieces_of bs)
stand_of [] = tt
stand_of (b ∷ bs) = stand_byte b (pieces_of bs) (nat_eq b 0x1d) (nat_eq b 0x1c) refl (stand_of bs)

-- and the pieces of their bytes are those

neither : (p q : Bool) → (p || q) ≡ false → (p ≡ false) × (q ≡ false)
neither false q h = (refl, h)
neither true q h = absurd (true≢false h)

plain_byte : (b : ℕ) (bs : List ℕ) → is_key b ≡ false → pieces_of (b ∷ bs) ≡ joined b (pieces_of bs)
plain_byte b bs h = let n = neither (nat_eq b 0x1d) (nat_eq b 0x1c) h in rw (n.0, n.1) refl

joined_alone : (b : ℕ) (ps : List Piece) → Stand true ps → joined b ps ≡ pieces.Run (b ∷ []) ∷ ps
joined_alone b (pieces.Run bytes ∷ ps) h = absurd (true≢false h.0)
joined_alone b [] h = refl
joined_alone b (pieces.Next ∷ ps) h = refl
joined_alone b (pieces.Connect ∷ ps) h = refl

run_flat : (bytes : List ℕ) (ps : List Piece) → 0 < length bytes → Each (λ x. is_key x ≡ false) bytes → Stand true ps → pieces_of (flat ps) ≡ ps
    → pieces_of (bytes ++ flat ps) ≡ pieces.Run bytes ∷ ps
run_flat [] ps some plain h e = absurd (omega arith)
run_flat (b ∷ []) ps some plain h e = plain_byte b (flat ps) plain.0 ∙ ap (joined b) e ∙ joined_alone b ps h
run_flat (b ∷ c ∷ bs) ps some plain h e = plain_byte b (c ∷ bs ++ flat ps) plain.0 ∙ ap (joined b) (run_flat (c ∷ bs) ps (omega arith) plain.1 h e)

pub of_flat : (b : Bool) (ps : List Piece) → Stand b ps → pieces_of (flat ps) ≡ ps
of_flat b [] h = refl
of_flat b (pieces.Run bytes ∷ ps) h = run_flat bytes ps h.1 h.2 h.3 (of_flat true ps h.3)
of_flat b (pieces.Next ∷ ps) h = ap (λ z. pieces.Next ∷ z) (of_flat false ps h)
of_flat b (pieces.Connect ∷ ps) h = ap (λ z. pieces.Connect ∷ z) (of_flat false ps h)

pub flat-append : (ps qs : List Piece) → flat (ps ++ qs) ≡ flat ps ++ flat qs
flat-append [] qs = refl
flat-append (p ∷ ps) qs = ap (λ z. bytes_of p ++ z) (flat-append ps qs) ∙ sym (append_assoc (bytes_of p) (flat ps) (flat qs))

-- a front of them, also with a part of the next run

pub stand_front : (b : Bool) (ps qs : List Piece) → Stand b (ps ++ qs) → Stand b ps
stand_front b [] qs h = tt
stand_front b (pieces.Run bytes ∷ ps) qs h = (h.0, h.1, h.2, stand_front true ps qs h.3)
stand_front b (pieces.Next ∷ ps) qs h = stand_front false ps qs h
stand_front b (pieces.Connect ∷ ps) qs h = stand_front false ps qs h

plain_front : (xs ys : List ℕ) → Each (λ x. is_key x ≡ false) (xs ++ ys) → Each (λ x. is_key x ≡ false) xs
plain_front [] ys h = tt
plain_front (x ∷ xs) ys h = (h.0, plain_front xs ys h.1)

pub stand_part : (b : Bool) (ps : List Piece) (done left : List ℕ) (qs : List Piece) → 0 < length done
    → Stand b (ps ++ pieces.Run (done ++ left) ∷ qs) → Stand b (ps ++ pieces.Run done ∷ [])
stand_part b [] done left qs some h = (h.0, some, plain_front done left h.2, tt)
stand_part b (pieces.Run x ∷ ps) done left qs some h = (h.0, h.1, h.2, stand_part true ps done left qs some h.3)
stand_part b (pieces.Next ∷ ps) done left qs some h = stand_part false ps done left qs some h
stand_part b (pieces.Connect ∷ ps) done left qs some h = stand_part false ps done left qs some h

pub stand_run : (b : Bool) (ps : List Piece) (bytes : List ℕ) (qs : List Piece) → Stand b (ps ++ pieces.Run bytes ∷ qs)
    → (0 < length bytes) × Each (λ x. is_key x ≡ false) bytes
stand_run b [] bytes qs h = (h.1, h.2)
stand_run b (pieces.Run x ∷ ps) bytes qs h = stand_run true ps bytes qs h.3
stand_run b (pieces.Next ∷ ps) bytes qs h = stand_run false ps bytes qs h
stand_run b (pieces.Connect ∷ ps) bytes qs h = stand_run false ps bytes qs h
