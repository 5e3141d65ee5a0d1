-- The payloads of all frames, behind one another.
use Rattle.std.proofs.Common.{◌≡◌, ℕ, zero, suc, ◌+◌, ◌-◌, ◌≤◌, sym, ap, ap₂, ◌∙◌, refl, subst, arith, List, [], ◌∷◌, ◌++◌, length, length-append, take, drop, slice_get, slice_set, Some}
use Rattle.std.specs.Prelude.{slice_range, Option}
use Rattle.std.proofs.lemmas.List.{drop-append-le, take-append-le, length-drop, map-append}
use Rattle.std.proofs.Math.Seq.{drop-append_seam, take-length}
use Rattle.lat_wire.specs.declared.ledger.post.Post.{Post}
use Rattle.lat_wire.specs.declared.ledger.row.PostRow.{PostRow}
use Rattle.lat_wire.specs.ledger.Posts.{AreWithin, PostView, post_in, post_shown, posts_in, row_of}

-- what stands in front stays as it is
range_front : {X : Type 0} (xs more : List X) (a n : ℕ) → a + n ≤ length xs → slice_range (xs ++ more) a (a + n) ≡ slice_range xs a (a + n)
range_front xs more a n h =
    ap (take ((a + n) - a)) (drop-append-le a xs more (omega (arith, h)))
    ∙ take-append-le ((a + n) - a) (drop a xs) more (omega (arith, h, length-drop a xs))

-- what was added is the end
range_end : {X : Type 0} (xs ys : List X) → slice_range (xs ++ ys) (length xs) (length xs + length ys) ≡ ys
range_end xs ys =
    let n : (length xs + length ys) - length xs ≡ length ys = omega arith in
    ap₂ take n (drop-append_seam xs ys) ∙ take-length ys

post_more : (bytes more : List ℕ) (r : PostRow) → r.start + r.len ≤ length bytes → post_in (bytes ++ more) r ≡ post_in bytes r
post_more bytes more r h = ap (λ p. let s : PostView = record (post_in bytes r) { frame = record ((post_in bytes r).frame) { payload = p } } in s) (range_front bytes more r.start r.len h)

-- the frames that were kept before stay as they are
pub posts_more : (bytes more : List ℕ) (rows : List PostRow) → AreWithin bytes rows → posts_in (bytes ++ more) rows ≡ posts_in bytes rows
posts_more bytes more [] h = refl
posts_more bytes more (r ∷ rows) h = ap₂ (λ x xs. x ∷ xs) (post_more bytes more r h.0) (posts_more bytes more rows h.1)

-- the new one is the frame that is told
post_last : (bytes : List ℕ) (s : Post) (turn : Option ℕ) → post_in (bytes ++ s.frame.payload.now) (row_of s (length bytes) turn) ≡ post_shown s
post_last bytes s turn = ap (λ p. let x : PostView = record (post_shown s) { frame = record ((post_shown s).frame) { payload = p } } in x) (range_end bytes s.frame.payload.now)

-- one more is kept
pub posts_pushed : (bytes new : List ℕ) (rows others : List PostRow) (s : Post) (turn : Option ℕ) → AreWithin bytes rows → new ≡ bytes ++ s.frame.payload.now → others ≡ rows ++ row_of s (length bytes) turn ∷ [] → posts_in new others ≡ posts_in bytes rows ++ post_shown s ∷ []
posts_pushed bytes new rows others s turn h b r =
    ap₂ posts_in b r
    ∙ (map-append (post_in (bytes ++ s.frame.payload.now)) rows (row_of s (length bytes) turn ∷ [])
    ∙ ap₂ (λ xs x. xs ++ x ∷ []) (posts_more bytes s.frame.payload.now rows h) (post_last bytes s turn))

within_more : (bytes more : List ℕ) (rows : List PostRow) (r : PostRow) → AreWithin bytes rows → r.start + r.len ≤ length (bytes ++ more) → AreWithin (bytes ++ more) (rows ++ r ∷ [])
within_more bytes more [] r h n = (n, tt)
within_more bytes more (x ∷ rows) r h n = (omega (arith, h.0, length-append bytes more), within_more bytes more rows r h.1 n)

pub within_pushed : (bytes new : List ℕ) (rows others : List PostRow) (s : Post) (turn : Option ℕ) → AreWithin bytes rows → new ≡ bytes ++ s.frame.payload.now → others ≡ rows ++ row_of s (length bytes) turn ∷ [] → AreWithin new others
within_pushed bytes new rows others s turn h b r =
    subst (λ z. AreWithin z others) (sym b)
    (subst (AreWithin (bytes ++ s.frame.payload.now)) (sym r)
    (within_more bytes s.frame.payload.now rows (row_of s (length bytes) turn) h (omega (arith, length-append bytes s.frame.payload.now))))

-- one of them
pub within_at : (bytes : List ℕ) (rows : List PostRow) (i : ℕ) (r : PostRow) → AreWithin bytes rows → slice_get rows i ≡ Some r → r.start + r.len ≤ length bytes
within_at bytes [] i r h e = let z : ⊥ = cc in absurd z
within_at bytes (x ∷ rows) zero r h e = let same : x ≡ r = cc in subst (λ (z : PostRow). z.start + z.len ≤ length bytes) same h.0
within_at bytes (x ∷ rows) (suc i) r h e = within_at bytes rows i r h.1 e

-- one of them changes, and its bytes stay
pub within_set : (bytes : List ℕ) (rows : List PostRow) (i : ℕ) (r s : PostRow) → slice_get rows i ≡ Some r → s.start ≡ r.start → s.len ≡ r.len → AreWithin bytes rows → AreWithin bytes (slice_set rows i s)
within_set bytes [] i r s e a b h = tt
within_set bytes (x ∷ rows) zero r s e a b h = let same : x ≡ r = cc in (omega (arith, a, b, ap (λ (z : PostRow). z.start) same, ap (λ (z : PostRow). z.len) same, h.0), h.1)
within_set bytes (x ∷ rows) (suc i) r s e a b h = (h.0, within_set bytes rows i r s e a b h.1)
