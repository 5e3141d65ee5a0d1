-- The frames as they are kept: one more, and one that is delivered.
use Rattle.std.proofs.Common.{◌≡◌, ℕ, ◌+◌, ◌<◌, ◌≤◌, inl, inr, sym, ap, ap₂, ◌∙◌, refl, subst, arith, Bool, true, false, cond, List, [], ◌∷◌, ◌++◌, length, get_or, Option, Some, None, slice_get, nat_lt, is_none, map}
use Rattle.std.proofs.lemmas.Bool.{cases_lt, lt-ltb, ltb-true, false≢true}
use Rattle.std.proofs.lemmas.List.{map-append, length-map}
use Rattle.std.proofs.lemmas.Option.{slice_get_past, slice_get-get_or}
use Rattle.lat_machines.specs.world.Machines.{Setups, Posted, is_for_other}
use Rattle.lat_laws.specs.rounds.Rounds.{undelivered_from}
use Rattle.lat_wire.specs.declared.ledger.posts.Mark.{Mark}
use Rattle.lat_wire.specs.declared.ledger.posts.Ways.{Ways}
use Rattle.lat_wire.specs.declared.ledger.row.PostRow.{PostRow}
use Rattle.lat_wire.specs.ledger.Posts.{posts_in}
use Rattle.lat_wire.specs.ledger.Ways.{Log, mark_of, is_through, AllThrough, IsNext, side_of, turned}
use Rattle.lat_wire.specs.ledger.Logs.{IsLog}
use Rattle.lat_wire.proofs.ledger.Lists.{get_map}
use Rattle.lat_wire.proofs.ledger.Nexts.{end_still, end_through, log_next}
use Rattle.lat_wire.proofs.ledger.Pushed.{new_mark, Pushes, pushed}

marks_more : (xs ys : List PostRow) (s : PostRow) → ys ≡ xs ++ s ∷ [] → map mark_of ys ≡ map mark_of xs ++ mark_of s ∷ []
marks_more xs ys s e = ap (map mark_of) e ∙ map-append mark_of xs (s ∷ [])

pub push_still : (xs ys : List PostRow) (s : PostRow) (next : ℕ) → ys ≡ xs ++ s ∷ [] → IsNext (map mark_of xs) next → (next ≡ length xs → is_through (mark_of s) ≡ false) → IsNext (map mark_of ys) next
push_still xs ys s next e h t = subst (λ z. IsNext z next) (sym (marks_more xs ys s e)) (end_still (map mark_of xs) (mark_of s) next h (λ q. t (q ∙ length-map xs mark_of)))

pub push_through : (xs ys : List PostRow) (s : PostRow) (next : ℕ) → ys ≡ xs ++ s ∷ [] → IsNext (map mark_of xs) next → next ≡ length xs → is_through (mark_of s) ≡ true → IsNext (map mark_of ys) (next + 1)
push_through xs ys s next e h n t =
    let m : next ≡ length (map mark_of xs) = n ∙ sym (length-map xs mark_of) in
    subst (λ z. IsNext z (next + 1)) (sym (marks_more xs ys s e))
    (subst (λ z. IsNext (map mark_of xs ++ mark_of s ∷ []) (z + 1)) (sym m)
    (end_through (map mark_of xs) (mark_of s) (subst (IsNext (map mark_of xs)) m h) t))

pub through_of : (fo : Bool) (k : ℕ) (t : Option ℕ) → t ≡ cond fo (Some k) None → (fo ≡ true → is_none t ≡ false) × (fo ≡ false → is_none t ≡ true)
through_of true k t e = (λ h. ap is_none e, λ h. absurd (false≢true (sym h)))
through_of false k t e = (λ h. absurd (false≢true h), λ h. ap is_none e)

-- the log of these frames
abbrev pub log_of : List ℕ → List PostRow → Ways → Log
log_of bytes xs w = record { posts = posts_in bytes xs; marks = map mark_of xs; ways = w }

pub push_log : (u : Setups) (bytes more : List ℕ) (xs ys : List PostRow) (s : PostRow) (w v : Ways) (fo : Bool) (posts : List Posted) (done : List ℕ) (p : Posted) → ys ≡ xs ++ s ∷ [] → s.delivered ≡ false → s.turn ≡ cond fo (Some (side_of w s.by_server).turns) None → v ≡ cond fo (turned s.by_server w) w → IsLog u (log_of bytes xs w) posts done → p.by_server ≡ s.by_server → is_for_other u p ≡ fo → IsLog u (log_of more ys v) (posts ++ p ∷ []) done
push_log u bytes more xs ys s w v fo posts done p e d t h l b f = pushed u (log_of bytes xs w) (log_of more ys v) posts done p moved l
  where
    the_mark : mark_of s ≡ new_mark (log_of bytes xs w) p.by_server (is_for_other u p)
    the_mark =
        let side : s.by_server ≡ p.by_server = sym b in
        let turn : s.turn ≡ cond (is_for_other u p) (Some (side_of w p.by_server).turns) None = t ∙ ap₂ (λ y z. cond y (Some (side_of w z).turns) None) (sym f) (sym b) in
        λ i. record { by_server = side i; turn = turn i; delivered = d i }

    moved : Pushes (log_of bytes xs w) (log_of more ys v) p.by_server (is_for_other u p)
    moved = record {
      marks = marks_more xs ys s e ∙ ap (λ m. map mark_of xs ++ m ∷ []) the_mark;
      ways = h ∙ ap₂ (λ y z. cond y (turned z w) w) (sym f) (sym b);
    }

pub turned_within : (b : Bool) (w : Ways) (n : ℕ) → w.server.turns ≤ n → w.node.turns ≤ n → ((turned b w).server.turns ≤ n + 1) × ((turned b w).node.turns ≤ n + 1)
turned_within true w n s t = (omega (arith, s), omega (arith, t))
turned_within false w n s t = (omega (arith, s), omega (arith, t))

-- one more frame is passed over
pub all_on : (ms : List Mark) (next : ℕ) (x : Mark) → AllThrough ms next → slice_get ms next ≡ Some x → is_through x ≡ true → AllThrough ms (next + 1)
all_on ms next x h e t i m l g = elim (cases_lt i next) as (λ s. is_through m ≡ true) [
  | inl a ↦ h i m a g
  | inr a ↦ (let n : i ≡ next = omega (arith, l, a) in let same : m ≡ x = (let f : slice_get ms next ≡ Some m = subst (λ z. slice_get ms z ≡ Some m) n g in cc) in ap is_through same ∙ t)
]

pub row_on : (rows : List PostRow) (next : ℕ) (d : PostRow) (b : Bool) → next < length rows → AllThrough (map mark_of rows) next → b ≡ is_through (mark_of (get_or rows next d)) → b ≡ true → AllThrough (map mark_of rows) (next + 1)
row_on rows next d b n h e t =
    all_on (map mark_of rows) next (mark_of (get_or rows next d)) h (get_map mark_of rows next (get_or rows next d) (slice_get-get_or rows next d n)) (sym e ∙ t)

pub none_left : (ms : List Mark) (next : ℕ) → next ≤ length ms → length ms ≤ next → AllThrough ms next → IsNext ms next
none_left ms next w l h = record { within = w; before = h; still = λ m e. let z : ⊥ = (let p : slice_get ms next ≡ None = slice_get_past ms next l in cc) in absurd z }

-- what is to be delivered next
pub told_next : (u : Setups) (k : Log) (posts : List Posted) (done : List ℕ) (next n : ℕ) → IsLog u k posts done → IsNext k.marks next → n ≡ length k.marks → next < n → Some next ≡ undelivered_from u done 0 posts
told_next u k posts done next n l h e s = sym (log_next u k posts done next l h ∙ ap (λ b. cond b (Some next) None) (lt-ltb next (length posts) (omega (arith, s, e, l.count))))

pub told_none : (u : Setups) (k : Log) (posts : List Posted) (done : List ℕ) (next n : ℕ) → IsLog u k posts done → IsNext k.marks next → n ≡ length k.marks → n ≤ next → None ≡ undelivered_from u done 0 posts
told_none u k posts done next n l h e s = sym (log_next u k posts done next l h ∙ ap (λ b. cond b (Some next) None) (go (nat_lt next (length posts)) refl))
  where
    go : (b : Bool) → nat_lt next (length posts) ≡ b → nat_lt next (length posts) ≡ false
    go true y = absurd (omega (arith, ltb-true next (length posts) y, s, e, l.count))
    go false y = y
